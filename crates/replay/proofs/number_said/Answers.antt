use Rattle.std.specs.Prelude.{◌⊎◌}
use Rattle.std.proofs.Common.{ℕ, List, ◌≡◌, ◌<◌, length, get_or, ⊎_elim, arith}
use Rattle.replay.specs.Places.{number_said, Reading, reading_none, reading_low, reading_high, reading_above, reading_more, reading_end}
use Rattle.replay.proofs.number_said.Goals as goal

-- a byte that is no digit
other : (ds : List ℕ) (n i : ℕ) → Reading ds n i → i < length ds → (get_or ds i 0 < 48) ⊎ (57 < get_or ds i 0) → 0 ≡ number_said ds
other ds n i h l = ⊎_elim (λ e. reading_low ds n i h l e) (λ e. reading_high ds n i h l (omega arith) e)

pub loop-d-init : goal.loop-d-init
loop-d-init c = reading_none _

pub returns-then-not-is_ascii_digit : goal.returns-then-not-is_ascii_digit
returns-then-not-is_ascii_digit c = other _ _ _ c.loop-d.invariant c.loop-d-test.true c.if-not-is_ascii_digit.ensures.cases

pub returns-then-n-gt-PLACES_ASKED_MAX : goal.returns-then-n-gt-PLACES_ASKED_MAX
returns-then-n-gt-PLACES_ASKED_MAX c =
    let d = c.if-not-is_ascii_digit.ensures.cases in
    reading_above _ _ _ c.loop-d.invariant c.loop-d-test.true d.0 d.1 c.if-n-gt-PLACES_ASKED_MAX.true

pub loop-d-preserved : goal.loop-d-preserved
loop-d-preserved c =
    let d = c.if-not-is_ascii_digit.ensures.cases in
    reading_more _ _ _ c.loop-d.invariant c.loop-d-test.true d.0 d.1 c.if-n-gt-PLACES_ASKED_MAX.false

pub returns : goal.returns
returns c = reading_end _ _ _ c.loop-d.invariant c.loop-d-test.false
