-- The tests of an anchor are those of document 01 (01: 'Refusals' 13 to 15, 17, 18, 22).
use Rattle.std.specs.Prelude.{ℕ, ◌≡◌, refl, Bool, true, false, cond}
use Rattle.spec.specs.Chain.{Out, good, then, refuse}
use Rattle.models.specs.Refusal.{refusal_of, unless_failed, failed, or_next}
use Rattle.std.specs.Prelude.{Err, Ok}
use Rattle.models.specs.Refusal.{Check}

-- one test
pub refuse_is : {A : Type 0} (b : Bool) (k : ℕ) (o p : Out A) (c : Check) → o ≡ unless_failed c p → refuse b k o ≡ unless_failed (cond b (failed k) c) p
unfolding refuse unless_failed refusal_of
refuse_is true k o p c h = refl
refuse_is false k o p c h = h

-- the points, then the rest
pub then_is : {A B : Type 0} (c d : Check) (a : A) (o p : Out B) → o ≡ unless_failed d p → then (unless_failed c (good a)) (λ x. o) ≡ unless_failed (or_next c d) p
unfolding or_next unless_failed
then_is (Ok tt) d a o p h = h
then_is (Err r) d a o p h = refl
