-- A round is added (01: back.rs, 'Refusals' 3 and 4).
use Rattle.std.specs.Prelude.{ℕ, suc, ◌+◌, ◌-◌, ◌<◌, ◌≤◌, ◌≡◌, List, Bool, not, ◌||◌, cond, leb, length}
use Rattle.std.proofs.Math.Path.{refl}
use Rattle.std.proofs.Common.{sym, ◌∙◌, arith}
use Rattle.std.proofs.Math.Bool.{true, false}
use Rattle.std.proofs.Math.Numerals.{add-one}
use Rattle.std.proofs.Math.Dec.{ltb}
use borrow.Author.Tests.{le-leb, lt-leb, le-ltb, lt-ltb}
use Rattle.laws.specs.Test.{le_or, or_l, or_r, and_l}
use Rattle.spec.specs.Store.{Store}
use Rattle.spec.specs.Rules.{last_round, counts_as_started}
use Rattle.spec.specs.Chain.{refuse, good}
use Rattle.spec.specs.Calls.{round, perform, is_start, buffer_of, add_round, do_round}
use Rattle.commit_state.specs.declared.state.State.{State}
use Rattle.commit_state.specs.View.{progress_of, conf_of}
use Rattle.commit_state.specs.Back.{extended_state}
use Rattle.commit_state.specs.Numbers.{rounds_hold}
use Rattle.commit_state.specs.Reads.{extended_rounds}
use Rattle.tables_test.specs.View.{view, regular}
use Rattle.tables_test.specs.Model.{range_says, passed}
use Rattle.tables_test.specs.Refines.{rounds_of_lem}
use Rattle.models.specs.Refusal.{unless_failed, refusal_of, failed, not_failed}
use Rattle.commit_answer.specs.Answer.{Tables, tables, view_of, Left, Did, unless_refused, done_with, tested, tested-yes, call-tested, did_done}
use Rattle.models.specs.Refusal.{Check, no_refusal}

-- 3, 4 or none, with the rounds from b to t retained
unfoldable pub round_check : ℕ → ℕ → ℕ → Check
round_check b t r = cond (ltb (suc t) r || ltb last_round r) (failed 3) (cond (leb r t) no_refusal (cond (leb 512 (suc t - b)) (failed 4) no_refusal))

-- one law for each way out
module _ (b t r : ℕ) where
  pub round-beyond : t + 1 < r → failed 3 ≡ round_check b t r
  unfolding round_check
  round-beyond l = rw (or_l (ltb (suc t) r) (ltb last_round r) (lt-ltb (suc t) r (omega arith))) refl

  pub round_last : last_round < r → failed 3 ≡ round_check b t r
  unfolding round_check
  round_last l = rw (or_r (ltb (suc t) r) (ltb last_round r) (lt-ltb _ _ l)) refl

  near : r ≤ t + 1 → r ≤ last_round → (ltb (suc t) r || ltb last_round r) ≡ false
  near l m = rw (le-ltb (suc t) r (omega arith), le-ltb last_round r m) refl

  pub round_old : r ≤ t + 1 → r ≤ last_round → r ≤ t → no_refusal ≡ round_check b t r
  unfolding round_check
  round_old l m k = rw (near l m, le-leb r t k) refl

  pub round_full : r ≤ t + 1 → r ≤ last_round → t < r → 512 ≤ t + 1 - b → failed 4 ≡ round_check b t r
  unfolding round_check
  round_full l m k f = rw (near l m, lt-leb r t k, le-leb 512 (suc t - b) (omega arith)) refl

  pub round-new : r ≤ t + 1 → r ≤ last_round → t < r → t + 1 - b < 512 → no_refusal ≡ round_check b t r
  unfolding round_check
  round-new l m k f = rw (near l m, lt-leb r t k, lt-leb 512 (suc t - b) (omega arith)) refl

  -- a new round has room
  pub new-fits : round_check b t r ≡ no_refusal → t < r → t + 1 - b < 512
  new-fits e k =
      le_or r (t + 1)
      (λ l. le_or r last_round
      (λ m. le_or 512 (t + 1 - b) (λ f. absurd (not_failed _ (round_full l m k f ∙ e))) (λ f. f))
      (λ m. absurd (not_failed _ (round_last m ∙ e))))
      (λ l. absurd (not_failed _ (round-beyond l ∙ e)))

-- the state after a round is added
unfoldable pub with_round : State → ℕ → ℕ → State
with_round s r peers = cond (leb r s.top.0) s (extended_state s peers)

-- what the call leaves
abbrev pub round_left : ℕ → ℕ → Tables → Left
round_left r peers d =
    unless_refused (tested (counts_as_started (view_of d)) (round_check d.state.bottom.0 d.state.top.0 r)) d
    (done_with (tables (with_round d.state r peers) d.keys d.links d.certs d.order))

module _ (s : State) (ks ls cs os : List ℕ) (r peers : ℕ) where
  abbrev v : Store
  v = view s ks ls cs os

  -- 01's store after it
  unfoldable made : Store
  made = cond (leb r s.top.0) v (add_round v peers)

  check_is : do_round v r peers ≡ unless_failed (round_check s.bottom.0 s.top.0 r) (good made)
  unfolding do_round refuse round_check unless_failed refusal_of made view
  check_is = by (ltb (suc s.top.0) r || ltb last_round r) (leb r s.top.0) (leb 512 (suc s.top.0 - s.bottom.0))
    where
      by : (x y z : Bool) → refuse x 3 (elim y [ true ↦ good v | false ↦ refuse z 4 (good (add_round v peers)) ]) ≡ unless_failed (cond x (failed 3) (cond y no_refusal (cond z (failed 4) no_refusal))) (good (cond y v (add_round v peers)))
      by true y z = refl
      by false true z = refl
      by false false true = refl
      by false false false = refl

  -- a new round in the view
  added : length s.rounds ≡ 512 → s.bottom.0 ≤ s.top.0 → suc s.top.0 < s.bottom.0 + 512 → view (extended_state s peers) ks ls cs os ≡ add_round v peers
  unfolding view extended_state add_round progress_of regular conf_of
  added l k m = λ i. record {
    phase = v.phase;
    places = v.places;
    pt = v.pt;
    heights = v.heights;
    bottom = v.bottom;
    top = add-one s.top.0 i;
    rounds = λ q. extended_rounds s peers q l k m i;
    conf = v.conf;
    progress = v.progress;
    memory = v.memory;
  }

  -- what an accepted call makes
  makes : length s.rounds ≡ 512 → tested (counts_as_started v) (round_check s.bottom.0 s.top.0 r) ≡ no_refusal → view (with_round s r peers) ks ls cs os ≡ made
  unfolding with_round made rounds_hold
  makes l e =
      let (h, f) = tested-yes _ _ e in
      let (k, m, d) = range_says s.genesis.0 s.bottom.0 s.top.0 (and_l _ _ (rounds_of_lem s ks ls cs os h)) in
      le_or r s.top.0
      (λ o. rw (le-leb r s.top.0 o) refl)
      (λ o. let q = new-fits s.bottom.0 s.top.0 r f o in rw (lt-leb r s.top.0 o) (added l k (omega arith)))

-- it does 01's call
pub round_did : (r peers : ℕ) (d : Tables) → length d.state.rounds ≡ 512 → (x : Left) → x ≡ round_left r peers d → Did (round r peers) (round_left r peers) d x
unfolding is_start buffer_of perform
round_did r peers d l =
    did_done (round r peers) (round_left r peers) d _ (tested (counts_as_started (view_of d)) (round_check d.state.bottom.0 d.state.top.0 r)) refl refl (made d.state d.keys d.links d.certs d.order r peers)
    (call-tested (view_of d) (round r peers) _ _ (made d.state d.keys d.links d.certs d.order r peers) refl refl refl (λ h. check_is d.state d.keys d.links d.certs d.order r peers)) (makes d.state d.keys d.links d.certs d.order r peers l)

-- one law for each way out of the code
pub with_old : (s : State) (r peers : ℕ) → r ≤ s.top.0 → s ≡ with_round s r peers
unfolding with_round
with_old s r peers l = rw (le-leb r s.top.0 l) refl

pub with_new : (s : State) (r peers : ℕ) (t : State) → s.top.0 < r → t ≡ extended_state s peers → t ≡ with_round s r peers
unfolding with_round
with_new s r peers t l e = rw (lt-leb r s.top.0 l) e

-- what a started state says of its rounds
pub round_ready : (s : State) (ks ls cs os : List ℕ) (c : Bool) → c ≡ counts_as_started (view s ks ls cs os) → not c ≡ false → (s.bottom.0 ≤ s.top.0) × (s.top.0 ≤ 4_000_000_000)
unfolding rounds_hold
round_ready s ks ls cs os c e h = let (k, m, d) = range_says s.genesis.0 s.bottom.0 s.top.0 (and_l _ _ (rounds_of_lem s ks ls cs os (passed _ _ e h))) in (k, m)

-- an accepted round is in its range
pub round_small : (b t r : ℕ) (k : Check) → k ≡ round_check b t r → k ≡ no_refusal → r ≤ 4_000_000_000
round_small b t r k e z = le_or r last_round (λ l. l) (λ l. absurd (not_failed _ (round_last b t r l ∙ (sym e ∙ z))))
