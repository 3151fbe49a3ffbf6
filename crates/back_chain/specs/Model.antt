-- The tests of a trigger, and its walk, as the code makes them (01: commit/mod.rs, back.rs 'Chain').
use Rattle.std.specs.Prelude.{ℕ, ◌-◌, ◌/◌, ◌%◌, ◌<◌, ◌≤◌, max, ◌≡◌, List, [], Bool, true, false, not, ◌&&◌, cond, eqb, ltb, get_or}
use Rattle.std.proofs.Math.Path.{refl, sym, ap}
use Rattle.std.proofs.Common.{◌∙◌}
use native.Mathlib.Omega.{arith}
use borrow.Author.Tests.{eq-eqb, ne_eqb, le-ltb, lt-ltb, not-true, not-false}
use Rattle.laws.specs.Test.{and_no, and_yes}
use Rattle.spec.specs.Chain as chain
use Rattle.spec.specs.Chain.{Out, number, bad, then, check_oldest}
use Rattle.models.specs.Cert.{bit_of, height_of, has_proof}
use Rattle.models.specs.Tables.{status_at, marks_at}
use Rattle.models.specs.DagPoint.{case_of, is_valid, valid_is}
use Rattle.models.specs.Refusal.{refusal_of, failed, conflicting, not_valid}
use Rattle.models.specs.declared.dag_point.DagPoint.{DagPoint}
use Rattle.models.specs.declared.dag_point.DagPoint.TheVariants.{Valid, TransInvalid, Invalid, IllFormed, NotFound}
use Rattle.models.specs.declared.refusal.Refusal.{Refusal}
use Rattle.models.specs.declared.refusal.Refusal.TheVariants.{Number}
use Rattle.models.specs.declared.parts.PointId.{PointId}
use Rattle.dag_round_keys.specs.Look.{look_as, look_place}
use Rattle.dag_round_keys.specs.declared.look.Look.{Look}
use Rattle.dag_round_keys.specs.declared.look.Look.TheVariants.{Resolved, Named, Never}
use Rattle.commit_state.specs.declared.state.State.{State}
use Rattle.models.specs.Ids.{has_previous, previous_id}
use Rattle.back_chain.specs.RefinesWalk.{walked}
use Rattle.back_chain.specs.Chain.{Chained, chain_of, chain_out, out_good, out_bad}
use Rattle.back_chain.specs.declared.Chain.{Chain}
use Rattle.std.specs.Prelude.{None, Option, Some, Ok, Err}
use Rattle.models.specs.Refusal.{Check, no_refusal}

-- the id is of a peer's number and below the bottom
unfoldable pub is_below : State → PointId → Bool
is_below s i = ltb i.author 32 && ltb i.round.0 s.bottom.0

-- the lowest round of a walk
unfoldable pub low_of : State → ℕ
low_of s = max (s.last_committed_proof.0 - 1) s.bottom.0

-- what a trigger is refused with, by its look-up, its certificate word and its round; 9: "id not named; trigger unresolved"
unfoldable pub trigger_of : Look → ℕ → ℕ → Check
trigger_of Never c r = failed 9
trigger_of (Named q) c r = failed 9
trigger_of (Resolved q Valid) c r = no_refusal
trigger_of (Resolved q TransInvalid) c r = cond (has_proof c) (conflicting r) (cond (ltb 0 (height_of c)) no_refusal (failed 15))
trigger_of (Resolved q Invalid) c r = not_valid c r
trigger_of (Resolved q IllFormed) c r = not_valid c r
trigger_of (Resolved q NotFound) c r = not_valid c r

-- what the trigger at the place q, of the round r, is refused with
unfoldable pub trigger_code : List ℕ → List ℕ → ℕ → ℕ → Check
trigger_code ks cs q r = trigger_of (look_place ks q) (get_or cs q 0) r

-- a valid point, by its look-up
unfoldable pub valid_of : Look → Bool
valid_of Never = false
valid_of (Named q) = false
valid_of (Resolved q p) = is_valid (Some p)

-- the point at the place q, of the round r, is a valid trigger with rounds to walk
unfoldable pub walks : State → List ℕ → ℕ → ℕ → ℕ → Bool
walks s ks q r low = eqb (status_at ks q) 1 && (bit_of 2 (marks_at ks q) && (not (eqb r s.genesis.0) && ltb low r))

-- the chain of the trigger at the place q, of the round r
unfoldable pub chained_from : State → List ℕ → List ℕ → List ℕ → List ℕ → ℕ → ℕ → ℕ → Out (List chain.EnqueuedAnchor)
chained_from s ks ls cs os q r low =
    cond (has_previous ks ls q) (then (walked s ks ls cs os low (r - low) (previous_id ks ls q (r - 1)) []) (check_oldest low)) (bad (number 16))

-- ---- the code's steps

module _ (s : State) (i : PointId) where
  pub below-author : 32 ≤ i.author → false ≡ is_below s i
  unfolding is_below
  below-author l = sym (and_no _ (le-ltb i.author 32 l))

  pub below-round : i.author < 32 → ltb i.round.0 s.bottom.0 ≡ is_below s i
  unfolding is_below
  below-round l = sym (and_yes (lt-ltb i.author 32 l) refl)

module _ (s : State) where
  pub low_none : s.last_committed_proof.0 ≡ 0 → s.bottom.0 ≡ low_of s
  unfolding low_of
  low_none e = omega arith

  pub low_last : s.bottom.0 < s.last_committed_proof.0 - 1 → s.last_committed_proof.0 - 1 ≡ low_of s
  unfolding low_of
  low_last l = omega arith

  pub low_bottom : s.last_committed_proof.0 - 1 ≤ s.bottom.0 → s.bottom.0 ≡ low_of s
  unfolding low_of
  low_bottom l = omega arith

module _ (ks cs : List ℕ) (q r : ℕ) (x : Look) (is : x ≡ look_place ks q) where
  pub trigger_by : (y : Look) → x ≡ y → (c : Check) → c ≡ trigger_of y (get_or cs q 0) r → c ≡ trigger_code ks cs q r
  unfolding trigger_code
  trigger_by y e c h = h ∙ ap (λ (z : Look). trigger_of z (get_or cs q 0) r) (sym e ∙ is)

  pub trigger_case : (i : ℕ) (p y : DagPoint) → x ≡ Resolved i p → p ≡ y → (c : Check) → c ≡ trigger_of (Resolved i y) (get_or cs q 0) r → c ≡ trigger_code ks cs q r
  trigger_case i p y e f = trigger_by (Resolved i y) (e ∙ ap (Resolved i) f)

-- a trans-invalid one: proved, certified or neither
module _ (q c r : ℕ) (a : Bool) (proof : a ≡ has_proof c) where
  pub trans_proved : a ≡ true → conflicting r ≡ trigger_of (Resolved q TransInvalid) c r
  unfolding trigger_of
  trans_proved h = rw (← proof, h) refl

  module _ (h : a ≡ false) (b : Bool) (height : b ≡ ltb 0 (height_of c)) where
    pub trans_flat : not b ≡ true → failed 15 ≡ trigger_of (Resolved q TransInvalid) c r
    unfolding trigger_of
    trans_flat k = rw (← proof, h, sym height ∙ not-true b k) refl

    pub trans_certified : not b ≡ false → no_refusal ≡ trigger_of (Resolved q TransInvalid) c r
    unfolding trigger_of
    trans_certified k = rw (← proof, h, sym height ∙ not-false b k) refl

pub valid_case : (x : Look) (q : ℕ) (p y : DagPoint) → x ≡ Resolved q p → p ≡ y → is_valid (Some y) ≡ valid_of x
unfolding valid_of
valid_case x q p y e f = ap (λ (z : DagPoint). is_valid (Some z)) (sym f) ∙ ap valid_of (sym e)

-- it is valid exactly if its case is
valid_by : (c : Option DagPoint) (q : ℕ) → valid_of (look_as c q) ≡ is_valid c
unfolding valid_of look_as is_valid
valid_by (Some p) q = refl
valid_by None q = refl

module _ (s : State) (ks : List ℕ) (q r low : ℕ) (x : Look) (is : x ≡ look_place ks q) (b : Bool) (valid : b ≡ valid_of x) where
  -- the test of the status
  status_is : b ≡ eqb (status_at ks q) 1
  unfolding look_place
  status_is = valid ∙ (ap valid_of is ∙ (valid_by (case_of (status_at ks q)) q ∙ valid_is (status_at ks q)))

  pub walks_invalid : not b ≡ true → false ≡ walks s ks q r low
  unfolding walks
  walks_invalid h = rw (sym status_is ∙ not-true b h) refl

  module _ (h : not b ≡ false) where
    pub walks_unmarked : (marks_at ks q / 2 % 2 ≡ 1 → ⊥) → false ≡ walks s ks q r low
    unfolding walks
    walks_unmarked d = rw (sym status_is ∙ not-false b h, ne_eqb (marks_at ks q / 2 % 2) 1 d) refl

    module _ (m : marks_at ks q / 2 % 2 ≡ 1) where
      pub walks-genesis : r ≡ s.genesis.0 → false ≡ walks s ks q r low
      unfolding walks
      walks-genesis g = rw (sym status_is ∙ not-false b h, eq-eqb (marks_at ks q / 2 % 2) 1 m, eq-eqb r s.genesis.0 g) refl

      pub walks_by : (r ≡ s.genesis.0 → ⊥) → ltb low r ≡ walks s ks q r low
      unfolding walks
      walks_by g = rw (sym status_is ∙ not-false b h, eq-eqb (marks_at ks q / 2 % 2) 1 m, ne_eqb r s.genesis.0 g) refl

module _ (s : State) (ks ls cs os : List ℕ) (q r low : ℕ) (b : Bool) (is : b ≡ has_previous ks ls q) where
  pub from_none : not b ≡ true → chain_out (Err (Number 16)) ≡ chained_from s ks ls cs os q r low
  unfolding chained_from refusal_of
  from_none h = out_bad (Err (Number 16)) (Number 16) refl ∙ rw (sym is ∙ not-true b h) refl

  module _ (h : not b ≡ false) (p : ℕ) (o : p ≡ r - 1) (i : PointId) (e : i ≡ previous_id ks ls q p) (x : Chained) (f : chain_out x ≡ walked s ks ls cs os low (r - low) i []) where
    -- the walk is made, and then tested
    chained_is : chained_from s ks ls cs os q r low ≡ then (chain_out x) (check_oldest low)
    unfolding chained_from
    chained_is =
        sym
        (ap (λ y. then y (check_oldest low)) (f ∙ ap (λ (z : PointId). walked s ks ls cs os low (r - low) z []) (e ∙ ap (previous_id ks ls q) o)) ∙ rw (sym is ∙ not-false b h) refl)

    pub from_bad : (w : Refusal) → x ≡ Err w → chain_out (Err w) ≡ chained_from s ks ls cs os q r low
    from_bad w z = out_bad (Err w) w refl ∙ sym (chained_is ∙ rw (out_bad x w z) refl)

    pub from_walk : (c : Chain) → x ≡ Ok c → (d : Chained) → chain_out d ≡ then (chain_out (Ok c)) (check_oldest low) → chain_out d ≡ chained_from s ks ls cs os q r low
    from_walk c z d g = g ∙ sym (chained_is ∙ rw z refl)
