-- What a point of a history is refused with, and the first point that is (01: 'Refusals' 13 to 15).
use Rattle.std.specs.Prelude.{ℕ, ◌-◌, ◌<◌, ◌≤◌, ◌≡◌, List, Bool, true, false, ◌&&◌, cond, ltb, get_or}
use Rattle.std.proofs.Math.Path.{refl, sym, ap}
use Rattle.std.proofs.Common.{ap₂, subst, ◌∙◌, arith, le-ltb, lt-ltb}
use Rattle.laws.specs.Test.{and_no}
use Rattle.spec.specs.Store.{Flags}
use Rattle.models.specs.Cert.{has_proof, committed_word}
use Rattle.models.specs.Tables.{round_at, place_at}
use Rattle.models.specs.Refusal.{failed, conflicting, not_valid}
use Rattle.std.specs.Prelude.{is_err}
use Rattle.models.specs.declared.dag_point.DagPoint.{DagPoint}
use Rattle.models.specs.declared.dag_point.DagPoint.TheVariants.{Valid, TransInvalid, Invalid, IllFormed, NotFound}
use Rattle.dag_round_keys.specs.Look.{look_place}
use Rattle.dag_round_keys.specs.declared.look.Look.{Look}
use Rattle.dag_round_keys.specs.declared.look.Look.TheVariants.{Resolved, Named, Never}
use Rattle.back_history.specs.Supposing.{flags_marked, height-marked}
use Rattle.back_committable.specs.Scan.{scanned}
use Rattle.models.specs.Refusal.{Check, no_refusal}

-- what a point of a history is refused with, by its case, its certificate word and its round
unfoldable pub committable_of : DagPoint → ℕ → ℕ → Check
committable_of Valid c r = no_refusal
committable_of TransInvalid c r = cond (has_proof c) (conflicting r) no_refusal
committable_of Invalid c r = not_valid c r
committable_of IllFormed c r = not_valid c r
committable_of NotFound c r = not_valid c r

-- 02, N3: "Number 14 keeps the point that is named only. It refuses with 25, just after 14, a needed point that was never named."
unfoldable pub fault_of : Look → ℕ → ℕ → Check
fault_of (Resolved q p) c r = committable_of p c r
fault_of (Named q) c r = failed 14
fault_of Never c r = failed 25

-- the same of place q
unfoldable pub fault_at : List ℕ → List ℕ → ℕ → Check
fault_at ks cs q = fault_of (look_place ks q) (get_or cs q 0) (round_at ks q)

-- place q is marked, and its point isn't usable
unfoldable pub faulty : List ℕ → List ℕ → List Bool → ℕ → Bool
faulty ks cs m q = get_or m q false && is_err (fault_at ks cs q)

-- the place at position p is so
unfoldable pub faulty_at : List ℕ → List ℕ → List ℕ → List Bool → ℕ → Bool
faulty_at ks cs os m p = faulty ks cs m (place_at os p)

-- the round at position p
unfoldable pub round_of : List ℕ → List ℕ → ℕ → ℕ
round_of ks os p = round_at ks (place_at os p)

-- the first of the positions from low to high whose point isn't usable, or high
unfoldable pub first_fault : List ℕ → List ℕ → List ℕ → List Bool → ℕ → ℕ → ℕ
first_fault ks cs os m low high = scanned (faulty_at ks cs os m) (round_of ks os) high (high - low)

-- what the positions from low to high are refused with
unfoldable pub found_fault : List ℕ → List ℕ → List ℕ → List Bool → ℕ → ℕ → Check
found_fault ks cs os m low high = let p = first_fault ks cs os m low high in cond (ltb p high) (fault_at ks cs (place_at os p)) no_refusal

-- the rounds of the first n positions are rounds of 01
abbrev pub Rounds : List ℕ → List ℕ → ℕ → Type 0
Rounds ks os n = (p : ℕ) → p < n → round_at ks (place_at os p) ≤ 4_000_000_000

-- ---- the steps of the code

module _ (ks cs : List ℕ) (q : ℕ) where
  module _ (x : Look) (is : x ≡ look_place ks q) where
    -- not resolved
    pub fault_none : (y : Look) → x ≡ y → (c : Check) → c ≡ fault_of y (get_or cs q 0) (round_at ks q) → c ≡ fault_at ks cs q
    unfolding fault_at
    fault_none y e c h = h ∙ rw (sym is ∙ e) refl

    -- resolved, of the case y
    pub fault_by : (i : ℕ) (p y : DagPoint) → x ≡ Resolved i p → p ≡ y → (r : ℕ) → r ≡ round_at ks q → (c : Check) → c ≡ committable_of y (get_or cs q 0) r → c ≡ fault_at ks cs q
    unfolding fault_at fault_of
    fault_by i p y e f r o c h = h ∙ rw (sym is ∙ (e ∙ ap (Resolved i) f), o) refl

  module _ (m : List Bool) where
    -- not marked
    pub faulty_not : get_or m q false ≡ false → false ≡ faulty ks cs m q
    unfolding faulty
    faulty_not h = sym (and_no _ h)

    -- marked: what it is refused with decides
    pub faulty_by : (c d : Check) → get_or m q false ≡ true → c ≡ fault_at ks cs q → c ≡ d → is_err d ≡ faulty ks cs m q
    unfolding faulty
    faulty_by c d h e f = rw (h, sym e ∙ f) refl

-- the round of the place at position p
pub round_of_lem : (ks os : List ℕ) (i p : ℕ) → i ≡ place_at os p → round_at ks i ≡ round_of ks os p
unfolding round_of
round_of_lem ks os i p e = ap (round_at ks) e

-- it is a round of 01
pub round-fits : (ks os : List ℕ) (n p q : ℕ) → Rounds ks os n → p < n → q ≡ place_at os p → round_at ks q ≤ 4_000_000_000
round-fits ks os n p q h l e = subst (λ x. round_at ks x ≤ 4_000_000_000) (sym e) (h p l)

-- the test of the place at position p
pub faulty_at_lem : (ks cs os : List ℕ) (m : List Bool) (q p : ℕ) (b : Bool) → q ≡ place_at os p → b ≡ faulty ks cs m q → b ≡ faulty_at ks cs os m p
unfolding faulty_at
faulty_at_lem ks cs os m q p b e h = h ∙ ap (faulty ks cs m) e

module _ (ks cs os : List ℕ) (m : List Bool) (low high p : ℕ) (e : p ≡ first_fault ks cs os m low high) where
  -- no point is refused
  pub found_none : high ≤ p → no_refusal ≡ found_fault ks cs os m low high
  unfolding found_fault
  found_none l = rw (le-ltb (first_fault ks cs os m low high) high (omega arith)) refl

  -- the point at position p is
  pub found_at : p < high → (q : ℕ) → q ≡ place_at os p → (c : Check) → c ≡ fault_at ks cs q → c ≡ found_fault ks cs os m low high
  unfolding found_fault
  found_at l q d c h = h ∙ rw (lt-ltb (first_fault ks cs os m low high) high (omega arith)) (ap (fault_at ks cs) (d ∙ ap (place_at os) e))

-- ---- places that are taken (02: N6)

-- the committed bit is not read
pub proof_same : (b : Bool) (c d : ℕ) → d ≡ cond b (committed_word c) c → has_proof d ≡ has_proof c
unfolding has_proof
proof_same b c d e = ap₂ (λ (h : ℕ) (f : Flags). ltb 0 h && f.top) (height-marked b c d e) (flags_marked b c d e)
