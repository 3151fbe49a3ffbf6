-- Theorems on the definitions of specs/ModelPoints.
use Rattle.std.specs.Prelude.{ℕ, ◌-◌, ◌≡◌, List, Bool, true, false, ◌&&◌, cond, ltb, length, get_or}
use Rattle.std.proofs.Math.Path.{refl, sym, ap}
use Rattle.std.proofs.Common.{◌∙◌, arith}
use Rattle.std.proofs.Math.ListN.{get_or-eq_default}
use Rattle.laws.specs.Test.{le_or}
use Rattle.models.specs.Cert.{has_proof, committed_word}
use Rattle.models.specs.Tables.{round_at, place_at}
use Rattle.models.specs.Refusal.{failed, conflicting, not_valid}
use Rattle.std.specs.Prelude.{is_err}
use Rattle.models.specs.declared.dag_point.DagPoint.{DagPoint}
use Rattle.models.specs.declared.dag_point.DagPoint.TheVariants.{Valid, TransInvalid, Invalid, IllFormed, NotFound}
use Rattle.dag_round_keys.specs.Look.{look_place}
use Rattle.dag_round_keys.specs.declared.look.Look.{Look}
use Rattle.dag_round_keys.specs.declared.look.Look.TheVariants.{Resolved, Named, Never}
use Rattle.back_history.specs.Supposing.{supposing, supposing-length, supposing_at, height-marked}
use Rattle.back_committable.specs.Scan.{scanned}
use Rattle.back_committable.specs.ModelPoints.{committable_of, fault_of, fault_at, faulty, faulty_at, round_of, first_fault, found_fault, proof_same}
use Rattle.models.specs.Refusal.{Check, no_refusal}

-- trans-invalid: proved or not
module _ (c r : ℕ) (b : Bool) (is : b ≡ has_proof c) where
  pub trans_proved : b ≡ true → conflicting r ≡ committable_of TransInvalid c r
  unfolding committable_of
  trans_proved h = rw (← is, h) refl

  pub trans_unproved : b ≡ false → no_refusal ≡ committable_of TransInvalid c r
  unfolding committable_of
  trans_unproved h = rw (← is, h) refl

committable_same : (p : DagPoint) (b : Bool) (c d r : ℕ) → d ≡ cond b (committed_word c) c → committable_of p d r ≡ committable_of p c r
unfolding committable_of not_valid
committable_same Valid b c d r e = refl
committable_same TransInvalid b c d r e = ap (λ (h : Bool). cond h (conflicting r) no_refusal) (proof_same b c d e)
committable_same Invalid b c d r e = ap (λ (h : ℕ). cond (ltb 0 h) (conflicting r) (failed 15)) (height-marked b c d e)
committable_same IllFormed b c d r e = ap (λ (h : ℕ). cond (ltb 0 h) (conflicting r) (failed 15)) (height-marked b c d e)
committable_same NotFound b c d r e = ap (λ (h : ℕ). cond (ltb 0 h) (conflicting r) (failed 15)) (height-marked b c d e)

fault_same : (x : Look) (b : Bool) (c d r : ℕ) → d ≡ cond b (committed_word c) c → fault_of x d r ≡ fault_of x c r
unfolding fault_of
fault_same (Resolved q p) b c d r e = committable_same p b c d r e
fault_same (Named q) b c d r e = refl
fault_same Never b c d r e = refl

-- so a taken place is refused as it was
fault_taken : (ks cs : List ℕ) (ts : List Bool) (q : ℕ) → fault_at ks cs q ≡ fault_at ks (supposing ts cs) q
unfolding fault_at
fault_taken ks cs ts q =
    le_or (length cs) q
    (λ l. ap (λ (c : ℕ). fault_of (look_place ks q) c (round_at ks q)) (get_or-eq_default cs 0 l ∙ sym (get_or-eq_default (supposing ts cs) 0 (omega (arith, supposing-length ts cs)))))
    (λ l. sym (fault_same (look_place ks q) (get_or ts q false) (get_or cs q 0) (get_or (supposing ts cs) q 0) (round_at ks q) (supposing_at ts cs q l)))

-- and the positions of a history too
pub found_by_lem : (ks cs os : List ℕ) (ts m : List Bool) (low high : ℕ) (f : Check) → f ≡ found_fault ks cs os m low high → f ≡ found_fault ks (supposing ts cs) os m low high
unfolding found_fault first_fault faulty_at faulty
found_by_lem ks cs os ts m low high f e = e ∙ (λ i.
    let p = scanned (λ p. get_or m (place_at os p) false && is_err (fault_taken ks cs ts (place_at os p) i)) (round_of ks os) high (high - low) in
    cond (ltb p high) (fault_taken ks cs ts (place_at os p) i) no_refusal)
