-- The five cases of a resolved point and their numbers (01: dag_point.rs).
use Rattle.std.specs.Prelude.{ℕ, zero, suc, ◌≡◌, refl, Bool, true, false, eqb, leb}
use Rattle.std.proofs.Common.{sym, ap, ◌∙◌, arith, eqb-true, ne_eqb}
use Rattle.models.specs.declared.dag_point.DagPoint.{DagPoint}
use Rattle.models.specs.declared.dag_point.DagPoint.TheVariants.{Valid, TransInvalid, Invalid, IllFormed, NotFound}
use Rattle.std.specs.Prelude.{None, Option, Some}

-- 01, dag_point.rs: "a status (1 valid, 2 trans-invalid, 3 invalid, 4 ill-formed, 5 not found)"
unfoldable pub case_of : ℕ → Option DagPoint
case_of zero = None
case_of (suc zero) = Some Valid
case_of (suc (suc zero)) = Some TransInvalid
case_of (suc (suc (suc zero))) = Some Invalid
case_of (suc (suc (suc (suc zero)))) = Some IllFormed
case_of (suc (suc (suc (suc (suc zero))))) = Some NotFound
case_of (suc (suc (suc (suc (suc (suc n)))))) = None

-- no other number is a status
pub case_none : (n : ℕ) → (n ≡ 1 → ⊥) → (n ≡ 2 → ⊥) → (n ≡ 3 → ⊥) → (n ≡ 4 → ⊥) → (n ≡ 5 → ⊥) → None ≡ case_of n
unfolding case_of
case_none zero a b c d e = refl
case_none (suc zero) a b c d e = absurd (a refl)
case_none (suc (suc zero)) a b c d e = absurd (b refl)
case_none (suc (suc (suc zero))) a b c d e = absurd (c refl)
case_none (suc (suc (suc (suc zero)))) a b c d e = absurd (d refl)
case_none (suc (suc (suc (suc (suc zero))))) a b c d e = absurd (e refl)
case_none (suc (suc (suc (suc (suc (suc n)))))) a b c d e = refl

-- "Statuses 4 and 5 carry no links and no evidence."
unfoldable pub has_info : DagPoint → Bool
has_info Valid = true
has_info TransInvalid = true
has_info Invalid = true
has_info IllFormed = false
has_info NotFound = false

-- the status of a case
unfoldable pub status_of : DagPoint → ℕ
status_of Valid = 1
status_of TransInvalid = 2
status_of Invalid = 3
status_of IllFormed = 4
status_of NotFound = 5

-- a case has links exactly if its status is at most 3
pub info_is : (p : DagPoint) → has_info p ≡ leb (status_of p) 3
unfolding has_info status_of
info_is Valid = refl
info_is TransInvalid = refl
info_is Invalid = refl
info_is IllFormed = refl
info_is NotFound = refl

unfoldable pub is_valid : Option DagPoint → Bool
is_valid None = false
is_valid (Some Valid) = true
is_valid (Some TransInvalid) = false
is_valid (Some Invalid) = false
is_valid (Some IllFormed) = false
is_valid (Some NotFound) = false

-- a point is valid exactly if its status is 1
pub valid_is : (n : ℕ) → is_valid (case_of n) ≡ eqb n 1
unfolding is_valid case_of
valid_is zero = refl
valid_is (suc zero) = refl
valid_is (suc (suc zero)) = refl
valid_is (suc (suc (suc zero))) = refl
valid_is (suc (suc (suc (suc zero)))) = refl
valid_is (suc (suc (suc (suc (suc zero))))) = refl
valid_is (suc (suc (suc (suc (suc (suc n)))))) = sym (ne_eqb (suc (suc (suc (suc (suc (suc n)))))) 1 (λ e. omega arith))

pub valid-status : (n : ℕ) → case_of n ≡ Some Valid → n ≡ 1
unfolding is_valid
valid-status n e = eqb-true n 1 (sym (valid_is n) ∙ ap is_valid e)
