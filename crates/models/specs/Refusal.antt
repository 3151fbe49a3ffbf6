-- What a call is refused with, as 01's refusal, and a test that may refuse.
use Rattle.std.specs.Prelude.{ℕ, zero, suc, ◌≡◌, Bool, true, false, cond, ltb}
use Rattle.std.proofs.Math.Path.{refl}
use Rattle.std.proofs.Common.{sym, true≢false, arith}
use Rattle.spec.specs.Chain as chain
use Rattle.spec.specs.Chain.{number, conflict, Out, bad, good, checked_as}
use Rattle.spec.specs.Calls.{number_of}
use Rattle.models.specs.Cert.{height_of}
use Rattle.models.specs.declared.parts.Round.{Round}
use Rattle.models.specs.declared.refusal.Refusal.{Refusal}
use Rattle.models.specs.declared.refusal.Refusal.TheVariants.{Number, Conflict}
use Rattle.std.specs.Prelude.{Result, Err, Ok, is_err}

-- 01's number of a refusal, with the round of a history conflict
unfoldable pub refusal_of : Refusal → chain.Refusal
refusal_of (Number n) = number n
refusal_of (Conflict r) = conflict r.0

-- and the refusal that 01's is
unfoldable pub refusal_from : chain.Refusal → Refusal
refusal_from (number n) = Number n
refusal_from (conflict r) = Conflict (record { 0 = r })

pub refusal_of_from : (r : chain.Refusal) → refusal_of (refusal_from r) ≡ r
unfolding refusal_of refusal_from
refusal_of_from (number n) = refl
refusal_of_from (conflict r) = refl

pub refusal_from_of : (r : Refusal) → refusal_from (refusal_of r) ≡ r
unfolding refusal_of refusal_from
refusal_from_of (Number n) = refl
refusal_from_of (Conflict r) = refl

-- 01's number, by cases
module _ (w : Refusal) where
  pub number_is : (n : ℕ) → w ≡ Number n → n ≡ number_of (refusal_of w)
  unfolding number_of refusal_of
  number_is n e = rw e refl

  pub number_13 : (r : Round) → w ≡ Conflict r → 13 ≡ number_of (refusal_of w)
  unfolding number_of refusal_of
  number_13 r e = rw e refl

-- a test: passed, or what it refuses with
abbrev pub Check : Type 0
Check = Result (Unit {0}) Refusal

abbrev pub no_refusal : Check
no_refusal = Ok tt

-- what follows a test
unfoldable pub unless_failed : {A : Type 0} → Check → Out A → Out A
unless_failed (Ok tt) o = o
unless_failed (Err r) o = bad (refusal_of r)

-- refused with a number
abbrev pub failed : ℕ → Check
failed n = Err (Number n)

-- the test that refuses with this number, 0 for none
unfoldable pub numbered : ℕ → Check
numbered zero = no_refusal
numbered (suc n) = failed (suc n)

-- a test that passed didn't fail
pub not_failed : (r : Refusal) → Err r ≡ no_refusal → ⊥
not_failed r e = let z : ◌≡◌ {A = ℕ} 0 1 = cc in omega arith

pub numbered-passed : (n : ℕ) → numbered n ≡ no_refusal → n ≡ 0
unfolding numbered
numbered-passed zero e = refl
numbered-passed (suc n) e = absurd (not_failed _ e)

-- a history conflict in the round r
abbrev pub conflicting : ℕ → Check
conflicting r = Err (Conflict (record { 0 = r }))

-- a refusal, or what follows
unfoldable pub or_next : Check → Check → Check
or_next (Ok tt) d = d
or_next (Err r) d = Err r

-- what a point that isn't valid is refused with, by its certificate word and its round
unfoldable pub not_valid : ℕ → ℕ → Check
not_valid c r = cond (ltb 0 (height_of c)) (conflicting r) (failed 15)

-- 01's verdict on a resolved point that isn't usable
pub checked_as_not : (c r q : ℕ) → checked_as false (ltb 0 (height_of c)) r q ≡ unless_failed (not_valid c r) (good q)
unfolding checked_as unless_failed refusal_of not_valid
checked_as_not c r q = by (ltb 0 (height_of c))
  where
    by : (g : Bool) → checked_as false g r q ≡ unless_failed (cond g (conflicting r) (failed 15)) (good q)
    by true = refl
    by false = refl

-- by cases on a test, with the equation in hand
pub by_check : {A : Type 0} (c : Check) → (c ≡ no_refusal → A) → ((r : Refusal) → c ≡ Err r → A) → A
by_check (Ok tt) f g = f refl
by_check (Err r) f g = g r refl

-- a test that refuses has a refusal
pub failed_elim : (c : Check) → is_err c ≡ true → (r : Refusal) × (c ≡ Err r)
failed_elim (Ok tt) h = absurd (true≢false (sym h))
failed_elim (Err r) h = (r, refl)

-- ---- one law for each way out of the code

module _ (c r : ℕ) (b : Bool) (is : b ≡ ltb 0 (height_of c)) where
  pub invalid_certified : b ≡ true → conflicting r ≡ not_valid c r
  unfolding not_valid
  invalid_certified h = rw (← is, h) refl

  pub invalid_flat : b ≡ false → failed 15 ≡ not_valid c r
  unfolding not_valid
  invalid_flat h = rw (← is, h) refl
