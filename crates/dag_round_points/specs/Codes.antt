-- A chain of refusals as one number: 0, or the number of the first test that refuses; with a place if none does.
use Prim.Native.Nat.{ℕ, zero, suc}
use Rattle.std.specs.Prelude.{◌≡◌, refl, Bool, true, false, cond}
use Rattle.std.proofs.Common.{sym, ap, ◌∙◌, arith}
use Rattle.std.proofs.Math.Option.{none, some}
use Rattle.spec.specs.Ids.{Id}
use Rattle.spec.specs.Store.{Store}
use Rattle.spec.specs.Chain.{number, Out, bad, good, refuse}
use Rattle.spec.specs.Calls.{name_at, into_free}
use Rattle.models.specs.Refusal.{numbered, unless_failed, refusal_of, not_failed, numbered-passed}
use Rattle.models.specs.declared.refusal.Refusal.{Refusal}
use Rattle.models.specs.declared.refusal.Refusal.TheVariants.{Number}
use Rattle.dag_round_points.specs.Model.{or_else, else_next}
use Rattle.std.specs.Prelude.{Result, Err, Ok}
use Rattle.models.specs.Refusal.{Check, no_refusal}

-- refused with the number, unless it is 0
unfoldable pub unless : {A : Type 0} → ℕ → Out A → Out A
unless zero o = o
unless (suc n) o = bad (number (suc n))

-- a test before a chain
pub refuse_is : {A : Type 0} (b : Bool) (n m : ℕ) (o : Out A) → refuse b (suc n) (unless m o) ≡ unless (cond b (suc n) m) o
unfolding refuse unless
refuse_is true n m o = refl
refuse_is false n m o = refl

-- a chain before a chain
pub unless_else : {A : Type 0} (n m : ℕ) (o : Out A) → unless n (unless m o) ≡ unless (or_else n m) o
unfolding unless or_else
unless_else zero m o = refl
unless_else (suc n) m o = refl

-- the last test of naming
pub into_is : (s : Store) (i : Id) (b : Bool) (q : ℕ) → into_free s i (cond b (some q) none) ≡ unless (cond b 0 4) (good (name_at s i q))
unfolding into_free unless
into_is s i true q = refl
into_is s i false q = refl

-- ---- the number as a test

pub unless-numbered : {A : Type 0} (n : ℕ) (o : Out A) → unless n o ≡ unless_failed (numbered n) o
unfolding unless numbered unless_failed refusal_of
unless-numbered zero o = refl
unless-numbered (suc n) o = refl

-- the first of two tests refuses
pub numbered-first : (n m : ℕ) (r : Refusal) → numbered n ≡ Err r → numbered (or_else n m) ≡ Err r
unfolding numbered or_else
numbered-first zero m r e = absurd (not_failed r (sym e))
numbered-first (suc n) m r e = e

-- the second decides
pub numbered_next : (n m : ℕ) → n ≡ 0 → numbered (or_else n m) ≡ numbered m
numbered_next n m z = ap numbered (sym (else_next n m z))

-- ---- the number and a place

-- where a point stands, or is to stand, or why it is refused
abbrev pub Found : Type 0
Found = Result ℕ Refusal

-- the place, unless the number refuses
unfoldable pub found : ℕ → ℕ → Found
found zero q = Ok q
found (suc n) q = Err (Number (suc n))

-- a place is no refusal
apart : (x : ℕ) (r : Refusal) → Ok x ≡ Err r → ⊥
apart x r e = let z : ◌≡◌ {A = ℕ} 0 1 = cc in omega arith

pub found_at : (c q x : ℕ) → found c q ≡ Ok x → (c ≡ 0) × (x ≡ q)
unfolding found
found_at zero q x e = (refl, cc)
found_at (suc c) q x e = absurd (apart x (Number (suc c)) (sym e))

pub found_passed : (c q x : ℕ) → found c q ≡ Ok x → numbered c ≡ no_refusal
unfolding numbered
found_passed c q x e = ap numbered (found_at c q x e).0

pub found-refused : (c q : ℕ) (r : Refusal) → found c q ≡ Err r → numbered c ≡ Err r
unfolding found numbered
found-refused zero q r e = absurd (apart q r e)
found-refused (suc c) q r e = cc

-- ---- one law for each way out of the code

-- a number refuses
pub found_number : (n c q : ℕ) → suc n ≡ c → Err (Number (suc n)) ≡ found c q
unfolding found
found_number n c q e = ap (λ (x : ℕ). found x q) e

module _ (k : Check) (n m q : ℕ) (e : k ≡ numbered n) where
  -- the first of two tests refuses
  pub found_first : (r : Refusal) → k ≡ Err r → Err r ≡ found (or_else n m) q
  unfolding numbered or_else found
  found_first r d = by n (sym e ∙ d)
    where
      by : (x : ℕ) → numbered x ≡ Err r → Err r ≡ found (or_else x m) q
      by zero h = absurd (not_failed r (sym h))
      by (suc x) h = cc

  -- the second decides
  pub found-next : k ≡ no_refusal → (x : Found) → x ≡ found m q → x ≡ found (or_else n m) q
  found-next d x f = f ∙ ap (λ (y : ℕ). found y q) (else_next n m (numbered-passed n (sym e ∙ d)))
