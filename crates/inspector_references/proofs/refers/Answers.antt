use Rattle.std.proofs.Common.{◌≡◌, ◌∙◌, ◌+◌, ℕ, zero, suc, Bool, ◌||◌, refl, sym, ap, arith, rules}
use Rattle.std.specs.List.{list_any, range_with_len}
use Rattle.std.proofs.lemmas.Iterator.{YieldsList-from_range}
use Rattle.std.proofs.lemmas.Iterator.Search.{any_from_yields_List}
use borrow.Author.Tests.{tests}
use Rattle.laws.specs.Scan.{any, any_same, any-first}
use Rattle.models.specs.Digest.{digest_at}
use Rattle.inspector_references.specs.Refs.{refers_by, refers_at}
use Rattle.inspector_references.proofs.refers.Goals as goal

-- a test of the n numbers from a on
any_range : (f : ℕ → Bool) (a n : ℕ) → list_any f (range_with_len a n) ≡ any n (λ k. f (a + k))
unfolding any
any_range f a zero = refl
any_range f a (suc n) =
    ap (λ z. f a || z) (any_range f (a + 1) n ∙ any_same n _ _ (λ i l. ap f (over i)))
    ∙ (ap (λ z. f z || any n (λ k. f (a + suc k))) first ∙ sym (any-first n (λ k. f (a + k))))
  where
    first : a ≡ a + 0
    first = omega arith

    over : (i : ℕ) → a + 1 + i ≡ a + suc i
    over i = omega arith

-- of the numbers below n
any_below : (f : ℕ → Bool) (n : ℕ) → list_any f (range_with_len 0 n) ≡ any n f
any_below f n = any_range f 0 n ∙ any_same n _ f (λ i l. ap f (zero_add i))
  where
    zero_add : (i : ℕ) → 0 + i ≡ i
    zero_add i = omega arith

pub returns : goal.returns
unfolding refers_at
returns c =
    let f : ℕ → Bool = λ k. refers_by c.args.links.now c.args.q (digest_at c.args.words.now c.args.p) (c.args.first + k) in
    any_from_yields_List f _ _ c.any.result c.any.ensures.ran (YieldsList-from_range 0 32 32 refl refl) (λ x b q k. search (rules, tests)) ∙ any_below f 32
