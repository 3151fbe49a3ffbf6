-- The link behind each point of a history (02: N7).
use Rattle.std.specs.Prelude.{ℕ, ◌+◌, ◌≤◌, ◌<◌, ◌≡◌, refl, ◌⊎◌, true, ◌&&◌, eqb}
use Rattle.std.proofs.Common.{sym, ◌∙◌, ap, eqb-true, eq-eqb, arith}
use Rattle.std.proofs.Math.Logic.{inl, inr}
use Rattle.laws.specs.Test.{both, and_l, and_r, same_test}
use Rattle.laws.specs.Lists.{has_intro, has_elim}
use Rattle.spec.specs.Ids.{Id, Link, fits}
use Rattle.spec.specs.Store.{Point, Store, id_at, round_at, links, links_to}
use Rattle.spec.specs.Paths.{LinkedTo}
use Rattle.spec.specs.History.{Need, anchor, hand, in_history, links_by, behind, anchor_word, word_for}
use Rattle.spec.specs.Links.{Linked, linked, fits_elim, fits_intro, down}

-- ---- the kind of a link

-- 01: "Includes lead one round down, witness two": the kind follows from the rounds, so no point links to another by both
pub kind_is : (d : ℕ) (p q : Point) → links_to p q ≡ true → links_by d p q ≡ eqb (q.id.round + d) p.id.round
unfolding links_by
kind_is d p q h = same_test _ _ to from
  where
    k : Linked p q
    k = linked p q h

    to : links_by d p q ≡ true → eqb (q.id.round + d) p.id.round ≡ true
    to g =
        let (l, m, f) = has_elim (λ (l : Link). eqb l.dist d && fits p.id.round q.id l) (links p) g in
        let (r, a, b) = fits_elim p.id.round q.id l (and_r (eqb l.dist d) _ f) in
        eq-eqb _ _ (ap (λ n. q.id.round + n) (sym (eqb-true _ _ (and_l _ _ f))) ∙ r)

    from : eqb (q.id.round + d) p.id.round ≡ true → links_by d p q ≡ true
    from e = has_intro (λ (l : Link). eqb l.dist d && fits p.id.round q.id l) (links p) k.by k.among
        (both (eq-eqb k.by.dist d (omega (arith, k.round, eqb-true (q.id.round + d) p.id.round e))) (fits_intro _ _ _ k.round k.author_is k.digest_is))

-- x is told rather than y: it stands in a higher round, or in the same with a lower digest
abbrev pub Rather : Id → Id → Type 0
Rather x y = (y.round < x.round) ⊎ ((y.round ≡ x.round) × (x.digest < y.digest))

-- the point at p is the one that is told for the point at q
pub record Behind (s : Store) (a q p : ℕ) : Type 0 where
  pub inside : in_history s a p ≡ true
  pub link : LinkedTo s p q
  pub first : (r : ℕ) → in_history s a r ≡ true → LinkedTo s r q → (r ≡ p) ⊎ Rather (id_at s p) (id_at s r)

-- no point of a history is above its anchor
pub need_under : (s : Store) (a q : ℕ) → Need s a q → round_at s q ≤ round_at s a
need_under s a q anchor = omega arith
need_under s a q (hand p x n d e) = omega (arith, need_under s a p n, down s p x e)

-- two can't each be told rather than the other
pub rather_once : (x y : Id) → Rather x y → Rather y x → ⊥
rather_once x y (inl a) (inl b) = omega arith
rather_once x y (inl a) (inr (e, b)) = omega arith
rather_once x y (inr (e, a)) (inl b) = omega arith
rather_once x y (inr (e, a)) (inr (f, b)) = omega arith

-- ---- the anchor, and the word

pub behind-own : (s : Store) (a q : ℕ) → q ≡ a → behind s a q ≡ q
unfolding behind
behind-own s a q e = rw (eq-eqb q a e) (sym e)

pub word-own : (s : Store) (a q : ℕ) → q ≡ a → word_for s a q ≡ anchor_word
unfolding word_for
word-own s a q e = rw (eq-eqb q a e) refl
