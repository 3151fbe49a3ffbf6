-- Theorems on the definitions of specs/Behind.
use Rattle.std.specs.Prelude.{ℕ, suc, ◌+◌, ◌≤◌, ◌<◌, ◌≡◌, refl, ◌⊎◌, ◌≢◌, ◌↔◌, true, ◌&&◌, cond, eqb, get_or}
use Rattle.std.proofs.Common.{sym, ◌∙◌, subst, eq-eqb, ne_eqb, arith}
use Rattle.std.proofs.Math.Logic.{inl, inr, ⊎_elim}
use mathlib.Core.List.Memᴰ
use mathlib.Core.List.{List, [], ◌∷◌, Memᴰ}
use Rattle.laws.specs.Test.{both, and_l, and_r, same_or}
use Rattle.laws.specs.Scan.{those, those_elim, those_intro}
use Rattle.laws.specs.Lists.{Pairs}
use Rattle.laws.specs.Sort.{sort_mem, sort_rises}
use Rattle.spec.specs.Ids.{falls}
use Rattle.spec.specs.Store.{Store, id_at, round_at, links_to}
use Rattle.spec.specs.Paths.{LinkedTo}
use Rattle.spec.specs.History.{lowest, Need, needed, in_history, linkers, behind, includes_word, witness_word, word_for}
use Rattle.spec.specs.Links.{Linked, linked, dist_pos, down, source_named}
use Rattle.spec.specs.HeightEquations.{Sized, inside}
use Rattle.spec.proofs.Sweep.{marked→need, needed_by_history}
use Rattle.spec.specs.WellFormed.{Wf}
use Rattle.spec.specs.Order.{falls_elim, falls-total, falls_trans, history-needed}
use Rattle.spec.proofs.Order.{history_named}
use Rattle.spec.specs.Behind.{kind_is, Rather, Behind, need_under, rather_once}

-- ---- those that link to a point

-- they are the points of the history that have a link to it
pub linkers_in : (s : Store) → Sized s → (a q p : ℕ) → Memᴰ p (linkers s a q) ↔ ((in_history s a p ≡ true) × LinkedTo s p q)
unfolding linkers
linkers_in s z a q p = (
  (λ m. let h = (those_elim s.places (λ p. in_history s a p && links_to (s.pt p) (s.pt q)) p ((sort_mem _ p _).0 m)).1 in (and_l _ _ h, and_r (in_history s a p) _ h)),
  λ (h, l). (sort_mem _ p _).1 (those_intro s.places (λ p. in_history s a p && links_to (s.pt p) (s.pt q)) p (inside s z p (source_named s p q l)) (both h l)),
)

need_of : (s : Store) (a q : ℕ) → in_history s a q ≡ true → Need s a q
unfolding in_history needed
need_of s a q h = marked→need s a q (and_l _ _ (and_l _ _ h))

-- so none links to it
pub anchor-alone : (s : Store) → Sized s → (a : ℕ) → linkers s a a ≡ []
anchor-alone s z a = go (linkers s a a) (λ p m. (linkers_in s z a a p).0 m)
  where
    go : (l : List ℕ) → ((p : ℕ) → Memᴰ p l → (in_history s a p ≡ true) × LinkedTo s p a) → l ≡ []
    go [] f = refl
    go (p ∷ ps) f = absurd (let (h, l) = f p (Memᴰ.head refl) in omega (arith, need_under s a p (need_of s a p h), down s p a l))

module _ (s : Store) (w : Wf s) (a : ℕ) (there : (s.pt a).named ≡ true) (fit : lowest s a ≤ suc (round_at s a)) where
  -- the first of them is told
  first-behind : (q p : ℕ) (ps : List ℕ) → linkers s a q ≡ p ∷ ps → Behind s a q p
  unfolding linkers
  first-behind q p ps e = record {
    inside = ((is p).0 (mem p (Memᴰ.head refl))).0;
    link = ((is p).0 (mem p (Memᴰ.head refl))).1;
    first = λ r h l. ⊎_elim inl (λ m. same_or r p inl (λ n. inr (rather r h n (falls_elim _ _ (rises.0 r m))))) (Memᴰ.cases_cons (subst (Memᴰ r) e ((is r).1 (h, l))));
  }
    where
      is : (r : ℕ) → Memᴰ r (linkers s a q) ↔ ((in_history s a r ≡ true) × LinkedTo s r q)
      is = linkers_in s w.sized a q

      mem : (r : ℕ) → Memᴰ r (p ∷ ps) → Memᴰ r (linkers s a q)
      mem r m = subst (Memᴰ r) (sym e) m

      rises : Pairs (λ (x y : ℕ). falls (id_at s x) (id_at s y) ≡ true) (p ∷ ps)
      rises = subst (Pairs (λ (x y : ℕ). falls (id_at s x) (id_at s y) ≡ true)) e
          (sort_rises (λ p r. falls (id_at s p) (id_at s r)) (λ x y. falls-total (id_at s x) (id_at s y)) (λ x y z. falls_trans (id_at s x) (id_at s y) (id_at s z)) (those s.places (λ p. in_history s a p && links_to (s.pt p) (s.pt q))))

      rather : (r : ℕ) → in_history s a r ≡ true → r ≢ p → (round_at s r < round_at s p) ⊎ ((round_at s p ≡ round_at s r) × ((id_at s p).digest ≤ (id_at s r).digest)) → Rather (id_at s p) (id_at s r)
      rather r h n (inl l) = inl l
      rather r h n (inr (u, v)) = inr (
        sym u,
        same_or (id_at s p).digest (id_at s r).digest
            (λ c. absurd (n (sym (w.apart p r (history_named s w a there p ((is p).0 (mem p (Memᴰ.head refl))).0) (history_named s w a there r h) u c))))
            (λ c. omega arith),
      )

  -- "Any other point without such a link is in no history."
  pub behind_is : (q : ℕ) → in_history s a q ≡ true → q ≢ a → Behind s a q (behind s a q)
  unfolding behind
  behind_is q h n = rw (ne_eqb q a n) (go (linkers s a q) refl)
    where
      by : (p : ℕ) × (in_history s a p ≡ true) × LinkedTo s p q
      by = ⊎_elim (λ e. absurd (n e)) (λ x. x) ((needed_by_history s w.sized a q fit).0 (history-needed s a q h)).1

      go : (l : List ℕ) → linkers s a q ≡ l → Behind s a q (get_or l 0 q)
      go [] e = absurd (Memᴰ.not-nil (subst (Memᴰ by.0) e ((linkers_in s w.sized a q by.0).1 (by.1, by.2))))
      go (p ∷ ps) e = first-behind q p ps e

-- so one point is told
pub behind-one : (s : Store) → Wf s → (a : ℕ) → (s.pt a).named ≡ true → lowest s a ≤ suc (round_at s a) → (q p : ℕ) → in_history s a q ≡ true → q ≢ a → Behind s a q p → behind s a q ≡ p
behind-one s w a there fit q p h n x =
    let b = behind_is s w a there fit q h n in
    ⊎_elim (λ e. e) (λ r. ⊎_elim sym (λ k. absurd (rather_once (id_at s p) (id_at s (behind s a q)) r k)) (b.first p x.inside x.link)) (x.first (behind s a q) b.inside b.link)

-- the word follows from the rounds
pub word-round : (s : Store) (a q : ℕ) → q ≢ a → LinkedTo s (behind s a q) q → word_for s a q ≡ cond (eqb (round_at s q + 1) (round_at s (behind s a q))) includes_word witness_word
unfolding word_for
word-round s a q n l = rw (ne_eqb q a n, kind_is 1 (s.pt (behind s a q)) (s.pt q) l) refl

-- it is true of the link
pub word_is : (s : Store) (a q : ℕ) → q ≢ a → (l : LinkedTo s (behind s a q) q)
    → (((linked (s.pt (behind s a q)) (s.pt q) l).by.dist ≡ 1) × (word_for s a q ≡ includes_word)) ⊎ (((linked (s.pt (behind s a q)) (s.pt q) l).by.dist ≡ 2) × (word_for s a q ≡ witness_word))
word_is s a q n l = same_or k.by.dist 1
    (λ e. inl (e, word-round s a q n l ∙ rw (eq-eqb (round_at s q + 1) (round_at s (behind s a q)) (omega (arith, e, k.round))) refl))
    (λ d. inr (two d, word-round s a q n l ∙ rw (ne_eqb (round_at s q + 1) (round_at s (behind s a q)) (λ f. d (omega (arith, f, k.round)))) refl))
  where
    k : Linked (s.pt (behind s a q)) (s.pt q)
    k = linked (s.pt (behind s a q)) (s.pt q) l

    two : k.by.dist ≢ 1 → k.by.dist ≡ 2
    two d = omega (arith, d, dist_pos _ _ k.by k.among)
