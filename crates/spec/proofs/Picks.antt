-- Theorems on the definitions of specs/Picks.
use Prim.Native.Nat.{ℕ, zero, suc, ◌≤◌, ◌<◌}
use Rattle.std.specs.Prelude.{◌≡◌, ◌⊎◌, ◌↔◌, Bool, true, false, ◌&&◌, eqb, ltb, length, get_or, take, drop}
use Rattle.std.proofs.Math.Path.{refl, sym, ap}
use Rattle.std.proofs.Common.{◌∙◌, subst, inl, inr, take_all, take-suc, arith}
use Rattle.std.proofs.Math.Logic.{⊎_elim}
use mathlib.Core.List.Memᴰ
use mathlib.Core.List.{List, [], ◌∷◌, ◌++◌, Memᴰ}
use Rattle.std.proofs.Math.Option.{Option, none, some}
use Rattle.std.proofs.Math.Seq.{take-length, split_at}
use borrow.Author.Tests.{eqb-true, eq-eqb, leb-true, le-leb, ltb-true, lt-ltb, not-true}
use Rattle.laws.specs.Test.{by_test, clash, not_no, both, and_l, and_r, only_elim, only_intro, le_or}
use Rattle.laws.specs.Scan.{any, any_elim, any_none, every_elim, every_intro, lowest-some, lowest-none, lowest_finds}
use Rattle.laws.specs.Lists.{has, has_intro, has_elim, Pairs, get_d_in}
use Rattle.spec.specs.Store.{Store, id_at, round_at}
use Rattle.spec.specs.History.{needed, linked_in}
use Rattle.spec.specs.WellFormed.{Wf}
use Rattle.spec.specs.Inspection.{LowerAt}
use Rattle.spec.proofs.OrderInRound.{linked_elim, linked_intro, linked-rises}
use Rattle.spec.specs.Picks.{is_left, is_least, pick, picks, pairs_after, pairs_before}

-- ---- one pick

module _ (s : Store) (a r : ℕ) (done : List ℕ) where
  -- what is left is needed, of the round and not picked
  left_elim : (q : ℕ) → is_left s a r done q ≡ true → (needed s a q ≡ true) × (round_at s q ≡ r) × (Memᴰ q done → ⊥)
  unfolding is_left
  left_elim q h =
      let t = and_r (needed s a q) _ h in
      (and_l _ _ h, eqb-true _ _ (and_l _ _ t), λ m. clash (has_intro (eqb q) done q m (eq-eqb q q refl)) (not-true _ (and_r (eqb (round_at s q) r) _ t)))

  -- and all that is
  left_intro : (q : ℕ) → needed s a q ≡ true → round_at s q ≡ r → (Memᴰ q done → ⊥) → is_left s a r done q ≡ true
  unfolding is_left
  left_intro q h e out =
      both h (both (eq-eqb _ _ e) (not_no (by_test (has (eqb q) done)
      (λ t. absurd (let (p, m, d) = has_elim (eqb q) done t in out (Memᴰ.cast (eqb-true q p d) m)))
      (λ n. n))))

  -- the least one is left, and none that is left is below it
  least_elim : (q : ℕ) → is_least s a r done q ≡ true → (is_left s a r done q ≡ true) × ((p : ℕ) → p < s.places → is_left s a r done p ≡ true → (id_at s q).digest ≤ (id_at s p).digest)
  unfolding is_least
  least_elim q h = (and_l _ _ h, λ p l t. leb-true _ _ (only_elim (is_left s a r done p) _ (every_elim s.places _ (and_r (is_left s a r done q) _ h) p l) t))

  -- such a one is least
  least_intro : (q : ℕ) → is_left s a r done q ≡ true → ((p : ℕ) → p < s.places → is_left s a r done p ≡ true → (id_at s q).digest ≤ (id_at s p).digest) → is_least s a r done q ≡ true
  unfolding is_least
  least_intro q h m = both h (every_intro s.places _ (λ p l. only_intro (is_left s a r done p) _ (λ t. le-leb _ _ (m p l t))))

  -- "the needed point of least digest not yet picked"
  pub pick_some : (q : ℕ) → pick s a r done ≡ some q → (q < s.places) × (is_left s a r done q ≡ true) × ((p : ℕ) → p < s.places → is_left s a r done p ≡ true → (id_at s q).digest ≤ (id_at s p).digest)
  unfolding pick
  pick_some q h = let (l, t) = lowest-some s.places (is_least s a r done) q h in let (u, m) = least_elim q t in (l, u, m)

  -- where one is left, one is least: that one, or one below it; its digest is at most k
  least_under : (k q : ℕ) → (id_at s q).digest ≤ k → q < s.places → is_left s a r done q ≡ true → (j : ℕ) × (j < s.places) × (is_least s a r done j ≡ true)
  least_under zero q b l t = (q, l, least_intro q t (λ p m u. omega arith))
  least_under (suc k) q b l t =
      by_test (any s.places under)
      (λ h. let (p, m, u) = any_elim s.places under h in
      least_under k p (omega (arith, b, ltb-true (id_at s p).digest (id_at s q).digest (and_r (is_left s a r done p) _ u))) m (and_l _ _ u))
      (λ h. (q, l, least_intro q t (λ p m u. le_or (id_at s q).digest (id_at s p).digest (λ c. c) (λ c. absurd (any_none s.places under h p m (both u (lt-ltb _ _ c)))))))
    where
      under : ℕ → Bool
      under p = is_left s a r done p && ltb (id_at s p).digest (id_at s q).digest

  -- nothing is picked, so nothing is left
  none_left : pick s a r done ≡ none → (q : ℕ) → q < s.places → is_left s a r done q ≡ false
  unfolding pick
  none_left h q l =
      by_test (is_left s a r done q)
      (λ t. let (j, m, u) = least_under (id_at s q).digest q (omega arith) l t in absurd (clash u (lowest-none s.places (is_least s a r done) h j m)))
      (λ n. n)

  -- nothing is left, so nothing is picked
  left-none : ((q : ℕ) → q < s.places → is_left s a r done q ≡ false) → pick s a r done ≡ none
  left-none h = go (pick s a r done) refl
    where
      go : (o : Option ℕ) → pick s a r done ≡ o → pick s a r done ≡ none
      go none e = e
      go (some q) e = let (l, t, m) = pick_some q e in absurd (clash t (h q l))

  -- "none exactly when all are"
  pub pick-none : (pick s a r done ≡ none) ↔ ((q : ℕ) → q < s.places → is_left s a r done q ≡ false)
  pick-none = (none_left, left-none)

  -- the only one of least digest is picked
  pick-only : (q : ℕ) → q < s.places → is_left s a r done q ≡ true → ((p : ℕ) → p < s.places → is_left s a r done p ≡ true → (p ≡ q) ⊎ LowerAt s q p) → pick s a r done ≡ some q
  unfolding pick
  pick-only q l t m =
      let (j, e) = lowest_finds s.places (is_least s a r done) q l (least_intro q t (λ p k u. ⊎_elim (λ d. rw d (omega arith)) (λ d. omega arith) (m p k u))) in
      let (k, u, low) = pick_some j e in
      e ∙ ap some (⊎_elim (λ d. d) (λ d. absurd (omega (arith, d, low q l t))) (m j k u))

-- once all are picked there is none
pub pick_end : (s : Store) (a r : ℕ) → pick s a r (linked_in s a r) ≡ none
pick_end s a r = (pick-none s a r (linked_in s a r)).1 (λ q l. by_test (is_left s a r (linked_in s a r) q)
    (λ t. let (h, e, out) = left_elim s a r (linked_in s a r) q t in absurd (out (linked_intro s a r q l h e)))
    (λ n. n))

module _ (s : Store) (w : Wf s) (a : ℕ) (there : (s.pt a).named ≡ true) (r : ℕ) where
  -- the linked points
  abbrev all : List ℕ
  all = linked_in s a r

  -- after k picks the next linked point is picked
  pub pick_next : (k : ℕ) → k < length (linked_in s a r) → pick s a r (take k (linked_in s a r)) ≡ some (get_or (linked_in s a r) k 0)
  pick_next k l =
      pick-only s a r (take k all) q i.0
      (left_intro s a r (take k all) q i.1 i.2 (λ m. omega (arith, pairs_before (LowerAt s) (take k all) (drop (suc k) all) q rise q m)))
      rest
    where
      q : ℕ
      q = get_or all k 0

      i : (q < s.places) × (needed s a q ≡ true) × (round_at s q ≡ r)
      i = linked_elim s a r q (get_d_in all k 0 l)

      cut : all ≡ take k all ++ (q ∷ drop (suc k) all)
      cut = split_at all k 0 l

      rise : Pairs (LowerAt s) (take k all ++ (q ∷ drop (suc k) all))
      rise = subst (Pairs (LowerAt s)) cut (linked-rises s w a there r)

      rest : (p : ℕ) → p < s.places → is_left s a r (take k all) p ≡ true → (p ≡ q) ⊎ LowerAt s q p
      rest p b t = let (h, e, out) = left_elim s a r (take k all) p t in
          ⊎_elim (λ m. absurd (out m)) (λ m. ⊎_elim inl (λ n. inr (pairs_after (LowerAt s) (take k all) (drop (suc k) all) q rise p n)) (Memᴰ.cases_cons m))
          (Memᴰ.append_cases (take k all) (subst (Memᴰ p) cut (linked_intro s a r p b h e)))

  -- k picks are the first k linked points
  pub picks-sorted : (k : ℕ) → picks s a r k ≡ take k (linked_in s a r)
  unfolding picks
  picks-sorted zero = refl
  picks-sorted (suc k) =
      ap (λ (l : List ℕ). elim (pick s a r l) [ none ↦ l | some q ↦ l ++ q ∷ [] ]) (picks-sorted k)
      ∙ le_or (length all) k
      (λ h. rw (take_all k all h, pick_end s a r) (take_all k all h ∙ sym (take_all (suc k) all (omega arith))))
      (λ h. rw (pick_next k h) (sym (take-suc all k 0 h)))

  -- so all of them are picked, and then none
  pub picks-all : (picks s a r (length (linked_in s a r)) ≡ linked_in s a r) × (pick s a r (linked_in s a r) ≡ none)
  picks-all = (picks-sorted (length all) ∙ take-length all, pick_end s a r)
