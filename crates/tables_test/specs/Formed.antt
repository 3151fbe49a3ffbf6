-- Links and evidence as 11 tests them.
use Prim.Native.Nat.{ℕ, zero, suc, ◌+◌, ◌-◌, ◌≤◌, ◌<◌}
use Rattle.std.specs.Prelude.{◌≡◌, Bool, ◌&&◌, eqb, ltb, length}
use Rattle.std.proofs.Math.Path.{refl, subst}
use Rattle.std.proofs.Common.{sym}
use Rattle.std.proofs.Math.Bool.{true}
use mathlib.Core.List.Memᴰ
use mathlib.Core.List.{List, [], ◌∷◌, Memᴰ}
use native.Mathlib.Omega.{arith}
use Rattle.std.proofs.Math.Dec.{leb}
use borrow.Author.Tests.{lt-ltb, ltb-true, le-leb, leb-true, eqb-true, eq-eqb}
use Rattle.laws.specs.Test.{by_test, both, and_l, and_r, le_or, only, only_elim, only_intro}
use Rattle.spec.specs.Ids.{Ref}
use Rattle.spec.specs.Rules.{peers_ascend, refs_ok, well_formed}
use Rattle.models.specs.Tables.{round_at, status_at, evidence_at, target_at, dist, proof_author_at}
use Rattle.tables_links.specs.Ruled.{Bare}
use Rattle.commit_state.specs.View.{refs_from, given_at}
use Rattle.tables_test.specs.Refs.{ref_at, refs_elim, refs_intro}

-- one more reference, under a lower peer
rise_more : (r : Ref) (rs : List Ref) → r.peer < 32 → ((x : Ref) → Memᴰ x rs → r.peer < x.peer) → peers_ascend rs ≡ true → peers_ascend (r ∷ rs) ≡ true
unfolding peers_ascend
rise_more r [] l h e = both (lt-ltb _ _ l) refl
rise_more r (x ∷ xs) l h e = both (lt-ltb _ _ l) (both (lt-ltb _ _ (h x (Memᴰ.head refl))) e)

module _ (ls : List ℕ) (q b : ℕ) where
  pub refs_rise : (k m : ℕ) → k + m ≤ 32 → peers_ascend (refs_from ls q b k m) ≡ true
  unfolding refs_from peers_ascend
  refs_rise k zero l = refl
  refs_rise k (suc m) l =
      let e = refs_rise (k + 1) m (omega arith) in
      by_test (ltb 0 (target_at ls q (b + k)))
      (λ t. rw (t, refs_from) (rise_more (ref_at ls q b k) (refs_from ls q b (k + 1) m) (omega arith) (λ x y. let (j, i, u, a, d) = refs_elim ls q b (k + 1) m x y in rw d (omega arith)) e))
      (λ f. rw (f, refs_from) e)

  pub refs_length : (k m : ℕ) → length (refs_from ls q b k m) ≤ m
  unfolding refs_from
  refs_length k zero = omega arith
  refs_length k (suc m) =
      let r = refs_length (k + 1) m in
      by_test (ltb 0 (target_at ls q (b + k))) (λ t. rw (t, refs_from) (omega arith)) (λ f. rw (f, refs_from) (omega arith))

  abbrev refs : List Ref
  refs = refs_from ls q b 0 32

  nothing : (l : List Ref) → length l ≡ 0 → (x : Ref) → Memᴰ x l → ⊥
  nothing [] e x m = Memᴰ.not-nil m
  nothing (y ∷ ys) e x m = omega arith

  -- no reference
  empty_elim : eqb (length refs) 0 ≡ true → (j : ℕ) → j < 32 → 0 < target_at ls q (b + j) → ⊥
  empty_elim h j l t = nothing refs (eqb-true _ _ h) (ref_at ls q b j) (refs_intro ls q b 0 32 j (omega arith) (omega arith) t)

  empty_intro : ((j : ℕ) → j < 32 → 0 < target_at ls q (b + j) → ⊥) → eqb (length refs) 0 ≡ true
  empty_intro h = go refs refl
    where
      go : (l : List Ref) → refs ≡ l → eqb (length l) 0 ≡ true
      go [] e = refl
      go (x ∷ xs) e = let (j, i, u, t, d) = refs_elim ls q b 0 32 x (subst (Memᴰ x) (sym e) (Memᴰ.head refl)) in absurd (h j (omega arith) t)

  -- references that lead d rounds down from round r
  kind_elim : (d r : ℕ) → refs_ok d r refs ≡ true → (j : ℕ) → j < 32 → 0 < target_at ls q (b + j) → d ≤ r
  unfolding refs_ok
  kind_elim d r h j l t = le_or d r (λ m. m) (λ m. absurd (empty_elim (only_elim (ltb r d) _ (and_r (peers_ascend refs) _ (and_r (leb (length refs) 32) _ h)) (lt-ltb _ _ m)) j l t))

  kind_intro : (d r : ℕ) → ((j : ℕ) → j < 32 → 0 < target_at ls q (b + j) → d ≤ r) → refs_ok d r refs ≡ true
  unfolding refs_ok
  kind_intro d r h = both (le-leb _ _ (refs_length 0 32)) (both (refs_rise 0 32 (omega arith)) (only_intro (ltb r d) _ (λ s. empty_intro (λ j l t. let m = ltb-true r d s in let k = h j l t in omega arith))))

-- what 11 tests of a resolved place
module _ (ks ls : List ℕ) (q : ℕ) where
  abbrev bare_test : Bool
  bare_test = only (leb 4 (status_at ks q)) (eqb (length (refs ls q 0)) 0 && (eqb (length (refs ls q 32)) 0 && eqb (evidence_at ls q) 0))

  abbrev author_test : Bool
  author_test = ltb (proof_author_at ls q) 32 && bare_test

  -- the peer and the base of link k
  halves : (k : ℕ) → k < 64 → (A : Type 0) → ((j : ℕ) → j < 32 → k ≡ 0 + j → dist k ≡ 1 → A) → ((j : ℕ) → j < 32 → k ≡ 32 + j → dist k ≡ 2 → A) → A
  halves k l A f g = le_or 32 k (λ m. g (k - 32) (omega arith) (omega arith) (omega arith)) (λ m. f k (omega arith) (omega arith) (omega arith))

  pub formed_elim : well_formed (round_at ks q) (given_at ks ls q) ≡ true → (status_at ks q ≤ 5) × Bare ks ls q × (proof_author_at ls q < 32)
  unfolding well_formed
  formed_elim h =
      let a : (refs_ok 1 (round_at ks q) (refs ls q 0) && (refs_ok 2 (round_at ks q) (refs ls q 32) && author_test)) ≡ true = and_r (ltb 0 (status_at ks q) && leb (status_at ks q) 5) _ h in
      let c : (refs_ok 2 (round_at ks q) (refs ls q 32) && author_test) ≡ true = and_r (refs_ok 1 (round_at ks q) (refs ls q 0)) _ a in
      let d : author_test ≡ true = and_r (refs_ok 2 (round_at ks q) (refs ls q 32)) _ c in
      (leb-true _ _ (and_r (ltb 0 (status_at ks q)) _ (and_l (ltb 0 (status_at ks q) && leb (status_at ks q) 5) _ h)), bare (and_l (refs_ok 1 (round_at ks q) (refs ls q 0)) _ a) (and_l (refs_ok 2 (round_at ks q) (refs ls q 32)) author_test c) (and_r (ltb (proof_author_at ls q) 32) bare_test d), ltb-true _ _ (and_l (ltb (proof_author_at ls q) 32) bare_test d))
    where
      bare : refs_ok 1 (round_at ks q) (refs ls q 0) ≡ true → refs_ok 2 (round_at ks q) (refs ls q 32) ≡ true → bare_test ≡ true → Bare ks ls q
      bare x y z = record {
        links = λ k s l t. halves k l ((status_at ks q ≤ 3) × (dist k ≤ round_at ks q))
            (λ j m e d. let u : 0 < target_at ls q (0 + j) = subst (λ i. 0 < target_at ls q i) e t in
            (le_or 4 (status_at ks q) (λ f. absurd (empty_elim ls q 0 (and_l (eqb (length (refs ls q 0)) 0) _ (only_elim (leb 4 (status_at ks q)) _ z (le-leb _ _ f))) j m u)) (λ f. omega arith), let w = kind_elim ls q 0 1 (round_at ks q) x j m u in omega arith))
            (λ j m e d. let u : 0 < target_at ls q (32 + j) = subst (λ i. 0 < target_at ls q i) e t in
            (le_or 4 (status_at ks q) (λ f. absurd (empty_elim ls q 32 (and_l (eqb (length (refs ls q 32)) 0) _ (and_r (eqb (length (refs ls q 0)) 0) _ (only_elim (leb 4 (status_at ks q)) _ z (le-leb _ _ f)))) j m u)) (λ f. omega arith), let w = kind_elim ls q 32 2 (round_at ks q) y j m u in omega arith));
        evidence = λ l. eqb-true _ _ (and_r (eqb (length (refs ls q 32)) 0) _ (and_r (eqb (length (refs ls q 0)) 0) _ (only_elim (leb 4 (status_at ks q)) _ z (le-leb _ _ l))));
      }

  pub formed_intro : 0 < status_at ks q → status_at ks q ≤ 5 → Bare ks ls q → proof_author_at ls q < 32 → well_formed (round_at ks q) (given_at ks ls q) ≡ true
  unfolding well_formed
  formed_intro s m r a =
      both (both (lt-ltb _ _ s) (le-leb _ _ m))
      (both (kind_intro ls q 0 1 (round_at ks q) (λ j l t. let w = (r.links (0 + j) s (omega arith) t).1 in omega arith))
      (both (kind_intro ls q 32 2 (round_at ks q) (λ j l t. let w = (r.links (32 + j) s (omega arith) t).1 in omega arith))
      (both (lt-ltb _ _ a)
      (only_intro (leb 4 (status_at ks q)) _ (λ i. let f = leb-true 4 (status_at ks q) i in
      both (empty_intro ls q 0 (λ j l t. let w = (r.links (0 + j) s (omega arith) t).0 in omega arith))
      (both (empty_intro ls q 32 (λ j l t. let w = (r.links (32 + j) s (omega arith) t).0 in omega arith)) (eq-eqb _ _ (r.evidence f))))))))
