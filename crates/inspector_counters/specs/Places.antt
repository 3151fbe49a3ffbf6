-- The places of one round by rising position are those of document 01 by rising digest (01: inspector.rs, 'Forms of the Rust').
use Rattle.std.specs.Prelude.{ℕ, zero, suc, ◌+◌, ◌-◌, ◌<◌, ◌≤◌, ◌≡◌, refl, ◌&&◌, length}
use Rattle.std.proofs.Math.Path.{sym, subst}
use Rattle.std.proofs.Common.{ap, ◌∙◌, ⊎_elim, length-append}
use mathlib.Core.List.{List, [], ◌∷◌, Memᴰ}
use Rattle.std.proofs.Math.Bool.{true}
use native.Mathlib.Omega.{arith}
use Rattle.std.proofs.Math.Dec.{eqb, leb}
use borrow.Author.Tests.{eqb-true, eq-eqb, leb-true, leb-false, le-leb}
use Rattle.laws.specs.Test.{both, and_l, and_r, same_or, le_or}
use Rattle.laws.specs.Scan.{those, those_elim, those_intro, those_nodup}
use Rattle.laws.specs.Lists.{Pairs, up_to}
use Rattle.laws.specs.Sort.{sort_mem, sort_once, sort_rises}
use Rattle.spec.specs.Order.{strict}
use Rattle.spec.specs.Store as store
use Rattle.spec.specs.Store.{Store, id_at}
use Rattle.spec.specs.Inspect.{places_in}
use Rattle.spec.specs.Inspection.{round-few}
use Rattle.models.specs.Digest.{Fit}
use Rattle.models.specs.Tables.{round_at, place_at, Used}
use Rattle.commit_state.specs.declared.state.State.{State}
use Rattle.tables_test.specs.View.{view}
use Rattle.tables_test.specs.Whole.{places_is}
use Rattle.tables_test.specs.Refines.{Started}
use Rattle.dag_round_order.specs.Span.{below, below-le, below_low, below_high, span-round}
use Rattle.back_history.specs.RefinesNeeded.{named_used, used_named, used_round}
use Rattle.back_history.specs.Refines.{ordered_one, one, picked, picked_elim, picked_intro, picked_pairs, well, ids_rise}

-- the places at the k positions from low on
abbrev pub between : List ℕ → ℕ → ℕ → List ℕ
between os low k = picked os (λ q. true) low k

-- as many places as positions
between-length : (os : List ℕ) (low k : ℕ) → length (between os low k) ≡ k
unfolding picked up_to one
between-length os low zero = refl
between-length os low (suc k) = length-append (between os low k) (place_at os (low + k) ∷ []) ∙ omega (arith, between-length os low k)

-- the first position of round r, of the n used ones
abbrev pub low_of : State → List ℕ → List ℕ → ℕ → ℕ
low_of s ks os r = below ks os s.count r

-- the first above it
abbrev pub high_of : State → List ℕ → List ℕ → ℕ → ℕ
high_of s ks os r = below ks os s.count (r + 1)

module _ (s : State) (ks ls cs os : List ℕ) (fk : Fit ks) (fl : Fit ls) (t : Started s ks ls cs os) (r : ℕ) where
  -- the store
  abbrev v : Store
  v = view s ks ls cs os

  -- the number of used places
  abbrev n : ℕ
  n = s.count

  -- the first position of the round
  abbrev low : ℕ
  low = low_of s ks os r

  -- the first above it
  abbrev high : ℕ
  high = high_of s ks os r

  -- it is at most the number of used places
  pub high_le : high ≤ n
  high_le = below-le ks os n (r + 1)

  -- the positions of the round hold used places
  pub round_used : (i : ℕ) → i < high → Used os n (place_at os i)
  round_used i h = (i, omega (arith, h, high_le), refl)

  -- a point of the round stands at one of its positions
  round_elim : (q : ℕ) → ((v.pt q).named && eqb (store.round_at v q) r) ≡ true → (i : ℕ) × (low ≤ i) × (i < high) × (place_at os i ≡ q)
  round_elim q h =
      let u : Used os n q = named_used s ks ls cs os fk fl t q (and_l _ _ h) in
      go u (sym (used_round s ks ls cs os fk fl t q u) ∙ eqb-true _ _ (and_r (v.pt q).named _ h))
    where
      go : Used os n q → round_at ks q ≡ r → (i : ℕ) × (low ≤ i) × (i < high) × (place_at os i ≡ q)
      go (i, l, e) d =
          let is : round_at ks (place_at os i) ≡ r = ap (round_at ks) e ∙ d in
          (i, le_or low i (λ k. k) (λ k. absurd (omega (arith, is, below_low ks os n r i k))), le_or high i (λ k. absurd (omega (arith, is, below_high ks os n (r + 1) i t.facts.sorted k l))) (λ k. k), e)

  -- the round at one of its positions
  pub round_at_lem : (i : ℕ) → low ≤ i → i < high → round_at ks (place_at os i) ≡ r
  round_at_lem i l h = span-round ks os n r i t.facts.sorted l h

  -- in the store
  round_is : (i : ℕ) → low ≤ i → i < high → store.round_at v (place_at os i) ≡ r
  round_is i l h = used_round s ks ls cs os fk fl t (place_at os i) (round_used i h) ∙ round_at_lem i l h

  -- what stands there is a point of the round
  round_intro : (i : ℕ) → low ≤ i → i < high → ((v.pt (place_at os i)).named && eqb (store.round_at v (place_at os i)) r) ≡ true
  round_intro i l h = both (used_named s ks ls cs os fk fl t (place_at os i) (round_used i h)) (eq-eqb _ _ (round_is i l h))

  -- the points of the round
  abbrev here : List ℕ
  here = those v.places (λ q. (v.pt q).named && eqb (store.round_at v q) r)

  -- the order of the digests
  abbrev upward : ℕ → ℕ → Type 0
  upward p q = (id_at v p).digest < (id_at v q).digest

  -- a place of 01's list is a point of the round
  in_elim : (q : ℕ) → Memᴰ q (places_in v r) → ((v.pt q).named && eqb (store.round_at v q) r) ≡ true
  unfolding places_in
  in_elim q m = (those_elim v.places (λ q. (v.pt q).named && eqb (store.round_at v q) r) q ((sort_mem _ q here).0 m)).1

  -- it stands at one of the positions
  list_elim : (q : ℕ) → Memᴰ q (places_in v r) → Memᴰ q (between os low (high - low))
  list_elim q m =
      let (i, l, h, e) = round_elim q (in_elim q m) in
      let back : low + (i - low) ≡ i = omega arith in
      subst (λ x. Memᴰ x (between os low (high - low))) (ap (place_at os) back ∙ e) (picked_intro os (λ q. true) low (high - low) (i - low) (omega arith) refl)

  -- and back
  list_intro : (q : ℕ) → Memᴰ q (between os low (high - low)) → Memᴰ q (places_in v r)
  unfolding places_in
  list_intro q m =
      let (j, l, e, y) = picked_elim os (λ q. true) low (high - low) q m in
      let h : low + j < high = omega arith in
      subst (λ x. Memᴰ x (places_in v r)) (sym e)
      ((sort_mem _ (place_at os (low + j)) here).1 (those_intro v.places (λ q. (v.pt q).named && eqb (store.round_at v q) r) (place_at os (low + j))
      (subst (λ x. place_at os (low + j) < x) (sym (places_is s ks ls cs os fk fl t.shaped)) (t.facts.inside (low + j) (omega (arith, h, high_le))))
      (round_intro (low + j) (omega arith) h)))

  -- 01's list rises by digest: a round has no digest twice
  list_rises : Pairs upward (places_in v r)
  unfolding places_in
  list_rises =
      strict (λ p q. leb (id_at v p).digest (id_at v q).digest ≡ true) upward (places_in v r)
      (sort_rises (λ p q. leb (id_at v p).digest (id_at v q).digest) (λ p q f. le-leb (id_at v q).digest (id_at v p).digest (omega (arith, leb-false (id_at v p).digest (id_at v q).digest f)))
      (λ p q x a b. le-leb (id_at v p).digest (id_at v x).digest (omega (arith, leb-true (id_at v p).digest (id_at v q).digest a, leb-true (id_at v q).digest (id_at v x).digest b))) here)
      (sort_once _ here (those_nodup v.places (λ q. (v.pt q).named && eqb (store.round_at v q) r)))
      (λ p q a b l d. same_or (id_at v p).digest (id_at v q).digest
      (λ e. absurd (d (apart p q (in_elim p a) (in_elim q b) e)))
      (λ e. omega (arith, e, leb-true (id_at v p).digest (id_at v q).digest l)))
    where
      apart : (p q : ℕ) → ((v.pt p).named && eqb (store.round_at v p) r) ≡ true → ((v.pt q).named && eqb (store.round_at v q) r) ≡ true → (id_at v p).digest ≡ (id_at v q).digest → p ≡ q
      apart p q a b e =
          (well s ks ls cs os fk fl t).apart p q (and_l _ _ a) (and_l _ _ b)
          (eqb-true _ _ (and_r (v.pt p).named _ a) ∙ sym (eqb-true _ _ (and_r (v.pt q).named _ b))) e

  -- so do the positions
  between-rises : Pairs upward (between os low (high - low))
  between-rises =
      picked_pairs upward os (λ q. true) low (high - low)
      (λ i j l m. ⊎_elim
      (λ h. absurd (omega (arith, h, round_is (low + i) (omega arith) (omega arith), round_is (low + j) (omega arith) (omega arith))))
      (λ h. h.1) (ids_rise s ks ls cs os fk fl t (low + i) (low + j) (omega arith) (omega (arith, m, high_le))))

  -- the places of round r are those from its first position to the next round's
  pub places_in_lem : places_in v r ≡ between os low (high - low)
  places_in_lem = ordered_one upward (λ p q a b. omega (arith, a, b)) (places_in v r) (between os low (high - low)) list_rises between-rises list_elim list_intro

  -- they are at most 128
  pub span-few : below ks os s.count (r + 1) - below ks os s.count r ≤ 128
  span-few = rw (between-length os low (high - low)) at (subst (λ (x : List ℕ). length x ≤ 128) places_in_lem (round-few v (well s ks ls cs os fk fl t) r))
