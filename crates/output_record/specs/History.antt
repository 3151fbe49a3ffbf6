-- A history is the list of the places picked (01: back.rs, 'History').
use Rattle.std.specs.Prelude.{ℕ, ◌<◌, ◌≤◌, ◌-◌, ◌+◌, ◌≡◌, refl, Bool, true, eqb, leb, ltb}
use Rattle.std.proofs.Math.Path.{sym, ap}
use Rattle.std.proofs.Common.{◌∙◌, inl, inr, ⊎_elim}
use mathlib.Core.List.Memᴰ
use mathlib.Core.List.{List, [], ◌∷◌, map, Memᴰ}
use native.Mathlib.Omega.{arith}
use borrow.Author.Tests.{eqb-true, eqb-false, leb-true, ltb-true, le-leb, lt-ltb}
use Rattle.laws.specs.Test.{by_test, clash, both, and_l, and_r, or_cases}
use Rattle.laws.specs.Lists.{Pairs, NoDup, map_mem, mem_map, map_pairs, weigh, weigh_by}
use Rattle.spec.specs.Store.{Point, Resolution, Store, id_at, resolved}
use Rattle.spec.specs.History.{in_history, history, summed}
use Rattle.spec.proofs.OrderInRound.{summed-over}
use Rattle.spec.specs.Order.{Before}
use Rattle.spec.proofs.Order.{history_named, history_elim, history_intro, history-rises}
use Rattle.spec.specs.WellFormed.{Wf}
use Rattle.models.specs.Digest.{Fit}
use Rattle.models.specs.Tables.{status_at, place_at, Used}
use Rattle.dag_round_keys.specs.Key.{key, before}
use Rattle.dag_round_keys.specs.Sorted.{Sorted, sorted_apart}
use Rattle.dag_round_keys.specs.Digest.{before_is}
use Rattle.commit_state.specs.View.{given_at, resolution_at, point_at}
use Rattle.commit_state.specs.declared.state.State.{State}
use Rattle.tables_test.specs.View.{view, seen_used, seen_given, seen_named}
use Rattle.answer_bytes.specs.Bytes.{place_id}
use Rattle.back_history.specs.Model.{is_uncommitted}
use Rattle.back_history.specs.Refines.{ordered_one, before_asym, picked, picked_elim, picked_intro, picked_pairs}
use Rattle.output_record.specs.Picked.{is_picked}

-- the marks m, in the positions from low to high - 1 of n, say which places are of the history of the anchor at a
abbrev pub Picks : Store → ℕ → List ℕ → ℕ → List Bool → List ℕ → ℕ → ℕ → Type 0
Picks v a os n m cs low high = (j : ℕ) → j < n → in_history v a (place_at os j) ≡ is_picked os m cs low high j

-- a key that comes before another is that of an id that does
key-before : (ks : List ℕ) (p q : ℕ) → Fit ks → before (key ks p) (key ks q) ≡ true → Before (place_id ks p) (place_id ks q)
key-before ks p q f h =
    ⊎_elim (λ l. inl (ltb-true _ _ l)) (λ t. inr (eqb-true _ _ (and_l _ _ t), ltb-true _ _ (and_r (eqb (place_id ks p).round (place_id ks q).round) _ t)))
    (or_cases _ _ (sym (before_is ks ks p q f f) ∙ h))

-- the ids of the places picked rise
picked-rises : (ks os : List ℕ) (f : ℕ → Bool) (low n k : ℕ) → Fit ks → Sorted ks os n → k ≤ n → Pairs Before (map (place_id ks) (picked os f low (k - low)))
picked-rises ks os f low n k fk so l =
    map_pairs (λ p q. before (key ks p) (key ks q) ≡ true) Before (place_id ks) (λ p q h. key-before ks p q fk h) (picked os f low (k - low))
    (picked_pairs (λ p q. before (key ks p) (key ks q) ≡ true) os f low (k - low) (λ i j a b. so (low + i) (low + j) (omega arith) (omega arith)))

-- a list of places that are apart
apart_nodup : (l : List ℕ) → Pairs (λ p q. p ≡ q → ⊥) l → NoDup l
apart_nodup [] p = tt
apart_nodup (x ∷ xs) p = ((λ m. p.0 x m refl), apart_nodup xs p.1)

-- a position counted from low on
from_low : (low j : ℕ) → low ≤ j → low + (j - low) ≡ j
from_low low j l = omega arith

module _ (s : State) (ks ls cs os : List ℕ) (fk : Fit ks) (w : Wf (view s ks ls cs os)) (so : Sorted ks os s.count) where
  abbrev v : Store
  v = view s ks ls cs os

  -- the id of a used place
  pub id_seen : (q : ℕ) → Used os s.count q → id_at v q ≡ place_id ks q
  unfolding view point_at
  id_seen q u = ap (λ (p : Point). p.id) (seen_used ks ls cs os s.count q u)

  -- the named places are the used ones
  named_used : (q : ℕ) → (v.pt q).named ≡ true → Used os s.count q
  unfolding view
  named_used q h = seen_named ks ls cs os s.count q h

  pub used_named : (q : ℕ) → Used os s.count q → (v.pt q).named ≡ true
  unfolding view point_at
  used_named q u = ap (λ (p : Point). p.named) (seen_used ks ls cs os s.count q u)

  -- a resolved point holds what it was given
  given_is : (q : ℕ) → Used os s.count q → resolved (v.pt q) ≡ true → (v.pt q).resolution ≡ given_at ks ls q
  unfolding view resolved point_at resolution_at
  given_is q u h =
      let e = ap (λ (p : Point). resolved p) (seen_used ks ls cs os s.count q u) in
      by_test (eqb (status_at ks q) 0) (λ z. absurd (clash (sym e ∙ h) (rw z refl))) (λ z. seen_given ks ls cs os s.count q u (let n : status_at ks q ≡ 0 → ⊥ = eqb-false (status_at ks q) 0 z in omega arith))

  module _ (a : ℕ) (ua : Used os s.count a) (m : List Bool) (low high : ℕ) (lh : high ≤ s.count) (pk : Picks v a os s.count m cs low high) where
    -- a point of the history stands at a used place
    pub history_used : (q : ℕ) → in_history v a q ≡ true → Used os s.count q
    history_used q h = named_used q (history_named v w a (used_named a ua) q h)

    -- the places picked are those of the history
    picked_in_lem : (q : ℕ) → in_history v a q ≡ true → Memᴰ q (picked os (is_uncommitted cs m) low (high - low))
    unfolding is_picked
    picked_in_lem q t =
        let (j, l, d) = history_used q t in
        let k = sym (pk j l) ∙ (ap (in_history v a) d ∙ t) in
        let lo : low ≤ j = leb-true low j (and_l _ _ (and_r (ltb j high) _ k)) in
        let hi : j < high = ltb-true j high (and_l _ _ k) in
        let at : place_at os (low + (j - low)) ≡ place_at os j = ap (place_at os) (from_low low j lo) in
        Memᴰ.cast (sym d ∙ sym at) (picked_intro os (is_uncommitted cs m) low (high - low) (j - low) (omega arith) (ap (is_uncommitted cs m) at ∙ and_r (leb low j) _ (and_r (ltb j high) _ k)))

    picked_out : (q : ℕ) → Memᴰ q (picked os (is_uncommitted cs m) low (high - low)) → Used os s.count q × (in_history v a q ≡ true)
    unfolding is_picked
    picked_out q t =
        let (j, l, d, k) = picked_elim os (is_uncommitted cs m) low (high - low) q t in
        ((low + j, omega arith, sym d), ap (in_history v a) d ∙ (pk (low + j) (omega arith) ∙ both (lt-ltb (low + j) high (omega arith)) (both (le-leb low (low + j) (omega arith)) k)))

    -- the history is the list of their ids
    pub history_is : history v a ≡ map (place_id ks) (picked os (is_uncommitted cs m) low (high - low))
    history_is =
        ordered_one Before before_asym (history v a) (map (place_id ks) (picked os (is_uncommitted cs m) low (high - low))) (history-rises v w a (used_named a ua)) (picked-rises ks os (is_uncommitted cs m) low s.count high fk so lh)
        (λ x h. let (q, t, e) = history_elim v w a (used_named a ua) x h in Memᴰ.cast (sym e ∙ id_seen q (history_used q t)) (map_mem (place_id ks) _ q (picked_in_lem q t)))
        (λ x h. let (q, t, e) = mem_map (place_id ks) _ x h in let (u, k) = picked_out q t in Memᴰ.cast (sym e ∙ sym (id_seen q u)) (history_intro v w a (used_named a ua) q k))

    -- a number that each point was given, summed over them, if all are resolved: 02, N2, "over its history"
    pub sum_is : (f : Resolution → ℕ) → ((q : ℕ) → Used os s.count q → q < v.places) → ((q : ℕ) → q < v.places → in_history v a q ≡ true → resolved (v.pt q) ≡ true)
        → weigh (λ q. f (given_at ks ls q)) (picked os (is_uncommitted cs m) low (high - low)) ≡ summed f v a
    sum_is f inside ready =
        weigh_by (λ q. f (given_at ks ls q)) (λ q. f (v.pt q).resolution) (picked os (is_uncommitted cs m) low (high - low))
        (λ q h. let (u, k) = picked_out q h in ap f (sym (given_is q u (ready q (inside q u) k))))
        ∙ summed-over v a f (picked os (is_uncommitted cs m) low (high - low))
        (apart_nodup (picked os (is_uncommitted cs m) low (high - low)) (picked_pairs (λ p q. p ≡ q → ⊥) os (is_uncommitted cs m) low (high - low) (λ i j b c d. let e = sorted_apart ks os s.count (low + i) (low + j) so (omega arith) (omega arith) d in omega (arith, e, b))))
        (λ q. ((λ h. let (u, k) = picked_out q h in (inside q u, k)), λ (l, k). picked_in_lem q k))
