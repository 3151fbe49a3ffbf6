-- Theorems on the definitions of specs/Inspection.
use Prim.Native.Nat.{ℕ, suc, ◌-◌, ◌≤◌, ◌<◌, max}
use Rattle.std.specs.Prelude.{◌≡◌, refl, ◌⊎◌, true, false, not, ◌&&◌, ltb, length, get_or, take, drop}
use Rattle.std.proofs.Common.{sym, ◌∙◌, ap, inl, inr}
use Rattle.std.proofs.Math.Path.{subst}
use Rattle.std.proofs.Math.Logic.{⊎_elim}
use Rattle.std.proofs.Math.Bool.{Bool}
use mathlib.Core.List.Memᴰ
use mathlib.Core.List.{List, [], ◌∷◌, ◌++◌, map, Memᴰ}
use Rattle.std.proofs.Math.Option.{Option, none, some}
use Rattle.std.proofs.Math.Dec.{eqb}
use Rattle.std.proofs.Math.Seq.{split_at}
use borrow.Author.Tests.{eqb-true, eq-eqb, ne_eqb}
use native.Mathlib.Omega.{arith}
use Rattle.laws.specs.Test.{by_test, clash, both, and_l, le_or}
use Rattle.laws.specs.Lists.{has, has_intro, keep, mem_map, Pairs, append_pairs, picked_pairs}
use Rattle.laws.specs.Bytes.{written}
use Rattle.spec.specs.Ids.{prev}
use Rattle.spec.specs.Store.{Entry, Memory, Store, id_at, status_at, resolved, with_numbers, with_memory}
use Rattle.spec.specs.Inspect.{places_in, of, is_trusted, round_data, holds, larger, greatest, witnessed_by, due, reported, InspectedRound, inspected, memory_after, shown, is_found, is_trans_invalid, is_invalid, is_ill_formed, proofs, authored_then, authored_now, not_referenced, stats_of, ids_of, Event, single, singles, equivocations, no_inclusions, over, events, remove_bytes}
use Rattle.spec.specs.Chain.{Out, bad, good}
use Rattle.spec.specs.Calls.{Outcome, refused, done, new_bottom, drained, removing, do_remove}
use Rattle.spec.specs.WellFormed.{Wf}
use Rattle.spec.specs.Order.{Before}
use Rattle.spec.proofs.Preservation.{new_bottom_lem}
use Rattle.spec.specs.Inspection.{look-test, Lower, Ascending, LowerAt, places_rise, data_rises, is_unreferenced, is_last_unreferenced, reported-none, reported-some, shown_elim, before-keeps, ListsRise, over_elim, onlyif_elim, ids_rise, ids-round, StatsMost, counts_fit, data_few, data_low, after-all}

-- what holds of the store's memory and of what every round leaves, holds of the memory after a remove
pub after-keeps : (P : Memory → Type 0) (s : Store) (r : ℕ) (from : Option ℕ) (b : List ℕ) → P s.memory → ((x : ℕ) → P (round_data s x)) → P (do_remove s r from b).store.memory
unfolding do_remove with_numbers
after-keeps P s r from b h f = go (removing s r b (remove_bytes s low from))
  where
    low : ℕ
    low = new_bottom s (r - s.conf.history_rounds)

    go : (o : Out (List ℕ)) → P (elim o as (λ x. Outcome) [
      | bad n ↦ record { answer = refused n 0; store = s; buffer = b }
      | good bytes ↦ record { answer = done; store = with_memory (drained s low) (memory_after s s.memory (inspected s low)); buffer = written b 0 bytes }
    ]).store.memory
    go (bad n) = h
    go (good bytes) = after-all P s f s.memory (inspected s low) h

-- its entries rise, if they rose before
pub after-rises : (s : Store) → Wf s → (r : ℕ) (from : Option ℕ) (b : List ℕ) → Ascending s.memory.entries → Ascending (do_remove s r from b).store.memory.entries
after-rises s w r from b h = after-keeps (λ m. Ascending m.entries) s r from b h (λ x. data_rises s x w)

-- it has at most 128 entries, if it had no more before
pub after-few : (s : Store) → Wf s → (r : ℕ) (from : Option ℕ) (b : List ℕ) → length s.memory.entries ≤ 128 → length (do_remove s r from b).store.memory.entries ≤ 128
after-few s w r from b h = after-keeps (λ m. length m.entries ≤ 128) s r from b h (data_few s w)

-- they are of peers below 32, if they were before
pub after_low : (s : Store) → Wf s → (r : ℕ) (from : Option ℕ) (b : List ℕ) → ((e : Entry) → Memᴰ e s.memory.entries → e.author < 32) → (e : Entry) → Memᴰ e (do_remove s r from b).store.memory.entries → e.author < 32
after_low s w r from b h = after-keeps (λ m. (e : Entry) → Memᴰ e m.entries → e.author < 32) s r from b h (data_low s w)

pub found_at : (s : Store) (q : ℕ) → is_found s q ≡ (resolved (s.pt q) && ltb (status_at s q) 5)
unfolding is_found
found_at s q = look-test s (λ p. ltb (status_at s p) 5) q

-- ---- the greatest is the last

-- none passes and there is none, or it is the digest of one that passes
greatest_cases : (f : Entry → Bool) (es : List Entry) → ((has f es ≡ false) × (greatest f es ≡ none)) ⊎ ((e : Entry) × Memᴰ e es × (f e ≡ true) × (greatest f es ≡ some e.digest))
unfolding has greatest larger
greatest_cases f [] = inl (refl, refl)
greatest_cases f (x ∷ xs) =
    by_test (f x)
    (λ t. rw t (⊎_elim
    (λ (n, g). inr (x, Memᴰ.head refl, t, rw g refl))
    (λ (e, m, u, g). le_or e.digest x.digest
    (λ l. let d : max x.digest e.digest ≡ x.digest = omega arith in inr (x, Memᴰ.head refl, t, rw (g, d) refl))
    (λ l. let d : max x.digest e.digest ≡ e.digest = omega arith in inr (e, Memᴰ.tail m, u, rw (g, d) refl)))
    (greatest_cases f xs)))
    (λ n. rw n (⊎_elim inl (λ (e, m, u, g). inr (e, Memᴰ.tail m, u, g)) (greatest_cases f xs)))

module _ (f : Entry → Bool) where
  -- a digest before greater ones, of which one passes, changes nothing
  larger_skips : (d : ℕ) (es : List Entry) → ((e : Entry) → Memᴰ e es → d < e.digest) → has f es ≡ true → larger d (greatest f es) ≡ greatest f es
  unfolding larger
  larger_skips d es h t =
      ⊎_elim
      (λ (n, g). absurd (clash t n))
      (λ (e, m, u, g). let l : d < e.digest = h e m in let k : max d e.digest ≡ e.digest = omega arith in rw (g, k) refl)
      (greatest_cases f es)

  -- where digests rise, an entry that passes is the greatest exactly if no later one passes
  pub greatest_last : (xs : List Entry) (e : Entry) (ys : List Entry) → Ascending (xs ++ (e ∷ ys)) → f e ≡ true → holds (greatest f (xs ++ (e ∷ ys))) e.digest ≡ not (has f ys)
  unfolding holds greatest larger
  greatest_last [] e ys p t =
      rw t (⊎_elim
      (λ (n, g). rw (g, n, eq-eqb e.digest e.digest refl) refl)
      (λ (x, m, u, g). let l : e.digest < x.digest = p.0 x m in rw (g, has_intro f ys x m u, ne_eqb (max e.digest x.digest) e.digest (λ k. omega arith)) refl)
      (greatest_cases f ys))
  greatest_last (x ∷ xs) e ys p t =
      by_test (f x)
      (λ u. rw (u, larger_skips x.digest (xs ++ (e ∷ ys)) p.0 (has_intro f (xs ++ (e ∷ ys)) e (Memᴰ.append_right xs (Memᴰ.head refl)) t)) (greatest_last xs e ys p.1 t))
      (λ u. rw u (greatest_last xs e ys p.1 t))

-- where digests rise, exactly that one is reported
pub reported_last : (s : Store) (r a : ℕ) (xs : List Entry) (e : Entry) (ys : List Entry) → Ascending (xs ++ (e ∷ ys)) → reported (xs ++ (e ∷ ys)) s r a e ≡ (e.unreferenced_by a && is_last_unreferenced s r a ys e.previous)
unfolding due holds is_last_unreferenced
reported_last s r a xs e ys p = go e.previous refl
  where
    es : List Entry
    es = xs ++ (e ∷ ys)

    last : (d : ℕ) → e.previous ≡ some d → e.unreferenced_by a ≡ true → holds (greatest (is_unreferenced a d) es) e.digest ≡ not (has (is_unreferenced a d) ys)
    last d h t = greatest_last (is_unreferenced a d) xs e ys p (both t (rw h (eq-eqb d d refl)))

    by_due : (d : ℕ) → e.previous ≡ some d → (e.unreferenced_by a && holds (due es s r a d) e.digest) ≡ (e.unreferenced_by a && is_last_unreferenced s r a ys (some d))
    by_due d h =
        by_test (e.unreferenced_by a)
        (λ t. by_test (witnessed_by s r a d) (λ u. rw (t, u) refl) (λ u. rw (t, u) (last d h t)))
        (λ n. rw n refl)

    go : (o : Option ℕ) → e.previous ≡ o → reported es s r a e ≡ (e.unreferenced_by a && is_last_unreferenced s r a ys e.previous)
    go none h = reported-none es s r a e h ∙ ap (λ o. e.unreferenced_by a && is_last_unreferenced s r a ys o) (sym h)
    go (some d) h = reported-some es s r a e d h ∙ (by_due d h ∙ ap (λ o. e.unreferenced_by a && is_last_unreferenced s r a ys o) (sym h))

-- the same of the entry at k
pub reported_at : (s : Store) (r a : ℕ) (es : List Entry) (k : ℕ) (z : Entry) → k < length es → Ascending es → reported es s r a (get_or es k z) ≡ ((get_or es k z).unreferenced_by a && is_last_unreferenced s r a (drop (suc k) es) (get_or es k z).previous)
reported_at s r a es k z l p =
    let e : es ≡ take k es ++ (get_or es k z ∷ drop (suc k) es) = split_at es k z l in
    ap (λ x. reported x s r a (get_or es k z)) e ∙ reported_last s r a (take k es) (get_or es k z) (drop (suc k) es) (subst Ascending e p)

module _ (s : Store) (w : Wf s) where
  -- an event with an id has no list
  single-rises : (kind : ℕ) (f : Store → ℕ → Bool) (v : InspectedRound) (a : ℕ) (e : Event) → Memᴰ e (singles kind f s v a) → ListsRise e
  unfolding singles
  single-rises kind f v a e m = let (q, k, h) = mem_map (λ q. single kind (id_at s q)) (keep (of (f s) s a) (places_in s v.round)) e m in subst ListsRise h tt

  -- the digests of an equivocation
  equivocation-rises : (v : InspectedRound) (a : ℕ) (e : Event) → Memᴰ e (equivocations s v a) → ListsRise e
  unfolding equivocations
  equivocation-rises v a e m =
      let (t, h) = onlyif_elim _ _ e m in
      subst ListsRise h (picked_pairs (LowerAt s) ◌<◌ (of (is_found s) s a) (λ q. (id_at s q).digest) (λ p q l. l) (places_in s v.round) (places_rise s v.round w))

  -- the proofs and the blamed ids of a round that meets rising entries
  blame_rises : (v : InspectedRound) (a : ℕ) (e : Event) → 0 < v.round → Ascending v.memory.entries → Memᴰ e (no_inclusions s v a) → ListsRise e
  unfolding no_inclusions proofs authored_then authored_now not_referenced
  blame_rises v a e l p m = let (t, h) = onlyif_elim _ _ e m in subst ListsRise h (blamed (eqb-true _ _ (and_l _ _ t)), proofs_rise)
    where
      r : ℕ
      r = v.round

      es : List Entry
      es = v.memory.entries

      blamed : v.memory.last ≡ prev r → Pairs Before (ids_of v.memory.last a (authored_then es a) ++ ids_of r a (authored_now s r a))
      blamed h =
          append_pairs Before (ids_of v.memory.last a (authored_then es a)) (ids_of r a (authored_now s r a))
          (ids_rise v.memory.last a (authored_then es a) (picked_pairs Lower ◌<◌ (λ e. eqb e.author a) (λ e. e.digest) (λ x y l. l) es p))
          (ids_rise r a (authored_now s r a) (picked_pairs (LowerAt s) ◌<◌ (of (is_trusted s) s a) (λ q. (id_at s q).digest) (λ p q l. l) (places_in s r) (places_rise s r w)))
          (λ x y i j. inl (omega (arith, ids-round v.memory.last a (authored_then es a) x i, ids-round r a (authored_now s r a) y j)))

      proofs_rise : Pairs Before (map (λ e. record { round = v.memory.last; author = e.author; digest = e.digest }) (proofs es s r a))
      proofs_rise = picked_pairs Lower Before (reported es s r a) (λ e. record { round = v.memory.last; author = e.author; digest = e.digest }) (λ x y l. inr (refl, l)) es p

  -- "inside a round all lists rise by digest", "Blamed ids have the earlier round first": every list of every event
  pub lists_rise : Ascending s.memory.entries → (b : ℕ) (e : Event) → Memᴰ e (events s b) → ListsRise e
  unfolding events
  lists_rise p b e m =
      part (single-rises 1 is_trans_invalid) m (λ m. part (single-rises 2 is_invalid) m (λ m. part (single-rises 3 is_ill_formed) m (λ m. part equivocation-rises m (λ m. blame m))))
    where
      part : {f : InspectedRound → ℕ → List Event} {es : List Event} → ((v : InspectedRound) (a : ℕ) (e : Event) → Memᴰ e (f v a) → ListsRise e) → Memᴰ e (over f (shown s b) ++ es) → (Memᴰ e es → ListsRise e) → ListsRise e
      part {f} h m g = ⊎_elim (λ k. let (v, n, (a, i)) = over_elim f (shown s b) e k in h v a e i) g (Memᴰ.append_cases (over f (shown s b)) m)

      blame : Memᴰ e (over (no_inclusions s) (shown s b)) → ListsRise e
      blame k =
          let (v, n, (a, i)) = over_elim (no_inclusions s) (shown s b) e k in
          let (x, y, z) = shown_elim s b v n in
          blame_rises v a e (omega arith) (subst (λ (m : Memory). Ascending m.entries) (sym x) (before-keeps (λ m. Ascending m.entries) s v.round p (λ x. data_rises s x w))) i

-- the same for the bottom that a remove moves to
pub remove-fits : (s : Store) → Wf s → length s.memory.entries ≤ 128 → (r : ℕ) (from : Option ℕ) (a : ℕ) → StatsMost 65_408 (stats_of s (new_bottom s r) from a)
remove-fits s w l r from a = counts_fit s w l (new_bottom s r) (new_bottom_lem s w r).1 from a
