-- The rounds that a remove reports, one after the other (01: inspector.rs, `take_stats`, `take_events`).
use Prim.Native.Nat.{ℕ, suc, ◌+◌, ◌-◌, ◌*◌, ◌<◌, ◌≤◌}
use Rattle.std.specs.Prelude.{◌≡◌, Bool, true, ◌&&◌, get_or, set, replicate}
use Rattle.std.proofs.Math.Path.{refl, sym, ap, subst}
use Rattle.std.proofs.Common.{◌∙◌, add-one, length-set, get_or-set_same, get_or-set_other, le-leb}
use mathlib.Core.List.{List}
use Rattle.std.proofs.Math.Option.{Option}
use native.Mathlib.Omega.{arith}
use Rattle.std.proofs.Math.ListN.{length, length-append, length-replicate}
use Rattle.std.proofs.lemmas.List.{get_or-replicate}
use Rattle.laws.specs.Test.{by_test, both, same_or, le_or, cond_yes, cond_no}
use Rattle.laws.specs.Lists.{joined, joined-append, up_to}
use Rattle.laws.specs.Peers.{member}
use Rattle.spec.specs.Store.{Store}
use Rattle.spec.specs.WellFormed.{Wf}
use Rattle.spec.specs.Rules.{counts_as_started}
use Rattle.spec.specs.Inspect as inspect
use Rattle.spec.specs.Inspect.{Event, not_referenced, no_inclusions, event_bytes, since, shown, over}
use Rattle.spec.specs.Inspection.{first_shown, before, inspected_round, has_stats, stats_none}
use Rattle.models.specs.Digest.{Fit}
use Rattle.models.specs.declared.parts.Round.{Round}
use Rattle.stats.specs.Counters.{counters_of}
use Rattle.stats.specs.PeerStats.{stats_of, no_stats, Merged, merged-none, merged-more, merged-same}
use Rattle.stats.specs.declared.peer_stats.MempoolPeerStats.{MempoolPeerStats}
use Rattle.commit_state.specs.View.{round_of, record_of, window}
use Rattle.commit_state.specs.declared.state.State.{State}
use Rattle.tables_test.specs.View.{view}
use Rattle.tables_test.specs.Refines.{counted}
use Rattle.back_history.specs.Refines.{well}
use Rattle.inspector_faults.specs.Refines.{over-rounds}
use Rattle.inspector_inspect.specs.Inspected.{RoundInspected}
use Rattle.inspector_inspect.specs.declared.inspect.Inspected.{Inspected}
use Rattle.inspector_rounds.specs.Merge.{cell_at, counters_at, AllBelow, merged_cell, RoundMerged}
use Rattle.inspector_rounds.specs.declared.Inspection.{Inspection}
use Rattle.inspector_rounds.specs.declared.Added.{Added}

-- the references owed at the first k reported rounds
abbrev pub owed_to : Store → ℕ → List Event
owed_to v k = up_to k (λ j. up_to 32 (no_inclusions v (inspected_round v (first_shown v + j))))

-- cell j holds the signers that are reported at the j-th of them
pub record SignersTo (v : Store) (k : ℕ) (sg : List ℕ) : Type 0 where
  pub room : 512 ≤ length sg
  pub cells : (j : ℕ) → j < k → (a : ℕ) → member (get_or sg j 0) a ≡ not_referenced (before v (first_shown v + j)) v (first_shown v + j) a

-- of all rounds below low
abbrev pub SignersHold : Store → ℕ → List ℕ → Type 0
SignersHold v low sg = SignersTo v (low - first_shown v) sg

-- the counters of all peers over the first k rounds, and the size and the number of the references owed
pub record Summed (s : State) (ks ls cs os : List ℕ) (from : Option ℕ) (k : ℕ) (x : Inspection) : Type 0 where
  pub cells : length x.stats ≡ 32
  pub stats : (a : ℕ) → a < 32 → Merged (view s ks ls cs os) (first_shown (view s ks ls cs os) + k) from a k (cell_at x.stats a)
  pub size : x.owed.at ≡ length (joined event_bytes (owed_to (view s ks ls cs os) k))
  pub number : x.owed.count ≡ length (owed_to (view s ks ls cs os) k)
  pub few : (x.owed.at ≤ k * 308_160) × (x.owed.count ≤ k * 32)

-- with the k-th round, of which the signers are kept
pub record RoundAdded (s : State) (ks ls cs os : List ℕ) (from : Option ℕ) (k : ℕ) (x : Added) : Type 0 where
  pub sum : Summed s ks ls cs os from (k + 1) x.sum
  pub signers : (a : ℕ) → member x.signers a ≡ not_referenced (before (view s ks ls cs os) (first_shown (view s ks ls cs os) + k)) (view s ks ls cs os) (first_shown (view s ks ls cs os) + k) a

-- of all rounds below low, as 01 says
pub record RoundsInspected (s : State) (ks ls cs os : List ℕ) (low : ℕ) (from : Option ℕ) (sg : List ℕ) (x : Inspection) : Type 0 where
  pub stats : (a : ℕ) → a < 32 → stats_of (cell_at x.stats a) ≡ inspect.stats_of (view s ks ls cs os) low from a
  pub size : x.owed.at ≡ length (joined event_bytes (over (no_inclusions (view s ks ls cs os)) (shown (view s ks ls cs os) low)))
  pub number : x.owed.count ≡ length (over (no_inclusions (view s ks ls cs os)) (shown (view s ks ls cs os) low))
  pub signers : SignersHold (view s ks ls cs os) low sg

-- ---- the signers

-- no rounds yet
pub signers_none : (v : Store) (sg : List ℕ) → 512 ≤ length sg → SignersTo v 0 sg
signers_none v sg l = record { room = l; cells = λ j h. absurd (omega arith) }

-- one round more
pub signers_more : (v : Store) (k : ℕ) (sg : List ℕ) → SignersTo v k sg → k < 512 → (x : ℕ) → ((a : ℕ) → member x a ≡ not_referenced (before v (first_shown v + k)) v (first_shown v + k) a) → (sg' : List ℕ) → sg' ≡ set sg k x
    → SignersTo v (k + 1) sg'
signers_more v k sg h l x is sg' e = record {
  room = let n = ap length e ∙ length-set sg k x in let m = h.room in omega (arith, n, m);
  cells = λ j b a. ap (λ (z : List ℕ). member (get_or z j 0) a) e ∙ same_or k j (same j a) (λ n. ap (λ z. member z a) (get_or-set_other sg k j x 0 (λ i. n (sym i))) ∙ h.cells j (below j b n) a);
}
  where
    below : (j : ℕ) → j < k + 1 → (k ≡ j → ⊥) → j < k
    below j b n = le_or k j (λ i. absurd (n (omega arith))) (λ i. i)

    same : (j a : ℕ) → k ≡ j → member (get_or (set sg k x) j 0) a ≡ not_referenced (before v (first_shown v + j)) v (first_shown v + j) a
    same j a i = let m = h.room in subst (λ y. member (get_or (set sg k x) y 0) a ≡ not_referenced (before v (first_shown v + y)) v (first_shown v + y) a) i (ap (λ z. member z a) (get_or-set_same sg k x 0 (omega (arith, l, m))) ∙ is a)

-- ---- the sums

-- the counters of the rounds below low, counted from the first one on
stats_at : (v : Store) (low : ℕ) (from : Option ℕ) (a : ℕ) → inspect.stats_of v (first_shown v + (low - first_shown v)) from a ≡ inspect.stats_of v low from a
stats_at v low from a =
    le_or low (first_shown v)
    (λ l. stats_none v (first_shown v + (low - first_shown v)) from a (omega arith) ∙ sym (stats_none v low from a l))
    (λ l. let e : first_shown v + (low - first_shown v) ≡ low = omega arith in ap (λ x. inspect.stats_of v x from a) e)

module _ (s : State) (ks ls cs os : List ℕ) (from : Option ℕ) where
  -- the store
  abbrev v : Store
  v = view s ks ls cs os

  -- no rounds yet
  pub sum-none : (t : MempoolPeerStats) (x : Inspection) → t ≡ no_stats (record { 0 = 0 }) → x.stats ≡ replicate 32 t → x.owed.at ≡ 0 → x.owed.count ≡ 0 → Summed s ks ls cs os from 0 x
  unfolding up_to joined
  sum-none t x e d at n = record {
    cells = ap length d ∙ length-replicate {A = MempoolPeerStats} 32 t;
    stats = λ a l. subst (Merged v (first_shown v + 0) from a 0) (sym (ap (λ (z : List MempoolPeerStats). cell_at z a) d ∙ (get_or-replicate {A = MempoolPeerStats} 32 a t _ l ∙ e))) (merged-none v (first_shown v + 0) from a 0 (record { 0 = 0 }) (omega arith));
    size = at;
    number = n;
    few = (omega arith, omega arith);
  }

  -- those of all rounds
  pub sum_end : (k low : ℕ) (x : Inspection) (sg : List ℕ) → Summed s ks ls cs os from k x → SignersTo v k sg → k ≡ low - first_shown v → RoundsInspected s ks ls cs os low from sg x
  sum_end k low x sg h g e =
      let i : owed_to v k ≡ over (no_inclusions v) (shown v low) = ap (owed_to v) e ∙ sym (over-rounds v (no_inclusions v) low) in
      record {
        stats = λ a l. (h.stats a l).is ∙ (ap (λ y. inspect.stats_of v (first_shown v + y) from a) e ∙ stats_at v low from a);
        size = h.size ∙ ap (λ (z : List Event). length (joined event_bytes z)) i;
        number = h.number ∙ ap length i;
        signers = subst (λ y. SignersTo v y sg) e g;
      }

  -- the peers of a retained round
  peers_are : (r : ℕ) → s.bottom.0 ≤ r → r ≤ s.top.0 → (record_of s.rounds r).peers ≡ (v.rounds r).peers
  unfolding view window round_of
  peers_are r l h = rw (both (le-leb s.bottom.0 r l) (le-leb r s.top.0 h)) refl

  module _ (k : ℕ) (x : Inspection) (h : Summed s ks ls cs os from k x) where
    -- there is room for one more
    pub sum-few : k ≤ 510 → AllBelow 4_294_967_295 x.stats
    sum-few l a b = let w = (h.stats a b).within.filled in omega (arith, w, l)

    module _ (r : Round) (at : r.0 ≡ first_shown v + k) (low : s.bottom.0 ≤ r.0) (high : r.0 ≤ s.top.0) (l : k ≤ 510) (y : Inspected) (i : RoundInspected s ks ls cs os r.0 y) where
      -- the counters with this round
      module _ (peers : ℕ) (p : peers ≡ (record_of s.rounds r.0).peers) (t : Bool) (q : t ≡ since from r.0) (ys : List MempoolPeerStats) (m : RoundMerged x.stats peers t r y.counters ys) where
        merged : (a : ℕ) → a < 32 → Merged v (first_shown v + (k + 1)) from a (k + 1) (cell_at ys a)
        unfolding merged_cell
        merged a b =
            let e : suc (first_shown v + k) ≡ first_shown v + (k + 1) = omega arith in
            let test : (t && member peers a) ≡ has_stats v from a (first_shown v + k) = (λ j. q j && member ((p ∙ peers_are r.0 low high) j) a) ∙ ap (has_stats v from a) at in
            subst (λ z. Merged v z from a (k + 1) (cell_at ys a)) e
            (rw (add-one k)
            (by_test (has_stats v from a (first_shown v + k))
            (λ yes. merged-more v (first_shown v + k) from a k (cell_at x.stats a) (h.stats a b) (omega arith) r (counters_at y.counters a) (cell_at ys a) at yes (subst (λ z. counters_of (counters_at y.counters a) ≡ inspect.counted (before v z) v z a) at (i.counters a b).0) (i.counters a b).1 l (m.cells a b ∙ cond_yes _ _ _ (test ∙ yes) refl))
            (λ none. subst (Merged v (suc (first_shown v + k)) from a (suc k)) (sym (m.cells a b ∙ cond_no _ _ _ (test ∙ none) refl)) (merged-same v (first_shown v + k) from a k (cell_at x.stats a) (h.stats a b) (omega arith) none))))

        -- what the code returns
        pub sum_more : (z : Inspection) → z.stats ≡ ys → z.owed.at ≡ x.owed.at + y.owed.at → z.owed.count ≡ x.owed.count + y.owed.count → Summed s ks ls cs os from (k + 1) z
        unfolding up_to
        sum_more z d n c =
            let o : ℕ → List Event = λ j. up_to 32 (no_inclusions v (inspected_round v (first_shown v + j))) in
            let f = i.few in
            let g = h.few in
            let u : x.owed.at ≡ length (joined event_bytes (up_to k o)) = h.size in
            let w : y.owed.at ≡ length (joined event_bytes (o k)) = i.size ∙ ap (λ e. length (joined event_bytes (up_to 32 (no_inclusions v (inspected_round v e))))) at in
            let u' : x.owed.count ≡ length (up_to k o) = h.number in
            let w' : y.owed.count ≡ length (o k) = i.number ∙ ap (λ e. length (up_to 32 (no_inclusions v (inspected_round v e)))) at in
            record {
              cells = ap length d ∙ m.size;
              stats = λ a b. subst (λ (q : List MempoolPeerStats). Merged v (first_shown v + (k + 1)) from a (k + 1) (cell_at q a)) (sym d) (merged a b);
              size = rw (add-one k) (n ∙ (λ j. u j + w j) ∙ sym (ap length (joined-append event_bytes (up_to k o) (o k)) ∙ length-append (joined event_bytes (up_to k o)) (joined event_bytes (o k))));
              number = rw (add-one k) (c ∙ (λ j. u' j + w' j) ∙ sym (length-append (up_to k o) (o k)));
              few = (omega (arith, n, f, g), omega (arith, c, f, g));
            }

-- ---- the steps of the code

-- all rounds below low
pub below_all : (k n low f g : ℕ) → k ≤ n → n ≤ k → n ≡ low - f → f ≡ g → k ≡ low - g
below_all k n low f g a b e d = omega arith

-- a round below low is below the top
pub below_top : (f k n low top : ℕ) → n ≡ low - f → k < n → low ≤ top → f + k < top
below_top f k n low top e l h = omega arith

module _ (s : State) (ks ls cs os : List ℕ) (fk : Fit ks) (fl : Fit ls) (go : counts_as_started (view s ks ls cs os) ≡ true) (f k : ℕ) (is : f ≡ first_shown (view s ks ls cs os)) (b : f + k < s.top.0) where
  -- the tables are well formed
  wf : Wf (view s ks ls cs os)
  wf = well s ks ls cs os fk fl (counted s ks ls cs os fk fl go)

  -- at most 511 rounds are reported
  pub next-few : k ≤ 510
  unfolding view
  next-few = let n = wf.few in omega (arith, n, is, b)

  -- the next one is retained
  pub next_in : (r : ℕ) → r ≡ f + k → (s.bottom.0 ≤ r) × (r ≤ s.top.0)
  unfolding view
  next_in r e = (omega (arith, e, is), omega (arith, e, b))

  -- it is a small number
  pub next_low : f + k ≤ 4_000_000_000
  unfolding view
  next_low = let n = wf.high in omega (arith, n, b)

  module _ (from : Option ℕ) (x : Inspection) (h : Summed s ks ls cs os from k x) where
    pub next_ready : (length x.stats ≡ 32) × AllBelow 4_294_967_295 x.stats
    next_ready = (h.cells, sum-few s ks ls cs os from k x h next-few)

    module _ (r : Round) (at : r.0 ≡ f + k) (y : Inspected) (i : RoundInspected s ks ls cs os r.0 y) where
      pub next_owed : (x.owed.at + y.owed.at ≤ 157_469_760) × (x.owed.count + y.owed.count ≤ 16_352)
      next_owed = let n = next-few in let g = h.few in let u = i.few in (omega (arith, n, g, u), omega (arith, n, g, u))

      pub next_added : (t : Bool) → t ≡ since from r.0 → (ys : List MempoolPeerStats) → RoundMerged x.stats (record_of s.rounds r.0).peers t r y.counters ys
          → RoundAdded s ks ls cs os from k (record { sum = record { stats = ys; owed = record { at = x.owed.at + y.owed.at; count = x.owed.count + y.owed.count } }; signers = y.signers })
      next_added t q ys m =
          let e : r.0 ≡ first_shown (view s ks ls cs os) + k = at ∙ ap (λ z. z + k) is in
          let (low, high) = next_in r.0 at in
          record {
            sum = sum_more s ks ls cs os from k x h r e low high next-few y i _ refl t q ys m _ refl refl refl;
            signers = λ a. i.signers a ∙ ap (λ z. not_referenced (before (view s ks ls cs os) z) (view s ks ls cs os) z a) e;
          }
