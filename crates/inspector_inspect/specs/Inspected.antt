-- One inspected round (01: inspector.rs, `inspect`).
use Rattle.std.specs.Prelude.{ℕ, ◌+◌, ◌-◌, ◌/◌, ◌%◌, ◌^◌, ◌<◌, ◌≤◌, ◌≡◌, List, Bool, true, cond, get_or, set, replicate}
use Rattle.std.proofs.Math.Path.{refl, sym, subst}
use Rattle.std.proofs.Common.{ap, ap₂, ◌∙◌, arith, length-set, get_or-set_same, get_or-set_other, eq-eqb, ne_eqb}
use Rattle.std.proofs.Math.Bool.{false}
use Rattle.std.proofs.lemmas.Bool.{false≢true}
use Rattle.std.proofs.Math.ListN.{length}
use Rattle.std.proofs.lemmas.List.{length-replicate}
use Rattle.laws.specs.Test.{by_test, same_or}
use Rattle.laws.specs.Lists.{joined}
use Rattle.laws.specs.Peers.{member}
use Rattle.spec.specs.Store as store
use Rattle.spec.specs.Store.{Store}
use Rattle.spec.specs.Rules.{counts_as_started}
use Rattle.spec.specs.Inspect.{not_referenced, counted, event_bytes}
use Rattle.spec.specs.Inspection.{before, inspected_round}
use Rattle.models.specs.Digest.{Fit}
use Rattle.stats.specs.Counters.{counters_of, no_counters, Below}
use Rattle.stats.specs.declared.MempoolPeerCounters.{MempoolPeerCounters}
use Rattle.answer_bytes.specs.Sent.{kept}
use Rattle.commit_state.specs.View.{record_of}
use Rattle.commit_state.specs.declared.state.State.{State}
use Rattle.tables_test.specs.View.{view}
use Rattle.tables_test.specs.Refines as refines
use Rattle.tables_test.specs.Refines.{Started}
use Rattle.back_history.specs.Refines.{well}
use Rattle.dag_round_order.specs.Span.{span_of}
use Rattle.inspector_counters.specs.Counts.{no_counts, Counted}
use Rattle.inspector_counters.specs.Counters.{assembled, leads}
use Rattle.inspector_counters.proofs.CountersLaws.{peer-counted, peer-few}
use Rattle.inspector_counters.specs.declared.counts.PointCounts.{PointCounts}
use Rattle.dag_round_order.specs.declared.span.Span.{Span}
use Rattle.inspector_rows.specs.Rows.{entries-length}
use Rattle.inspector_not_referenced.specs.Signers.{skipped_by}
use Rattle.inspector_events.specs.declared.emitted.Emitted.{Emitted}
use Rattle.inspector_events.specs.Told.{Ready, Told}
use Rattle.inspector_faults.specs.Sizes.{Short, owed_round}
use Rattle.inspector_inspect.specs.Report.{IsReported, owed_of}
use Rattle.inspector_inspect.specs.declared.round.Reported.{Reported}
use Rattle.inspector_inspect.specs.declared.inspect.Inspected.{Inspected}

-- by how many of the first n rows peer a is reported; by none if it isn't among the signers
unfoldable pub skipped_of : List ℕ → ℕ → ℕ → ℕ → ℕ
skipped_of ss n sg a = cond (member sg a) (skipped_by ss n a) 0

-- the counters of the peers below k: cs are the counts of their points, u the used mark, ss the signers reported by each of the n rows
pub record Peers (cs : List PointCounts) (u : ℕ) (ss : List ℕ) (n sg k : ℕ) (l : List MempoolPeerCounters) : Type 0 where
  pub size : length l ≡ 32
  pub cells : (a : ℕ) → a < k → get_or l a no_counters ≡ assembled (get_or cs a no_counts) (leads u a) (skipped_of ss n sg a)

-- at round r these are the references skipped
pub record Skips (s : State) (ks ls cs os : List ℕ) (r : ℕ) (ss : List ℕ) (n sg : ℕ) : Type 0 where
  pub few : length (before (view s ks ls cs os) r).entries ≤ 128
  pub references : (a : ℕ) → skipped_of ss n sg a ≡ (counted (before (view s ks ls cs os) r) (view s ks ls cs os) r a).references_skipped

-- 01's counters of all peers at round r, each at most 128
abbrev pub CountersAre : State → List ℕ → List ℕ → List ℕ → List ℕ → ℕ → List MempoolPeerCounters → Type 0
CountersAre s ks ls cs os r l = (a : ℕ) → a < 32 → (counters_of (get_or l a no_counters) ≡ counted (before (view s ks ls cs os) r) (view s ks ls cs os) r a) × Below 128 (get_or l a no_counters)

-- what is found at round r
pub record RoundInspected (s : State) (ks ls cs os : List ℕ) (r : ℕ) (x : Inspected) : Type 0 where
  pub counters : CountersAre s ks ls cs os r x.counters
  pub signers : (a : ℕ) → member x.signers a ≡ not_referenced (before (view s ks ls cs os) r) (view s ks ls cs os) r a
  pub size : x.owed.at ≡ length (joined event_bytes (owed_of s ks ls cs os r))
  pub number : x.owed.count ≡ length (owed_of s ks ls cs os r)
  pub few : (x.owed.at ≤ 308_160) × (x.owed.count ≤ 32)

-- ---- the steps of the code

module _ (ss : List ℕ) (n sg a : ℕ) where
  pub skipped_in : (r : ℕ) → sg / 2 ^ a % 2 ≡ 1 → r ≡ skipped_by ss n a → r ≡ skipped_of ss n sg a
  unfolding skipped_of member
  skipped_in r t e = rw (eq-eqb (sg / 2 ^ a % 2) 1 t) e

  pub skipped_out : (sg / 2 ^ a % 2 ≡ 1 → ⊥) → 0 ≡ skipped_of ss n sg a
  unfolding skipped_of member
  skipped_out d = rw (ne_eqb (sg / 2 ^ a % 2) 1 d) refl

module _ (cs : List PointCounts) (u : ℕ) (ss : List ℕ) (n sg : ℕ) where
  pub peers_none : (c : MempoolPeerCounters) → Peers cs u ss n sg 0 (replicate 32 c)
  peers_none c = record { size = length-replicate {A = MempoolPeerCounters} 32 c; cells = λ a l. absurd (omega arith) }

  pub peers_more : (k : ℕ) (l r : List MempoolPeerCounters) (b : Bool) (x : ℕ) (c : MempoolPeerCounters) → Peers cs u ss n sg k l → k < 32 → b ≡ leads u k → x ≡ skipped_of ss n sg k
      → c ≡ assembled (get_or cs k no_counts) b x → r ≡ set l k c → Peers cs u ss n sg (k + 1) r
  peers_more k l r b x c h m e f g d = record {
    size = ap length d ∙ (length-set l k c ∙ h.size);
    cells = λ a o. ap (λ (z : List MempoolPeerCounters). get_or z a no_counters) d ∙ same_or a k
        (λ i. rw i (get_or-set_same l k c no_counters (omega (arith, m, h.size)) ∙ (g ∙ ap₂ (assembled (get_or cs k no_counts)) e f)))
        (λ i. get_or-set_other l k a c no_counters i ∙ h.cells a (omega arith));
  }

  pub peers_end : (k : ℕ) (l : List MempoolPeerCounters) → Peers cs u ss n sg k l → k ≤ 32 → 32 ≤ k → Peers cs u ss n sg 32 l
  peers_end k l h a b = let e : k ≡ 32 = omega arith in rw e at h

module _ (s : State) (ks ls cs os : List ℕ) (fk : Fit ks) (fl : Fit ls) (h : counts_as_started (view s ks ls cs os) ≡ true) (r : ℕ) where
  abbrev v : Store
  v = view s ks ls cs os

  abbrev m : store.Memory
  m = before v r

  abbrev t : Started s ks ls cs os
  t = refines.counted s ks ls cs os fk fl h

  -- a retained round is a small number
  pub retained_low : r ≤ s.top.0 → r ≤ 4_000_000_000
  unfolding view
  retained_low l = omega (arith, l, (well s ks ls cs os fk fl t).high)

  -- the counters, from the counts of the round's points and its used mark
  pub counters_are : s.bottom.0 ≤ r → r ≤ s.top.0 → (x : Span) → x ≡ span_of ks os s.count r → (ps : List PointCounts) → Counted ks cs os x.low (x.high - x.low) ps
      → (ss : List ℕ) (n sg : ℕ) → Skips s ks ls cs os r ss n sg → (l : List MempoolPeerCounters) → Peers ps (record_of s.rounds r).used_anchor_proof ss n sg 32 l → CountersAre s ks ls cs os r l
  unfolding span_of
  counters_are low high x e ps c ss n sg k l q a b =
      let c' = subst (λ (y : Span). Counted ks cs os y.low (y.high - y.low) ps) e c in
      subst (λ (z : MempoolPeerCounters). (counters_of z ≡ counted m v r a) × Below 128 z) (sym (q.cells a b)) (
        peer-counted s ks ls cs os r fk fl t m ps c' low high a b (skipped_of ss n sg a) (k.references a),
        peer-few s ks ls cs os r fk fl t m ps c' low high a b (skipped_of ss n sg a) (k.references a) k.few,
      )

  module _ (rs : List ℕ) (x : Reported) (y : IsReported s ks ls cs os r rs x) where
    entries-few : length m.entries ≤ 128
    entries-few = let e = ap length (sym y.rows.entries) ∙ entries-length rs x.rows in omega (arith, e, y.rows.few)

    -- the references skipped
    pub reported_skips : Skips s ks ls cs os r x.sets x.rows x.signers
    unfolding skipped_of counted
    reported_skips = record {
      few = entries-few;
      references = λ a. by_test (member x.signers a)
          (λ p. rw p (y.owed.skipped a))
          (λ p. let d : not_referenced m v r a ≡ false = sym (y.owed.signers a) ∙ p in rw (p, d) refl);
    }

    short : Short event_bytes 308_160 32 (owed_of s ks ls cs os r)
    short = owed_round v (well s ks ls cs os fk fl t) (inspected_round v r) entries-few

    module _ (b : List ℕ) (e : Emitted) (z : e.at ≡ 0) (o : e.count ≡ 0) where
      -- counting the events asks for nothing
      pub count_ready : Ready event_bytes false b e (owed_of s ks ls cs os r)
      count_ready = record {
        bytes = record { room = λ w. absurd (false≢true w); near = let l = short.bytes in omega (arith, l, z) };
        few = let l = short.few in omega (arith, l, o);
      }

      -- and leaves the buffer
      pub inspected_is : (q : Emitted) (b' : List ℕ) → Told event_bytes false b e (owed_of s ks ls cs os r) q b' → (l : List MempoolPeerCounters) → CountersAre s ks ls cs os r l
          → RoundInspected s ks ls cs os r (record { counters = l; signers = x.signers; owed = q }) × (b' ≡ b)
      unfolding kept
      inspected_is q b' d l c =
          let i : q.at ≡ length (joined event_bytes (owed_of s ks ls cs os r)) = let k = d.sent.next in omega (arith, k, z) in
          let j : q.count ≡ length (owed_of s ks ls cs os r) = let k = d.number in omega (arith, k, o) in (
            record {
              counters = c;
              signers = y.owed.signers;
              size = i;
              number = j;
              few = (let k = short.bytes in omega (arith, i, k), let k = short.few in omega (arith, j, k));
            },
            d.sent.left,
          )
