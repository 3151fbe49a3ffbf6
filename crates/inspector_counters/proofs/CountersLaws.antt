-- Theorems on the definitions of specs/Counters.
use Rattle.std.specs.Prelude.{ℕ, zero, suc, ◌-◌, ◌<◌, ◌≤◌, ◌≡◌, List, Bool, false, cond, eqb, ltb, length, get_or}
use Rattle.std.proofs.Math.Path.{refl, ap}
use Rattle.std.proofs.Common.{sym, subst, ◌∙◌, arith, ne_eqb, le-leb}
use Rattle.laws.specs.Test.{both}
use Rattle.spec.specs.Store as store
use Rattle.spec.specs.Store.{Store}
use Rattle.spec.specs.Inspect.{one, holds, counted}
use Rattle.spec.specs.Inspection.{AtMost, counted_most}
use Rattle.models.specs.Digest.{Fit}
use Rattle.stats.specs.Counters.{counters_of, nine, Below, with_skipped, sum16-first}
use Rattle.stats.specs.declared.MempoolPeerCounters.{MempoolPeerCounters}
use Rattle.commit_state.specs.View.{option_of, window, round_of, record_of}
use Rattle.commit_state.specs.declared.state.State.{State}
use Rattle.tables_test.specs.View.{view}
use Rattle.tables_test.specs.Refines.{Started}
use Rattle.back_history.specs.Refines.{well}
use Rattle.inspector_counters.specs.Places.{low_of, high_of}
use Rattle.inspector_counters.specs.Tests.{test_of}
use Rattle.inspector_counters.specs.Count.{count_of}
use Rattle.inspector_counters.proofs.Count.{count_is, has_is}
use Rattle.inspector_counters.specs.Counts.{counts_to, no_counts, Counted}
use Rattle.inspector_counters.specs.declared.tests.PointTest.TheVariants.{Found, Valid, Proved, TransInvalid, Invalid, IllFormed}
use Rattle.inspector_counters.specs.declared.counts.PointCounts.{PointCounts}
use Rattle.inspector_counters.specs.Counters.{assembled, leads, leads_is}

module _ (s : State) (ks ls cs os : List ℕ) (r : ℕ) where
  -- the store
  abbrev v : Store
  v = view s ks ls cs os

  -- the leader of a retained round
  pub leader_is : s.bottom.0 ≤ r → r ≤ s.top.0 → (a : ℕ) → leads (record_of s.rounds r).used_anchor_proof a ≡ holds (v.rounds r).used a
  unfolding view window round_of
  leader_is l h a =
      let e : round_of (record_of s.rounds r) ≡ v.rounds r = rw (both (le-leb s.bottom.0 r l) (le-leb r s.top.0 h)) refl in
      leads_is (record_of s.rounds r).used_anchor_proof a ∙ ap (λ (x : store.Round). holds x.used a) e

  -- the counters of 01, with its number of references skipped
  module _ (fk : Fit ks) (fl : Fit ls) (t : Started s ks ls cs os) (m : store.Memory) (a : ℕ) (leader : Bool) (refs : ℕ) where
    -- the peer's counts
    abbrev counts : PointCounts
    counts = counts_to ks cs os (low_of s ks os r) a (high_of s ks os r - low_of s ks os r)

    pub counters_are : leader ≡ holds (v.rounds r).used a → refs ≡ (counted m v r a).references_skipped → counters_of (assembled counts leader refs) ≡ counted m v r a
    unfolding counters_of assembled counted test_of counts_to count_of
    counters_are e d =
        let n = count_is s ks ls cs os fk fl t r a in
        let valid = has_is s ks ls cs os fk fl t r a Valid in
        λ i. record {
          was_leader = one (e i);
          skipped_rounds = one (eqb (n Found i) 0);
          valid_points = one (valid i);
          points_proved = n Proved i;
          equivocated = n Found i - 1;
          trans_invalid = n TransInvalid i;
          invalid = n Invalid i;
          ill_formed = n IllFormed i;
          references_skipped = d i;
        }

  -- the same from the cells of all authors and the used mark of a retained round
  module _ (fk : Fit ks) (fl : Fit ls) (t : Started s ks ls cs os) (m : store.Memory) (cells : List PointCounts) (h : Counted ks cs os (low_of s ks os r) (high_of s ks os r - low_of s ks os r) cells)
      (low : s.bottom.0 ≤ r) (high : r ≤ s.top.0) (a : ℕ) (l : a < 32) (refs : ℕ) (d : refs ≡ (counted m v r a).references_skipped) where
    -- the peer's counters
    abbrev peer : MempoolPeerCounters
    peer = assembled (get_or cells a no_counts) (leads (record_of s.rounds r).used_anchor_proof a) refs

    pub peer-counted : counters_of peer ≡ counted m v r a
    peer-counted =
        ap (λ (c : PointCounts). counters_of (assembled c (leads (record_of s.rounds r).used_anchor_proof a) refs)) (h.cells a l)
        ∙ counters_are fk fl t m a (leads (record_of s.rounds r).used_anchor_proof a) refs (leader_is low high a) d

    pub peer-few : length m.entries ≤ 128 → Below 128 peer
    peer-few k = subst (AtMost 128) (sym peer-counted) (counted_most v (well s ks ls cs os fk fl t) m r a k)
