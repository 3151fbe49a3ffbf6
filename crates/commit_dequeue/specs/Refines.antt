-- One anchor's commit is that of document 01 (commit/mod.rs, 'Refusals' 13 to 15, 17, 18, 20 to 22) and of document 02 (N1, 24).
use Rattle.std.specs.Prelude.{ℕ, ◌+◌, ◌*◌, ◌-◌, ◌<◌, ◌≤◌, ◌≡◌, List, true, false, not, eqb, leb, drop}
use Rattle.std.proofs.Math.Path.{refl, sym, ap}
use Rattle.std.proofs.Common.{subst, ◌∙◌, arith, length-drop, leb-true, ltb-true, le-leb, lt-ltb}
use Rattle.std.proofs.Math.Bool.{Bool}
use Rattle.std.proofs.Math.Dec.{ltb}
use Rattle.std.proofs.Math.ListN.{length}
use Rattle.std.proofs.lemmas.List.{length-map}
use Rattle.laws.specs.Test.{by_test, same_test, both, and_l, and_r}
use Rattle.laws.specs.Scan.{those, those_most}
use Rattle.laws.specs.Bytes.{written, written-length}
use Rattle.spec.specs.Store.{Store}
use Rattle.spec.specs.Rules.{counts_as_started}
use Rattle.spec.specs.Chain.{Out, good, then, refuse, EnqueuedAnchor}
use Rattle.spec.specs.History.{in_history, linked_counts, lists_ok, after_lists, tested, gap_pending, test_anchor, link_bytes, record_bytes, dequeued}
use Rattle.spec.proofs.OrderInRound.{lists_long}
use Rattle.spec.specs.Links.{resolved-named}
use Rattle.spec.specs.Walk.{Anchored, Tested}
use Rattle.spec.proofs.Walk.{test_good}
use Rattle.models.specs.Digest.{Fit}
use Rattle.models.specs.Refusal.{refusal_of, unless_failed, or_next, not_failed}
use Rattle.models.specs.declared.refusal.Refusal.{Refusal}
use Rattle.models.specs.Tables.{round_at, author_at, place_at, Inside, Used}
use Rattle.dag_round_keys.specs.Sorted.{sorted_apart}
use Rattle.commit_state.specs.View.{gap_of, gap_waits, progress_of}
use Rattle.commit_state.specs.declared.state.State.{State}
use Rattle.tables_test.specs.Model.{shape_says, places_says}
use Rattle.tables_test.specs.View.{view}
use Rattle.tables_test.specs.Refines.{Started, counted}
use Rattle.dag_round_order.specs.Span.{below-le}
use Rattle.back_history.specs.Model.{is_uncommitted, Range}
use Rattle.back_history.specs.Picked.{uncommitted_at}
use Rattle.back_history.specs.RefinesNeeded.{named_used, low_high}
use Rattle.back_history.specs.Refines.{well, in_elim, in_intro}
use Rattle.back_committable.specs.declared.anchor.Tested as code
use Rattle.back_committable.specs.Model.{history_span, gathered_in, gathered_of, tested_in, tested_of}
use Rattle.back_committable.proofs.Refines.{tested_is, tested-count}
use Rattle.back_order.specs.Drawn.{drawn_by}
use Rattle.back_order.specs.Refines.{counts_are, rest_is}
use Rattle.answer_bytes.specs.Bytes.{place_id}
use Rattle.back_history.specs.Refines.{picked}
use Rattle.output_record.specs.Links.{link_of}
use Rattle.output_record.specs.LinksAre.{link_is}
use Rattle.output_record.specs.Listed.{rounds_by, Ranking}
use Rattle.output_record.specs.Picked.{is_picked}
use Rattle.output_record.specs.Marks.{Small, marks_all}
use Rattle.output_record.specs.ModelState.{after_state}
use Rattle.output_record.specs.History.{Picks, history_is}
use Rattle.output_record.specs.Refines.{anchor_ready, tables_ready, record_is, drawn-length, record_size_lem, committed-view, committed-counts}
use Rattle.commit_dequeue.specs.Model.{Pickable, Listing, Drawable, Placed, number_for, number_fits, counts_for, size_for, record_for, sources_for, len_for, bytes_for, listed_for, Step, one_with, one_in, one_of}
use Rattle.std.specs.Prelude.{Err, Ok}
use Rattle.models.specs.Refusal.{Check, no_refusal}

-- what the commit of the anchor e, from byte at on, leaves of the store v, the lists l and the buffer b, in 01's terms
pub record Says (v : Store) (l b : List ℕ) (at : ℕ) (e : EnqueuedAnchor) (c : Check) (v' : Store) (l' b' : List ℕ) (end : ℕ) : Type 0 where
  -- the anchor's tests
  pub outcome : unless_failed c (good e.anchor) ≡ test_anchor v l (length b - at) (length (record_bytes v l e)) e.anchor
  -- what an anchor that passes leaves
  pub taken : c ≡ no_refusal → (v' ≡ dequeued v e) × (l' ≡ after_lists v e.anchor l) × (b' ≡ written b at (record_bytes v l e)) × (end ≡ at + length (record_bytes v l e))
  -- a refused one leaves all as it was
  pub stayed : (r : Refusal) → c ≡ Err r → (v' ≡ v) × (b' ≡ b)
  -- the tables count as started again
  pub again : counts_as_started v' ≡ true
  -- the buffer is as long as before, and the next free byte is within it
  pub long : length b' ≡ length b
  pub within : end ≤ length b

-- ---- the tests

-- 20, 24 and 21 after its tests; the record's length is asked of right lists only
number_is : (c : Check) (a gap n left size : ℕ) (w ok : Bool) → w ≡ eqb gap 1 → (ok ≡ true → size ≡ 99 + n * 82)
    → unless_failed (number_for c gap ok n left) (good a) ≡ then (unless_failed c (good a)) (λ x. refuse w 20 (refuse (not ok) 24 (refuse (ltb left size) 21 (good a))))
unfolding unless_failed number_for or_next refuse refusal_of
number_is (Err r) a gap n left size w ok e d = refl
number_is (Ok tt) a gap n left size w false e d = rw e (by_test (eqb gap 1) (λ g. rw g refl) (λ g. rw g refl))
number_is (Ok tt) a gap n left size w true e d =
    rw (e, d refl) (by_test (eqb gap 1) (λ g. rw g refl) (λ g. rw g (by_test (ltb left (99 + n * 82)) (λ l. rw l refl) (λ l. rw l refl))))

module _ (s : State) (ks ls cs os : List ℕ) (fk : Fit ks) (fl : Fit ls) (h : counts_as_started (view s ks ls cs os) ≡ true) (e : EnqueuedAnchor) (x : Anchored (view s ks ls cs os) e) where
  -- the store
  abbrev v : Store
  v = view s ks ls cs os

  -- what the tables hold
  pub held : Started s ks ls cs os
  held = counted s ks ls cs os fk fl h

  -- the anchor and its proof stand at used places
  pub anchor_used : Used os s.count e.anchor
  anchor_used = named_used s ks ls cs os fk fl held e.anchor (resolved-named (v.pt e.anchor) x.anchor_done)

  proof_used : Used os s.count e.proof
  proof_used = named_used s ks ls cs os fk fl held e.proof (resolved-named (v.pt e.proof) x.proof_done)

  -- what its tests give
  abbrev t : code.Tested
  t = tested_of s ks ls cs os e.anchor

  -- the positions are those of used places
  high_le : t.high ≤ s.count
  unfolding tested_of tested_in gathered_of gathered_in history_span
  high_le = below-le ks os s.count (round_at ks e.anchor + 1)

  -- from the lower to the higher
  low_le : t.low ≤ t.high
  unfolding tested_of tested_in gathered_of gathered_in history_span
  low_le = low_high s ks ls cs os fk fl held e.anchor anchor_used

  -- the marks say what is in the history
  picks : Picks v e.anchor os s.count t.marks cs t.low t.high
  unfolding tested_of tested_in gathered_of gathered_in history_span is_picked is_uncommitted
  picks j l =
      same_test _ _
      (λ k. let (i, lo, hi, d, w) = in_elim s ks ls cs os fk fl held e.anchor anchor_used (place_at os j) k in
      let same : i ≡ j = sorted_apart ks os s.count i j held.facts.sorted (omega (arith, hi, high_le)) l d in
      both (lt-ltb j _ (omega (arith, hi, same))) (both (le-leb _ j (omega (arith, lo, same))) w))
      (λ k. let m = and_r (ltb j _) _ k in in_intro s ks ls cs os fk fl held e.anchor anchor_used j (leb-true _ _ (and_l _ _ m)) (ltb-true _ _ (and_l _ _ k)) (and_r (leb _ j) _ m))

  -- the number of points
  count_is : t.count ≡ length (picked os (is_uncommitted cs t.marks) t.low (t.high - t.low))
  count_is =
      tested-count s ks ls cs os fk fl held e.anchor anchor_used
      ∙ (ap length (history_is s ks ls cs os fk (well s ks ls cs os fk fl held) held.facts.sorted e.anchor anchor_used t.marks t.low t.high high_le picks) ∙ length-map (picked os (is_uncommitted cs t.marks) t.low (t.high - t.low)) (place_id ks))

  -- the tables with its history marked, in the state after it
  module _ (long : length s.rounds ≡ 512) where
    pub marked-view : view (after_state s (round_at ks e.anchor) (round_at ks e.proof) (author_at ks e.anchor)) ks ls (marks_all os t.marks t.low cs t.high) os ≡ dequeued v e
    marked-view = committed-view s ks ls cs os fk fl h e anchor_used proof_used t.marks t.low t.high high_le picks long

    -- they count as started, if it passed
    pub marked-counts : Tested v e.anchor → counts_as_started (view (after_state s (round_at ks e.anchor) (round_at ks e.proof) (author_at ks e.anchor)) ks ls (marks_all os t.marks t.low cs t.high) os) ≡ true
    marked-counts = committed-counts s ks ls cs os fk fl h e anchor_used proof_used t.marks t.low t.high high_le picks long x

  -- what is told of a point of its history, from what is noted for it
  told_is : (q : ℕ) → Used os s.count q → in_history v e.anchor q ≡ true → link_of ks (sources_for s ks ls cs os t) q ≡ link_bytes v e.anchor q
  unfolding tested_of tested_in gathered_of gathered_in history_span
  told_is = link_is s ks ls cs os fk fl held e.anchor anchor_used

  -- how many points its rounds have
  counted_is : counts_for s ks os t.marks t.lowest.0 e.anchor ≡ linked_counts v e.anchor
  unfolding tested_of tested_in gathered_of gathered_in history_span
  counted_is = counts_are s ks ls cs os fk fl held e.anchor anchor_used

  -- its lists are right
  right_is : (l : List ℕ) → lists_ok (counts_for s ks os t.marks t.lowest.0 e.anchor) l ≡ lists_ok (linked_counts v e.anchor) l
  right_is l = ap (λ (ns : List ℕ). lists_ok ns l) counted_is

  module _ (l : List ℕ) (ok : lists_ok (counts_for s ks os t.marks t.lowest.0 e.anchor) l ≡ true) where
    -- the record's length
    size_is : length (record_bytes v l e) ≡ 99 + t.count * 82
    size_is = record_size_lem s ks ls cs os fk fl h e anchor_used proof_used t.marks t.low t.high high_le picks l (sym (right_is l) ∙ ok) ∙ ap (λ (n : ℕ). 99 + n * 82) (sym count_is)

    -- the number of points that come out
    drawn-count : t.count ≡ length (drawn_by ks os s.count cs t.marks (rounds_by (round_at ks e.anchor) t.lowest.0) l)
    unfolding tested_of tested_in gathered_of gathered_in history_span
    drawn-count = count_is ∙ sym (drawn-length s ks ls cs os fk fl h e anchor_used proof_used t.marks t.low t.high high_le picks l (sym (right_is l) ∙ ok))

    -- the record
    record_same : Tested v e.anchor → record_for s ks (sources_for s ks ls cs os t) cs os t.marks t.lowest.0 l e (len_for ls cs os t) (bytes_for ls cs os t) ≡ record_bytes v l e
    unfolding record_for tested_of tested_in gathered_of gathered_in history_span
    record_same = record_is s ks ls cs os fk fl h e anchor_used proof_used t.marks t.low t.high high_le picks l (sym (right_is l) ∙ ok) (sources_for s ks ls cs os t) told_is

  -- ---- what the code is given

  pub placed : Placed ks cs e
  placed = anchor_ready s ks ls cs os fk fl h e anchor_used proof_used

  -- the tables
  ranking : Ranking ks os s.count cs
  ranking =
      let (k, l, c) = shape_says ks ls cs os held.shaped in
      record { keys = k; used = held.count_ok; places = places_says _ held.places_ok; inside = held.facts.inside; sorted = held.facts.sorted; words = c }

  -- for the test of its lists
  pub listing : Listing s ks os e
  listing = (ranking.keys, ranking.used, ranking.places, ranking.inside, ranking.sorted, placed.0, omega (arith, placed.3, ranking.words))

  -- no more points than places
  count_most : t.count ≤ 4096
  unfolding tested_of tested_in gathered_of gathered_in history_span
  count_most =
      let a : length (those (t.high - t.low) (uncommitted_at cs os t.marks t.low)) ≤ t.high - t.low = those_most _ _ in
      omega (arith, a, high_le, held.count_ok, places_says _ held.places_ok)

  -- the points of the history, from what the tests gave
  pub picked_ready : (r : code.Tested) → r ≡ t → (r.count ≤ 4096) × Pickable ks cs os r.low r.high × Small os cs r.high
  picked_ready r is =
      let (a, b, c, d, f) = tables_ready s ks ls cs os fk fl h e anchor_used proof_used t.marks t.low t.high high_le picks in
      subst (λ (y : code.Tested). (y.count ≤ 4096) × Pickable ks cs os y.low y.high × Small os cs y.high) (sym is) (count_most, (low_le, a, b, c, d), f)

  -- for the sums over them
  pub sums_ready : (r : code.Tested) → r ≡ t → (r.low ≤ r.high) × (r.high ≤ length os) × (r.high ≤ 4096) × (length cs ≤ 4096) × (length cs * 328 ≤ length ls) × Inside os r.high (length cs)
  sums_ready r is =
      let (n, (a, b, c, d, f), g) = picked_ready r is in
      let (k, l, w) = shape_says ks ls cs os held.shaped in
      (a, b, omega (arith, b, c, w), c, omega (arith, l, w), f)

  -- for the links behind them
  pub sources_ready : (r : code.Tested) → r ≡ t → Range cs os r.low r.high × ((length ks ≡ length os * 8) × (length ls ≡ length os * 328))
  sources_ready r is =
      let (n, (a, b, c, d, f), g) = picked_ready r is in
      let (k, l, w) = shape_says ks ls cs os held.shaped in
      ((a, b, ranking.places, w, λ i x. subst (λ y. place_at os i < y) w (f i x)), (k, l))

  module _ (l : List ℕ) (from : ℕ) where
    -- its record, from what the tests and the lists gave
    pub drawn_ready : (r : code.Tested) → r ≡ t → from ≤ length l → listed_for s ks os l from e r ≡ true → (end : ℕ) → end ≡ from + size_for s ks os r.marks r.lowest.0 e.anchor
        → Drawable s ks cs os l end r.marks r.lowest.0 e r.count
    drawn_ready r is =
        subst (λ (y : code.Tested). from ≤ length l → listed_for s ks os l from e y ≡ true → (end : ℕ) → end ≡ from + size_for s ks os y.marks y.lowest.0 e.anchor → Drawable s ks cs os l end y.marks y.lowest.0 e y.count) (sym is)
        (λ f ok end g.
        let back : end - size_for s ks os t.marks t.lowest.0 e.anchor ≡ from = omega (arith, g) in
        let at : drop from l ≡ drop (end - size_for s ks os t.marks t.lowest.0 e.anchor) l = ap (λ (x : ℕ). drop x l) (sym back) in (
          record {
            tables = ranking;
            high = placed.0;
            long = omega (arith, g);
            within = omega (arith, f, g, lists_long (counts_for s ks os t.marks t.lowest.0 e.anchor) (drop from l) ok, length-drop from l);
            right = subst (λ (x : List ℕ). lists_ok (counts_for s ks os t.marks t.lowest.0 e.anchor) x ≡ true) at ok;
          },
          drawn-count (drop from l) ok ∙ ap (λ (x : List ℕ). length (drawn_by ks os s.count cs t.marks (rounds_by (round_at ks e.anchor) t.lowest.0) x)) at,
        ))

    -- ---- what it leaves

    module _ (long : length s.rounds ≡ 512) (b : List ℕ) (at : ℕ) (within : at ≤ length b) where
      -- the lists from here on
      abbrev here : List ℕ
      here = drop from l

      -- what refuses it
      abbrev k : Check
      k = number_for t.check s.emit_first_after_gap (listed_for s ks os l from e t) t.count (length b - at)

      -- it stands for 01's refusal
      outcome_is : unless_failed k (good e.anchor) ≡ test_anchor v here (length b - at) (length (record_bytes v here e)) e.anchor
      unfolding test_anchor view progress_of
      outcome_is =
          let gap : Bool = gap_pending (gap_of s.emit_first_after_gap) in
          let short : Bool = ltb (length b - at) (length (record_bytes v here e)) in
          number_is t.check e.anchor s.emit_first_after_gap t.count (length b - at) (length (record_bytes v here e)) gap (listed_for s ks os l from e t) (gap_waits s.emit_first_after_gap) (size_is here)
          ∙ (ap (λ (o : Out ℕ). then o (λ y. refuse gap 20 (refuse (not (listed_for s ks os l from e t)) 24 (refuse short 21 (good e.anchor))))) (tested_is s ks ls cs os fk fl held e.anchor anchor_used)
          ∙ ap (λ (w : Bool). then (tested v e.anchor) (λ y. refuse gap 20 (refuse (not w) 24 (refuse short 21 (good e.anchor))))) (right_is here))

      -- it passes
      module _ (z : k ≡ no_refusal) where
        passes : test_anchor v here (length b - at) (length (record_bytes v here e)) e.anchor ≡ good e.anchor
        unfolding unless_failed
        passes = sym outcome_is ∙ ap (λ (c : Check). unless_failed c (good e.anchor)) z

        -- its tests
        tested_whole : Tested v e.anchor
        tested_whole = (test_good v here _ _ e.anchor _ passes).0

        -- its lists are right
        right : listed_for s ks os l from e t ≡ true
        right = (number_fits t.check s.emit_first_after_gap (listed_for s ks os l from e t) t.count (length b - at) z).0

        -- the lists after it
        rest_same : drop (from + size_for s ks os t.marks t.lowest.0 e.anchor) l ≡ after_lists v e.anchor here
        unfolding tested_of tested_in gathered_of gathered_in history_span
        rest_same = rest_is s ks ls cs os fk fl held e.anchor anchor_used l from _ refl

        -- its last byte
        end_is : at + 99 + t.count * 82 ≡ at + length (record_bytes v here e)
        end_is = omega (arith, size_is here right)

        end_within : at + 99 + t.count * 82 ≤ length b
        end_within = let p = test_good v here _ _ e.anchor _ passes in omega (arith, size_is here right, p.3)

        says_taken : Says v here b at e no_refusal (view (after_state s (round_at ks e.anchor) (round_at ks e.proof) (author_at ks e.anchor)) ks ls (marks_all os t.marks t.low cs t.high) os)
            (drop (from + size_for s ks os t.marks t.lowest.0 e.anchor) l) (written b at (record_for s ks (sources_for s ks ls cs os t) cs os t.marks t.lowest.0 here e (len_for ls cs os t) (bytes_for ls cs os t))) (at + 99 + t.count * 82)
        unfolding unless_failed
        says_taken = record {
          outcome = sym passes;
          taken = λ y. (
            marked-view long,
            rest_same,
            ap (written b at) (record_same here right tested_whole),
            end_is,
          );
          stayed = λ r y. absurd (not_failed r (sym y));
          again = marked-counts long tested_whole;
          long = written-length b at _;
          within = end_within;
        }

      -- it is refused
      says_refused : (r : Refusal) → k ≡ Err r → Says v here b at e (Err r) v here b at
      says_refused r d = record {
        outcome = ap (λ (c : Check). unless_failed c (good e.anchor)) (sym d) ∙ outcome_is;
        taken = λ y. absurd (not_failed r y);
        stayed = λ w y. (refl, refl);
        again = h;
        long = refl;
        within = within;
      }

      -- what an outcome says
      abbrev SaysOf : Step → Type 0
      SaysOf o = Says v here b at e o.check (view o.state ks ls o.certs os) (drop o.next l) o.buffer o.end

      -- what the mirror leaves
      one_is : SaysOf (one_of s ks ls cs os l from b at e)
      unfolding one_of one_in one_with
      one_is = by k refl
        where
          by : (c : Check) → k ≡ c → SaysOf (one_with s ks ls cs os l from b at e t c)
          by (Ok tt) d = says_taken d
          by (Err r) d = says_refused r d

      -- what the code leaves
      pub one_says : (r : Step) → r ≡ one_of s ks ls cs os l from b at e → Says v (drop from l) b at e r.check (view r.state ks ls r.certs os) (drop r.next l) r.buffer r.end
      one_says r d = subst SaysOf (sym d) one_is
