-- What one committed anchor writes is what document 01 says (commit/mod.rs, output.rs): the record's bytes, and the store after it.
use Rattle.std.specs.Prelude.{ℕ, ◌+◌, ◌*◌, ◌≤◌, ◌<◌, ◌-◌, ◌≡◌, List, ◌++◌, map, Bool, true, false, eqb, leb, ltb, get_or}
use Rattle.std.proofs.Math.Path.{refl, sym, ap, ap₂, subst}
use Rattle.std.proofs.Common.{◌∙◌, append_assoc, arith}
use Rattle.std.proofs.Math.Bool.{not, ◌&&◌, cond}
use Rattle.std.proofs.Math.Option.{none, some}
use Rattle.std.proofs.Math.ListN.{length}
use Rattle.std.proofs.lemmas.List.{length-map}
use borrow.Author.Tests.{ltb-true}
use Rattle.laws.specs.Test.{by_test, clash, and_l}
use Rattle.laws.specs.Lists.{joined, joined_same, map_same, weigh}
use Rattle.laws.specs.Bytes.{be}
use Rattle.spec.specs.Ids.{Id, id_bytes, prev}
use Rattle.spec.specs.Store as store
use Rattle.spec.specs.Store.{Resolution, Store, id_at}
use Rattle.spec.specs.Rules.{is_peer, counts_as_started}
use Rattle.spec.specs.Chain.{EnqueuedAnchor}
use Rattle.spec.specs.History.{is_executable, is_first_executable, prev_anchor, down_from, linked_counts, lists_ok, in_order, summed, sum_bytes, link_bytes, tail_bytes, record_bytes, in_history, history, set_committed, gap_after, use_proof, dequeued}
use Rattle.spec.proofs.OrderInRound.{order_length}
use Rattle.spec.proofs.Records.{record_length_lem}
use Rattle.spec.specs.WellFormed.{Wf, counts_as_started_elim, counts_as_started_intro}
use Rattle.spec.specs.Walk.{Anchored, Tested}
use Rattle.spec.proofs.Preservation.{mark_kept}
use Rattle.models.specs.Digest.{Fit}
use Rattle.models.specs.Cert.{height_of, committed_word}
use Rattle.models.specs.Tables.{round_at, author_at, place_at, Inside, Used, is_used, used_is}
use Rattle.dag_round_keys.specs.Sorted.{sorted_apart}
use Rattle.commit_state.specs.View.{given_at, point_at, resolution_at, rounds_of, conf_of, progress_of, memory_of, option_of, gap_of}
use Rattle.commit_state.specs.declared.state.State.{State}
use Rattle.cert_certify.specs.Settled.{cert_small, shape-certs, regular-certs}
use Rattle.tables_test.specs.Model.{shape, shape_says, places_says}
use Rattle.tables_test.specs.View.{view, regular, seen_at}
use Rattle.tables_test.specs.Regular.{phase_same, places_same}
use Rattle.tables_test.specs.Whole.{sized, places_is}
use Rattle.tables_test.specs.Refines.{Started, counted}
use Rattle.answer_bytes.specs.Bytes.{place_id}
use Rattle.back_history.specs.Model.{is_uncommitted}
use Rattle.back_history.specs.Supposing.{flags_marked, height-marked}
use Rattle.back_history.specs.RefinesNeeded.{lowest_of, marks_of}
use Rattle.back_history.specs.Refines.{picked}
use Rattle.back_order.specs.Drawn.{drawn_by}
use Rattle.back_order.specs.Refines.{drawn_is, order_is, drawn_used, drawn_in}
use Rattle.output_record.specs.Sums.{len_sum, bytes_sum, sums_of}
use Rattle.output_record.specs.Links.{link_of, links_of}
use Rattle.output_record.specs.Model.{flag_of, head_of, points_of, record_of, executes, is_first_of, previous_of}
use Rattle.output_record.specs.Marks.{Small, marks_all, marks-length, marks_at_lem, marks_small}
use Rattle.output_record.specs.ModelState.{after_state, option_is, asked_is, gap_reads, after-rounds}
use Rattle.output_record.specs.History.{Picks, id_seen, used_named, history_used, history_is, sum_is}

-- lists joined from the left and from the right
six_parts : (a b c d e f : List ℕ) → (a ++ (b ++ (c ++ (d ++ e)))) ++ f ≡ a ++ (b ++ (c ++ (d ++ (e ++ f))))
six_parts a b c d e f =
    append_assoc a (b ++ (c ++ (d ++ e))) f
    ∙ ap (λ (l : List ℕ). a ++ l) (append_assoc b (c ++ (d ++ e)) f ∙ ap (λ (l : List ℕ). b ++ l) (append_assoc c (d ++ e) f ∙ ap (λ (l : List ℕ). c ++ l) (append_assoc d e f)))

module _ (s : State) (ks ls cs os : List ℕ) (fk : Fit ks) (fl : Fit ls) (h : counts_as_started (view s ks ls cs os) ≡ true) where
  -- the store before
  abbrev v : Store
  v = view s ks ls cs os

  -- what the tables hold
  t : Started s ks ls cs os
  t = counted s ks ls cs os fk fl h

  -- the rules hold
  w : Wf v
  w = counts_as_started_elim v (sized s ks ls cs os fk fl t.shaped t.facts.inside) h

  -- the used places have certificate words
  inside : Inside os s.count (length cs)
  inside i l = subst (λ n. place_at os i < n) (sym (shape_says ks ls cs os t.shaped).2) (t.facts.inside i l)

  -- the id of a used place
  id_is : (q : ℕ) → Used os s.count q → id_at v q ≡ place_id ks q
  id_is = id_seen s ks ls cs os fk w t.facts.sorted

  -- its round
  round_is : (q : ℕ) → Used os s.count q → store.round_at v q ≡ round_at ks q
  round_is q u = ap (λ (i : Id). i.round) (id_is q u)

  module _ (e : EnqueuedAnchor) (ua : Used os s.count e.anchor) (up : Used os s.count e.proof) where
    -- the anchor's round, the proof's, and the anchor's author
    abbrev ar : ℕ
    ar = round_at ks e.anchor

    abbrev pr : ℕ
    pr = round_at ks e.proof

    abbrev au : ℕ
    au = author_at ks e.anchor

    -- executable, first after a gap, the round of the anchor before
    executable_is : is_executable v e.anchor ≡ executes s ar
    unfolding is_executable executes view progress_of
    executable_is = ap (leb s.first_executable.0) (round_is e.anchor ua)

    first_is : is_first_executable v e.anchor ≡ is_first_of s ar
    unfolding is_first_executable is_first_of view progress_of
    first_is = ap₂ ◌&&◌ (asked_is s.emit_first_after_gap) executable_is

    previous_is : prev_anchor v e ≡ previous_of s ar e.prev_proof_round
    unfolding prev_anchor previous_of view conf_of
    previous_is = ap (λ (b : Bool). cond (ltb s.genesis.0 (prev e.prev_proof_round) && not b) (prev e.prev_proof_round) 0) first_is

    -- what the code is given: the anchor and its proof
    pub anchor_ready : (round_at ks e.anchor ≤ 4000000000) × (round_at ks e.proof ≤ 4000000000) × (author_at ks e.anchor < 32) × (e.anchor < length cs) × (e.proof < length cs)
    unfolding is_peer
    anchor_ready =
        let named = used_named s ks ls cs os fk w t.facts.sorted in
        let r = w.high in
        let author = ap (λ (i : Id). i.author) (id_is e.anchor ua) in
        let peer : (id_at v e.anchor).author < 32 = ltb-true _ _ (and_l _ _ (w.peer e.anchor (named e.anchor ua))) in (
          omega (arith, (w.kept e.anchor (named e.anchor ua)).1, r, round_is e.anchor ua),
          omega (arith, (w.kept e.proof (named e.proof up)).1, r, round_is e.proof up),
          omega (arith, peer, author),
          subst (λ x. x < length cs) ua.2 (inside ua.0 ua.1),
          subst (λ x. x < length cs) up.2 (inside up.0 up.1),
        )

    -- the places of its history in the order of the lists
    abbrev drawn_for : List ℕ → List ℕ
    drawn_for l = drawn_by ks os s.count cs (marks_of s ks ls cs os e.anchor) (down_from ar (ar + 1 - lowest_of s ar)) l

    -- their ids
    order_named : (l : List ℕ) → lists_ok (linked_counts v e.anchor) l ≡ true → in_order v e.anchor l ≡ map (place_id ks) (drawn_for l)
    order_named l ok =
        order_is s ks ls cs os fk fl t e.anchor ua l ok
        ∙ map_same (id_at v) (place_id ks) (drawn_for l) (λ q k. id_is q (drawn_used s ks ls cs os fk fl t e.anchor ua l ok q k))

    module _ (m : List Bool) (low high : ℕ) (lh : high ≤ s.count) (pk : Picks v e.anchor os s.count m cs low high) where
      -- how many points its history has
      number_is : length (history v e.anchor) ≡ length (picked os (is_uncommitted cs m) low (high - low))
      number_is =
          ap length (history_is s ks ls cs os fk w t.facts.sorted e.anchor ua m low high lh pk)
          ∙ length-map (picked os (is_uncommitted cs m) low (high - low)) (place_id ks)

      -- the sums over it, once its points are resolved
      sum_of : Tested v e.anchor → (f : Resolution → ℕ) → weigh (λ q. f (given_at ks ls q)) (picked os (is_uncommitted cs m) low (high - low)) ≡ summed f v e.anchor
      unfolding in_history
      sum_of c f =
          sum_is s ks ls cs os fk w t.facts.sorted e.anchor ua m low high lh pk f
          (λ q (i, l, d). subst (λ x. x < v.places) d (subst (λ n. place_at os i < n) (sym (places_is s ks ls cs os fk fl t.shaped)) (t.facts.inside i l)))
          (λ q l k. (c.ready q l (and_l _ _ k)).0)

      module _ (l : List ℕ) (ok : lists_ok (linked_counts v e.anchor) l ≡ true) where
        -- the record's bytes are those of 01, in the order of 02, N1, with the links of N7 and the sums of N2
        pub record_is : (by : List ℕ) → ((q : ℕ) → Used os s.count q → in_history v e.anchor q ≡ true → link_of ks by q ≡ link_bytes v e.anchor q) → Tested v e.anchor
            → record_of ks by e.anchor e.proof (executes s (round_at ks e.anchor)) (previous_of s (round_at ks e.anchor) e.prev_proof_round)
            (drawn_by ks os s.count cs (marks_of s ks ls cs os e.anchor) (down_from (round_at ks e.anchor) (round_at ks e.anchor + 1 - lowest_of s (round_at ks e.anchor))) l)
            (len_sum ls os (is_uncommitted cs m) low (high - low)) (bytes_sum ls os (is_uncommitted cs m) low (high - low)) ≡ record_bytes v l e
        unfolding record_of head_of points_of record_bytes flag_of links_of sums_of tail_bytes sum_bytes
        record_is by told c =
            let is = sym (order_named l ok) in
            let anchor = sym (id_is e.anchor ua) in
            let proof = sym (id_is e.proof up) in
            let flag = ap (λ (b : Bool). be 1 (cond b 1 0)) (sym executable_is) in
            let before = ap (be 4) (sym previous_is) in
            let number = ap (be 4) (sym (length-map (drawn_for l) (place_id ks)) ∙ ap length is) in
            let links =
            joined_same (link_of ks by) (link_bytes v e.anchor) (drawn_for l) (λ q k. told q (drawn_used s ks ls cs os fk fl t e.anchor ua l ok q k) (drawn_in s ks ls cs os fk fl t e.anchor ua l ok q k))
            ∙ ap (joined (link_bytes v e.anchor)) (drawn_is s ks ls cs os fk fl t e.anchor ua l ok) in
            let len = sum_of c (λ r. r.payload_len) in
            let bytes = sum_of c (λ r. r.payload_bytes) in
            six_parts (id_bytes (place_id ks e.anchor)) (id_bytes (place_id ks e.proof)) (be 1 (cond (executes s ar) 1 0)) (be 4 (previous_of s ar e.prev_proof_round)) (be 4 (length (drawn_for l))) _
            ∙ (λ i. id_bytes (anchor i) ++ (id_bytes (proof i) ++ (flag i ++ (before i ++ (number i ++ (joined id_bytes (is i) ++ (links i ++ (be 8 (len i) ++ be 8 (bytes i)))))))))

        -- as many come out
        pub drawn-length : length (drawn_by ks os s.count cs (marks_of s ks ls cs os e.anchor) (down_from (round_at ks e.anchor) (round_at ks e.anchor + 1 - lowest_of s (round_at ks e.anchor))) l) ≡ length (picked os (is_uncommitted cs m) low (high - low))
        drawn-length =
            sym (length-map (drawn_for l) (place_id ks))
            ∙ (ap length (sym (order_named l ok)) ∙ (order_length v w e.anchor (used_named s ks ls cs os fk w t.facts.sorted e.anchor ua) l ok ∙ number_is))

        -- the record's length
        pub record_size_lem : length (record_bytes v l e) ≡ 99 + length (picked os (is_uncommitted cs m) low (high - low)) * 82
        record_size_lem = record_length_lem v w l e (used_named s ks ls cs os fk w t.facts.sorted e.anchor ua) ok ∙ (ap (λ (k : ℕ). 83 + k * 37 + (k * 45 + 16)) number_is ∙ omega arith)

      -- what the code is given: the tables
      pub tables_ready : (high ≤ length os) × (length cs ≤ 4096) × (length cs * 8 ≤ length ks) × Inside os high (length cs) × Small os cs high
      tables_ready =
          let (k, l, c) = shape_says ks ls cs os t.shaped in (
            omega (arith, t.count_ok),
            omega (arith, c, places_says _ t.places_ok),
            omega (arith, c, k),
            (λ i b. inside i (omega arith)),
            λ i b. cert_small ks ls cs (place_at os i) (t.fits (place_at os i) (i, omega arith, refl)),
          )

      -- the certificate words after it
      abbrev ds : List ℕ
      ds = marks_all os m low cs high

      -- of a used place
      word_is : (q : ℕ) → Used os s.count q → get_or ds q 0 ≡ cond (in_history v e.anchor q) (committed_word (get_or cs q 0)) (get_or cs q 0)
      word_is q (j, l, d) =
          subst (λ x. get_or ds x 0 ≡ cond (in_history v e.anchor x) (committed_word (get_or cs x 0)) (get_or cs x 0)) d
          (marks_at_lem os m low cs s.count inside (λ i k a b. sorted_apart ks os s.count i k t.facts.sorted a b) high j lh l
          ∙ ap (λ (b : Bool). cond b (committed_word (get_or cs (place_at os j) 0)) (get_or cs (place_at os j) 0)) (sym (pk j l)))

      -- a place that isn't used is of no history
      free_is : (q : ℕ) → is_used os s.count q ≡ false → in_history v e.anchor q ≡ false
      free_is q f = by_test (in_history v e.anchor q) (λ x. absurd (clash ((used_is os s.count q).1 (history_used s ks ls cs os fk w t.facts.sorted e.anchor ua m low high lh pk q x)) f)) (λ x. x)

      -- the points are marked
      point_is : (q : ℕ) → seen_at ks ls ds os s.count q ≡ set_committed (in_history v e.anchor q) (seen_at ks ls cs os s.count q)
      unfolding seen_at set_committed point_at
      point_is q =
          by_test (is_used os s.count q)
          (λ u. rw u (λ i. record { named = true; id = place_id ks q; resolution = resolution_at ks ls q; flags = flags_marked (in_history v e.anchor q) (get_or cs q 0) (get_or ds q 0) (word_is q ((used_is os s.count q).0 u)) i }))
          (λ f. rw (f, free_is q f) refl)

      -- the heights stay
      height-same : (q : ℕ) → cond (is_used os s.count q) (height_of (get_or ds q 0)) 0 ≡ cond (is_used os s.count q) (height_of (get_or cs q 0)) 0
      height-same q =
          by_test (is_used os s.count q)
          (λ u. rw u (height-marked (in_history v e.anchor q) (get_or cs q 0) (get_or ds q 0) (word_is q ((used_is os s.count q).0 u))))
          (λ f. rw f refl)

      -- the words keep their 16 bits
      small : (q : ℕ) → Used os s.count q → get_or ds q 0 < 65536
      small q (j, l, d) = marks_small os m low cs high q (subst (λ x. x < length cs) d (inside j l)) (cert_small ks ls cs q (t.fits q (j, l, d)))

      module _ (long : length s.rounds ≡ 512) where
        -- the state after it
        abbrev next : State
        next = after_state s ar pr au

        -- the tables stay regular
        shape-after : shape ks ls ds os ≡ true
        shape-after = shape-certs s ks ls cs ds os t.shaped t.regulated (places_says _ t.places_ok) (marks-length os m low cs high) small

        regular-after : regular next ks ls ds os ≡ true
        unfolding regular after_state
        regular-after = regular-certs s ks ls cs ds os t.shaped t.regulated (places_says _ t.places_ok) (marks-length os m low cs high) small

        -- the numbers and the rounds are those of 01
        progress_is : progress_of next ≡ (dequeued v e).progress
        unfolding progress_of after_state dequeued gap_after view option_of
        progress_is =
            let proof : option_of (pr + 1) ≡ some (store.round_at v e.proof) = option_is pr ∙ ap some (sym (round_is e.proof up)) in
            let anchor : option_of (ar + 1) ≡ some (store.round_at v e.anchor) = option_is ar ∙ ap some (sym (round_is e.anchor ua)) in
            let gap : gap_of (cond (is_first_of s ar) 0 s.emit_first_after_gap) ≡ cond (is_first_executable v e.anchor) none (gap_of s.emit_first_after_gap) = gap_reads (is_first_of s ar) s.emit_first_after_gap ∙ ap (λ (b : Bool). cond b none (gap_of s.emit_first_after_gap)) (sym first_is) in
            λ i. record { last_proof = proof i; last_anchor = anchor i; full_bottom = s.full_history_bottom.0; first_executable = s.first_executable.0; gap = gap i }

        rounds_is : (r : ℕ) → rounds_of next r ≡ (dequeued v e).rounds r
        unfolding dequeued view
        rounds_is r =
            let k = w.kept e.proof (used_named s ks ls cs os fk w t.facts.sorted e.proof up) in
            let round = sym (round_is e.proof up) in
            let author = ap (λ (i : Id). i.author) (sym (id_is e.anchor ua)) in
            after-rounds s ar pr au long (omega (arith, k.0, round)) (omega (arith, k.1, round)) w.few r ∙ (λ i. cond (eqb r (round i)) (use_proof (rounds_of s r) (author i)) (rounds_of s r))

        -- the tables after it are read as 01's store after it
        pub committed-view : view (after_state s (round_at ks e.anchor) (round_at ks e.proof) (author_at ks e.anchor)) ks ls (marks_all os m low cs high) os ≡ dequeued (view s ks ls cs os) e
        unfolding view dequeued after_state conf_of
        committed-view = λ i. record {
          phase = phase_same s next ks ls cs os ks ls ds os t.shaped t.regulated shape-after regular-after refl i;
          places = places_same s next ks ls cs os ks ls ds os t.shaped t.regulated shape-after refl i;
          pt = λ q. point_is q i;
          heights = λ q. height-same q i;
          bottom = s.bottom.0;
          top = s.top.0;
          rounds = λ r. rounds_is r i;
          conf = conf_of s;
          progress = progress_is i;
          memory = memory_of s.memory;
        }

        -- and count as started again
        pub committed-counts : Anchored (view s ks ls cs os) e → Tested (view s ks ls cs os) e.anchor → counts_as_started (view (after_state s (round_at ks e.anchor) (round_at ks e.proof) (author_at ks e.anchor)) ks ls (marks_all os m low cs high) os) ≡ true
        committed-counts a c = ap counts_as_started committed-view ∙ (let k = mark_kept v w e a c in counts_as_started_intro (dequeued v e) k.sized k)
