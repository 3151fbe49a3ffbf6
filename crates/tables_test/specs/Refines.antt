-- The tables pass the test exactly if they count as started.
use Rattle.std.specs.Prelude.{ℕ, ◌≤◌, ◌≡◌, refl, List, ◌↔◌, Bool, ◌&&◌, eqb, leb, ltb, length}
use Rattle.std.proofs.Math.Path.{sym, ap}
use Rattle.std.proofs.Common.{◌∙◌, arith}
use Rattle.std.proofs.Math.Bool.{true}
use borrow.Author.Tests.{eq-eqb, leb-true, le-leb, ltb-true, lt-ltb}
use Rattle.laws.specs.Test.{by_test, clash, both, and_l, and_r, or_l, or_r, same_or, same_test}
use Rattle.spec.specs.Store.{Store}
use Rattle.spec.specs.Rules.{places_ok, conf_ok, rounds_ok, is_started, counts_as_started}
use Rattle.spec.specs.WellFormed.{counts_as_started_elim, counts_as_started_intro}
use Rattle.models.specs.Digest.{Fit}
use Rattle.models.specs.Tables.{round_at, author_at, status_at, Used}
use Rattle.dag_round_keys.specs.Sorted.{is_inside, is_sorted, inside_is, sorted_is}
use Rattle.tables_ids.specs.Refines.{Window, few_sound, few_complete}
use Rattle.tables_heights.specs.Refines.{heights_sound, heights_complete}
use Rattle.models.specs.Live.{reach}
use Rattle.tables_links.specs.Links.{links_right, blank}
use Rattle.dag_round_order.specs.Marks.{marked}
use Rattle.tables_links.specs.Named.{Links, place_sound, place_complete, links_fall}
use Rattle.tables_links.specs.Bare.{bare_at}
use Rattle.tables_links.specs.Ruled.{Bare, Words, every_used, bare_exact, words_exact}
use Rattle.tables_ids.specs.Ids.{id_holds, id_at_holds}
use Rattle.commit_state.specs.View.{phase_of, conf_of, rounds_of}
use Rattle.commit_state.specs.Numbers.{conf_holds, rounds_hold, conf_is, rounds_is}
use Rattle.commit_state.specs.Memory.{memory_holds}
use Rattle.commit_state.specs.declared.state.State.{State}
use Rattle.tables_test.specs.Model.{shape, state_holds, order_holds, place_ok, ok_at, each_ok, used_ok, points_hold, tested, range_says, places_says}
use Rattle.tables_test.specs.View.{view, regular, words_fit}
use Rattle.tables_test.specs.Regular.{regular_elim, regular_intro}
use Rattle.tables_test.specs.Whole.{Facts, places_is, sized, facts_wf, wf_facts}

-- what the tables hold that count as started
pub record Started (s : State) (ks ls cs os : List ℕ) : Type 0 where
  pub shaped : shape ks ls cs os ≡ true
  pub regulated : regular s ks ls cs os ≡ true
  pub begun : eqb s.phase 1 ≡ true
  pub places_ok : places_ok (length os) ≡ true
  pub conf_ok : conf_holds s.commit_history_rounds s.deduplicate_rounds ≡ true
  pub rounds_ok : rounds_hold s ≡ true
  pub count_ok : s.count ≤ length os
  pub memory_ok : memory_holds s.memory ≡ true
  pub fits : (q : ℕ) → Used os s.count q → words_fit ks ls cs q ≡ true
  pub facts : Facts s ks ls cs os

module _ (s : State) (ks ls cs os : List ℕ) where
  -- the window of the retained rounds
  window_of : rounds_hold s ≡ true → ((q : ℕ) → Used os s.count q → id_at_holds s ks q ≡ true) → Window s.bottom.0 ks os s.count
  unfolding rounds_hold id_holds
  window_of ro ids q u =
      let r = range_says _ _ _ (and_l _ _ ro) in
      let a = ids q u in
      let b = and_r (leb s.bottom.0 (round_at ks q)) _ a in
      let c = and_r (leb (round_at ks q) s.top.0) _ b in
      let low : s.bottom.0 ≤ round_at ks q = leb-true _ _ (and_l (leb s.bottom.0 (round_at ks q)) _ a) in
      let high : round_at ks q ≤ s.top.0 = leb-true _ _ (and_l (leb (round_at ks q) s.top.0) _ b) in
      (low, omega (arith, low, high, r.0, r.2), ltb-true _ _ (and_l (ltb (author_at ks q) 32) _ c))

  -- the marks of the used places
  abbrev ms : List Bool
  ms = marked blank os s.count

  -- what the test of one place says, and back
  abbrev Ok : ℕ → Type 0
  Ok q = (id_at_holds s ks q ≡ true) × (links_right ks ls ms (length os) q (reach s.bottom.0 ks q) ≡ true) × Bare ks ls q × Words ks ls cs q

  place_exact : (q : ℕ) → (ok_at s ks ls cs ms (length os) q ≡ true) ↔ Ok q
  unfolding place_ok
  place_exact q = (
    (λ h. let x = and_r (id_at_holds s ks q) _ h in
        let y = and_r (links_right ks ls ms (length os) q (reach s.bottom.0 ks q)) _ x in
        let w = (words_exact ks ls cs q).0 (and_r (bare_at ks ls q) _ y) in
        (and_l (id_at_holds s ks q) _ h, and_l (links_right ks ls ms (length os) q (reach s.bottom.0 ks q)) _ x, (bare_exact ks ls q w.named.status).0 (and_l (bare_at ks ls q) _ y), w)),
    λ (i, l, e, w). both i (both l (both ((bare_exact ks ls q w.named.status).1 e) ((words_exact ks ls cs q).1 w))),
  )

  used_exact : (used_ok s ks ls cs os ≡ true) ↔ ((q : ℕ) → Used os s.count q → Ok q)
  unfolding used_ok each_ok
  used_exact = every_used os s.count (ok_at s ks ls cs ms (length os)) Ok place_exact

  -- the tests say the facts
  pub tests_facts : places_ok (length os) ≡ true → rounds_hold s ≡ true → order_holds s ks os ≡ true → points_hold s ks ls cs os ≡ true → Facts s ks ls cs os
  unfolding order_holds points_hold
  tests_facts po ro o p =
      let inside = (inside_is os s.count (length os)).0 (and_l (is_inside os s.count (length os)) _ o) in
      let o2 = and_r (is_inside os s.count (length os)) _ o in
      let each = used_exact.0 (and_l (used_ok s ks ls cs os) _ p) in
      let right : Links s.bottom.0 ks ls os s.count = λ q k u. place_sound s.bottom.0 ks ls os s.count q (each q u).1 k in
      let ids : (q : ℕ) → Used os s.count q → id_at_holds s ks q ≡ true = λ q u. (each q u).0 in
      record {
        inside = inside;
        sorted = (sorted_is ks os s.count).0 (and_l (is_sorted ks os s.count) _ o2);
        right = right;
        words = λ q u. (each q u).3;
        bare = λ q u. (each q u).2;
        ids = ids;
        few = few_sound s.bottom.0 ks os s.count (window_of ro ids) (and_r (is_sorted ks os s.count) _ o2);
        heights = heights_sound s.bottom.0 s.commit_history_rounds ks ls cs os s.count (places_says _ po) inside (links_fall s.bottom.0 ks ls os s.count right) (and_r (used_ok s ks ls cs os) _ p);
      }

  -- and the facts pass the tests
  pub facts_order : rounds_hold s ≡ true → Facts s ks ls cs os → order_holds s ks os ≡ true
  unfolding order_holds
  facts_order ro f =
      both ((inside_is os s.count (length os)).1 f.inside) (both ((sorted_is ks os s.count).1 f.sorted) (few_complete s.bottom.0 ks os s.count (window_of ro f.ids) f.few))

  pub facts_points : places_ok (length os) ≡ true → Facts s ks ls cs os → points_hold s ks ls cs os ≡ true
  unfolding points_hold
  facts_points po f =
      both
      (used_exact.1 (λ q u. (f.ids q u, place_complete s.bottom.0 ks ls os s.count f.inside (places_says _ po) q (λ k. f.right q k u), f.bare q u, f.words q u)))
      (heights_complete s.bottom.0 s.commit_history_rounds ks ls cs os s.count (places_says _ po) f.inside (links_fall s.bottom.0 ks ls os s.count f.right) f.heights)

  fit_of : (q : ℕ) → Words ks ls cs q → words_fit ks ls cs q ≡ true
  unfolding words_fit
  fit_of q w =
      both (lt-ltb _ _ w.named.marks) (both (le-leb _ _ w.named.word)
      (same_or (status_at ks q) 0 (λ e. or_l _ _ (eq-eqb _ _ e)) (λ d. or_r (eqb (status_at ks q) 0) _ (let t = w.resolution (omega arith) in both (lt-ltb _ _ t.evidence) (lt-ltb _ _ t.round)))))

  -- the view's numbers
  conf_of_lem : (v : Store) → v ≡ view s ks ls cs os → v.conf ≡ conf_of s
  unfolding view
  conf_of_lem v e = ap (λ (x : Store). x.conf) e

  bottom_of : (v : Store) → v ≡ view s ks ls cs os → v.bottom ≡ s.bottom.0
  unfolding view
  bottom_of v e = ap (λ (x : Store). x.bottom) e

  top_of : (v : Store) → v ≡ view s ks ls cs os → v.top ≡ s.top.0
  unfolding view
  top_of v e = ap (λ (x : Store). x.top) e

  rounds_are : (v : Store) → v ≡ view s ks ls cs os → v.rounds ≡ rounds_of s
  unfolding view
  rounds_are v e = ap (λ (x : Store). x.rounds) e

  -- the rule of the rounds
  pub rounds_of_lem : counts_as_started (view s ks ls cs os) ≡ true → rounds_hold s ≡ true
  unfolding counts_as_started
  rounds_of_lem h =
      let v = view s ks ls cs os in
      let a = and_r (is_started v.phase) _ h in
      let b = and_r (places_ok v.places) _ a in
      let c = and_r (conf_ok v.conf) _ b in
      sym (rounds_is s v (conf_of_lem v refl) (bottom_of v refl) (top_of v refl) (rounds_are v refl)) ∙ and_l (rounds_ok v) _ c

  -- a phase that reads as started
  begun_elim : is_started (view s ks ls cs os).phase ≡ true → (shape ks ls cs os ≡ true) × (regular s ks ls cs os ≡ true) × (eqb s.phase 1 ≡ true)
  unfolding view phase_of is_started
  begun_elim h =
      by_test (shape ks ls cs os && regular s ks ls cs os)
      (λ t. by_test (eqb s.phase 1)
      (λ p. (and_l _ _ t, and_r (shape ks ls cs os) _ t, p))
      (λ p. absurd (by_test (eqb s.phase 2) (λ q. clash h (rw (t, p, q) refl)) (λ q. clash h (rw (t, p, q) refl)))))
      (λ f. absurd (clash h (rw f refl)))

  -- the tables have one number of places, and the inspector's memory holds
  pub shape_of : counts_as_started (view s ks ls cs os) ≡ true → (shape ks ls cs os ≡ true) × (memory_holds s.memory ≡ true)
  unfolding counts_as_started
  shape_of h = let (sh, rg, ph) = begun_elim (and_l (is_started (view s ks ls cs os).phase) _ h) in (sh, (regular_elim s ks ls cs os rg).memory)

  module _ (fk : Fit ks) (fl : Fit ls) where
    passed-counts : tested s ks ls cs os ≡ true → counts_as_started (view s ks ls cs os) ≡ true
    unfolding tested state_holds
    passed-counts h =
        let sh : shape ks ls cs os ≡ true = and_l (shape ks ls cs os) _ h in
        let h2 = and_r (shape ks ls cs os) _ h in
        let st = and_l (state_holds s (length os)) _ h2 in
        let h3 = and_r (state_holds s (length os)) _ h2 in
        let s2 = and_r (eqb s.phase 1) _ st in
        let s3 = and_r (places_ok (length os)) _ s2 in
        let s4 = and_r (conf_holds s.commit_history_rounds s.deduplicate_rounds) _ s3 in
        let s5 = and_r (rounds_hold s) _ s4 in
        let po = and_l (places_ok (length os)) _ s2 in
        let ro = and_l (rounds_hold s) _ s4 in
        let pts = and_r (order_holds s ks os) _ h3 in
        let f = tests_facts po ro (and_l (order_holds s ks os) _ h3) pts in
        let rg = regular_intro s ks ls cs os (places_says _ po) (record {
          room = leb-true _ _ (and_l (leb s.count (length os)) _ s5);
          memory = and_r (leb s.count (length os)) _ s5;
          inside = f.inside;
          sorted = f.sorted;
          right = f.right;
          fits = λ q u. fit_of q (f.words q u);
        }) in
        counts_as_started_intro (view s ks ls cs os) (sized s ks ls cs os fk fl sh f.inside) (facts_wf s ks ls cs os fk fl sh rg (and_l (eqb s.phase 1) _ st) po (and_l (conf_holds s.commit_history_rounds s.deduplicate_rounds) _ s3) ro f)

    pub counted : counts_as_started (view s ks ls cs os) ≡ true → Started s ks ls cs os
    unfolding counts_as_started
    counted h =
        let (sh, rg, ph) = begun_elim (and_l (is_started (view s ks ls cs os).phase) _ h) in
        let g = regular_elim s ks ls cs os rg in
        let w = counts_as_started_elim (view s ks ls cs os) (sized s ks ls cs os fk fl sh g.inside) h in
        record {
          shaped = sh;
          regulated = rg;
          begun = ph;
          places_ok = ap places_ok (sym (places_is s ks ls cs os fk fl sh)) ∙ w.places_ok;
          conf_ok = sym (conf_is s) ∙ (ap conf_ok (sym (conf_of_lem _ refl)) ∙ w.conf_ok);
          rounds_ok = rounds_of_lem h;
          count_ok = g.room;
          memory_ok = g.memory;
          fits = g.fits;
          facts = wf_facts s ks ls cs os fk fl sh rg w;
        }

    counted-passes : counts_as_started (view s ks ls cs os) ≡ true → tested s ks ls cs os ≡ true
    unfolding tested state_holds
    counted-passes h =
        let t = counted h in
        both t.shaped (both (both t.begun (both t.places_ok (both t.conf_ok (both t.rounds_ok (both (le-leb _ _ t.count_ok) t.memory_ok)))))
        (both (facts_order t.rounds_ok t.facts) (facts_points t.places_ok t.facts)))

    -- the tables pass the test exactly if they count as started
    pub counts_as_started_is : counts_as_started (view s ks ls cs os) ≡ tested s ks ls cs os
    counts_as_started_is = same_test _ _ counted-passes passed-counts
