-- The test of the tables says what 01's rules say of the store that they are read as.
use Rattle.std.specs.Prelude.{ℕ, suc, ◌+◌, ◌-◌, ◌/◌, ◌%◌, ◌≤◌, ◌<◌, ◌≡◌, Bool, false, ◌&&◌, ◌||◌, eqb, length, get_or}
use Rattle.std.proofs.Math.Path.{refl, ap, subst}
use Rattle.std.proofs.Common.{sym, ◌∙◌, ap₂}
use mathlib.Core.List.{List, Memᴰ}
use Rattle.std.proofs.Math.Bool.{true}
use native.Mathlib.Omega.{arith}
use Rattle.std.proofs.Math.Dec.{leb, ltb}
use borrow.Author.Tests.{eqb-true, eq-eqb, ne_eqb, leb-true, le-leb, ltb-true, lt-ltb}
use Rattle.laws.specs.Test.{by_test, both, and_l, and_r, same_or}
use Rattle.laws.specs.Scan.{every_elim}
use Rattle.laws.specs.Peers.{member}
use Rattle.spec.specs.Ids.{Link, fits}
use Rattle.spec.specs.Store as store
use Rattle.spec.specs.Store.{Point, Store, id_at, resolved, links}
use Rattle.spec.specs.Paths.{height}
use Rattle.spec.specs.Rules.{is_peer, used_ok, places_ok, well_formed, is_started}
use Rattle.spec.specs.Links.{resolved-named}
use Rattle.spec.specs.HeightEquations.{Sized}
use Rattle.spec.specs.WellFormed as rules
use Rattle.spec.specs.WellFormed.{Wf}
use Rattle.models.specs.Digest.{Fit}
use Rattle.models.specs.Cert.{flags_of, height_of}
use Rattle.models.specs.Tables as tables
use Rattle.models.specs.Tables.{round_at, author_at, status_at, marks_at, evidence_at, Inside, Used, dist, proof_author_at}
use Rattle.dag_round_keys.specs.Sorted.{Sorted}
use Rattle.tables_ids.specs.Refines.{Few}
use Rattle.tables_heights.specs.View.{height_at}
use Rattle.models.specs.Live.{Live}
use Rattle.tables_heights.specs.Refines.{Heights}
use Rattle.tables_links.specs.Named.{Links}
use Rattle.tables_links.specs.Ruled.{Bare, Words}
use Rattle.tables_ids.specs.Ids.{id_holds, id_at_holds}
use Rattle.commit_state.specs.View.{point_at, given_at, record_of, round_of, conf_of, phase_of}
use Rattle.commit_state.specs.Reads.{window_in}
use Rattle.commit_state.specs.Numbers.{conf_holds, range_holds, used_hold, rounds_hold, conf_is, used_is}
use Rattle.commit_state.specs.declared.state.State.{State}
use Rattle.tables_test.specs.Model.{shape}
use Rattle.tables_test.specs.Refs.{links_elim}
use Rattle.tables_test.specs.View.{seen_at, seen_used, seen_given, seen_named, view, regular, words_fit}
use Rattle.tables_test.specs.Regular.{Regular, regular_elim}
use Rattle.tables_test.specs.Edges.{resolved_is, links_seen, one_place, names-fits}
use Rattle.tables_test.specs.Heights.{heights_are_elim, heights_are_intro}
use Rattle.tables_test.specs.Formed.{formed_elim, formed_intro}
use Rattle.tables_test.specs.Four.{four_elim, four_intro}

or_right : (a b : Bool) → a ≡ false → (a || b) ≡ true → b ≡ true
or_right a b e h = rw (e, ◌||◌) at h

-- what the tests of the tables say, one by one
pub record Facts (s : State) (ks ls cs os : List ℕ) : Type 0 where
  pub inside : Inside os s.count (length os)
  pub sorted : Sorted ks os s.count
  pub right : Links s.bottom.0 ks ls os s.count
  pub words : (q : ℕ) → Used os s.count q → Words ks ls cs q
  pub bare : (q : ℕ) → Used os s.count q → Bare ks ls q
  pub ids : (q : ℕ) → Used os s.count q → id_at_holds s ks q ≡ true
  pub few : Few ks os s.count
  pub heights : Heights s.bottom.0 s.commit_history_rounds ks ls cs os s.count

module _ (s : State) (ks ls cs os : List ℕ) (fk : Fit ks) (fl : Fit ls) (sh : shape ks ls cs os ≡ true) where
  abbrev v : Store
  v = view s ks ls cs os

  pub places_is : v.places ≡ length os
  unfolding view
  places_is = rw sh refl

  sees : (q : ℕ) → v.pt q ≡ seen_at ks ls cs os s.count q
  unfolding view
  sees q = refl

  pub sized : Inside os s.count (length os) → Sized v
  unfolding view
  sized inside q l = by_test (v.pt q).named (λ t. absurd (let (i, k, e) = seen_named ks ls cs os s.count q t in omega (arith, inside i k, places_is))) (λ f. f)

  named : (q : ℕ) → (v.pt q).named ≡ true → Used os s.count q
  unfolding view
  named q h = seen_named ks ls cs os s.count q h

  point : (q : ℕ) → Used os s.count q → v.pt q ≡ point_at ks ls cs q
  point q u = sees q ∙ seen_used ks ls cs os s.count q u

  round_is : (q : ℕ) → Used os s.count q → store.round_at v q ≡ round_at ks q
  unfolding point_at
  round_is q u = ap (λ (p : Point). p.id.round) (point q u)

  height_at_lem : (q : ℕ) → Used os s.count q → v.heights q ≡ height_at cs q
  unfolding view height_of
  height_at_lem q u = rw ((tables.used_is os s.count q).1 u) refl

  -- the rounds from bottom to top, and the peers of their records
  peers_is : (r : ℕ) → s.bottom.0 ≤ r → r ≤ s.top.0 → (v.rounds r).peers ≡ (record_of s.rounds r).peers
  unfolding view round_of
  peers_is r l m = ap (λ x. x.peers) (window_in s.rounds s.bottom.0 s.top.0 r l m)

  -- ids
  pub low_of_lem : ((q : ℕ) → Used os s.count q → id_at_holds s ks q ≡ true) → (q : ℕ) → Used os s.count q → s.bottom.0 ≤ round_at ks q
  unfolding id_holds
  low_of_lem ids q u = leb-true _ _ (and_l _ _ (ids q u))

  high_of_lem : ((q : ℕ) → Used os s.count q → id_at_holds s ks q ≡ true) → (q : ℕ) → Used os s.count q → round_at ks q ≤ s.top.0
  unfolding id_holds
  high_of_lem ids q u = leb-true _ _ (and_l _ _ (and_r (leb s.bottom.0 (round_at ks q)) _ (ids q u)))

  peer_to : (q : ℕ) → Used os s.count q → s.bottom.0 ≤ round_at ks q → round_at ks q ≤ s.top.0
      → is_peer v (id_at v q) ≡ (ltb (author_at ks q) 32 && member (record_of s.rounds (round_at ks q)).peers (author_at ks q))
  unfolding is_peer point_at
  peer_to q u l m =
      ap (λ (p : Point). ltb p.id.author 32 && member (v.rounds p.id.round).peers p.id.author) (point q u)
      ∙ ap (λ x. ltb (author_at ks q) 32 && member x (author_at ks q)) (peers_is (round_at ks q) l m)

  -- a resolved point
  status_of_lem : (q : ℕ) → resolved (v.pt q) ≡ true → Used os s.count q × (0 < status_at ks q)
  status_of_lem q h =
      let u = named q (resolved-named (v.pt q) h) in
      (u, ltb-true _ _ (sym (resolved_is ks ls cs q) ∙ (ap resolved (sym (point q u)) ∙ h)))

  given_is : (q : ℕ) → Used os s.count q → 0 < status_at ks q → (v.pt q).resolution ≡ given_at ks ls q
  unfolding view
  given_is q u l = seen_given ks ls cs os s.count q u l

  formed_to : (q : ℕ) → Used os s.count q → 0 < status_at ks q → well_formed (store.round_at v q) (v.pt q).resolution ≡ well_formed (round_at ks q) (given_at ks ls q)
  formed_to q u l = ap₂ well_formed (round_is q u) (given_is q u l)

  marks_of_lem : rounds_hold s ≡ true → (r : ℕ) → s.bottom.0 ≤ r → r ≤ s.top.0 → used_ok (v.rounds r).used ≡ true
  unfolding view round_of rounds_hold used_hold
  marks_of_lem ro r l m =
      let h = every_elim (suc (s.top.0 - s.bottom.0)) (λ k. leb (record_of s.rounds (s.bottom.0 + k)).used_anchor_proof 32) (and_r (range_holds s.genesis.0 s.bottom.0 s.top.0) _ ro) (r - s.bottom.0) (omega arith) in
      let e : s.bottom.0 + (r - s.bottom.0) ≡ r = omega arith in
      ap (λ x. used_ok x.used) (window_in s.rounds s.bottom.0 s.top.0 r l m) ∙ (used_is (record_of s.rounds r).used_anchor_proof ∙ subst (λ x. leb (record_of s.rounds x).used_anchor_proof 32 ≡ true) e h)

  peer_of_lem : ((q : ℕ) → Used os s.count q → id_at_holds s ks q ≡ true) → (q : ℕ) → Used os s.count q → (ltb (author_at ks q) 32 && member (record_of s.rounds (round_at ks q)).peers (author_at ks q)) ≡ true
  unfolding id_holds
  peer_of_lem ids q u = and_r (leb (round_at ks q) s.top.0) _ (and_r (leb s.bottom.0 (round_at ks q)) _ (ids q u))

  leads_of : (f : Facts s ks ls cs os) → (q : ℕ) → resolved (v.pt q) ≡ true → (l : Link) → Memᴰ l (links (v.pt q)) → v.bottom + l.dist ≤ store.round_at v q → rules.Leads v (store.round_at v q) l
  unfolding view point_at
  leads_of f q h l m k =
      let (u, st) = status_of_lem q h in
      let (i, small, t, e) = links_elim ls q l (subst (Memᴰ l) (ap links (point q u) ∙ links_seen ks ls cs q st) m) in
      let d : l.dist ≡ dist i = ap (λ (x : Link). x.dist) e in
      let live : Live s.bottom.0 ks q i = (st, small, omega (arith, d, round_is q u, k), (f.words q u).named.status) in
      let (x, w, a, names) = f.right q i u live t in
      let g = names-fits s.bottom.0 s.count ks ls cs os f.sorted f.right (low_of_lem f.ids) fk fl q i x names in
      (x, ap (λ (p : Point). p.named) (point x w), (λ j. fits (round_is q u j) (point x w j).id (e j)) ∙ g)

  pub facts_wf : regular s ks ls cs os ≡ true → eqb s.phase 1 ≡ true → places_ok (length os) ≡ true → conf_holds s.commit_history_rounds s.deduplicate_rounds ≡ true → rounds_hold s ≡ true
      → Facts s ks ls cs os → Wf v
  unfolding view phase_of is_started range_holds rounds_hold used_hold point_at flags_of conf_of
  facts_wf rg ph po co ro f = record {
    sized = sized f.inside;
    begun = rw (both sh rg, ph) refl;
    places_ok = ap places_ok places_is ∙ po;
    conf_ok = conf_is s ∙ co;
    low = leb-true _ _ (and_l _ _ range);
    rounds_ok = leb-true _ _ (search (and_l, and_r, range));
    high = leb-true _ _ (search (and_l, and_r, range));
    few = ltb-true _ _ (search (and_l, and_r, range));
    used_ok = marks_of_lem ro;
    kept = λ q h. let u = named q h in (subst (λ x. s.bottom.0 ≤ x) (sym (round_is q u)) (low_of_lem f.ids q u), subst (λ x. x ≤ s.top.0) (sym (round_is q u)) (high_of_lem f.ids q u));
    peer = λ q h. let u = named q h in peer_to q u (low_of_lem f.ids q u) (high_of_lem f.ids q u) ∙ peer_of_lem f.ids q u;
    apart = λ p q h k r d. let u = named p h in let w = named q k in
        one_place s.bottom.0 s.count ks ls cs os f.sorted f.right (low_of_lem f.ids) fk fl p q u w (sym (round_is p u) ∙ (r ∙ round_is q w)) (ap (λ (x : Point). x.id.digest) (sym (point p u)) ∙ (d ∙ ap (λ (x : Point). x.id.digest) (point q w)));
    four = λ q h. four_elim s.count ks ls cs os v named point f.few q (named q h);
    formed = λ q h. let (u, l) = status_of_lem q h in formed_to q u l ∙ formed_intro ks ls q l (f.words q u).named.status (f.bare q u) ((f.words q u).resolution l).author;
    leads = leads_of f;
    heights_are = λ q h. let u = named q h in height_at_lem q u ∙ heights_are q u;
    firm = λ q h c. let u = named q h in subst (λ x. 0 < x) (heights_are q u) ((f.words q u).named.committed (eqb-true _ _ (ap (λ (p : Point). p.flags.committed) (sym (point q u)) ∙ c)));
  }
    where
      range : range_holds s.genesis.0 s.bottom.0 s.top.0 ≡ true
      range = and_l _ _ ro

      heights_are : (q : ℕ) → Used os s.count q → height_at cs q ≡ height v q
      heights_are q u = heights_are_elim s.bottom.0 s.count ks ls cs os f.sorted f.right (low_of_lem f.ids) (λ p x. (f.words p x).named.status) fk fl v (sized f.inside) sees f.heights q u

  -- and back
  module _ (rg : regular s ks ls cs os ≡ true) (w : Wf v) where
    held : Regular s ks ls cs os
    held = regular_elim s ks ls cs os rg

    is_named_lem : (q : ℕ) → Used os s.count q → (v.pt q).named ≡ true
    unfolding point_at
    is_named_lem q u = ap (λ (p : Point). p.named) (point q u)

    is_low_lem : (q : ℕ) → Used os s.count q → s.bottom.0 ≤ round_at ks q
    unfolding view
    is_low_lem q u = subst (λ x. s.bottom.0 ≤ x) (round_is q u) (w.kept q (is_named_lem q u)).0

    is_high : (q : ℕ) → Used os s.count q → round_at ks q ≤ s.top.0
    unfolding view
    is_high q u = subst (λ x. x ≤ s.top.0) (round_is q u) (w.kept q (is_named_lem q u)).1

    is_peer_lem : (q : ℕ) → Used os s.count q → (ltb (author_at ks q) 32 && member (record_of s.rounds (round_at ks q)).peers (author_at ks q)) ≡ true
    is_peer_lem q u = sym (peer_to q u (is_low_lem q u) (is_high q u)) ∙ w.peer q (is_named_lem q u)

    is_formed : (q : ℕ) → Used os s.count q → 0 < status_at ks q → (status_at ks q ≤ 5) × Bare ks ls q × (proof_author_at ls q < 32)
    is_formed q u l = formed_elim ks ls q (sym (formed_to q u l) ∙ w.formed q (ap resolved (point q u) ∙ (resolved_is ks ls cs q ∙ lt-ltb _ _ l)))

    is_heights_are : (q : ℕ) → Used os s.count q → height_at cs q ≡ height v q
    is_heights_are q u = sym (height_at_lem q u) ∙ w.heights_are q (is_named_lem q u)

    is_firm : (q : ℕ) → Used os s.count q → get_or cs q 0 / 4096 % 2 ≡ 1 → 0 < get_or cs q 0 % 4096
    unfolding point_at flags_of
    is_firm q u e = subst (λ x. 0 < x) (sym (is_heights_are q u)) (w.firm q (is_named_lem q u) (ap (λ (p : Point). p.flags.committed) (point q u) ∙ eq-eqb _ _ e))

    is_words : (q : ℕ) → Used os s.count q → Words ks ls cs q
    unfolding words_fit
    is_words q u =
        let a = and_r (ltb (marks_at ks q) 8) _ (held.fits q u) in
        record {
          named = record {
            status = same_or (status_at ks q) 0 (λ e. omega arith) (λ d. (is_formed q u (omega arith)).0);
            marks = ltb-true _ _ (and_l (ltb (marks_at ks q) 8) _ (held.fits q u));
            author = ltb-true _ _ (and_l _ _ (is_peer_lem q u));
            word = leb-true _ _ (and_l (leb (get_or cs q 0) 65_535) _ a);
            committed = is_firm q u;
          };
          resolution = λ l. let c = or_right (eqb (status_at ks q) 0) _ (ne_eqb (status_at ks q) 0 (λ e. omega arith)) (and_r (leb (get_or cs q 0) 65_535) _ a) in record {
            evidence = ltb-true _ _ (and_l (ltb (evidence_at ls q) 4_294_967_296) _ c);
            round = ltb-true _ _ (and_r (ltb (evidence_at ls q) 4_294_967_296) _ c);
            author = (is_formed q u l).2;
          };
        }

    is_bare : (q : ℕ) → Used os s.count q → Bare ks ls q
    is_bare q u = record {
      links = λ k l. (is_formed q u l).1.links k l;
      evidence = λ m. (is_formed q u (omega arith)).1.evidence m;
    }

    pub wf_facts : Facts s ks ls cs os
    unfolding id_holds view conf_of
    wf_facts = record {
      inside = held.inside;
      sorted = held.sorted;
      right = held.right;
      words = is_words;
      bare = is_bare;
      ids = λ q u. both (le-leb _ _ (is_low_lem q u)) (both (le-leb _ _ (is_high q u)) (is_peer_lem q u));
      few = four_intro s.count ks ls cs os v named point held.sorted (subst (Inside os s.count) (sym places_is) held.inside) (λ q u. w.four q (is_named_lem q u));
      heights = heights_are_intro s.bottom.0 s.count ks ls cs os held.sorted held.right is_low_lem (λ p x. (is_words p x).named.status) fk fl v (sized held.inside) sees is_heights_are;
    }
