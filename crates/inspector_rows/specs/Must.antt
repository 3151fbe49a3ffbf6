-- What `must_reference` leaves is 01's memory of the round.
use Rattle.std.specs.Prelude.{ℕ, ◌+◌, ◌*◌, ◌^◌, ◌<◌, ◌≤◌, ◌≡◌, List, map, Bool, true, not, ◌&&◌, eqb, ltb, length, get_or, set}
use Rattle.std.proofs.Math.Path.{refl, sym, ap, subst}
use Rattle.std.proofs.Common.{◌∙◌, arith, eq-eqb, ne_eqb, lt-ltb, le-ltb}
use Rattle.std.proofs.Math.Bool.{cond}
use Rattle.std.proofs.Math.Option.{Option, none, some}
use Rattle.std.proofs.Math.Seq.{get_or-set_other}
use Rattle.laws.specs.Test.{same_or, and_no_r}
use Rattle.laws.specs.Lists.{keep, keep_in}
use Rattle.laws.specs.Peers.{member}
use Rattle.spec.specs.Store as store
use Rattle.spec.specs.Store.{Store, Point, Resolution, previous}
use Rattle.spec.specs.Rules.{counts_as_started}
use Rattle.spec.specs.Inspect.{is_trusted, places_in, included_by, must_reference, entry_of, round_data}
use Rattle.models.specs.Digest.{Fit, digest_at}
use Rattle.models.specs.Tables.{round_at, author_at, digest_of, status_at, evidence_at, Used, target_at}
use Rattle.dag_round_keys.specs.Digest.{digest_alike}
use Rattle.tables_links.specs.Links.{dig_at}
use Rattle.commit_state.specs.View.{point_at}
use Rattle.commit_state.specs.declared.state.State.{State}
use Rattle.tables_test.specs.View.{view}
use Rattle.tables_test.specs.Refines.{Started, counted}
use Rattle.back_history.specs.RefinesNeeded.{used_point}
use Rattle.models.specs.Ids.{has_previous}
use Rattle.back_walk.specs.Refines.{given_at_lem, previous_at}
use Rattle.inspector_references.specs.Sets.{without, none-member, without-member, without-lt}
use Rattle.inspector_references.specs.Trusted.{Listed, listed_in}
use Rattle.inspector_references.specs.Live.{author_low}
use Rattle.inspector_references.specs.Referring.{row_author, row_previous, row_signed, row_peers, referring_by, referring-same, FromPlace, RowOf, trusted_used, included_is}
use Rattle.inspector_rows.specs.Rows.{words_from, from_digest, row_from, row_digest_lem, row_signed_lem, stacked, stacked_in, stacked_digest, stacked-same, stacked-entry, entry_at, entries_of, entries-map, RowsFit}

-- the row of the place q, with the peers that signed its previous point
unfoldable pub point_row : List ℕ → List ℕ → ℕ → List ℕ
point_row ks ls q = row_from (author_at ks q) (words_from ks (q * 8 + 2)) (target_at ls q (author_at ks q)) (words_from ls (dig_at q (author_at ks q))) (evidence_at ls q)

-- those of them that don't include it; none without a previous point
unfoldable pub unreferenced_of : List ℕ → List ℕ → List ℕ → ℕ → Bool → List ℕ → ℕ
unreferenced_of ks ls l n live row = cond (eqb (get_or row 5 0) 0) 0 (without (get_or row 10 0) (referring_by ks ls l n 0 live row 0))

unfoldable pub must_row : List ℕ → List ℕ → List ℕ → ℕ → Bool → ℕ → List ℕ
must_row ks ls l n live q = set (point_row ks ls q) 10 (unreferenced_of ks ls l n live (point_row ks ls q))

-- the table t with the rows of the first n places of l
abbrev pub must_rows : List ℕ → List ℕ → List ℕ → ℕ → Bool → List ℕ → List ℕ
must_rows ks ls l n live t = stacked (λ j. must_row ks ls l n live (get_or l j 0)) t n

-- ---- the steps of the code

pub point_by : (ks ls : List ℕ) (q a k e t : ℕ) (d p r : List ℕ) → a ≡ author_at ks q → k ≡ a → d ≡ words_from ks (q * 8 + 2) → t ≡ target_at ls q k → p ≡ words_from ls (q * 328 + 72 + k * 4) → e ≡ evidence_at ls q
    → r ≡ row_from a d t p e → r ≡ point_row ks ls q
unfolding point_row
point_by ks ls q a k e t d p r f g h i j m o =
    o ∙ (λ z. row_from (f z) (h z) ((i ∙ ap (target_at ls q) (g ∙ f)) z) ((j ∙ ap (λ x. words_from ls (q * 328 + 72 + x * 4)) (g ∙ f)) z) (m z))

module _ (ks ls l : List ℕ) (n : ℕ) (live : Bool) (row : List ℕ) where
  pub unreferenced_none : get_or row 5 0 ≡ 0 → 0 ≡ unreferenced_of ks ls l n live row
  unfolding unreferenced_of
  unreferenced_none e = rw (eq-eqb (get_or row 5 0) 0 e) refl

  pub unreferenced_some : (b r : ℕ) → (get_or row 5 0 ≡ 0 → ⊥) → b ≡ referring_by ks ls l n 0 live row 0 → r ≡ without (get_or row 10 0) b → r ≡ unreferenced_of ks ls l n live row
  unfolding unreferenced_of
  unreferenced_some b r d e h = rw (ne_eqb (get_or row 5 0) 0 d, ← e) h

pub must_by : (ks ls l : List ℕ) (n : ℕ) (live : Bool) (q : ℕ) (p r : List ℕ) (u : ℕ) → p ≡ point_row ks ls q → u ≡ unreferenced_of ks ls l n live p → r ≡ set p 10 u → r ≡ must_row ks ls l n live q
unfolding must_row
must_by ks ls l n live q p r u e d h = rw (← e, ← d) h

-- a row has its 11 words, and its author is a peer
pub point_ready : (ks ls : List ℕ) (q : ℕ) (r : List ℕ) → r ≡ point_row ks ls q → author_at ks q < 32 → (11 ≤ length r) × (get_or r 0 0 < 32)
unfolding point_row row_from
point_ready ks ls q r e l = subst (λ (x : List ℕ). (11 ≤ length x) × (get_or x 0 0 < 32)) (sym e) (omega arith, l)

-- the places beyond the first n don't count
pub must_same : (ks ls l m : List ℕ) (n : ℕ) (live : Bool) (t : List ℕ) → ((j : ℕ) → j < n → get_or l j 0 ≡ get_or m j 0) → must_rows ks ls l n live t ≡ must_rows ks ls m n live t
unfolding must_row unreferenced_of
must_same ks ls l m n live t h =
    stacked-same _ _ t n
    (λ j i. ap (must_row ks ls l n live) (h j i)
    ∙ (let row = point_row ks ls (get_or m j 0) in λ z. set row 10 (cond (eqb (get_or row 5 0) 0) 0 (without (get_or row 10 0) (referring-same ks ls l m n 0 live row 0 h z)))))

-- ---- 01's memory

module _ (ks ls : List ℕ) (q : ℕ) where
  -- the row is that of its place
  point_from : FromPlace ks ls (point_row ks ls q) 0 q
  unfolding point_row row_from
  point_from = record { author = refl; previous = refl; signed = row_signed_lem (author_at ks q) (words_from ks (q * 8 + 2)) (target_at ls q (author_at ks q)) (words_from ls (dig_at q (author_at ks q))) (evidence_at ls q) ∙ from_digest ls (dig_at q (author_at ks q)) }

  point_digest : digest_at (point_row ks ls q) 1 ≡ digest_of ks q
  unfolding point_row
  point_digest = row_digest_lem (author_at ks q) (words_from ks (q * 8 + 2)) (target_at ls q (author_at ks q)) (words_from ls (dig_at q (author_at ks q))) (evidence_at ls q) ∙ from_digest ks (q * 8 + 2)

  point_evidence : get_or (point_row ks ls q) 10 0 ≡ evidence_at ls q
  unfolding point_row row_from
  point_evidence = refl

  module _ (l : List ℕ) (n : ℕ) (live : Bool) where
    -- its other words stay
    must_word : (p : ℕ) → p + 4 ≤ 10 → digest_at (must_row ks ls l n live q) p ≡ digest_at (point_row ks ls q) p
    unfolding must_row
    must_word p r = digest_alike (must_row ks ls l n live q) (point_row ks ls q) p p (λ i m. get_or-set_other (point_row ks ls q) 10 (p + i) (unreferenced_of ks ls l n live (point_row ks ls q)) 0 (λ e. omega arith))

    must_from : FromPlace ks ls (must_row ks ls l n live q) 0 q
    unfolding must_row point_row row_from
    must_from = record { author = refl; previous = refl; signed = must_word 6 (omega arith) ∙ point_from.signed }

    must_digest : digest_at (must_row ks ls l n live q) 1 ≡ digest_of ks q
    must_digest = must_word 1 (omega arith) ∙ point_digest

    must_peers : row_peers (must_row ks ls l n live q) 0 ≡ unreferenced_of ks ls l n live (point_row ks ls q)
    unfolding must_row point_row row_from
    must_peers = refl

module _ (s : State) (ks ls cs os : List ℕ) (fk : Fit ks) (fl : Fit ls) (h : counts_as_started (view s ks ls cs os) ≡ true) (r : ℕ) (l : List ℕ) (n : ℕ) (live : Bool)
    (here : Listed l n (keep (is_trusted (view s ks ls cs os)) (places_in (view s ks ls cs os) r))) (up : live ≡ true → s.bottom.0 < r) where
  abbrev v : Store
  v = view s ks ls cs os

  abbrev t : Started s ks ls cs os
  t = counted s ks ls cs os fk fl h

  module _ (q : ℕ) (u : Used os s.count q) (st : 0 < status_at ks q) (at : round_at ks q ≡ r) where
    abbrev row : List ℕ
    row = point_row ks ls q

    -- the peers, one by one
    peers_is : (a : ℕ) → member (unreferenced_of ks ls l n live row) a ≡ (member (v.pt q).resolution.evidence a && must_reference v r (previous (v.pt q)) a)
    unfolding unreferenced_of must_reference has_previous
    peers_is a = same_or (target_at ls q (author_at ks q)) 0 without-previous with_previous
      where
        evidence : (v.pt q).resolution.evidence ≡ evidence_at ls q
        evidence = ap (λ (x : Resolution). x.evidence) (given_at_lem s ks ls cs os fk fl h q u st)

        before : previous (v.pt q) ≡ cond (ltb 0 (target_at ls q (author_at ks q))) (some (digest_at ls (dig_at q (author_at ks q)))) none
        before = previous_at s ks ls cs os fk fl h q u st

        word : get_or row 5 0 ≡ target_at ls q (author_at ks q)
        word = (point_from ks ls q).previous

        without-previous : target_at ls q (author_at ks q) ≡ 0 → member (unreferenced_of ks ls l n live row) a ≡ (member (v.pt q).resolution.evidence a && must_reference v r (previous (v.pt q)) a)
        without-previous e =
            let p : previous (v.pt q) ≡ none = before ∙ rw (le-ltb 0 (target_at ls q (author_at ks q)) (omega arith)) refl in
            ap (λ (x : Bool). member (cond x 0 (without (get_or row 10 0) (referring_by ks ls l n 0 live row 0))) a) (eq-eqb (get_or row 5 0) 0 (word ∙ e))
            ∙ (none-member a ∙ (sym (and_no_r (member (v.pt q).resolution.evidence a) refl) ∙ ap (λ (x : Option ℕ). member (v.pt q).resolution.evidence a && must_reference v r x a) (sym p)))

        with_previous : (target_at ls q (author_at ks q) ≡ 0 → ⊥) → member (unreferenced_of ks ls l n live row) a ≡ (member (v.pt q).resolution.evidence a && must_reference v r (previous (v.pt q)) a)
        with_previous d =
            let p : previous (v.pt q) ≡ some (row_signed row 0) = before ∙ (rw (lt-ltb 0 (target_at ls q (author_at ks q)) (omega arith)) refl ∙ ap some (sym (point_from ks ls q).signed)) in
            let by : member (referring_by ks ls l n 0 live row 0) a ≡ included_by v r a (row_signed row 0)
            = included_is s ks ls cs os fk fl h live r row 0 (omega (arith, word, d)) l n here a (λ y. (r, omega arith, up y, record { place = q; used = u; resolved = st; round = at; words = point_from ks ls q })) in
            ap (λ (x : Bool). member (cond x 0 (without (get_or row 10 0) (referring_by ks ls l n 0 live row 0))) a) (ne_eqb (get_or row 5 0) 0 (λ e. d (sym word ∙ e)))
            ∙ (without-member (get_or row 10 0) (referring_by ks ls l n 0 live row 0) a
            ∙ ((λ i. member ((point_evidence ks ls q ∙ sym evidence) i) a && not (by i)) ∙ ap (λ (x : Option ℕ). member (v.pt q).resolution.evidence a && must_reference v r x a) (sym p)))

    -- the row holds what 01 keeps of the point
    must_entry : entry_at (must_row ks ls l n live q) 0 ≡ entry_of v r q
    unfolding entry_at entry_of has_previous point_at
    must_entry =
        let row = must_row ks ls l n live q in
        let is : v.pt q ≡ point_at ks ls cs q = used_point s ks ls cs os fk fl t q u in
        let f = must_from ks ls q l n live in
        let a : row_author row 0 ≡ (store.id_at v q).author = f.author ∙ ap (λ (p : Point). p.id.author) (sym is) in
        let d : digest_at row 1 ≡ (store.id_at v q).digest = must_digest ks ls q l n live ∙ ap (λ (p : Point). p.id.digest) (sym is) in
        let p : cond (ltb 0 (row_previous row 0)) (some (row_signed row 0)) none ≡ previous (v.pt q) = (λ i. cond (ltb 0 (f.previous i)) (some (f.signed i)) none) ∙ sym (previous_at s ks ls cs os fk fl h q u st) in
        let b : (a : ℕ) → member (row_peers row 0) a ≡ (member (v.pt q).resolution.evidence a && must_reference v r (previous (v.pt q)) a) = λ a. ap (λ x. member x a) (must_peers ks ls q l n live) ∙ peers_is a in
        λ i. record { author = a i; digest = d i; previous = p i; unreferenced_by = λ a. b a i }

    -- its peers are a part of the evidence
    must_low : row_peers (must_row ks ls l n live q) 0 < 2 ^ 32
    unfolding unreferenced_of
    must_low =
        subst (λ x. x < 2 ^ 32) (sym (must_peers ks ls q l n live))
        (same_or (get_or row 5 0) 0
        (λ e. rw (eq-eqb (get_or row 5 0) 0 e) (omega arith))
        (λ d. rw (ne_eqb (get_or row 5 0) 0 d) (without-lt 32 (get_or row 10 0) (referring_by ks ls l n 0 live row 0) (subst (λ x. x < 2 ^ 32) (sym (point_evidence ks ls q)) ((t.facts.words q u).resolution st).evidence))))

  abbrev rows : List ℕ → List ℕ
  rows rs = must_rows ks ls l n live rs

  -- place k is that of a trusted point of the round
  place_of : (k : ℕ) → k < n → Used os s.count (get_or l k 0) × (0 < status_at ks (get_or l k 0)) × (round_at ks (get_or l k 0) ≡ r)
  place_of k m = let (i, y) = (keep_in (is_trusted v) (places_in v r) (get_or l k 0)).0 (listed_in l n (keep (is_trusted v) (places_in v r)) here k m) in trusted_used s ks ls cs os fk fl h r (get_or l k 0) i y

  module _ (rs : List ℕ) (room : n * 11 ≤ length rs) where
    -- the rows hold 01's memory of round r
    pub must_is : entries_of (rows rs) n ≡ (round_data v r).entries
    unfolding round_data
    must_is =
        entries-map (rows rs) (entry_of v r) l 0 n (omega (arith, here.size, here.few))
        (λ k m. let (u, st, at) = place_of k m in stacked-entry (λ j. must_row ks ls l n live (get_or l j 0)) rs n k room m ∙ must_entry (get_or l k 0) u st at)
        ∙ ap (map (entry_of v r)) here.are

    -- each is that of a point of the round
    pub must_rows_lem : (k : ℕ) → k < n → RowOf s ks ls os r (rows rs) k
    must_rows_lem k m =
        let (u, st, at) = place_of k m in
        let row : ℕ → List ℕ = λ j. must_row ks ls l n live (get_or l j 0) in
        let f = must_from ks ls (get_or l k 0) l n live in
        record {
          place = get_or l k 0;
          used = u;
          resolved = st;
          round = at;
          words = record {
            author = stacked_in row rs n k 0 room m (omega arith) ∙ f.author;
            previous = stacked_in row rs n k 5 room m (omega arith) ∙ f.previous;
            signed = stacked_digest row rs n k 6 room m (omega arith) ∙ f.signed;
          };
        }

    -- in the ranges of a memory's words
    pub must_fit : RowsFit (rows rs) n
    must_fit k m =
        let (u, st, at) = place_of k m in
        let row : ℕ → List ℕ = λ j. must_row ks ls l n live (get_or l j 0) in (
          subst (λ x. x < 32) (sym (stacked_in row rs n k 0 room m (omega arith) ∙ (must_from ks ls (get_or l k 0) l n live).author)) (author_low s ks ls cs os fk fl t (get_or l k 0) u),
          subst (λ x. x < 2 ^ 32) (sym (stacked_in row rs n k 10 room m (omega arith))) (must_low (get_or l k 0) u st at),
        )
