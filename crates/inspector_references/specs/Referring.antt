-- Which authors of a round's trusted points refer to the previous point of a row (01: inspector.rs).
-- A row has 11 words: author, digest (four), previous, previous digest (four), the peers that signed the previous point and did not include
-- it. Previous is 0 without a previous point. Of a row made from a place it is the target word of the link to that point.
use Prim.Native.Nat.{ℕ, ◌+◌, ◌*◌, ◌^◌, ◌<◌, ◌≤◌}
use Rattle.std.specs.Prelude.{◌≡◌, true, false, ◌&&◌, cond, length, get_or}
use Rattle.std.proofs.Math.Path.{refl, sym, ap, subst}
use Rattle.std.proofs.Common.{◌∙◌, arith}
use mathlib.Core.List.{List, Memᴰ}
use Rattle.std.proofs.Math.Bool.{Bool}
use Rattle.std.proofs.Math.Dec.{eqb}
use Rattle.laws.specs.Test.{by_test, clash, same_or}
use Rattle.laws.specs.Scan.{any_same}
use Rattle.laws.specs.Lists.{has, has_same, keep, keep_in}
use Rattle.laws.specs.Peers.{member}
use Rattle.spec.specs.Ids.{Ref}
use Rattle.spec.specs.Store as store
use Rattle.spec.specs.Store.{Store, Point}
use Rattle.spec.specs.Rules.{counts_as_started}
use Rattle.spec.specs.Inspect.{of, is_trusted, places_in, refers_to, included_by, witnessed_by}
use Rattle.spec.specs.Inspection.{place_elim}
use Rattle.models.specs.Digest.{Fit, digest_at}
use Rattle.models.specs.Tables.{round_at, author_at, status_at, Used, target_at}
use Rattle.tables_links.specs.Links.{dig_at}
use Rattle.commit_state.specs.View.{point_at, resolution_at}
use Rattle.commit_state.specs.declared.state.State.{State}
use Rattle.tables_test.specs.Model.{shape_says}
use Rattle.tables_test.specs.View.{view}
use Rattle.tables_test.specs.Refines.{Started, counted}
use Rattle.models.specs.Ids.{Placed}
use Rattle.back_history.specs.RefinesNeeded.{named_used, used_point, used_round}
use Rattle.inspector_references.specs.Sets.{union_of, union_same, union_member, one-member}
use Rattle.inspector_references.specs.Trusted.{Listed, listed_in, has-take, has-keep}
use Rattle.inspector_references.specs.Refs.{refers_at, includes_refer, witness_refer}
use Rattle.inspector_references.specs.Live.{author_low, refers_live}

-- ---- the words of row k

abbrev pub row_author : List ℕ → ℕ → ℕ
row_author rs k = get_or rs (k * 11 + 0) 0

abbrev pub row_digest : List ℕ → ℕ → ℕ
row_digest rs k = digest_at rs (k * 11 + 1)

abbrev pub row_previous : List ℕ → ℕ → ℕ
row_previous rs k = get_or rs (k * 11 + 5) 0

abbrev pub row_signed : List ℕ → ℕ → ℕ
row_signed rs k = digest_at rs (k * 11 + 6)

abbrev pub row_peers : List ℕ → ℕ → ℕ
row_peers rs k = get_or rs (k * 11 + 10) 0

-- row k lies in the table, and its author is a peer's number
abbrev pub RowIn : List ℕ → ℕ → Type 0
RowIn rs k = (k * 11 + 11 ≤ length rs) × (row_author rs k < 32)

-- ---- what the code gives

-- the point at place q refers to the previous point of row k, by its links from b on: live, by the target word alone
unfoldable pub refers_row : List ℕ → ℕ → ℕ → Bool → List ℕ → ℕ → Bool
refers_row ls q b live rs k = cond live (eqb (target_at ls q (b + row_author rs k)) (row_previous rs k)) (refers_at ls q b (row_signed rs k))

-- the authors of those of the first n places that do
unfoldable pub referring_by : List ℕ → List ℕ → List ℕ → ℕ → ℕ → Bool → List ℕ → ℕ → ℕ
referring_by ks ls l n b live rs k = union_of (λ j. refers_row ls (get_or l j 0) b live rs k) (λ j. 2 ^ author_at ks (get_or l j 0)) n

-- the places beyond them don't count
pub referring-same : (ks ls l m : List ℕ) (n b : ℕ) (live : Bool) (rs : List ℕ) (k : ℕ) → ((j : ℕ) → j < n → get_or l j 0 ≡ get_or m j 0) → referring_by ks ls l n b live rs k ≡ referring_by ks ls m n b live rs k
unfolding referring_by
referring-same ks ls l m n b live rs k h = union_same _ _ _ _ n (λ j i. ap (λ (q : ℕ). refers_row ls q b live rs k) (h j i)) (λ j i. ap (λ (q : ℕ). 2 ^ author_at ks q) (h j i))

module _ (ls : List ℕ) (q b : ℕ) (live : Bool) (rs : List ℕ) (k : ℕ) where
  pub row_live : (a t : ℕ) → live ≡ true → a ≡ row_author rs k → t ≡ target_at ls q (b + a) → eqb t (row_previous rs k) ≡ refers_row ls q b live rs k
  unfolding refers_row
  row_live a t y e x = rw (x, y, e) refl

  pub row_digest_lem : (r : Bool) → live ≡ false → r ≡ refers_at ls q b (row_signed rs k) → r ≡ refers_row ls q b live rs k
  unfolding refers_row
  row_digest_lem r t e = rw t e

-- ---- the same of 01's store

-- row k is that of the place w
pub record FromPlace (ks ls rs : List ℕ) (k w : ℕ) : Type 0 where
  pub author : row_author rs k ≡ author_at ks w
  pub previous : row_previous rs k ≡ target_at ls w (author_at ks w)
  pub signed : row_signed rs k ≡ digest_at ls (dig_at w (author_at ks w))

-- row k is that of a resolved point of round r
pub record RowOf (s : State) (ks ls os : List ℕ) (r : ℕ) (rs : List ℕ) (k : ℕ) : Type 0 where
  pub place : ℕ
  pub used : Used os s.count place
  pub resolved : 0 < status_at ks place
  pub round : round_at ks place ≡ r
  pub words : FromPlace ks ls rs k place

-- row k is that of a resolved point g rounds below round x, and above the bottom
abbrev pub Retained : State → List ℕ → List ℕ → List ℕ → ℕ → ℕ → List ℕ → ℕ → Type 0
Retained s ks ls os x g rs k = (r : ℕ) × (x ≡ r + g) × (s.bottom.0 < r) × RowOf s ks ls os r rs k

module _ (s : State) (ks ls cs os : List ℕ) (fk : Fit ks) (fl : Fit ls) (h : counts_as_started (view s ks ls cs os) ≡ true) where
  abbrev v : Store
  v = view s ks ls cs os

  abbrev t : Started s ks ls cs os
  t = counted s ks ls cs os fk fl h

  -- a trusted point of a round: its place is used, resolved and of that round
  pub trusted_used : (r q : ℕ) → Memᴰ q (places_in v r) → is_trusted v q ≡ true → Used os s.count q × (0 < status_at ks q) × (round_at ks q ≡ r)
  unfolding is_trusted point_at resolution_at
  trusted_used r q m tr =
      let (n, e) = place_elim v r q m in
      let u : Used os s.count q = named_used s ks ls cs os fk fl t q n in
      let is : store.status_at v q ≡ 0 → ⊥ = (λ z. clash tr (rw z refl)) in
      let st : status_at ks q ≡ 0 → store.status_at v q ≡ 0 = (λ z. ap (λ (p : Point). p.resolution.status) (used_point s ks ls cs os fk fl t q u) ∙ rw z refl) in
      (u, same_or (status_at ks q) 0 (λ z. absurd (is (st z))) (λ d. omega arith), sym (used_round s ks ls cs os fk fl t q u) ∙ e)

  -- so the scans may read it
  pub trusted_placed : (r : ℕ) (l : List ℕ) (n : ℕ) → Listed l n (keep (is_trusted v) (places_in v r)) → (j : ℕ) → j < n → Placed ks ls (get_or l j 0)
  trusted_placed r l n here j m =
      let (i, y) = (keep_in (is_trusted v) (places_in v r) (get_or l j 0)).0 (listed_in l n (keep (is_trusted v) (places_in v r)) here j m) in
      go (get_or l j 0) (trusted_used r (get_or l j 0) i y).0
    where
      go : (q : ℕ) → Used os s.count q → Placed ks ls q
      go q (i, z, e) =
          let (x, y, w) = shape_says ks ls cs os t.shaped in
          let b : q < length os = subst (λ p. p < length os) e (t.facts.inside i z) in
          (omega (arith, x), omega (arith, y), author_low s ks ls cs os fk fl t q (i, z, e))

  module _ (live : Bool) (x g : ℕ) (low : g < 2) (rs : List ℕ) (k : ℕ) (some : 0 < row_previous rs k) (from : live ≡ true → Retained s ks ls os x g rs k) where
    -- a point of round x refers to the previous point of row k as by digest
    row-refers : (q : ℕ) → Used os s.count q → 0 < status_at ks q → round_at ks q ≡ x → refers_row ls q (g * 32) live rs k ≡ refers_at ls q (g * 32) (row_signed rs k)
    unfolding refers_row
    row-refers q u st at = by_test live (λ y. rw y (by (from y))) (λ n. rw n refl)
      where
        by : Retained s ks ls os x g rs k → eqb (target_at ls q (g * 32 + row_author rs k)) (row_previous rs k) ≡ refers_at ls q (g * 32) (row_signed rs k)
        by (r, z, up, o) =
            let w = o.place in
            let e = o.words in
            let there : 0 < target_at ls w (author_at ks w) = subst (λ y. 0 < y) e.previous some in
            (λ i. eqb (target_at ls q (g * 32 + e.author i)) (e.previous i))
            ∙ (sym (refers_live s ks ls cs os fk fl t w o.used o.resolved (omega (arith, o.round)) there g q low u st (omega (arith, o.round)))
            ∙ ap (refers_at ls q (g * 32)) (sym e.signed))

    -- who does, by one kind of links
    module _ (l : List ℕ) (n : ℕ) (here : Listed l n (keep (is_trusted v) (places_in v x))) (refs : ℕ → List Ref)
        (same : (q : ℕ) → Used os s.count q → 0 < status_at ks q → refers_at ls q (g * 32) (row_signed rs k) ≡ refers_to (row_signed rs k) (refs q)) (a : ℕ) where
      referring_is : member (referring_by ks ls l n (g * 32) live rs k) a ≡ has (λ q. of (is_trusted v) v a q && refers_to (row_signed rs k) (refs q)) (places_in v x)
      unfolding referring_by point_at
      referring_is =
          union_member (λ j. refers_row ls (get_or l j 0) (g * 32) live rs k) (λ j. 2 ^ author_at ks (get_or l j 0)) n a
          ∙ (any_same n _ _ (λ j z. ap (λ x. refers_row ls (get_or l j 0) (g * 32) live rs k && x) (one-member (author_at ks (get_or l j 0)) a))
          ∙ (sym (has-take test l 0 n (omega (arith, here.size, here.few)))
          ∙ (ap (has test) here.are
          ∙ (has-keep (is_trusted v) test (places_in v x)
          ∙ has_same _ _ (places_in v x) (λ q i. by_test (is_trusted v q) (λ y. rw y (both_are q (trusted_used x q i y))) (λ y. rw y (sym (none (eqb (store.id_at v q).author a) (refers_to (row_signed rs k) (refs q))))))))))
        where
          test : ℕ → Bool
          test q = refers_row ls q (g * 32) live rs k && eqb (author_at ks q) a

          turn : (x y : Bool) → (x && y) ≡ ((y && true) && x)
          turn true true = refl
          turn true false = refl
          turn false true = refl
          turn false false = refl

          both_are : (q : ℕ) → Used os s.count q × (0 < status_at ks q) × (round_at ks q ≡ x) → test q ≡ ((eqb (store.id_at v q).author a && true) && refers_to (row_signed rs k) (refs q))
          both_are q (u, st, e) =
              let author : author_at ks q ≡ (store.id_at v q).author = ap (λ (p : Point). p.id.author) (sym (used_point s ks ls cs os fk fl t q u)) in
              (λ i. (row-refers q u st e ∙ same q u st) i && eqb (author i) a) ∙ turn (refers_to (row_signed rs k) (refs q)) (eqb (store.id_at v q).author a)

          none : (x y : Bool) → ((x && false) && y) ≡ false
          none true y = refl
          none false y = refl

  -- row k has a previous point, and is of a retained round if it is live; the first n cells of l hold the trusted points of round x
  module _ (live : Bool) (x : ℕ) (rs : List ℕ) (k : ℕ) (some : 0 < row_previous rs k) (l : List ℕ) (n : ℕ) (here : Listed l n (keep (is_trusted v) (places_in v x))) (a : ℕ) where
    pub included_is : (live ≡ true → Retained s ks ls os x 0 rs k) → member (referring_by ks ls l n 0 live rs k) a ≡ included_by v x a (row_signed rs k)
    unfolding included_by
    included_is from = referring_is live x 0 (omega arith) rs k some from l n here (λ q. (v.pt q).resolution.includes) (λ q u st. includes_refer s ks ls cs os fk fl h q u st (row_signed rs k)) a

    pub witnessed_is : (live ≡ true → Retained s ks ls os x 1 rs k) → member (referring_by ks ls l n 32 live rs k) a ≡ witnessed_by v x a (row_signed rs k)
    unfolding witnessed_by
    witnessed_is from = referring_is live x 1 (omega arith) rs k some from l n here (λ q. (v.pt q).resolution.witness) (λ q u st. witness_refer s ks ls cs os fk fl h q u st (row_signed rs k)) a
