-- The code's test of the links is 01's (12).
use Rattle.std.specs.Prelude.{ℕ, zero, suc, ◌+◌, ◌-◌, ◌*◌, ◌^◌, ◌≤◌, ◌<◌, ◌≡◌, refl, List, map, Bool, false, leb, get_or}
use Rattle.std.proofs.Math.Path.{sym, ap, ap₂, subst}
use Rattle.std.proofs.Common.{◌∙◌, arith}
use Rattle.std.proofs.Math.Bool.{true, not, ◌&&◌, ◌||◌}
use Rattle.std.proofs.Math.Dec.{eqb}
use borrow.Author.Tests.{eq-eqb, ne_eqb, le-leb, lt-leb, leb-true}
use Rattle.laws.specs.Test.{by_test, clash, same_test, and_l, not_yes, not_no, le_or, same_or}
use Rattle.laws.specs.Scan.{any, any_intro, any_elim, any_same, any-first, first_hit, first_miss}
use Rattle.laws.specs.Lists.{has, has-append, has-map}
use Rattle.spec.specs.Ids.{Ref, leads, links_of, fits}
use Rattle.spec.specs.Store.{Resolution, Point, Store, id_at, links}
use Rattle.spec.specs.Rules.{well_formed, dangling, counts_as_started}
use Rattle.spec.specs.Calls.{resolved_as}
use Rattle.models.specs.Digest.{Fit, digest_at}
use Rattle.models.specs.Info.{ref_at, refs_of, info_of}
use Rattle.models.specs.declared.info.PointInfo.{PointInfo}
use Rattle.models.specs.Tables.{author_at, place_at, Used}
use Rattle.dag_round_keys.specs.Id.{id_from, from_fit, from_digest}
use Rattle.dag_round_keys.specs.Key.{key, same}
use Rattle.dag_round_keys.specs.Sorted.{key_at, point_at}
use Rattle.dag_round_keys.specs.Digest.{same_is}
use Rattle.commit_state.specs.View as state
use Rattle.commit_state.specs.declared.state.State.{State}
use Rattle.tables_test.specs.View.{view, seen_used, seen_named}
use Rattle.tables_test.specs.Whole.{places_is}
use Rattle.tables_test.specs.Refines.{Started, counted}
use Rattle.dag_round_points.specs.RefinesPoint.{turned}
use Rattle.info_checks.specs.Form.{peer_at, formed_shaped, shaped_given}
use Rattle.info_checks.specs.Dangling.{link_words, found_at, is_dangling, any_dangling}

-- a test of m links by their numbers
has_refs : (rs : List ℕ) (f : Ref → Bool) (j m : ℕ) → has f (refs_of rs j m) ≡ any m (λ i. f (ref_at rs (j + i)))
unfolding has refs_of any
has_refs rs f j zero = refl
has_refs rs f j (suc m) =
    ap (λ z. f (ref_at rs j) || z) (has_refs rs f (j + 1) m)
    ∙ (ap₂ (λ (x : ℕ) (z : Bool). f (ref_at rs x) || z) start (any_same m _ _ (λ i l. ap (λ (x : ℕ). f (ref_at rs x)) (next i)))
    ∙ sym (any-first m (λ i. f (ref_at rs (j + i)))))
  where
    start : j ≡ j + 0
    start = omega arith

    next : (i : ℕ) → j + 1 + i ≡ j + suc i
    next i = omega arith

-- d rounds down
down : (x d r : ℕ) → d ≤ r → eqb (x + d) r ≡ eqb x (r - d)
down x d r l =
    same_or (x + d) r
    (λ e. eq-eqb (x + d) r e ∙ sym (eq-eqb x (r - d) (omega arith)))
    (λ n. ne_eqb (x + d) r n ∙ sym (ne_eqb x (r - d) (λ e. n (omega arith))))

-- twice not
not_not : (b : Bool) → not (not b) ≡ b
not_not true = refl
not_not false = refl

module _ (s : State) (ks ls cs os rs : List ℕ) (fk : Fit ks) (fl : Fit ls) (fr : Fit rs) (h : counts_as_started (view s ks ls cs os) ≡ true) (r : ℕ) (lr : r < 2 ^ 64) where
  -- the store
  abbrev v : Store
  v = view s ks ls cs os

  -- what the tables hold
  t : Started s ks ls cs os
  t = counted s ks ls cs os fk fl h

  module _ (d j : ℕ) where
    -- link j leads to the place q
    abbrev to : ℕ → Bool
    to q = (v.pt q).named && fits r (id_at v q) (leads d (ref_at rs j))

    -- such a place is used
    to_used : (q : ℕ) → to q ≡ true → Used os s.count q
    unfolding view
    to_used q e = seen_named ks ls cs os s.count q (and_l (v.pt q).named _ e)

    -- the position x holds the point that it leads to
    abbrev here : ℕ → Bool
    here x = same (key_at ks os x) (key (link_words rs j (r - d)) 0) && eqb (author_at ks (place_at os x)) (peer_at rs j)

    -- a used place, by its position
    to_here : d ≤ r → (x : ℕ) → x < s.count → to (place_at os x) ≡ here x
    unfolding view fits state.point_at id_from
    to_here l x k =
        let q = place_at os x in
        let w = link_words rs j (r - d) in
        ap (λ (p : Point). p.named && fits r p.id (leads d (ref_at rs j))) (seen_used ks ls cs os s.count q (x, k, refl))
        ∙ (turned (eqb (get_or ks (q * 8 + 0) 0 + d) r) (eqb (author_at ks q) (peer_at rs j)) (eqb (digest_at ks (q * 8 + 2)) (digest_at rs (j * 5 + 1)))
        ∙ ap (λ z. z && eqb (author_at ks q) (peer_at rs j))
        (ap₂ ◌&&◌ (down (get_or ks (q * 8 + 0) 0) d r l) (ap (eqb (digest_at ks (q * 8 + 2))) (sym (from_digest rs (j * 5 + 1) (r - d) (peer_at rs j))))
        ∙ sym (same_is ks w q 0 fk (from_fit rs (j * 5 + 1) (r - d) (peer_at rs j) fr (omega arith) (fr (j * 5 + 0))))))

    -- the position where it is found
    abbrev at : ℕ
    at = found_at s ks os rs j (r - d)

    -- it leads to a named point exactly if it is found
    found_is : d ≤ r → any v.places to ≡ not (leb s.count at)
    unfolding found_at point_at
    found_is l = same_test _ _ there back
      where
        there : any v.places to ≡ true → not (leb s.count at) ≡ true
        there e =
            let (q, k, y) = any_elim v.places to e in
            let (x, m, g) = to_used q y in
            le_or s.count at
            (λ a. absurd (clash (sym (to_here l x m) ∙ subst (λ p. to p ≡ true) (sym g) y) (first_miss here s.count x (omega arith))))
            (λ a. not_no (lt-leb s.count at a))

        back : not (leb s.count at) ≡ true → any v.places to ≡ true
        back e =
            le_or s.count at
            (λ a. absurd (clash e (not_yes (le-leb s.count at a))))
            (λ a. any_intro v.places to (place_at os at) (subst (λ (m : ℕ). place_at os at < m) (sym (places_is s ks ls cs os fk fl t.shaped)) (t.facts.inside at a)) (to_here l at a ∙ first_hit here s.count a))

    -- 12 of one link
    dangling_is : dangling v r (leads d (ref_at rs j)) ≡ is_dangling s ks os rs d r j
    unfolding dangling is_dangling view
    dangling_is =
        by_test (leb (s.bottom.0 + d) r)
        (λ y. let l = leb-true (s.bottom.0 + d) r y in rw y (ap not (found_is (omega arith)) ∙ not_not _))
        (λ y. rw y refl)

  -- 12 of the links of a kind
  kind-dangling : (d j m : ℕ) → has (dangling v r) (map (leads d) (refs_of rs j m)) ≡ any_dangling s ks os rs d r j m
  kind-dangling d j m =
      has-map (dangling v r) (leads d) (refs_of rs j m)
      ∙ (has_refs rs (λ x. dangling v r (leads d x)) j m
      ∙ any_same m _ _ (λ i l. dangling_is d (j + i)))

  -- 12 is asked of the includes, one round down, and of the witness, two
  pub dangling_are : (i w : ℕ) → has (dangling v r) (links_of (refs_of rs 0 i) (refs_of rs i w)) ≡ (any_dangling s ks os rs 1 r 0 i || any_dangling s ks os rs 2 r i w)
  unfolding links_of
  dangling_are i w =
      has-append (dangling v r) (map (leads 1) (refs_of rs 0 i)) (map (leads 2) (refs_of rs i w))
      ∙ ap₂ ◌||◌ (kind-dangling 1 0 i) (kind-dangling 2 i w)

  -- the same of the links that a well-formed resolution would leave
  pub dangling_resolution : (info : PointInfo) → well_formed r (info_of info rs) ≡ true → (p : Point) → has (dangling v r) (links (resolved_as true (info_of info rs) p)) ≡ (any_dangling s ks os rs 1 r 0 info.includes || any_dangling s ks os rs 2 r info.includes info.witness)
  unfolding resolved_as
  dangling_resolution info g p =
      ap (λ (t : Resolution). has (dangling v r) (links_of t.includes t.witness)) (shaped_given info rs (formed_shaped info rs r g).2)
      ∙ dangling_are info.includes info.witness
