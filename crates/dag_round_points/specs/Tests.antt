-- The numbers of refusals are those of document 01.
use Rattle.std.specs.Prelude.{ℕ, ◌<◌, ◌≤◌, ◌≡◌, refl, List, Bool, ◌&&◌, cond, get_or}
use Rattle.std.proofs.Math.Path.{sym, ap, ap₂}
use Rattle.std.proofs.Common.{◌∙◌, subst, arith}
use Rattle.std.proofs.Math.Bool.{true, not}
use Rattle.std.proofs.Math.Option.{none, some}
use Rattle.std.proofs.Math.Dec.{eqb, leb, ltb}
use Rattle.std.proofs.Math.ListN.{length}
use borrow.Author.Tests.{leb-true, le-leb, lt-leb, ltb-true, lt-ltb}
use Rattle.laws.specs.Test.{by_test, same_test, le_or, and_l, and_r}
use Rattle.laws.specs.Scan.{any, any_intro, any_elim, lowest, lowest-same, first-le, those, those-same}
use Rattle.laws.specs.Peers.{member}
use Rattle.spec.specs.Store.{Point, Store, retained}
use Rattle.spec.specs.Rules.{is_peer, same_digest, version, versions, counts_as_started}
use Rattle.spec.specs.Chain.{Out, good, refuse}
use Rattle.spec.specs.Calls.{at_id, name_at, into_free, do_name}
use Rattle.models.specs.Parts.{id_of}
use Rattle.models.specs.Digest.{Fit, words, digest_at}
use Rattle.models.specs.Tables.{place_at, Inside, Used, is_used, used_is}
use Rattle.models.specs.declared.parts.PointId.{PointId}
use Rattle.dag_round_keys.specs.Key.{key, same, same_refl, same-eq}
use Rattle.dag_round_keys.specs.Sorted.{standing, standing_at, standing-none, sorted_apart}
use Rattle.dag_round_keys.specs.Digest.{same_is}
use Rattle.dag_round_order.specs.Free.{first_free}
use Rattle.commit_state.specs.View.{round_of, record_of, point_at}
use Rattle.commit_state.specs.Reads.{window_in}
use Rattle.commit_state.specs.declared.state.State.{State}
use Rattle.tables_test.specs.Model.{shape_says, places_says}
use Rattle.tables_test.specs.View.{view, seen_used, seen_named}
use Rattle.tables_test.specs.Whole.{places_is}
use Rattle.tables_test.specs.Count.{places_fewer, positions_fewer}
use Rattle.tables_test.specs.Refines.{Started, counted}
use Rattle.dag_round_points.specs.Model.{Ready, id_words, is_version, version_at, id_code, table_code, name_code, taken}
use Rattle.dag_round_points.specs.Codes.{unless, refuse_is, unless_else, into_is}

module _ (s : State) (ks ls cs os : List ℕ) (fk : Fit ks) (fl : Fit ls) (h : counts_as_started (view s ks ls cs os) ≡ true) where
  -- tables that count as started can be read
  pub ready : Ready s ks os
  ready =
      let t = counted s ks ls cs os fk fl h in
      ((shape_says ks ls cs os t.shaped).0, places_says _ t.places_ok, t.count_ok, t.facts.inside, t.facts.sorted)

module _ (s : State) (ks ls cs os : List ℕ) (i : PointId) where
  -- the store
  abbrev v : Store
  v = view s ks ls cs os

  -- the peers of a retained round
  peer_is : i.author < 32 → retained v i.round.0 ≡ true → is_peer v (id_of i) ≡ member (record_of s.rounds i.round.0).peers i.author
  unfolding view is_peer round_of
  peer_is l t =
      let r = i.round.0 in
      rw (lt-ltb i.author 32 l)
      (ap (λ x. member x.peers i.author) (window_in s.rounds s.bottom.0 s.top.0 r (leb-true _ _ (and_l (leb s.bottom.0 r) _ t)) (leb-true _ _ (and_r (leb s.bottom.0 r) _ t))))

  -- the tests of an id, as one number
  code_is : cond (leb 32 i.author) 5 (cond (not (retained v i.round.0)) 6 (cond (not (is_peer v (id_of i))) 5 0)) ≡ id_code s i
  unfolding view id_code
  code_is =
      le_or 32 i.author
      (λ l. rw (le-leb 32 i.author l) refl)
      (λ l. rw (lt-leb 32 i.author l)
      (by_test (retained v i.round.0)
      (λ t. rw (t, peer_is l t) refl)
      (λ f. rw f refl)))

  -- what is refused wherever an id is given
  pub at_code : {A : Type 0} (o : Out A) → at_id v (id_of i) o ≡ unless (id_code s i) o
  unfolding at_id unless
  at_code o =
      let a = leb 32 i.author in
      let b = not (retained v i.round.0) in
      let c = not (is_peer v (id_of i)) in
      ap (λ x. refuse a 5 (refuse b 6 x)) (refuse_is c 4 0 o)
      ∙ (ap (refuse a 5) (refuse_is b 5 (cond c 5 0) o)
      ∙ (refuse_is a 4 (cond b 6 (cond c 5 0)) o ∙ ap (λ (n : ℕ). unless n o) code_is))

  module _ (fk : Fit ks) (fl : Fit ls) (h : counts_as_started (view s ks ls cs os) ≡ true) where
    -- the number of used places
    abbrev n : ℕ
    n = s.count

    -- what the tables hold
    t : Started s ks ls cs os
    t = counted s ks ls cs os fk fl h

    -- the number of places
    places : v.places ≡ length os
    places = places_is s ks ls cs os fk fl t.shaped

    -- a used place holds its point
    point : (q : ℕ) → Used os n q → v.pt q ≡ point_at ks ls cs q
    unfolding view
    point q u = seen_used ks ls cs os n q u

    -- a named place is used
    named : (q : ℕ) → (v.pt q).named ≡ true → Used os n q
    unfolding view
    named q e = seen_named ks ls cs os n q e

    -- a free place is found, or none
    free_is : lowest v.places (λ q. not (v.pt q).named) ≡ cond (ltb (taken s os) (length os)) (some (taken s os)) none
    unfolding lowest first_free point_at
    free_is =
        ap (λ (m : ℕ). lowest m (λ q. not (v.pt q).named)) places
        ∙ lowest-same (length os) _ (λ q. not (is_used os n q))
        (λ q l. ap not (same_test _ _ (λ e. (used_is os n q).1 (named q e)) (λ e. ap (λ (p : Point). p.named) (point q ((used_is os n q).0 e)))))

    -- as many versions as positions that hold one
    versions_is : versions v (id_of i) ≡ length (those n (version_at ks os (get_or (id_words i) 0 0) (get_or (id_words i) 1 0)))
    unfolding version is_version point_at id_words
    versions_is =
        let f = version v (id_of i) in
        let a = places_fewer v.places (place_at os) f n (λ p l e. named p (and_l _ _ e)) in
        let b = positions_fewer v.places (place_at os) f n (λ x y l m e. sorted_apart ks os n x y t.facts.sorted l m e) (subst (Inside os n) (sym places) t.facts.inside) in
        let c = ap length (those-same n (λ x. f (place_at os x)) (version_at ks os i.round.0 i.author) (λ x l. ap (λ (p : Point). p.named && (eqb p.id.round i.round.0 && eqb p.id.author i.author)) (point (place_at os x) (x, l, refl)))) in
        omega (arith, a, b, c)

    module _ (fi : Fit (id_words i)) where
      -- a twin has the id's key
      same_digest_is : (q : ℕ) → Used os n q → same_digest v (id_of i) q ≡ same (key ks q) (key (id_words i) 0)
      unfolding same_digest point_at id_words words digest_at
      same_digest_is q u =
          ap (λ (p : Point). p.named && (eqb p.id.round i.round.0 && eqb p.id.digest (digest_at i.digest.0 0))) (point q u)
          ∙ sym (same_is ks (id_words i) q 0 fk fi)

      -- there is a twin exactly if the id's key stands
      twins_is : any v.places (same_digest v (id_of i)) ≡ ltb (standing ks os n (key (id_words i) 0)) n
      unfolding same_digest standing
      twins_is = same_test _ _ to from
        where
          to : any v.places (same_digest v (id_of i)) ≡ true → ltb (standing ks os n (key (id_words i) 0)) n ≡ true
          to e =
              let k = key (id_words i) 0 in
              let (q, l, w) = any_elim v.places (same_digest v (id_of i)) e in
              let u = named q (and_l _ _ w) in
              let (x, m, d) = u in
              let most : standing ks os n k ≤ n = first-le _ n in
              le_or n (standing ks os n k)
              (λ a. absurd (standing-none ks os n k (omega arith) x m (ap (key ks) d ∙ same-eq _ _ (sym (same_digest_is q u) ∙ w))))
              (λ a. lt-ltb _ _ a)

          from : ltb (standing ks os n (key (id_words i) 0)) n ≡ true → any v.places (same_digest v (id_of i)) ≡ true
          from e =
              let k = key (id_words i) 0 in
              let x = standing ks os n k in
              let l : x < n = ltb-true _ _ e in
              any_intro v.places (same_digest v (id_of i)) (place_at os x) (subst (λ (m : ℕ). place_at os x < m) (sym places) (t.facts.inside x l))
              (same_digest_is (place_at os x) (x, l, refl) ∙ (ap (λ (z : List ℕ). same z k) (standing_at ks os n k l) ∙ same_refl k))

      -- the tests of naming, as one number
      pub name_is : do_name v (id_of i) ≡ unless (name_code s ks os i) (good (name_at v (id_of i) (taken s os)))
      unfolding do_name name_code table_code
      name_is =
          let o = good (name_at v (id_of i) (taken s os)) in
          let a = any v.places (same_digest v (id_of i)) in
          let b = leb 4 (versions v (id_of i)) in
          let f = ltb (taken s os) (length os) in
          at_code _
          ∙ (ap (unless (id_code s i))
          (ap (λ x. refuse a 7 (refuse b 8 (into_free v (id_of i) x))) free_is
          ∙ (ap (λ x. refuse a 7 (refuse b 8 x)) (into_is v (id_of i) f (taken s os))
          ∙ (ap (refuse a 7) (refuse_is b 7 (cond f 0 4) o)
          ∙ (refuse_is a 6 (cond b 8 (cond f 0 4)) o
          ∙ ap₂ (λ (x : Bool) (y : ℕ). unless (cond x 7 (cond (leb 4 y) 8 (cond f 0 4))) o) twins_is versions_is))))
          ∙ unless_else (id_code s i) (table_code ks os n (id_words i)) o)
