-- The place that is found for an id is the one of document 01.
use Rattle.std.specs.Prelude.{ℕ, zero, suc, ◌<◌, ◌≤◌, ◌≡◌, List, Bool, ◌&&◌, ltb, get_or}
use Rattle.std.proofs.Math.Path.{refl, sym, ap}
use Rattle.std.proofs.Common.{◌∙◌, arith}
use Rattle.std.proofs.Math.Bool.{true, false, cond}
use Rattle.std.proofs.Math.Option.{Option, none, some}
use Rattle.std.proofs.Math.Dec.{eqb}
use borrow.Author.Tests.{ltb-true, ltb-false}
use Rattle.laws.specs.Test.{by_test, clash, and_l}
use Rattle.laws.specs.Scan.{first_hit, first_miss, lowest, lowest-some, lowest-none}
use Rattle.spec.specs.Ids.{Id, same_id}
use Rattle.spec.specs.Store.{Point, Store, Look, resolved_at, named_at, never, resolved, is_named, find, look_at, look}
use Rattle.spec.specs.Rules.{counts_as_started}
use Rattle.spec.specs.Chain.{Out, then, place_of}
use Rattle.spec.specs.Calls.{at_id}
use Rattle.spec.specs.Walk.{place_at_lem}
use Rattle.models.specs.Parts.{id_of}
use Rattle.models.specs.Digest.{Fit, words, digest_at}
use Rattle.models.specs.Tables.{round_at, author_at, digest_of, status_at, place_at, Used}
use Rattle.models.specs.DagPoint.{case_of}
use Rattle.models.specs.declared.parts.PointId.{PointId}
use Rattle.dag_round_keys.specs.Key.{key, same, same-eq}
use Rattle.dag_round_keys.specs.Sorted.{point_at, sorted-key}
use Rattle.dag_round_keys.specs.Digest.{same_is}
use Rattle.dag_round_keys.specs.Look.{look_as, look_place, look_for}
use Rattle.dag_round_keys.specs.declared.look.Look as keys
use Rattle.dag_round_keys.specs.declared.look.Look.TheVariants.{Resolved, Named, Never}
use Rattle.commit_state.specs.View as state
use Rattle.commit_state.specs.declared.state.State.{State}
use Rattle.tables_test.specs.View.{view, seen_used, seen_named}
use Rattle.tables_test.specs.Edges.{resolved_is}
use Rattle.tables_test.specs.Whole.{places_is}
use Rattle.tables_test.specs.Refines.{Started, counted}
use Rattle.dag_round_points.specs.Model.{id_words, id_code}
use Rattle.dag_round_points.specs.Codes.{unless, unless_else}
use Rattle.dag_round_points.specs.Tests.{at_code}
use Rattle.dag_round_points.specs.Point.{position_for, missing, point_code, place_for}

-- three tests in another order
pub turned : (a b c : Bool) → (a && (b && c)) ≡ ((a && c) && b)
turned true true true = refl
turned true true false = refl
turned true false true = refl
turned true false false = refl
turned false b c = refl

-- what follows the search of a place
then_is : {A : Type 0} (v : Store) (i : Id) (b : Bool) (q : ℕ) (f : ℕ → Out A) → find v i ≡ cond b (some q) none → then (place_of v i) f ≡ unless (cond b 0 9) (f q)
unfolding unless
then_is v i true q f e = ap (λ (o : Out ℕ). then o f) (place_at_lem v i) ∙ rw e refl
then_is v i false q f e = ap (λ (o : Out ℕ). then o f) (place_at_lem v i) ∙ rw e refl

-- the answer of the code's look-up as the definitions'
unfoldable pub look_of : keys.Look → Look
look_of (Resolved q p) = resolved_at q
look_of (Named q) = named_at q
look_of Never = never

-- of a place, by its status
look-status : (q st : ℕ) → st ≤ 5 → look_of (look_as (case_of st) q) ≡ elim (ltb 0 st) [ true ↦ resolved_at q | false ↦ named_at q ]
unfolding look_of look_as case_of
look-status q zero l = refl
look-status q (suc zero) l = refl
look-status q (suc (suc zero)) l = refl
look-status q (suc (suc (suc zero))) l = refl
look-status q (suc (suc (suc (suc zero)))) l = refl
look-status q (suc (suc (suc (suc (suc zero))))) l = refl
look-status q (suc (suc (suc (suc (suc (suc n)))))) l = absurd (omega arith)

-- the id whose words are w
abbrev pub id_for : List ℕ → Id
id_for w = record { round = get_or w 0 0; author = get_or w 1 0; digest = digest_at w 2 }

module _ (s : State) (ks ls cs os : List ℕ) (fk : Fit ks) (fl : Fit ls) (h : counts_as_started (view s ks ls cs os) ≡ true) where
  -- the store
  abbrev v : Store
  v = view s ks ls cs os

  -- the number of used places
  abbrev n : ℕ
  n = s.count

  -- what the tables hold
  t : Started s ks ls cs os
  t = counted s ks ls cs os fk fl h

  -- what the look-up says of a used place
  pub look_at_is : (q : ℕ) → Used os n q → look_of (look_place ks q) ≡ look_at v q
  unfolding view look_at look_place
  look_at_is q u =
      look-status q (status_at ks q) (t.facts.words q u).named.status
      ∙ ap (λ (b : Bool). elim b [ true ↦ resolved_at q | false ↦ named_at q ]) (sym (ap resolved (seen_used ks ls cs os n q u) ∙ resolved_is ks ls cs q))

  module _ (w : List ℕ) (fw : Fit w) where
    -- the place q has the id's key and author
    abbrev matches : ℕ → Bool
    matches q = same (key ks q) (key w 0) && eqb (author_at ks q) (get_or w 1 0)

    -- so it is named with the id
    named_is : (q : ℕ) → Used os n q → is_named v (id_for w) q ≡ matches q
    unfolding view is_named same_id state.point_at
    named_is q u =
        ap (λ (p : Point). p.named && same_id p.id (id_for w)) (seen_used ks ls cs os n q u)
        ∙ (turned (eqb (round_at ks q) (get_or w 0 0)) (eqb (author_at ks q) (get_or w 1 0)) (eqb (digest_of ks q) (digest_at w 2))
        ∙ ap (λ x. x && eqb (author_at ks q) (get_or w 1 0)) (sym (same_is ks w q 0 fk fw)))

    -- a place that is named with the id stands in the order, and has the id's key and author
    stands : (q : ℕ) → is_named v (id_for w) q ≡ true → (x : ℕ) × (x < n) × (place_at os x ≡ q) × (matches q ≡ true)
    unfolding view is_named
    stands q e = let u = seen_named ks ls cs os n q (and_l _ _ e) in (u.0, u.1, u.2, sym (named_is q u) ∙ e)

    -- the position of the id's point
    abbrev at : ℕ
    at = position_for ks os n w

    -- the point is found exactly if it has a position
    pub find_is : find v (id_for w) ≡ cond (ltb at n) (some (place_at os at)) none
    unfolding find point_at
    find_is = go (lowest v.places (is_named v (id_for w))) refl
      where
        go : (o : Option ℕ) → lowest v.places (is_named v (id_for w)) ≡ o → o ≡ cond (ltb at n) (some (place_at os at)) none
        go none e =
            by_test (ltb at n)
            (λ y. absurd (let l = ltb-true at n y in
            clash (named_is (place_at os at) (at, l, refl) ∙ first_hit (λ p. matches (place_at os p)) n l) (lowest-none v.places (is_named v (id_for w)) e (place_at os at) (rw (places_is s ks ls cs os fk fl t.shaped) (t.facts.inside at l)))))
            (λ y. rw y refl)
        go (some q) e =
            let (x, l, d, m) = stands q (lowest-some v.places (is_named v (id_for w)) q e).1 in
            by_test (ltb at n)
            (λ y. let k = ltb-true at n y in
            let w = first_hit (λ p. matches (place_at os p)) n k in
            rw y (ap some (sym d ∙ ap (place_at os) (sorted-key ks os n x at t.facts.sorted l k (ap (key ks) d ∙ (same-eq _ _ (and_l _ _ m) ∙ sym (same-eq _ _ (and_l _ _ w))))))))
            (λ y. absurd (clash (ap matches d ∙ m) (first_miss (λ p. matches (place_at os p)) n x (omega (arith, l, ltb-false at n y)))))

    -- the look-up is 01's
    pub look_is : look_of (look_for ks os n w) ≡ look v (id_for w)
    unfolding look_for look look_of
    look_is =
        by_test (ltb at n)
        (λ y. rw (y, find_is, look, y) (look_at_is (place_at os at) (at, ltb-true at n y, refl)))
        (λ y. rw (y, find_is, look, y) refl)

-- an id's words are its own
pub words-id : (i : PointId) → id_for (id_words i) ≡ id_of i
unfolding id_words words digest_at
words-id i = refl

module _ (s : State) (ks ls cs os : List ℕ) (i : PointId) (fk : Fit ks) (fl : Fit ls) (h : counts_as_started (view s ks ls cs os) ≡ true) (fi : Fit (id_words i)) where
  -- the tests of a call that names a point, as one number
  pub point_is : {A : Type 0} (f : ℕ → Out A)
      → at_id (view s ks ls cs os) (id_of i) (then (place_of (view s ks ls cs os) (id_of i)) f) ≡ unless (point_code s ks os i) (f (place_for s ks os i))
  unfolding point_code place_for missing
  point_is f =
      let v = view s ks ls cs os in
      let at = position_for ks os s.count (id_words i) in
      at_code s ks ls cs os i _
      ∙ (ap (unless (id_code s i)) (then_is v (id_of i) (ltb at s.count) (place_at os at) f (ap (find v) (sym (words-id i)) ∙ find_is s ks ls cs os fk fl h (id_words i) fi))
      ∙ unless_else (id_code s i) (missing ks os s.count (id_words i)) _)
