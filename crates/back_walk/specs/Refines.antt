-- A round of the walk over the tables is that of document 01.
use Prim.Native.Nat.{ℕ, zero, suc, ◌+◌, ◌-◌, ◌*◌, ◌/◌, ◌%◌, ◌^◌, ◌<◌, ◌≤◌}
use Rattle.std.specs.Prelude.{◌≡◌, List, ◌∷◌, Bool, not, cond, eqb, leb, ltb, get_or}
use Rattle.std.proofs.Math.Path.{refl, sym, ap}
use Rattle.std.proofs.Common.{◌∙◌}
use Rattle.std.proofs.Math.Bool.{true, false}
use Rattle.std.proofs.Math.Option.{none, some}
use native.Mathlib.Omega.{arith}
use borrow.Author.Tests.{eq-eqb, ne_eqb, leb-true}
use Rattle.laws.specs.Test.{by_test, same_or, and_l, and_r, cond_yes, cond_no}
use Rattle.spec.specs.Ids.{Id, Ref}
use Rattle.spec.specs.Store as store
use Rattle.spec.specs.Store.{Point, Store, resolved, look, under, previous}
use Rattle.spec.specs.Paths.{certified}
use Rattle.spec.specs.Rules.{counts_as_started}
use Rattle.spec.specs.WellFormed.{Wf, counts_as_started_elim}
use Rattle.spec.specs.Chain as chain
use Rattle.spec.specs.Chain.{number, Out, bad, good, then, Onward, checked_as, checked_by, usable_in_walk, ready_valid_point, enqueue, to_anchor, to_previous, at_used}
use Rattle.models.specs.Cert.{bit_of, flags_of, height_of}
use Rattle.models.specs.Digest.{Fit, words, digest_at}
use Rattle.models.specs.Tables.{round_at, author_at, status_at, marks_at, Used, target_at, used_is, proof_round_at}
use Rattle.models.specs.Parts.{id_of}
use Rattle.models.specs.DagPoint.{case_of, is_valid, valid_is}
use Rattle.models.specs.Refusal.{refusal_of, unless_failed, checked_as_not}
use Rattle.models.specs.declared.dag_point.DagPoint.{DagPoint}
use Rattle.models.specs.declared.dag_point.DagPoint.TheVariants.{Valid, TransInvalid, Invalid, IllFormed, NotFound}
use Rattle.models.specs.declared.parts.PointId.{PointId}
use Rattle.models.specs.declared.refusal.Refusal.TheVariants.{Number}
use Rattle.dag_round_keys.specs.Id as id
use Rattle.dag_round_keys.specs.Look.{look_for, look-told}
use Rattle.dag_round_keys.specs.declared.look.Look.{Look}
use Rattle.dag_round_keys.specs.declared.look.Look.TheVariants.{Resolved, Named, Never}
use Rattle.tables_ids.specs.Ids.{id_holds}
use Rattle.commit_state.specs.View.{option_of, point_at, resolution_at, given_at, refs_from, record_of, round_of}
use Rattle.commit_state.specs.Numbers.{rounds_hold}
use Rattle.commit_state.specs.Reads.{window_in}
use Rattle.commit_state.specs.declared.state.State.{State}
use Rattle.tables_test.specs.Model.{shape_says, range_says}
use Rattle.tables_test.specs.View.{view, seen_used, seen_given}
use Rattle.tables_test.specs.Edges.{resolved_is}
use Rattle.tables_test.specs.Whole.{sized}
use Rattle.tables_test.specs.Refines.{Started, counted}
use Rattle.dag_round_points.specs.Model.{id_words}
use Rattle.dag_round_points.specs.Tests.{ready}
use Rattle.dag_round_points.specs.Point.{found-round}
use Rattle.dag_round_points.specs.RefinesPoint.{look_of, look_is, words-id}
use Rattle.back_walk.specs.declared.EnqueuedAnchor.{EnqueuedAnchor}
use Rattle.back_walk.specs.declared.Step.TheVariants.{Pass, End, Anchor}
use Rattle.models.specs.Ids.{id_from, has_previous, previous_id, top_id}
use Rattle.back_walk.specs.Model.{Walkable, Linked, judge_of, needed_at, needed_of, needed, needed_at_lem, proof_of, proof_at, anchor_of, anchor_at, used_at, at_proof, marked_step, step_at}
use Rattle.std.specs.Prelude.{Err, Ok, Some}
use Rattle.models.specs.Refusal.{Check}
use Rattle.dag_round_points.specs.Codes.{Found}
use Rattle.back_walk.specs.Model.{Stepped}

-- the place of a needed point, or what it is refused with
unfoldable pub place_or : Found → Out ℕ
place_or (Ok q) = good q
place_or (Err r) = bad (refusal_of r)

-- an anchor of the code as the definitions'
abbrev pub enqueued_of : EnqueuedAnchor → chain.EnqueuedAnchor
enqueued_of e = record { anchor = e.anchor; proof = e.proof; prev_proof_round = e.prev_proof_round.0 }

-- how the walk goes on below, from the sought proof's id and the anchors found so far
abbrev pub Below : Type 0
Below = PointId → List chain.EnqueuedAnchor → Out (List chain.EnqueuedAnchor)

-- how it goes on after a step
unfoldable pub onward : List ℕ → Stepped → Below → Below
onward ls (Ok Pass) f i acc = f i acc
onward ls (Ok End) f i acc = good acc
onward ls (Err r) f i acc = bad (refusal_of r)
onward ls (Ok (Anchor e)) f i acc = f (top_id ls e.anchor) (enqueued_of e ∷ acc)

-- ---- ids

-- the id from words, as the definitions'
from_id : (t : List ℕ) (p r a : ℕ) → id_of (id_from t p r a) ≡ record { round = r; author = a; digest = digest_at t p }
unfolding id_from words digest_at
from_id t p r a = rw (none p, two p, three p) refl
  where
    none : (p : ℕ) → p + 0 ≡ p
    none p = omega arith

    two : (p : ℕ) → p + 1 + 1 ≡ p + 2
    two p = omega arith

    three : (p : ℕ) → p + 2 + 1 ≡ p + 3
    three p = omega arith

-- their words fit
pub previous_fit : (ks ls : List ℕ) (q r : ℕ) → Fit ks → Fit ls → r < 2 ^ 64 → Fit (id_words (previous_id ks ls q r))
unfolding previous_id id_words id_from id.id_from
previous_fit ks ls q r fk fl l = id.from_fit ls (q * 328 + 72 + author_at ks q * 4) r (author_at ks q) fl l (fk (q * 8 + 1))

pub top_fit : (ls : List ℕ) (q : ℕ) → Fit ls → Fit (id_words (top_id ls q))
unfolding top_id id_words id_from id.id_from
top_fit ls q f = id.from_fit ls (q * 328 + 3) _ _ f (f (q * 328 + 1)) (f (q * 328 + 2))

-- ---- the include under an author

-- a reference under another peer
under-other : (a k d : ℕ) (rs : List Ref) → (k ≡ a → ⊥) → under a (record { peer = k; digest = d } ∷ rs) ≡ under a rs
unfolding under
under-other a k d rs n = rw (ne_eqb k a n, under) refl

under_hit : (a k d : ℕ) (rs : List Ref) → k ≡ a → under a (record { peer = k; digest = d } ∷ rs) ≡ some d
unfolding under
under_hit a k d rs e = rw (eq-eqb k a e, under) refl

module _ (ls : List ℕ) (q a : ℕ) where
  -- the peers above it are others
  under_above : (k m : ℕ) → a < k → under a (refs_from ls q 0 k m) ≡ none
  unfolding under refs_from
  under_above k zero l = refl
  under_above k (suc m) l =
      let more = under_above (k + 1) m (omega arith) in
      by_test (ltb 0 (target_at ls q (0 + k))) (λ t. rw (t, refs_from) (under-other a k (digest_at ls (q * 328 + 72 + (0 + k) * 4)) (refs_from ls q 0 (k + 1) m) (λ e. omega arith) ∙ more)) (λ f. rw (f, refs_from) more)

  -- it is there exactly if its target is
  under_is : (k m : ℕ) → k ≤ a → a < k + m → under a (refs_from ls q 0 k m) ≡ cond (ltb 0 (target_at ls q a)) (some (digest_at ls (q * 328 + 72 + a * 4))) none
  unfolding refs_from
  under_is k zero l u = absurd (omega arith)
  under_is k (suc m) l u =
      same_or k a
      (λ e. let z : 0 + k ≡ a = omega arith in
      by_test (ltb 0 (target_at ls q (0 + k)))
      (λ t. rw (t, refs_from) (under_hit a k _ _ e ∙ sym (cond_yes _ none _ (rw z at t) (ap (λ (x : ℕ). some (digest_at ls (q * 328 + 72 + x * 4))) (sym z)))))
      (λ f. rw (f, refs_from) (under_above (k + 1) m (omega arith) ∙ sym (cond_no _ none none (rw z at f) refl))))
      (λ d. let more = under_is (k + 1) m (omega arith) (omega arith) in
      by_test (ltb 0 (target_at ls q (0 + k))) (λ t. rw (t, refs_from) (under-other a k _ _ d ∙ more)) (λ f. rw (f, refs_from) more))

-- ---- points

-- a needed place, by what it is refused with
place_is : (q : ℕ) (c : Check) → place_or (needed_at q c) ≡ unless_failed c (good q)
unfolding place_or needed_at unless_failed
place_is q (Ok tt) = refl
place_is q (Err r) = refl

-- 01's verdict on a resolved point, by its case and its certificate word
checked_as_is : (st : ℕ) (p : DagPoint) (c r q : ℕ) → case_of st ≡ Some p → checked_as (eqb st 1) (ltb 0 (height_of c)) r q ≡ unless_failed (judge_of p c r) (good q)
unfolding checked_as unless_failed judge_of is_valid
checked_as_is st p c r q e = ap (λ (b : Bool). checked_as b (ltb 0 (height_of c)) r q) (sym (valid_is st) ∙ ap is_valid e) ∙ by p
  where
    by : (p : DagPoint) → checked_as (is_valid (Some p)) (ltb 0 (height_of c)) r q ≡ unless_failed (judge_of p c r) (good q)
    by Valid = refl
    by TransInvalid = checked_as_not c r q
    by Invalid = checked_as_not c r q
    by IllFormed = checked_as_not c r q
    by NotFound = checked_as_not c r q

-- the lowest bit of the marks
mark_is : (m : ℕ) → bit_of 1 m ≡ not (eqb (m % 2) 0)
mark_is m = by (m / 1 % 2) (m % 2) (omega arith) (omega arith)
  where
    by : (x y : ℕ) → x ≡ y → y < 2 → eqb x 1 ≡ not (eqb y 0)
    by x zero e l = rw e refl
    by x (suc zero) e l = rw e refl
    by x (suc (suc y)) e l = absurd (omega arith)

module _ (s : State) (ks ls cs os : List ℕ) (fk : Fit ks) (fl : Fit ls) (h : counts_as_started (view s ks ls cs os) ≡ true) where
  -- the store
  abbrev v : Store
  v = view s ks ls cs os

  -- the number of used places
  abbrev n : ℕ
  n = s.count

  -- what the tables hold
  t : Started s ks ls cs os
  t = counted s ks ls cs os fk fl h

  -- tables that count as started can be walked over
  pub walkable : Walkable s ks cs os
  walkable = (ready s ks ls cs os fk fl h, (shape_says ks ls cs os t.shaped).2)

  pub linked : Linked s ks ls os
  linked = ((shape_says ks ls cs os t.shaped).1, (λ q u. (t.facts.words q u).named.author), λ q u l. let x = (t.facts.words q u).resolution l in (x.round, x.author))

  module _ (q : ℕ) (u : Used os n q) where
    -- a used place holds its point
    point : v.pt q ≡ point_at ks ls cs q
    unfolding view
    point = seen_used ks ls cs os n q u

    pub round_at_lem : store.round_at v q ≡ round_at ks q
    unfolding point_at
    round_at_lem = ap (λ (p : Point). p.id.round) point

    author_at_lem : (store.id_at v q).author ≡ author_at ks q
    unfolding point_at
    author_at_lem = ap (λ (p : Point). p.id.author) point

    pub resolved_at_lem : resolved (v.pt q) ≡ ltb 0 (status_at ks q)
    resolved_at_lem = ap resolved point ∙ resolved_is ks ls cs q

    pub status_at_lem : store.status_at v q ≡ status_at ks q
    unfolding point_at resolution_at
    status_at_lem = ap (λ (p : Point). p.resolution.status) point ∙ same_or (status_at ks q) 0 (λ e. rw (eq-eqb (status_at ks q) 0 e) (sym e)) (λ d. rw (ne_eqb (status_at ks q) 0 d) refl)

    pub status_most : status_at ks q ≤ 5
    status_most = (t.facts.words q u).named.status

    height_at_lem : v.heights q ≡ height_of (get_or cs q 0)
    unfolding view
    height_at_lem = rw ((used_is os n q).1 u) refl

    -- the heights are those of paths
    pub certified_at : certified v q ≡ ltb 0 (height_of (get_or cs q 0))
    unfolding certified point_at
    certified_at =
        let w : Wf v = counts_as_started_elim v (sized s ks ls cs os fk fl t.shaped t.facts.inside) h in
        ap (ltb 0) (sym (w.heights_are q (ap (λ (p : Point). p.named) point)) ∙ height_at_lem)

    pub top_at_lem : (v.pt q).flags.top ≡ bit_of 0x8000 (get_or cs q 0)
    unfolding point_at flags_of
    top_at_lem = ap (λ (p : Point). p.flags.top) point

    -- its round is retained
    pub kept_at : (s.bottom.0 ≤ round_at ks q) × (round_at ks q ≤ s.top.0)
    unfolding id_holds
    kept_at = let a = t.facts.ids q u in (leb-true _ _ (and_l _ _ a), leb-true _ _ (and_l _ _ (and_r (leb s.bottom.0 (round_at ks q)) _ a)))

    module _ (st : 0 < status_at ks q) where
      -- a resolved one holds what it was given
      pub given_at_lem : (v.pt q).resolution ≡ given_at ks ls q
      unfolding view
      given_at_lem = seen_given ks ls cs os n q u st

      pub previous_at : previous (v.pt q) ≡ cond (has_previous ks ls q) (some (digest_at ls (q * 328 + 72 + author_at ks q * 4))) none
      unfolding has_previous
      previous_at = (λ i. under (author_at_lem i) (given_at_lem i).includes) ∙ under_is ls q (author_at ks q) 0 32 (omega arith) (t.facts.words q u).named.author

      -- the previous point's id
      pub previous_id_lem : (r : ℕ) → record { round = r; author = (store.id_at v q).author; digest = digest_at ls (q * 328 + 72 + author_at ks q * 4) } ≡ id_of (previous_id ks ls q r)
      unfolding previous_id
      previous_id_lem r = (λ i. record { round = r; author = author_at_lem i; digest = digest_at ls (q * 328 + 72 + author_at ks q * 4) }) ∙ sym (from_id ls (q * 328 + 72 + author_at ks q * 4) r (author_at ks q))

      -- the top proof's id
      top_id_lem : (v.pt q).resolution.top_proof ≡ id_of (top_id ls q)
      unfolding top_id
      top_id_lem = (λ i. (given_at_lem i).top_proof) ∙ sym (from_id ls (q * 328 + 3) (get_or ls (q * 328 + 1) 0) (get_or ls (q * 328 + 2) 0))

  -- ---- a needed point

  module _ (i : PointId) (fi : Fit (id_words i)) where
    need_is : ready_valid_point v (id_of i) ≡ place_or (needed s ks cs os i)
    unfolding ready_valid_point checked_by usable_in_walk needed needed_of place_or refusal_of look_of id_words
    need_is = ap (checked_by v usable_in_walk) (ap (look v) (sym (words-id i)) ∙ sym (look_is s ks ls cs os fk fl h (id_words i) fi)) ∙ by (look_for ks os n (id_words i)) refl
      where
        by : (l : Look) → look_for ks os n (id_words i) ≡ l → checked_by v usable_in_walk (look_of l) ≡ place_or (needed_of l cs i.round.0)
        by (Resolved q p) e =
            let (x, y, z) = look-told ks os n (id_words i) (Resolved q p) e in
            let u : Used os n q = (_, x, y) in
            (λ j. checked_as (eqb (status_at_lem q u j) 1) (certified_at q u j) ((round_at_lem q u ∙ (ap (round_at ks) (sym y) ∙ found-round ks os n (id_words i) x)) j) q)
            ∙ (checked_as_is (status_at ks q) p (get_or cs q 0) i.round.0 q z ∙ sym (place_is q (judge_of p (get_or cs q 0) i.round.0)))
        by (Named q) e = refl
        by Never e = refl

  -- ---- a round

  module _ (low x : ℕ) (room : s.bottom.0 ≤ x) (top : x ≤ s.top.0) (below : Onward) (i : PointId) (fi : Fit (id_words i)) (acc : List chain.EnqueuedAnchor) where
    -- the walk goes on with an id
    abbrev on : Below
    on z l = below (id_of z) l

    -- a round fits
    small : x < 2 ^ 64
    unfolding rounds_hold
    small = let r = range_says _ _ _ (and_l _ _ t.rounds_ok) in omega (arith, top, r.1)

    module _ (p : ℕ) (u : Used os n p) (valid : status_at ks p ≡ 1) where
      -- the anchor's id
      abbrev to : PointId
      to = previous_id ks ls p (x - 1)

      anchor_is : then (ready_valid_point v (id_of to)) (enqueue v below acc p) ≡ onward ls (anchor_at s ks ls cs os p (x - 1)) on i acc
      unfolding enqueue anchor_at anchor_of onward place_or top_id id_from
      anchor_is =
          ap (λ (o : Out ℕ). then o (enqueue v below acc p)) (need_is to (previous_fit ks ls p (x - 1) fk fl (omega (arith, small))))
          ∙ by (needed s ks cs os to) refl
        where
          next : (a : ℕ) → Used os n a → status_at ks a ≡ 1 → enqueue v below acc p a ≡ on (top_id ls a) (record { anchor = a; proof = p; prev_proof_round = proof_round_at ls a } ∷ acc)
          next a k e = ap (λ (j : Id). below j (record { anchor = a; proof = p; prev_proof_round = j.round } ∷ acc)) (top_id_lem a k (omega arith))

          by : (f : Found) → f ≡ needed s ks cs os to → then (place_or f) (enqueue v below acc p) ≡ onward ls (anchor_of ls p f) on i acc
          by (Err r) e = refl
          by (Ok a) e = let (k, o) = needed_at_lem s ks cs os to _ refl a (sym e) in next a k o

      proof_is : chain.at_proof v x (leb x low) below acc p ≡ onward ls (at_proof s ks ls cs os low x (proof_of ks ls (Ok p))) on i acc
      unfolding chain.at_proof to_previous to_anchor onward refusal_of proof_of at_proof
      proof_is =
          let st : 0 < status_at ks p = omega arith in
          (λ j. elim (((λ k. (given_at_lem p u st k).proof) ∙ mark_is (marks_at ks p)) j) [ true ↦ to_previous v x (leb x low) below acc p (previous_at p u st j) | false ↦ bad (number 16) ])
          ∙ by (eqb (marks_at ks p % 2) 0) (has_previous ks ls p)
        where
          -- the walk's lowest round, or a higher one
          lowest : (c : Bool) → to_anchor v x c below acc p (digest_at ls (p * 328 + 72 + author_at ks p * 4)) ≡ onward ls (cond c (Ok End) (anchor_at s ks ls cs os p (x - 1))) on i acc
          lowest true = refl
          lowest false = ap (λ (j : Id). then (ready_valid_point v j) (enqueue v below acc p)) (previous_id_lem p u (omega arith) (x - 1)) ∙ anchor_is

          by : (a b : Bool) → ◌≡◌ {A = Out (List chain.EnqueuedAnchor)} (elim (not a) [ true ↦ to_previous v x (leb x low) below acc p (cond b (some (digest_at ls (p * 328 + 72 + author_at ks p * 4))) none) | false ↦ bad (number 16) ])
              (onward ls (at_proof s ks ls cs os low x (cond a (Err (Number 16)) (cond b (Ok p) (Err (Number 16))))) on i acc)
          by true b = refl
          by false false = refl
          by false true = lowest (leb x low)

    -- a round without a used mark, which is that of the sought proof
    sought_is : then (ready_valid_point v (id_of i)) (chain.at_proof v x (leb x low) below acc) ≡ onward ls (at_proof s ks ls cs os low x (proof_at s ks ls cs os i)) on i acc
    unfolding place_or at_proof proof_at proof_of onward
    sought_is = ap (λ (o : Out ℕ). then o (chain.at_proof v x (leb x low) below acc)) (need_is i fi) ∙ by (needed s ks cs os i) refl
      where
        by : (f : Found) → f ≡ needed s ks cs os i → then (place_or f) (chain.at_proof v x (leb x low) below acc) ≡ onward ls (at_proof s ks ls cs os low x (proof_of ks ls f)) on i acc
        by (Err r) e = refl
        by (Ok p) e = let (u, o) = needed_at_lem s ks cs os i _ refl p (sym e) in proof_is p u o

    marked_is : (u : ℕ) → at_used v x (leb x low) below acc (id_of i) (option_of u) ≡ onward ls (marked_step s ks ls cs os low x u i) on i acc
    unfolding option_of at_used marked_step used_at onward refusal_of
    marked_is zero = sought_is
    marked_is (suc a) = rw (less a, ne_eqb (suc a) 0 (λ d. omega arith)) (by_test (eqb a i.author) (λ y. rw (y, at_used) refl) (λ y. rw (y, at_used) refl))
      where
        less : (a : ℕ) → suc a - 1 ≡ a
        less a = omega arith

    -- the round's used mark
    used_mark : (v.rounds x).used ≡ option_of (record_of s.rounds x).used_anchor_proof
    unfolding view round_of
    used_mark = ap (λ (r : store.Round). r.used) (window_in s.rounds s.bottom.0 s.top.0 x room top)

    -- a round of the walk
    pub visit_is : chain.visit v x (leb x low) below (id_of i) acc ≡ onward ls (step_at s ks ls cs os low x i) on i acc
    unfolding chain.visit step_at onward refusal_of
    visit_is =
        by_test (ltb i.round.0 x)
        (λ y. rw (y, chain.visit) refl)
        (λ y. by_test (ltb x i.round.0)
        (λ z. rw (y, chain.visit, z, chain.visit) refl)
        (λ z. rw (y, chain.visit, z, chain.visit) (ap (at_used v x (leb x low) below acc (id_of i)) used_mark ∙ marked_is (record_of s.rounds x).used_anchor_proof)))
