-- The anchors that a trigger yields are those of document 01.
use Prim.Native.Nat.{ℕ, zero, suc, ◌+◌, ◌-◌, ◌*◌, ◌^◌, ◌<◌, ◌≤◌, max}
use Rattle.std.specs.Prelude.{◌≡◌, Bool, not, ◌&&◌, ◌||◌, eqb, ltb, length, get_or}
use Rattle.std.proofs.Math.Path.{refl, sym, ap}
use Rattle.std.proofs.Common.{◌∙◌}
use mathlib.Core.List.{List, []}
use Rattle.std.proofs.Math.Bool.{true, false, cond}
use Rattle.std.proofs.Math.Option.{none, some}
use native.Mathlib.Omega.{arith}
use Rattle.std.proofs.Math.Dec.{leb}
use borrow.Author.Tests.{eqb-true, le-leb, lt-leb, leb-false, le-ltb, lt-ltb, ltb-true, not-true, not-false}
use Rattle.laws.specs.Test.{by_test, le_or, and_l, and_r}
use Rattle.spec.specs.Ids.{Id}
use Rattle.spec.specs.Store as store
use Rattle.spec.specs.Store.{Store, previous}
use Rattle.spec.specs.Paths.{proved}
use Rattle.spec.specs.Rules.{counts_as_started}
use Rattle.spec.specs.Chain as chain
use Rattle.spec.specs.Chain.{Out, number, conflict, bad, good, then, refuse, or_zero, lowest_walked, check_oldest, walk, chain_from, trigger_conflict, filtered, place_of, anchors_of}
use Rattle.spec.specs.Calls.{at_id}
use Rattle.models.specs.Cert.{bit_of, flags_of, height_of, has_proof}
use Rattle.models.specs.DagPoint.{case_of}
use Rattle.models.specs.Digest.{Fit, digest_at}
use Rattle.models.specs.Parts.{id_of}
use Rattle.models.specs.Tables.{round_at, author_at, status_at, marks_at, Used}
use Rattle.models.specs.declared.parts.PointId.{PointId}
use Rattle.models.specs.Refusal.{refusal_of, unless_failed, failed, conflicting, not_valid}
use Rattle.models.specs.declared.refusal.Refusal.{Refusal}
use Rattle.dag_round_keys.specs.Look.{look_as, look_place}
use Rattle.commit_state.specs.Numbers.{rounds_hold}
use Rattle.commit_state.specs.View.{option_of, progress_of, conf_of}
use Rattle.commit_state.specs.declared.state.State.{State}
use Rattle.tables_test.specs.Model.{range_says}
use Rattle.tables_test.specs.View.{view}
use Rattle.tables_test.specs.Refines.{rounds_of_lem}
use Rattle.dag_round_points.specs.Model.{id_words}
use Rattle.dag_round_points.specs.Codes.{unless, unless-numbered, found, found_at, found-refused}
use Rattle.dag_round_points.specs.Point.{point_code, place_for, point_used, point-round}
use Rattle.dag_round_points.specs.RefinesPoint.{point_is}
use Rattle.models.specs.Ids.{has_previous, previous_id}
use Rattle.back_walk.specs.Refines.{walkable, round_at_lem, resolved_at_lem, status_at_lem, status_most, certified_at, top_at_lem, kept_at, given_at_lem, previous_at, previous_id_lem, previous_fit}
use Rattle.back_chain.specs.Chain.{Chained, no_anchors, chain_out, chain-none, out_good, out_bad}
use Rattle.back_chain.specs.RefinesWalk.{walked, walked_is}
use Rattle.back_chain.specs.Model.{is_below, low_of, trigger_of, trigger_code, walks, chained_from}
use Rattle.back_chain.specs.declared.Chain.{Chain}
use Rattle.std.specs.Prelude.{Err, Ok}
use Rattle.models.specs.Refusal.{Check, no_refusal}
use Rattle.dag_round_points.specs.Codes.{Found}

-- the trigger at the place q, of the round r
unfoldable pub triggered_at : State → List ℕ → List ℕ → List ℕ → List ℕ → ℕ → ℕ → Out (List chain.EnqueuedAnchor)
triggered_at s ks ls cs os q r = unless_failed (trigger_code ks cs q r) (cond (walks s ks q r (low_of s)) (chained_from s ks ls cs os q r (low_of s)) (good []))

-- ---- plain laws

-- a trigger with a conflict: of status 2 if it is proved, of a worse one if it is certified
abbrev conflicts : Bool → Bool → Bool → Bool
conflicts two c f = elim two [ true ↦ c && f | false ↦ c ]

-- what 01 says of a trigger that is resolved and isn't valid
abbrev other : Bool → Bool → Bool → ℕ → Out (List chain.EnqueuedAnchor)
other two c f r = elim (conflicts two c f) [ true ↦ bad (conflict r) | false ↦ refuse (not c) 15 (good []) ]

-- of a worse status than 2
invalid_is : (c r : ℕ) (f : Bool) → other false (ltb 0 (height_of c)) f r ≡ unless_failed (not_valid c r) (good [])
unfolding refuse unless_failed refusal_of not_valid
invalid_is c r f = by (ltb 0 (height_of c))
  where
    by : (g : Bool) → other false g f r ≡ unless_failed (cond g (conflicting r) (failed 15)) (good [])
    by true = refl
    by false = refl

-- 9, 13 and 15 of a trigger at the place q, by its status and its certificate word; o is the chain of a valid one
status_is : (q st c r : ℕ) (o : Out (List chain.EnqueuedAnchor)) → st ≤ 5
    → refuse (not (ltb 0 st)) 9 (elim (eqb st 1) [ true ↦ o | false ↦ other (eqb st 2) (ltb 0 (height_of c)) (bit_of 0x8000 c) r ]) ≡ unless_failed (trigger_of (look_as (case_of st) q) c r) (cond (eqb st 1) o (good []))
unfolding refuse unless_failed refusal_of trigger_of look_as case_of has_proof flags_of not_valid
status_is q zero c r o l = refl
status_is q (suc zero) c r o l = refl
status_is q (suc (suc zero)) c r o l = by (ltb 0 (height_of c)) (bit_of 0x8000 c)
  where
    by : (g f : Bool) → other true g f r ≡ unless_failed (cond (g && f) (conflicting r) (cond g no_refusal (failed 15))) (good [])
    by true true = refl
    by true false = refl
    by false f = refl
status_is q (suc (suc (suc zero))) c r o l = invalid_is c r (bit_of 0x8000 c)
status_is q (suc (suc (suc (suc zero)))) c r o l = invalid_is c r (bit_of 0x8000 c)
status_is q (suc (suc (suc (suc (suc zero))))) c r o l = invalid_is c r (bit_of 0x8000 c)
status_is q (suc (suc (suc (suc (suc (suc n)))))) c r o l = absurd (omega arith)

-- the tests before a walk; e: it is empty
walk-tests : (m g e : Bool) (o p : Out (List chain.EnqueuedAnchor)) → (e ≡ false → o ≡ p) → elim (not m || (g || e)) [ true ↦ good [] | false ↦ o ] ≡ cond (m && (not g && not e)) p (good [])
walk-tests false g e o p h = refl
walk-tests true true e o p h = refl
walk-tests true false true o p h = refl
walk-tests true false false o p h = h refl

-- at most is not above
not_above : (m n : ℕ) → not (leb m n) ≡ ltb n m
not_above m n = le_or m n (λ l. rw (le-leb m n l, le-ltb n m l) refl) (λ l. rw (lt-leb m n l, lt-ltb n m l) refl)

-- what follows matters only where nothing is refused
unless-same : {A : Type 0} (n : ℕ) (o p : Out A) → (n ≡ 0 → o ≡ p) → unless n o ≡ unless n p
unfolding unless
unless-same zero o p h = h refl
unless-same (suc n) o p h = refl

-- the round plus 1, or 0 for none
zero-less : (n : ℕ) → or_zero (option_of n) ≡ n - 1
unfolding or_zero option_of
zero-less zero = refl
zero-less (suc n) = omega arith

-- no anchors
none-good : (c : Chain) → c ≡ no_anchors → chain_out (Ok c) ≡ good []
none-good c e = ap (λ (x : Chain). chain_out (Ok x)) e ∙ (out_good (Ok no_anchors) no_anchors refl ∙ ap good (chain-none no_anchors.list))

-- a refusal
none-bad : (x : Chained) (r : Refusal) → x ≡ Err r → chain_out x ≡ bad (refusal_of r)
none-bad x r e = out_bad x r e

-- it has no entries
pub none-few : (c : Chain) → c ≡ no_anchors → c.count ≤ 511
none-few c e = omega (arith, ap (λ (z : Chain). z.count) e)

module _ (s : State) (ks ls cs os : List ℕ) (fk : Fit ks) (fl : Fit ls) (h : counts_as_started (view s ks ls cs os) ≡ true) where
  -- the store
  abbrev v : Store
  v = view s ks ls cs os

  -- the lowest round of a walk
  abbrev low : ℕ
  low = low_of s

  low_is : lowest_walked v ≡ low
  unfolding view progress_of low_of
  low_is = ap (λ (x : ℕ). max x s.bottom.0) (zero-less s.last_committed_proof.0)

  low_room : s.bottom.0 ≤ low
  unfolding low_of
  low_room = omega arith

  module _ (q r : ℕ) (u : Used os s.count q) (e : round_at ks q ≡ r) where
    round_of_lem : store.round_at v q ≡ r
    round_of_lem = round_at_lem s ks ls cs os fk fl h q u ∙ e

    -- the walk from the trigger's previous point
    from_is : status_at ks q ≡ 1 → low < r → chain_from v q (previous (v.pt q)) ≡ chained_from s ks ls cs os q r low
    unfolding chained_from chain_from
    from_is valid l =
        ap (chain_from v q) (previous_at s ks ls cs os fk fl h q u (omega arith)) ∙ by (has_previous ks ls q)
      where
        start : (x y : ℕ) → x ≡ low → y ≡ r → then (walk v x (y - 1 - x) (record { round = y - 1; author = (store.id_at v q).author; digest = digest_at ls (q * 328 + 72 + author_at ks q * 4) }) []) (check_oldest x) ≡ then (walked s ks ls cs os low (r - low) (previous_id ks ls q (r - 1)) []) (check_oldest low)
        start x y a b =
            let top = (kept_at s ks ls cs os fk fl h q u).1 in
            let k : r - low ≡ suc (r - 1 - low) = omega arith in
            let small : r - 1 < 2 ^ 64 = omega (arith, e, fk (q * 8 + 0)) in
            let w : PointId = previous_id ks ls q (r - 1) in
            let go : walked s ks ls cs os low (r - low) w [] ≡ walk v low (r - 1 - low) (id_of w) [] = rw k (walked_is s ks ls cs os fk fl h low low_room (r - 1 - low) w [] (omega (arith, top, e)) (previous_fit ks ls q (r - 1) fk fl small)) in
            rw (a, b)
            (ap (λ (i : Id). then (walk v low (r - 1 - low) i []) (check_oldest low)) (previous_id_lem s ks ls cs os fk fl h q u (omega arith) (r - 1))
            ∙ ap (λ x. then x (check_oldest low)) (sym go))

        by : (b : Bool) → chain_from v q (cond b (some (digest_at ls (q * 328 + 72 + author_at ks q * 4))) none) ≡ cond b (then (walked s ks ls cs os low (r - low) (previous_id ks ls q (r - 1)) []) (check_oldest low)) (bad (number 16))
        by true = start (lowest_walked v) (store.round_at v q) low_is round_of_lem
        by false = refl

    -- the chain of a valid trigger
    chain_is : eqb (status_at ks q) 1 ≡ true → chain.chain v q ≡ cond (bit_of 2 (marks_at ks q) && (not (eqb r s.genesis.0) && ltb low r)) (chained_from s ks ls cs os q r low) (good [])
    unfolding chain.chain view conf_of
    chain_is y =
        let st = eqb-true (status_at ks q) 1 y in
        (λ i. elim (not (given_at_lem s ks ls cs os fk fl h q u (omega (arith, st)) i).trigger || (eqb (round_of_lem i) s.genesis.0 || leb (round_of_lem i) (low_is i))) [ true ↦ good [] | false ↦ chain_from v q (previous (v.pt q)) ])
        ∙ (walk-tests (bit_of 2 (marks_at ks q)) (eqb r s.genesis.0) (leb r low) (chain_from v q (previous (v.pt q))) (chained_from s ks ls cs os q r low) (λ e. from_is st (leb-false r low e))
        ∙ ap (λ z. cond (bit_of 2 (marks_at ks q) && (not (eqb r s.genesis.0) && z)) (chained_from s ks ls cs os q r low) (good [])) (not_above r low))

    walk_is : cond (eqb (status_at ks q) 1) (chain.chain v q) (good []) ≡ cond (walks s ks q r low) (chained_from s ks ls cs os q r low) (good [])
    unfolding walks
    walk_is = by_test (eqb (status_at ks q) 1) (λ y. rw y (chain_is y)) (λ y. rw y refl)

    -- 01's trigger
    trigger_is : filtered v q ≡ triggered_at s ks ls cs os q r
    unfolding filtered trigger_conflict proved triggered_at trigger_code look_place
    trigger_is =
        let st = status_at ks q in
        (λ i. refuse (not (resolved_at_lem s ks ls cs os fk fl h q u i)) 9 (elim (eqb (status_at_lem s ks ls cs os fk fl h q u i) 1) [
          | true ↦ chain.chain v q
          | false ↦ other (eqb (status_at_lem s ks ls cs os fk fl h q u i) 2) (certified_at s ks ls cs os fk fl h q u i) (top_at_lem s ks ls cs os fk fl h q u i) (round_of_lem i)
        ]))
        ∙ (status_is q st (get_or cs q 0) r (chain.chain v q) (status_most s ks ls cs os fk fl h q u) ∙ ap (unless_failed (trigger_of (look_as (case_of st) q) (get_or cs q 0) r)) walk_is)

  module _ (i : PointId) (fi : Fit (id_words i)) where
    -- the place of the trigger
    abbrev q : ℕ
    q = place_for s ks os i

    -- the tests of its id
    id_is : anchors_of v (id_of i) ≡ cond (is_below s i) (good []) (at_id v (id_of i) (then (place_of v (id_of i)) (filtered v)))
    unfolding anchors_of is_below at_id refuse view
    id_is =
        le_or 32 i.author
        (λ l. rw (le-leb 32 i.author l, le-ltb i.author 32 l) refl)
        (λ l. rw (lt-leb 32 i.author l, lt-ltb i.author 32 l)
        (le_or s.bottom.0 i.round.0
        (λ m. rw (le-ltb i.round.0 s.bottom.0 m, le-leb s.bottom.0 i.round.0 m, sym (not_above i.round.0 s.top.0)) refl)
        (λ m. rw (lt-ltb i.round.0 s.bottom.0 m) refl)))

    anchors_is : anchors_of v (id_of i) ≡ cond (is_below s i) (good []) (unless (point_code s ks os i) (triggered_at s ks ls cs os q i.round.0))
    anchors_is =
        id_is ∙ ap (cond (is_below s i) (good []))
        (point_is s ks ls cs os i fk fl h fi (filtered v) ∙ unless-same (point_code s ks os i) _ _ (λ z. trigger_is q i.round.0 (point_used s ks os i z) (point-round s ks os i z)))

    -- a walk has at most 511 rounds
    walk_short : point_code s ks os i ≡ 0 → i.round.0 - low ≤ 511
    unfolding rounds_hold
    walk_short z =
        let k = kept_at s ks ls cs os fk fl h q (point_used s ks os i z) in
        let r = range_says _ _ _ (and_l _ _ (rounds_of_lem s ks ls cs os h)) in
        omega (arith, k.1, point-round s ks os i z, low_room, r.2)

    -- ---- the code's outcomes

    -- the trigger's round
    abbrev r : ℕ
    r = i.round.0

    -- what 01 says
    abbrev Says : Chained → Type 0
    Says x = chain_out x ≡ anchors_of v (id_of i)

    module _ (b : Bool) (is : b ≡ is_below s i) where
      pub of_below : b ≡ true → (c : Chain) → c ≡ no_anchors → Says (Ok c)
      of_below y c e = none-good c e ∙ sym (anchors_is ∙ rw (sym is ∙ y) refl)

      module _ (n : b ≡ false) (f : Found) (g : f ≡ found (point_code s ks os i) q) where
        tests : anchors_of v (id_of i) ≡ unless (point_code s ks os i) (triggered_at s ks ls cs os q r)
        tests = anchors_is ∙ rw (sym is ∙ n) refl

        pub of_refused : (w : Refusal) → f ≡ Err w → Says (Err w)
        unfolding unless_failed
        of_refused w d = out_bad (Err w) w refl ∙ sym (tests ∙ (unless-numbered (point_code s ks os i) _ ∙ rw (found-refused (point_code s ks os i) q w (sym g ∙ d)) refl))

        module _ (p : ℕ) (d : f ≡ Ok p) where
          at : (point_code s ks os i ≡ 0) × (p ≡ q)
          at = found_at (point_code s ks os i) q p (sym g ∙ d)

          -- the place lies in the tables
          pub trigger_in : (p * 8 + 8 ≤ length ks) × (p < length cs)
          trigger_in =
              let (j, l, x) = point_used s ks os i at.0 in
              let (a, e) = walkable s ks ls cs os fk fl h in
              let m = a.3 j l in
              (omega (arith, m, x, at.1, a.0), omega (arith, m, x, at.1, e))

          module _ (m : Check) (trigger : m ≡ trigger_code ks cs p r) where
            at_trigger : anchors_of v (id_of i) ≡ triggered_at s ks ls cs os p r
            unfolding unless
            at_trigger = tests ∙ rw (at.0, unless, ← at.1) refl

            pub of_trigger : (w : Refusal) → m ≡ Err w → Says (Err w)
            unfolding triggered_at unless_failed
            of_trigger w y = out_bad (Err w) w refl ∙ sym (at_trigger ∙ rw (sym trigger ∙ y) refl)

            module _ (none : m ≡ no_refusal) (l : ℕ) (lowest : l ≡ low_of s) (a : Bool) (walk : a ≡ walks s ks p r l) where
              pub of_none : not a ≡ true → (c : Chain) → c ≡ no_anchors → Says (Ok c)
              unfolding triggered_at unless_failed
              of_none y c e = none-good c e ∙ sym (at_trigger ∙ rw (sym trigger ∙ none, ← lowest, sym walk ∙ not-true a y) refl)

              pub of_chain : not a ≡ false → (x : Chained) → chain_out x ≡ chained_from s ks ls cs os p r l → Says x
              unfolding triggered_at unless_failed
              of_chain y c e = e ∙ sym (at_trigger ∙ rw (sym trigger ∙ none, ← lowest, sym walk ∙ not-false a y) refl)

              -- what the walk is given
              pub of_ready : not a ≡ false → Used os s.count p × ((l < r) × (r - l ≤ 511))
              unfolding walks
              of_ready y =
                  let w = sym walk ∙ not-false a y in
                  (rw at.1 (point_used s ks os i at.0), (ltb-true _ _ (and_r (not (eqb r s.genesis.0)) _ (and_r (bit_of 2 (marks_at ks p)) _ (and_r (eqb (status_at ks p) 1) _ w))), rw lowest (walk_short at.0)))
