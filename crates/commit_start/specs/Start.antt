-- Start and reset (01: commit/mod.rs, 'Forms of the Rust', 'Refusals' 1 and 2).
use Rattle.std.specs.Prelude.{ℕ, ◌<◌, ◌≤◌, ◌≡◌, List, Bool, ◌&&◌, cond, eqb, leb, length}
use Rattle.std.proofs.Math.Path.{refl, sym, ap}
use Rattle.std.proofs.Common.{◌∙◌, arith}
use Rattle.std.proofs.Math.Bool.{true, false, not}
use borrow.Author.Tests.{eqb-true, eq-eqb, ne_eqb, leb-true, le-leb, lt-leb, ltb-true, not-true, not-false}
use Rattle.laws.specs.Test.{by_test, clash, both, and_l, and_r, and_no, and_yes, le_or, same_test}
use Rattle.laws.specs.Scan.{any, every, every_elim, every_intro}
use Rattle.spec.specs.Store.{Store}
use Rattle.spec.specs.Rules.{used_ok, conf_ok, places_ok, counts_as_started, is_reset, was_reset}
use Rattle.spec.specs.Chain.{refuse, good}
use Rattle.spec.specs.Calls as calls
use Rattle.spec.specs.Calls.{call, start, perform, is_start, buffer_of, start_ok, memory_kept, do_start, finish}
use Rattle.spec.proofs.Preservation.{call-start}
use Rattle.models.specs.Tables.{place_at, Inside, is_used, used_is}
use Rattle.dag_round_keys.specs.Sorted.{is_inside, inside_is}
use Rattle.commit_state.specs.declared.state.State.{State}
use Rattle.commit_state.specs.declared.state.Memory.{Memory}
use Rattle.commit_state.specs.declared.back.StartArgs.{StartArgs}
use Rattle.commit_state.specs.State.{no_memory}
use Rattle.commit_state.specs.View.{phase_of, option_of, gap_of, point_at, conf_of, progress_of, memory_of}
use Rattle.commit_state.specs.Back.{used_of, Starts, begun_state, cleared_state}
use Rattle.commit_state.specs.Numbers.{conf_holds}
use Rattle.commit_state.specs.Memory.{memory_holds, none_hold}
use Rattle.commit_state.specs.Reads.{start_args_of, begun-rounds, begun_progress, cleared-rounds}
use Rattle.tables_test.specs.Model.{shape, chain_no, chain-yes, test-yes}
use Rattle.tables_test.specs.View.{view, regular, seen_at}
use Rattle.tables_test.specs.Refines.{shape_of}
use Rattle.models.specs.Refusal.{unless_failed, refusal_of, failed, not_failed}
use Rattle.commit_answer.specs.Answer.{Tables, tables, view_of, Left, Did, unless_refused, done_with, tested, tested-yes, call-tested, did_done}
use Rattle.commit_start.specs.Blank.{blank, regular-none, blank_phase, blank_places, blank_pt, blank_heights}
use Rattle.models.specs.Refusal.{Check, no_refusal}

-- 1, 2 or none
unfoldable pub start_check : Store → StartArgs → Check
start_check v b = cond (start_ok v.places (start_args_of b)) (cond (counts_as_started v) (failed 2) no_refusal) (failed 1)

-- a state that a reset left
unfoldable pub reset_holds : State → Bool
reset_holds s = eqb s.phase 2 && (eqb s.count 0 && memory_holds s.memory)

-- the inspector's memory that a start keeps
unfoldable pub kept_memory : State → Memory
kept_memory s = cond (reset_holds s) s.memory no_memory

-- ---- the code's tests

-- places-of
pub places_none : (a : Bool) (n : ℕ) (r : Bool) → r ≡ a → not r ≡ true → 0 ≡ cond a n 0
places_none a n r e h = rw (sym e ∙ not-true r h) refl

pub places_some : (a : Bool) (n : ℕ) (r : Bool) → r ≡ a → not r ≡ false → n ≡ cond a n 0
places_some a n r e h = rw (sym e ∙ not-false r h) refl

pub places_view : (s : State) (ks ls cs os : List ℕ) (n : ℕ) → n ≡ cond (shape ks ls cs os) (length os) 0 → n ≡ (view s ks ls cs os).places
unfolding view
places_view s ks ls cs os n e = e

-- one law for each way out of `begins`
module _ (b : StartArgs) (n : ℕ) where
  conf_of_lem : (r : Bool) → r ≡ conf_holds b.commit_history_rounds b.deduplicate_rounds → r ≡ conf_ok (start_args_of b).conf
  unfolding conf_holds conf_ok
  conf_of_lem r e = e

  module _ (r : Bool) (e : r ≡ conf_holds b.commit_history_rounds b.deduplicate_rounds) where
    pub begins-conf : not r ≡ true → false ≡ start_ok n (start_args_of b)
    unfolding start_ok
    begins-conf h = chain_no _ _ r (conf_of_lem r e) h

    module _ (h : not r ≡ false) where
      pub begins-genesis : 4_000_000_000 < b.genesis.0 → false ≡ start_ok n (start_args_of b)
      unfolding start_ok
      begins-genesis l = chain-yes _ _ _ r (conf_of_lem r e) h (sym (and_no _ (lt-leb _ _ l)))

      pub begins_bottom : b.genesis.0 ≤ 4_000_000_000 → 4_000_000_000 < b.bottom.0 → false ≡ start_ok n (start_args_of b)
      unfolding start_ok
      begins_bottom k l = chain-yes _ _ _ r (conf_of_lem r e) h (test-yes _ _ _ (le-leb _ _ k) (sym (and_no _ (lt-leb _ _ l))))

      pub begins-below : b.genesis.0 ≤ 4_000_000_000 → b.bottom.0 ≤ 4_000_000_000 → b.bottom.0 < b.genesis.0 → false ≡ start_ok n (start_args_of b)
      unfolding start_ok
      begins-below k l m = chain-yes _ _ _ r (conf_of_lem r e) h (test-yes _ _ _ (le-leb _ _ k) (test-yes _ _ _ (le-leb _ _ l) (sym (and_no _ (lt-leb _ _ m)))))

      module _ (k : b.genesis.0 ≤ 4_000_000_000) (l : b.bottom.0 ≤ 4_000_000_000) (m : b.genesis.0 ≤ b.bottom.0) (u : Bool) (f : u ≡ used_ok (used_of b.used)) where
        pub begins_used : not u ≡ true → false ≡ start_ok n (start_args_of b)
        unfolding start_ok
        begins_used g = chain-yes _ _ _ r (conf_of_lem r e) h (test-yes _ _ _ (le-leb _ _ k) (test-yes _ _ _ (le-leb _ _ l) (test-yes _ _ _ (le-leb _ _ m) (chain_no _ _ u f g))))

        pub begins_places : not u ≡ false → (p : Bool) → p ≡ places_ok n → p ≡ start_ok n (start_args_of b)
        unfolding start_ok
        begins_places g p i = chain-yes _ _ _ r (conf_of_lem r e) h (test-yes _ _ _ (le-leb _ _ k) (test-yes _ _ _ (le-leb _ _ l) (test-yes _ _ _ (le-leb _ _ m) (chain-yes _ _ _ u f g i))))

-- one law for each way out of `check_start`
module _ (v : Store) (b : StartArgs) (n : ℕ) (r : Bool) (p : n ≡ v.places) (e : r ≡ start_ok n (start_args_of b)) where
  same : r ≡ start_ok v.places (start_args_of b)
  same = e ∙ ap (λ x. start_ok x (start_args_of b)) p

  pub start_range : not r ≡ true → failed 1 ≡ start_check v b
  unfolding start_check
  start_range h = rw (sym same ∙ not-true r h) refl

  pub start-twice : not r ≡ false → (c : Bool) → c ≡ counts_as_started v → c ≡ true → failed 2 ≡ start_check v b
  unfolding start_check
  start-twice h c f g = rw (sym same ∙ not-false r h, sym f ∙ g) refl

  pub start-passed : not r ≡ false → (c : Bool) → c ≡ counts_as_started v → c ≡ false → no_refusal ≡ start_check v b
  unfolding start_check
  start-passed h c f g = rw (sym same ∙ not-false r h, sym f ∙ g) refl

-- one law for each way out of `kept_memory`
module _ (s : State) (m : Memory) (e : m ≡ no_memory) where
  pub kept_phase : (s.phase ≡ 2 → ⊥) → m ≡ kept_memory s
  unfolding kept_memory reset_holds
  kept_phase d = rw (and_no _ (ne_eqb s.phase 2 d)) e

  pub kept_used : s.phase ≡ 2 → (s.count ≡ 0 → ⊥) → m ≡ kept_memory s
  unfolding kept_memory reset_holds
  kept_used p d = rw (and_yes (eq-eqb s.phase 2 p) (and_no (memory_holds s.memory) (ne_eqb s.count 0 d))) e

  pub kept_broken : s.phase ≡ 2 → s.count ≡ 0 → (r : Bool) → r ≡ memory_holds s.memory → not r ≡ true → m ≡ kept_memory s
  unfolding kept_memory reset_holds
  kept_broken p z r d h = rw (and_yes (eq-eqb s.phase 2 p) (and_yes (eq-eqb s.count 0 z) (sym d ∙ not-true r h))) e

pub kept_all : (s : State) → s.phase ≡ 2 → s.count ≡ 0 → (r : Bool) → r ≡ memory_holds s.memory → not r ≡ false → s.memory ≡ kept_memory s
unfolding kept_memory reset_holds
kept_all s p z r d h = rw (both (eq-eqb s.phase 2 p) (both (eq-eqb s.count 0 z) (sym d ∙ not-false r h))) refl

-- it holds
pub kept_holds : (s : State) → memory_holds (kept_memory s) ≡ true
unfolding kept_memory reset_holds
kept_holds s =
    by_test (eqb s.phase 2 && (eqb s.count 0 && memory_holds s.memory))
    (λ t. rw t (and_r (eqb s.count 0) _ (and_r (eqb s.phase 2) _ t)))
    (λ f. rw f none_hold)

-- ---- the memory that a start keeps

module _ (s : State) (ks ls cs os : List ℕ) (sh : shape ks ls cs os ≡ true) where
  abbrev v : Store
  v = view s ks ls cs os

  -- a phase that reads as reset
  reset_elim : is_reset v.phase ≡ true → (regular s ks ls cs os ≡ true) × (s.phase ≡ 2)
  unfolding view phase_of is_reset
  reset_elim h =
      by_test (regular s ks ls cs os)
      (λ t. (
        t,
        by_test (eqb s.phase 1)
            (λ p. absurd (clash h (rw (both sh t, p) refl)))
            (λ p. by_test (eqb s.phase 2) (λ q. eqb-true _ _ q) (λ q. absurd (clash h (rw (both sh t, p, q) refl)))),
      ))
      (λ f. absurd (clash h (rw (and_yes sh f) refl)))

  -- no place is named: none is used
  none_used : (inside : Inside os s.count (length os)) → every v.places (λ q. not (v.pt q).named) ≡ true → s.count ≡ 0
  unfolding view seen_at point_at
  none_used inside h =
      le_or s.count 0 (λ l. omega arith)
      (λ l. let named : (v.pt (place_at os 0)).named ≡ true = rw ((used_is os s.count (place_at os 0)).1 (0, l, refl)) refl in
      absurd (clash named (not-true _ (every_elim v.places (λ q. not (v.pt q).named) h (place_at os 0) (rw sh (inside 0 l))))))

  reset_holds_lem : was_reset v ≡ true → reset_holds s ≡ true
  unfolding was_reset reset_holds regular
  reset_holds_lem h =
      let (rg, p) = reset_elim (and_l (is_reset v.phase) _ h) in
      let a = and_r (leb s.count (length os)) _ rg in
      let inside = (inside_is os s.count (length os)).0 (and_l (is_inside os s.count (length os)) _ (and_r (memory_holds s.memory) _ a)) in
      both (eq-eqb _ _ p) (both (eq-eqb _ _ (none_used inside (and_r (is_reset v.phase) _ h))) (and_l (memory_holds s.memory) _ a))

  holds-reset : reset_holds s ≡ true → was_reset v ≡ true
  unfolding was_reset reset_holds view seen_at is_used any phase_of is_reset
  holds-reset h =
      let p = and_l (eqb s.phase 2) _ h in
      let a = and_r (eqb s.phase 2) _ h in
      let z : s.count ≡ 0 = eqb-true _ _ (and_l (eqb s.count 0) _ a) in
      let rg = regular-none s ks ls cs os z (and_r (eqb s.count 0) _ a) in
      let ph : is_reset v.phase ≡ true = rw (both sh rg, eqb-true s.phase 2 p) refl in
      both ph (every_intro v.places _ (λ q l. rw z refl))

  -- the memory that 01 keeps
  pub memory_is : memory_of (kept_memory s) ≡ memory_kept v
  unfolding kept_memory memory_kept memory_of view
  memory_is =
      let e : was_reset v ≡ reset_holds s = same_test _ _ reset_holds_lem holds-reset in
      by_test (reset_holds s) (λ t. rw (e ∙ t, t) refl) (λ f. rw (e ∙ f, f) refl)

-- ---- start

-- the tables after it, if it isn't refused
abbrev pub started_tables : StartArgs → Tables → Tables
started_tables b d = tables (begun_state (kept_memory d.state) b) (blank d.keys) (blank d.links) (blank d.certs) (blank d.order)

-- what it leaves
abbrev pub start_left : StartArgs → Tables → Left
start_left b d = unless_refused (start_check (view_of d) b) d (done_with (started_tables b d))

module _ (s : State) (ks ls cs os : List ℕ) (b : StartArgs) where
  abbrev w : Store
  w = view s ks ls cs os

  -- 01's store after it
  abbrev made : Store
  made = calls.begun w.places (memory_kept w) (start_args_of b)

  check_is : call w (start (start_args_of b)) ≡ finish w (unless_failed (start_check w b) (good made))
  unfolding do_start start_check refuse unless_failed refusal_of
  check_is = call-start w (start_args_of b) ∙ ap (finish w) (by (start_ok w.places (start_args_of b)) (counts_as_started w))
    where
      by : (x y : Bool) → refuse (not x) 1 (refuse y 2 (good made)) ≡ unless_failed (cond x (cond y (failed 2) no_refusal) (failed 1)) (good made)
      by true true = refl
      by true false = refl
      by false y = refl

  -- an accepted start has tables of one number of places
  fits : start_check w b ≡ no_refusal → shape ks ls cs os ≡ true
  unfolding start_check start_ok places_ok view
  fits e =
      by_test (shape ks ls cs os) (λ t. t)
      (λ f. absurd (
      by_test (start_ok w.places (start_args_of b))
      (λ t. let p : places_ok w.places ≡ true = search (and_l, and_r, t) in let z : w.places ≡ 0 = rw f refl in let l = ltb-true 0 w.places (and_l _ _ p) in omega arith)
      (λ g. not_failed _ (rw g at e))))

  makes : start_check w b ≡ no_refusal → view (begun_state (kept_memory s) b) (blank ks) (blank ls) (blank cs) (blank os) ≡ made
  unfolding view begun_state calls.begun phase_of conf_of
  makes e =
      let sh = fits e in
      let t : State = begun_state (kept_memory s) b in
      let m : memory_holds t.memory ≡ true = kept_holds s in
      λ i. record {
        phase = blank_phase ks ls cs os sh t refl m i;
        places = (blank_places ks ls cs os sh t refl m ∙ places_some (shape ks ls cs os) (length os) true (sym sh) refl) i;
        pt = λ q. blank_pt ks ls cs os sh t refl m q i;
        heights = λ q. blank_heights ks ls cs os sh t refl m q i;
        bottom = b.bottom.0;
        top = b.bottom.0;
        rounds = λ r. begun-rounds (kept_memory s) b w.places (memory_kept w) r i;
        conf = (start_args_of b).conf;
        progress = begun_progress (kept_memory s) b w.places (memory_kept w) i;
        memory = memory_is s ks ls cs os sh i;
      }

  -- what it was given lies in its ranges
  pub start_ranges : start_check w b ≡ no_refusal → Starts b
  unfolding start_check start_ok conf_ok
  start_ranges e =
      by_test (start_ok w.places (start_args_of b))
      (λ t. (leb-true _ _ (search (and_l, and_r, t)), leb-true _ _ (search (and_l, and_r, t)), leb-true _ _ (search (and_l, and_r, t)), leb-true _ _ (search (and_l, and_r, t)), search (and_l, and_r, t)))
      (λ g. absurd (not_failed _ (rw g at e)))

-- it does 01's call
pub start_did : (b : StartArgs) (d : Tables) (x : Left) → x ≡ start_left b d → Did (start (start_args_of b)) (start_left b) d x
unfolding buffer_of
start_did b d =
    did_done (start (start_args_of b)) (start_left b) d (started_tables b d) (start_check (view_of d) b) refl refl _
    (check_is d.state d.keys d.links d.certs d.order b) (makes d.state d.keys d.links d.certs d.order b)

-- ---- reset

-- the tables after it, if it isn't refused
abbrev pub reset_tables : Tables → Tables
reset_tables d = tables (cleared_state d.state) (blank d.keys) (blank d.links) (blank d.certs) (blank d.order)

-- what it leaves
abbrev pub reset_left : Tables → Left
reset_left d = unless_refused (tested (counts_as_started (view_of d)) no_refusal) d (done_with (reset_tables d))

module _ (s : State) (ks ls cs os : List ℕ) where
  abbrev u : Store
  u = view s ks ls cs os

  clears : counts_as_started u ≡ true → view (cleared_state s) (blank ks) (blank ls) (blank cs) (blank os) ≡ calls.cleared u
  unfolding view cleared_state calls.cleared phase_of conf_of progress_of option_of gap_of
  clears e =
      let (sh, m) = shape_of s ks ls cs os e in
      let t : State = cleared_state s in
      λ i. record {
        phase = blank_phase ks ls cs os sh t refl m i;
        places = (blank_places ks ls cs os sh t refl m ∙ places_some (shape ks ls cs os) (length os) true (sym sh) refl) i;
        pt = λ q. blank_pt ks ls cs os sh t refl m q i;
        heights = λ q. blank_heights ks ls cs os sh t refl m q i;
        bottom = 0;
        top = 0;
        rounds = λ r. cleared-rounds s r i;
        conf = (calls.cleared u).conf;
        progress = (calls.cleared u).progress;
        memory = u.memory;
      }

-- it does 01's call
pub reset_did : (d : Tables) (x : Left) → x ≡ reset_left d → Did calls.reset_all reset_left d x
unfolding is_start buffer_of perform finish unless_failed
reset_did d =
    did_done calls.reset_all reset_left d (reset_tables d) (tested (counts_as_started (view_of d)) no_refusal) refl refl (calls.cleared (view_of d))
    (call-tested (view_of d) calls.reset_all (good (calls.cleared (view_of d))) no_refusal (calls.cleared (view_of d)) refl refl refl (λ h. refl))
    (λ e. clears d.state d.keys d.links d.certs d.order (tested-yes _ _ e).0)
