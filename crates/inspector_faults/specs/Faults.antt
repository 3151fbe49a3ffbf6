-- The faults of the points of a round, as events (01: inspector.rs, `take_events`).
use Rattle.std.specs.Prelude.{ℕ, ◌-◌, ◌≤◌, ◌<◌, ◌≡◌, List, [], ◌∷◌, Bool, length, get_or}
use Rattle.std.proofs.Math.Path.{refl, ap, ap₂, subst}
use Rattle.std.proofs.Common.{sym, ◌∙◌, arith, le-ltb}
use Rattle.laws.specs.Lists.{up_to}
use Rattle.spec.specs.Inspect.{Event, event_bytes}
use Rattle.inspector_counters.specs.Count.{count_of}
use Rattle.dag_round_order.specs.Span.{span_of}
use Rattle.inspector_counters.specs.Counts.{no_counts, counts_to, Counted}
use Rattle.inspector_counters.specs.declared.counts.PointCounts.{PointCounts}
use Rattle.dag_round_order.specs.declared.span.Span.{Span}
use Rattle.inspector_counters.specs.declared.tests.PointTest.{PointTest}
use Rattle.inspector_counters.specs.declared.tests.PointTest.TheVariants as test
use Rattle.inspector_events.specs.declared.emitted.Emitted.{Emitted}
use Rattle.inspector_events.specs.Told.{Told, Ready, one_if, told_none}
use Rattle.inspector_events.specs.Author.{singles_of, digests_of, fork_of, digests-count, singles-count}
use Rattle.inspector_faults.specs.declared.Fault.{Fault}
use Rattle.inspector_faults.specs.declared.Fault.TheVariants as fault

-- 01's number of its events
unfoldable pub kind_of : Fault → ℕ
kind_of fault.TransInvalid = 1
kind_of fault.Invalid = 2
kind_of fault.IllFormed = 3
kind_of fault.Equivocated = 4

-- the test of the points that they are about
unfoldable pub test_for : Fault → PointTest
test_for fault.TransInvalid = test.TransInvalid
test_for fault.Invalid = test.Invalid
test_for fault.IllFormed = test.IllFormed
test_for fault.Equivocated = test.Found

-- how many of an author's points pass it
unfoldable pub count_for : Fault → PointCounts → ℕ
count_for fault.TransInvalid c = c.trans_invalid
count_for fault.Invalid c = c.invalid
count_for fault.IllFormed c = c.ill_formed
count_for fault.Equivocated c = c.found

-- one of the first three, or the last
unfoldable pub by_single : {A : Type 0} → Fault → A → A → A
by_single fault.TransInvalid x y = x
by_single fault.Invalid x y = x
by_single fault.IllFormed x y = x
by_single fault.Equivocated x y = y

-- the events of this fault by the author a, at round r
unfoldable pub fault_of : List ℕ → List ℕ → List ℕ → ℕ → ℕ → ℕ → Fault → ℕ → List Event
fault_of ks cs os low k r f a = by_single f (singles_of ks cs os low k (kind_of f) (test_for f) a) (fork_of a r (digests_of ks cs os low k a))

-- ---- the steps of the code

-- one of the first three
abbrev pub Single : Fault → Type 0
Single f = f ≡ fault.Equivocated → ⊥

-- what is chosen by a fault
pub by_single_lem : {A : Type 0} (f : Fault) (x y : A) → Single f → by_single f x y ≡ x
unfolding by_single
by_single_lem fault.TransInvalid x y d = refl
by_single_lem fault.Invalid x y d = refl
by_single_lem fault.IllFormed x y d = refl
by_single_lem fault.Equivocated x y d = absurd (d refl)

module _ (ks cs os : List ℕ) (low high : ℕ) where
  -- the points found are counted for an equivocation
  pub fork_counts : (f : Fault) (a n : ℕ) → f ≡ fault.Equivocated → n ≡ count_of ks cs os low high a (test_for f) → n ≡ count_of ks cs os low high a test.Found
  unfolding test_for
  fork_counts f a n h = subst (λ (g : Fault). n ≡ count_of ks cs os low high a (test_for g)) h

  -- what is sent of it
  module _ (wr : Bool) (b : List ℕ) (e : Emitted) (r : ℕ) (f : Fault) (a : ℕ) where
    pub forks_ready : f ≡ fault.Equivocated → Ready event_bytes wr b e (fault_of ks cs os low (high - low) r f a) → Ready event_bytes wr b e (fork_of a r (digests_of ks cs os low (high - low) a))
    unfolding fault_of by_single
    forks_ready h = subst (λ (g : Fault). Ready event_bytes wr b e (fault_of ks cs os low (high - low) r g a)) h

    pub forks_told : (x : Emitted) (b' : List ℕ) → f ≡ fault.Equivocated → Told event_bytes wr b e (fork_of a r (digests_of ks cs os low (high - low) a)) x b' → Told event_bytes wr b e (fault_of ks cs os low (high - low) r f a) x b'
    unfolding fault_of by_single
    forks_told x b' h = subst (λ (g : Fault). Told event_bytes wr b e (fault_of ks cs os low (high - low) r g a) x b') (sym h)

    -- of another fault
    module _ (d : Single f) (k : ℕ) (w : PointTest) (i : k ≡ kind_of f) (j : w ≡ test_for f) where
      by_test_lem : fault_of ks cs os low (high - low) r f a ≡ singles_of ks cs os low (high - low) k w a
      unfolding fault_of
      by_test_lem = by_single_lem f _ _ d ∙ ap₂ (λ n (x : PointTest). singles_of ks cs os low (high - low) n x a) (sym i) (sym j)

      pub singles_ready : Ready event_bytes wr b e (fault_of ks cs os low (high - low) r f a) → Ready event_bytes wr b e (singles_of ks cs os low (high - low) k w a)
      singles_ready = subst (Ready event_bytes wr b e) by_test_lem

      pub singles-told : (x : Emitted) (b' : List ℕ) → Told event_bytes wr b e (singles_of ks cs os low (high - low) k w a) x b' → Told event_bytes wr b e (fault_of ks cs os low (high - low) r f a) x b'
      singles-told x b' = subst (λ xs. Told event_bytes wr b e xs x b') (sym by_test_lem)

  -- no point passes the test: no event
  no_singles : (kind : ℕ) (w : PointTest) (a : ℕ) → count_of ks cs os low high a w ≤ 0 → singles_of ks cs os low (high - low) kind w a ≡ []
  no_singles kind w a l = none (singles_of ks cs os low (high - low) kind w a) (omega (arith, l, singles-count ks cs os low high kind w a))
    where
      none : (xs : List Event) → length xs ≤ 0 → xs ≡ []
      none [] k = refl
      none (x ∷ xs) k = absurd (omega arith)

  no_fault : (r : ℕ) (f : Fault) (a : ℕ) → count_of ks cs os low high a (test_for f) ≤ 0 → fault_of ks cs os low (high - low) r f a ≡ []
  unfolding fault_of by_single kind_of test_for fork_of one_if
  no_fault r fault.TransInvalid a l = no_singles 1 test.TransInvalid a l
  no_fault r fault.Invalid a l = no_singles 2 test.Invalid a l
  no_fault r fault.IllFormed a l = no_singles 3 test.IllFormed a l
  no_fault r fault.Equivocated a l =
      let h = digests-count ks cs os low high a (count_of ks cs os low high a test.Found) refl in
      rw (le-ltb 1 (length (digests_of ks cs os low (high - low) a)) (omega (arith, h, l))) refl

  pub none_told : (wr : Bool) (b : List ℕ) (e : Emitted) (r : ℕ) (f : Fault) (a n : ℕ) → n ≡ count_of ks cs os low high a (test_for f) → n ≡ 0 → Told event_bytes wr b e (fault_of ks cs os low (high - low) r f a) e b
  none_told wr b e r f a n h z = subst (λ xs. Told event_bytes wr b e xs e b) (sym (no_fault r f a (omega (arith, h, z)))) (told_none event_bytes wr b e)

  -- the cell of an author
  pub cell-counts : (f : Fault) (a n : ℕ) (l : List PointCounts) → a < 32 → Counted ks cs os low (high - low) l → n ≡ count_for f (get_or l a no_counts) → n ≡ count_of ks cs os low high a (test_for f)
  unfolding count_for test_for counts_to count_of
  cell-counts f a n l h c e = e ∙ (ap (count_for f) (c.cells a h) ∙ counts f)
    where
      counts : (f : Fault) → count_for f (counts_to ks cs os low a (high - low)) ≡ count_of ks cs os low high a (test_for f)
      counts fault.TransInvalid = refl
      counts fault.Invalid = refl
      counts fault.IllFormed = refl
      counts fault.Equivocated = refl

-- the events of this fault of round r, of the first n positions
unfoldable pub round_faults : List ℕ → List ℕ → List ℕ → ℕ → Fault → ℕ → List Event
round_faults ks cs os n f r = let x = span_of ks os n r in up_to 32 (fault_of ks cs os x.low (x.high - x.low) r f)

-- of its positions as they are found
module _ (ks cs os : List ℕ) (n : ℕ) (f : Fault) (r q : ℕ) (at : q ≡ r) (x : Span) (e : x ≡ span_of ks os n q) (wr : Bool) (b : List ℕ) (m : Emitted) where
  by_span : round_faults ks cs os n f r ≡ up_to 32 (fault_of ks cs os x.low (x.high - x.low) q f)
  unfolding round_faults
  by_span = ap (round_faults ks cs os n f) (sym at) ∙ ap (λ (y : Span). up_to 32 (fault_of ks cs os y.low (y.high - y.low) q f)) (sym e)

  pub round_ready : Ready event_bytes wr b m (round_faults ks cs os n f r) → Ready event_bytes wr b m (up_to 32 (fault_of ks cs os x.low (x.high - x.low) q f))
  round_ready = subst (Ready event_bytes wr b m) by_span

  pub round-told : (y : Emitted) (b' : List ℕ) → Told event_bytes wr b m (up_to 32 (fault_of ks cs os x.low (x.high - x.low) q f)) y b' → Told event_bytes wr b m (round_faults ks cs os n f r) y b'
  round-told y b' = subst (λ xs. Told event_bytes wr b m xs y b') (sym by_span)
