-- The outlook refuses as the commit would (01: commit/mod.rs, 'Refusals'; 02: N1).
use Prim.Native.Nat.{ℕ, zero, suc, ◌+◌, ◌-◌, ◌*◌, ◌≤◌, ◌<◌}
use Rattle.std.specs.Prelude.{◌≡◌, ◌⊎◌, ◌≢◌, length}
use Rattle.std.proofs.Math.Path.{refl, sym, ap}
use Rattle.std.proofs.Common.{◌∙◌, subst, inl, inr, length-append, arith}
use Rattle.std.proofs.Math.Logic.{⊎_elim}
use Rattle.std.proofs.Math.Bool.{Bool, true, false}
use mathlib.Core.List.Memᴰ
use mathlib.Core.List.{List, [], ◌∷◌, ◌++◌, Memᴰ}
use Rattle.std.proofs.Math.Option.{Option, none, some, some-injective}
use Rattle.laws.specs.Test.{by_test}
use Rattle.laws.specs.Scan.{those}
use Rattle.laws.specs.Lists.{has, keep, joined, weigh}
use Rattle.laws.specs.Bytes.{be, be-length, written}
use Rattle.spec.specs.Ids.{Id}
use Rattle.spec.specs.Store.{Store, round_at}
use Rattle.spec.specs.Chain.{Refusal, number, conflict, Out, bad, good, then, refuse, is_committable, checked, EnqueuedAnchor, anchors_of}
use Rattle.spec.specs.History.{lowest, in_history, first_fault, tested, gap_pending, linked_counts, lists_ok, after_lists, test_anchor, record_bytes, is_first_executable, gap_after, set_committed, dequeued, Finished, commit_all, outlook_bytes, outlook_all}
use Rattle.spec.specs.Calls.{Answer, anchors, refused, number_of, Outcome, commit_end, do_commit, do_outlook}
use Rattle.spec.specs.Walk.{then-good, Anchored, Rising, Tested, tested-good}

-- ---- lists put in order, and some of their elements left out

pub those-keep : (n : ℕ) (f g : ℕ → Bool) → ((i : ℕ) → i < n → g i ≡ true → f i ≡ true) → those n g ≡ keep g (those n f)
unfolding those keep
those-keep zero f g h = refl
those-keep (suc n) f g h =
    by_test (g n)
    (λ t. rw (t, h n (omega arith) t) (rw t (ap (λ l. n ∷ l) (those-keep n f g (λ i l. h i (omega arith))))))
    (λ u. by_test (f n) (λ v. rw (u, v) (rw u (those-keep n f g (λ i l. h i (omega arith))))) (λ v. rw (u, v) (those-keep n f g (λ i l. h i (omega arith)))))

-- points that pass can be left out
pub first-keep : (s : Store) (g : ℕ → Bool) (l : List ℕ) → ((q : ℕ) → Memᴰ q l → g q ≡ false → checked s is_committable q ≡ good q) → first_fault s (keep g l) ≡ first_fault s l
unfolding first_fault keep
first-keep s g [] h = refl
first-keep s g (x ∷ xs) h =
    by_test (g x)
    (λ t. rw t (ap (then (checked s is_committable x)) (λ i y. first-keep s g xs (λ q m. h q (Memᴰ.tail m)) i)))
    (λ f. rw (f, h x (Memᴰ.head refl) f) (first-keep s g xs (λ q m. h q (Memᴰ.tail m))))

-- ---- all anchors of a chain

-- each anchor's tests in turn, the older ones committed
unfoldable pub tests : Store → List EnqueuedAnchor → Out ℕ
tests s [] = good 0
tests s (e ∷ es) = then (tested s e.anchor) (λ x. tests (dequeued s e) es)

-- 02, N6: "the anchors before it in the same outlook have been committed": the store after these anchors
unfoldable pub supposed : Store → List EnqueuedAnchor → Store
supposed s [] = s
supposed s (e ∷ es) = supposed (dequeued s e) es

-- in the history of one of these anchors, by the marks now
unfoldable pub taken : Store → List EnqueuedAnchor → ℕ → Bool
taken s es q = has (λ (e : EnqueuedAnchor). in_history s e.anchor q) es

pub supposed-append : (s : Store) (es fs : List EnqueuedAnchor) → supposed s (es ++ fs) ≡ supposed (supposed s es) fs
unfolding supposed
supposed-append s [] fs = refl
supposed-append s (e ∷ es) fs = supposed-append (dequeued s e) es fs

-- each anchor of a chain that rises
pub rising_in : (s : Store) (low : ℕ) (es : List EnqueuedAnchor) → Rising s low es → (e : EnqueuedAnchor) → Memᴰ e es → (low ≤ round_at s e.anchor) × Anchored s e
rising_in s low [] r e m = absurd (Memᴰ.not-nil m)
rising_in s low (x ∷ es) (u, a, r) e m =
    ⊎_elim
    (λ d. subst (λ (z : EnqueuedAnchor). (low ≤ round_at s z.anchor) × Anchored s z) (sym d) (u, a))
    (λ k. let (l, b) = rising_in s (suc (round_at s x.anchor)) es r e k in (omega (arith, u, l), b))
    (Memᴰ.cases_cons m)

-- the first of several anchors passed, and so did the others, once it was committed
pub tests-first : (s : Store) (e : EnqueuedAnchor) (es : List EnqueuedAnchor) (n : ℕ) → tests s (e ∷ es) ≡ good n → Tested s e.anchor × (tests (dequeued s e) es ≡ good n)
unfolding tests
tests-first s e es n h = let (a, t, k) = then-good (tested s e.anchor) (λ x. tests (dequeued s e) es) n h in (tested-good s e.anchor a t, k)

-- ---- the outlook's tests

-- an outlook's record: 41 bytes, and 4 for each round
unfoldable pub look_size : Store → ℕ → ℕ
look_size s a = 41 + (suc (round_at s a) - lowest s a) * 4

-- 4 bytes each
pub fours : (ns : List ℕ) → length (joined (be 4) ns) ≡ length ns * 4
unfolding joined
fours [] = refl
fours (n ∷ ns) = let h : length (joined (be 4) ns) ≡ length ns * 4 = fours ns in length-append (be 4 n) (joined (be 4) ns) ∙ rw (be-length 4 n) (omega arith)

-- 02, N6: the bytes of a chain's anchors, each counted with the older ones committed
unfoldable pub looks : Store → List EnqueuedAnchor → List ℕ
looks s [] = []
looks s (e ∷ es) = outlook_bytes s e.anchor ++ looks (dequeued s e) es

-- marks change no length
pub mark_sizes : (s : Store) (e : EnqueuedAnchor) (es : List EnqueuedAnchor) → weigh (λ (f : EnqueuedAnchor). look_size (dequeued s e) f.anchor) es ≡ weigh (λ (f : EnqueuedAnchor). look_size s f.anchor) es
unfolding look_size dequeued set_committed
mark_sizes s e es = refl

-- ---- tests that came out badly

pub same-bad : {A : Type 0} (r q : Refusal) → ◌≡◌ {A = Out A} (bad r) (bad q) → r ≡ q
same-bad r q h = cc

pub then-bad : {A B : Type 0} (o : Out A) (f : A → Out B) (r : Refusal) → then o f ≡ bad r → (o ≡ bad r) ⊎ ((a : A) × (o ≡ good a) × (f a ≡ bad r))
then-bad (bad q) f r h = inl (ap bad (same-bad q r h))
then-bad (good a) f r h = inr (a, refl, h)

pub refuse-bad : {A : Type 0} (b : Bool) (n : ℕ) (o : Out A) (r : Refusal) → refuse b n o ≡ bad r → (number n ≡ r) ⊎ (o ≡ bad r)
unfolding refuse
refuse-bad true n o r h = inl (same-bad (number n) r h)
refuse-bad false n o r h = inr h

pub other-number : (n : ℕ) (r : Refusal) → number_of r ≢ n → number n ≡ r → ⊥
unfolding number_of
other-number n r f e = f (ap number_of (sym e))

-- ---- the commit's tests

-- the bytes of a chain's records
unfoldable pub room_for : Store → List ℕ → List EnqueuedAnchor → ℕ
room_for s ls [] = 0
room_for s ls (e ∷ es) = length (record_bytes s ls e) + room_for (dequeued s e) (after_lists s e.anchor ls) es

-- each anchor's lists are right, the older ones committed
abbrev pub Listed : Store → List ℕ → List EnqueuedAnchor → Type 0
Listed s ls [] = Unit {0}
Listed s ls (e ∷ es) = (lists_ok (linked_counts s e.anchor) ls ≡ true) × Listed (dequeued s e) (after_lists s e.anchor ls) es

pub test-bad : (s : Store) (ls : List ℕ) (left size a : ℕ) (r : Refusal) → tested s a ≡ bad r → test_anchor s ls left size a ≡ bad r
unfolding test_anchor
test-bad s ls left size a r h = rw h refl

-- the first anchor is refused
pub commit-stop : (s : Store) (ls b : List ℕ) (at n : ℕ) (e : EnqueuedAnchor) (es : List EnqueuedAnchor) (r : Refusal) → test_anchor s ls (length b - at) (length (record_bytes s ls e)) e.anchor ≡ bad r → (commit_all s ls b at n (e ∷ es)).stopped ≡ some r
unfolding commit_all
commit-stop s ls b at n e es r h = rw (h, commit_all) refl

-- once put, the gap question stays put
pub still_put : (s : Store) (e : EnqueuedAnchor) → gap_pending s.progress.gap ≡ false → gap_pending (dequeued s e).progress.gap ≡ false
unfolding dequeued gap_after gap_pending
still_put s e g = by_test (is_first_executable s e.anchor) (λ t. rw t refl) (λ f. rw f g)

abbrev pub stop : Out ℕ → Option Refusal
stop (bad r) = some r
stop (good x) = none

pub none-some : {A : Type 0} (x : A) → none ≡ some x → ⊥
none-some x h = let z : ◌≡◌ {A = ℕ} 0 1 = cc in omega arith

-- ---- the calls

-- room for all records that a commit of this trigger writes
abbrev pub Holds : Store → Id → List ℕ → List ℕ → Type 0
Holds s i ls b = (es : List EnqueuedAnchor) → anchors_of s i ≡ good es → room_for s ls es ≤ length b

-- right lists for all anchors of this trigger
abbrev pub Lists : Store → Id → List ℕ → Type 0
Lists s i ls = (es : List EnqueuedAnchor) → anchors_of s i ≡ good es → Listed s ls es

-- room for all that an outlook of this trigger writes
abbrev pub Shows : Store → Id → List ℕ → Type 0
Shows s i b = (es : List EnqueuedAnchor) → anchors_of s i ≡ good es → weigh (λ (e : EnqueuedAnchor). look_size s e.anchor) es ≤ length b

same-refused : (r q : Refusal) (m n : ℕ) → refused r m ≡ refused q n → r ≡ q
same-refused r q m n h = cc

not_refused : (r : Refusal) (m n : ℕ) → anchors m ≡ refused r n → ⊥
not_refused r m n h = let z : ◌≡◌ {A = ℕ} 0 1 = cc in omega arith

-- refused by the walk, or after it by r
abbrev Refuses : Store → Id → (List EnqueuedAnchor → Type 0) → Refusal → Type 0
Refuses s i P r = (anchors_of s i ≡ bad r) ⊎ ((es : List EnqueuedAnchor) × (anchors_of s i ≡ good es) × P es)

-- an outlook that is refused
pub outlook_was : (s : Store) (i : Id) (b : List ℕ) (r : Refusal) (n : ℕ) → (do_outlook s i b).answer ≡ refused r n → Refuses s i (λ es. outlook_all s (length b) es ≡ bad r) r
unfolding do_outlook
outlook_was s i b r n h = go (anchors_of s i) refl h
  where
    shown : List EnqueuedAnchor → Out (List ℕ) → Outcome
    shown es o = elim o [ bad q ↦ record { answer = refused q 0; store = s; buffer = b } | good bytes ↦ record { answer = anchors (length es); store = s; buffer = written b 0 bytes } ]

    does : Out (List EnqueuedAnchor) → Outcome
    does o = elim o [ bad q ↦ record { answer = refused q 0; store = s; buffer = b } | good es ↦ shown es (outlook_all s (length b) es) ]

    on : (es : List EnqueuedAnchor) → anchors_of s i ≡ good es → (o : Out (List ℕ)) → outlook_all s (length b) es ≡ o → (shown es o).answer ≡ refused r n → Refuses s i (λ es. outlook_all s (length b) es ≡ bad r) r
    on es u (bad q) v k = inr (es, u, v ∙ ap bad (same-refused q r 0 n k))
    on es u (good bytes) v k = absurd (not_refused r (length es) n k)

    go : (o : Out (List EnqueuedAnchor)) → anchors_of s i ≡ o → (does o).answer ≡ refused r n → Refuses s i (λ es. outlook_all s (length b) es ≡ bad r) r
    go (bad q) u k = inl (u ∙ ap bad (same-refused q r 0 n k))
    go (good es) u k = on es u (outlook_all s (length b) es) refl k

pub outlook_now : (s : Store) (i : Id) (b : List ℕ) (r : Refusal) → Refuses s i (λ es. outlook_all s (length b) es ≡ bad r) r → (do_outlook s i b).answer ≡ refused r 0
unfolding do_outlook
outlook_now s i b r (inl u) = rw (u, do_outlook) refl
outlook_now s i b r (inr (es, u, v)) = rw (u, do_outlook) (rw v refl)

refused_end : (f : Finished) (r : Refusal) (n : ℕ) → (commit_end f).answer ≡ refused r n → f.stopped ≡ some r
unfolding commit_end
refused_end f r n h = go f.stopped refl h
  where
    ends : Option Refusal → Answer
    ends none = anchors f.anchors
    ends (some q) = refused q f.anchors

    go : (o : Option Refusal) → f.stopped ≡ o → ends o ≡ refused r n → f.stopped ≡ some r
    go none e k = absurd (not_refused r _ n k)
    go (some q) e k = e ∙ ap some (same-refused q r _ n k)

-- a commit that is refused
pub commit_was : (s : Store) (i : Id) (ls b : List ℕ) (r : Refusal) (n : ℕ) → (do_commit s i ls b).answer ≡ refused r n → Refuses s i (λ es. (commit_all s ls b 0 0 es).stopped ≡ some r) r
unfolding do_commit
commit_was s i ls b r n h = go (anchors_of s i) refl h
  where
    does : Out (List EnqueuedAnchor) → Outcome
    does o = elim o [ bad q ↦ record { answer = refused q 0; store = s; buffer = b } | good es ↦ commit_end (commit_all s ls b 0 0 es) ]

    go : (o : Out (List EnqueuedAnchor)) → anchors_of s i ≡ o → (does o).answer ≡ refused r n → Refuses s i (λ es. (commit_all s ls b 0 0 es).stopped ≡ some r) r
    go (bad q) u k = inl (u ∙ ap bad (same-refused q r 0 n k))
    go (good es) u k = inr (es, u, refused_end (commit_all s ls b 0 0 es) r n k)

pub commit_now : (s : Store) (i : Id) (ls b : List ℕ) (r : Refusal) → Refuses s i (λ es. (commit_all s ls b 0 0 es).stopped ≡ some r) r → (m : ℕ) × ((do_commit s i ls b).answer ≡ refused r m)
unfolding do_commit commit_end
commit_now s i ls b r (inl u) = (0, rw (u, do_commit) refl)
commit_now s i ls b r (inr (es, u, v)) = ((commit_all s ls b 0 0 es).anchors, rw (u, do_commit) (rw v refl))

pub stop-bad : (o : Out ℕ) (r : Refusal) → stop o ≡ some r → o ≡ bad r
stop-bad (bad q) r h = ap bad (some-injective q r h)
stop-bad (good x) r h = absurd (none-some r h)

-- ---- "by 20 never", and 24 "never the outlook"

abbrev pub Never : Refusal → Type 0
Never r = (number_of r ≢ 20) × (number_of r ≢ 24)

pub never-late : Never (number 25)
unfolding number_of
never-late = ((omega arith), omega arith)

pub never-conflict : (r : ℕ) → Never (conflict r)
unfolding number_of
never-conflict r = ((omega arith), omega arith)
