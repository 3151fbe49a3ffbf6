-- Answers of the code as document 01's, and what a call has done.
use Rattle.std.specs.Prelude.{ℕ, ◌≡◌, Bool, not, cond, eqb}
use Rattle.std.proofs.Math.Path.{refl, sym, ap}
use Rattle.std.proofs.Common.{◌∙◌, subst}
use mathlib.Core.List.{List, []}
use Rattle.std.proofs.Math.Bool.{true, false}
use borrow.Author.Tests.{not-true, not-false}
use Rattle.laws.specs.Test.{by_test, clash}
use Rattle.spec.specs.Store.{Store}
use Rattle.spec.specs.Rules.{counts_as_started}
use Rattle.spec.specs.Chain.{number, Out, good}
use Rattle.spec.specs.Calls as calls
use Rattle.spec.specs.Calls.{call, perform, unstarted, is_start, buffer_of, done, flag, anchors, finish}
use Rattle.models.specs.Refusal.{refusal_of, unless_failed, failed, not_failed}
use Rattle.models.specs.declared.refusal.Refusal.{Refusal}
use Rattle.commit_state.specs.declared.state.State.{State}
use Rattle.tables_test.specs.View.{view}
use Rattle.commit_answer.specs.declared.answer.Answer.{Answer}
use Rattle.commit_answer.specs.declared.answer.Answer.TheVariants.{Done, Flag, Anchors, Refused}
use Rattle.commit_answer.specs.declared.answer.Outcome.{Outcome}
use Rattle.std.specs.Prelude.{Err, Ok}
use Rattle.models.specs.Refusal.{Check, no_refusal}

-- 01's answer
unfoldable pub answer_of : Answer → calls.Answer
answer_of Done = done
answer_of (Flag b) = flag b
answer_of (Anchors n) = anchors n
answer_of (Refused r n) = calls.refused (refusal_of r) n

-- the state and the lent tables
pub record Tables : Type 0 where
  pub state : State
  pub keys : List ℕ
  pub links : List ℕ
  pub certs : List ℕ
  pub order : List ℕ

abbrev pub tables : State → List ℕ → List ℕ → List ℕ → List ℕ → Tables
tables s ks ls cs os = record { state = s; keys = ks; links = ls; certs = cs; order = os }

-- the tables as 01's store
abbrev pub view_of : Tables → Store
view_of b = view b.state b.keys b.links b.certs b.order

-- what a call leaves: its answer, the tables, and the lent buffer ([] for a call that takes none)
pub record Left : Type 0 where
  pub answer : Answer
  pub tables : Tables
  pub buffer : List ℕ

-- from the outcome and the words of the tables and the buffer
abbrev pub left : Outcome → List ℕ → List ℕ → List ℕ → List ℕ → List ℕ → Left
left o ks ls cs os b = record { answer = o.answer; tables = tables o.state ks ls cs os; buffer = b }

pub left-same : {a a2 : Answer} {s t : State} {ks ks2 ls ls2 cs cs2 os os2 b b2 : List ℕ} → a ≡ a2 → s ≡ t → ks ≡ ks2 → ls ≡ ls2 → cs ≡ cs2 → os ≡ os2 → b ≡ b2
    → ◌≡◌ {A = Left} (record { answer = a; tables = tables s ks ls cs os; buffer = b }) (record { answer = a2; tables = tables t ks2 ls2 cs2 os2; buffer = b2 })
left-same a s k l c o b = λ i. record { answer = a i; tables = tables (s i) (k i) (l i) (c i) (o i); buffer = b i }

-- in 01's terms
unfoldable pub outcome_of : Left → calls.Outcome
outcome_of x = record { answer = answer_of x.answer; store = view_of x.tables; buffer = x.buffer }

-- whether nothing was done: refused, or no anchor to hand out, and none finished
unfoldable pub nothing_done : Answer → Bool
nothing_done Done = false
nothing_done (Flag b) = false
nothing_done (Anchors n) = eqb n 0
nothing_done (Refused r n) = eqb n 0

-- What a call has done. c: 01's call; m: its model, what it leaves of the tables; d: the tables before it; x: what it left.
-- answer: 01's answer, store and buffer. words: to the word and the byte. kept: if nothing was done, all is as it was.
pub record Did (c : calls.Call) (m : Tables → Left) (d : Tables) (x : Left) : Type 0 where
  pub answer : outcome_of x ≡ call (view_of d) c
  pub words : x ≡ m d
  pub kept : nothing_done x.answer ≡ true → (x.tables ≡ d) × (x.buffer ≡ buffer_of c)

-- all of it follows from the words
pub did : (c : calls.Call) (m : Tables → Left) (d : Tables) → outcome_of (m d) ≡ call (view_of d) c → (nothing_done (m d).answer ≡ true → ((m d).tables ≡ d) × ((m d).buffer ≡ buffer_of c)) → (x : Left) → x ≡ m d → Did c m d x
did c m d h k x e = record {
  answer = ap outcome_of e ∙ h;
  words = e;
  kept = subst (λ (y : Left). nothing_done y.answer ≡ true → (y.tables ≡ d) × (y.buffer ≡ buffer_of c)) (sym e) k;
}

-- ---- refused, or not

unfoldable pub refusal : State → Refusal → Outcome
refusal s r = record { answer = Refused r 0; state = s }

-- unless the test refuses it, a call that is lent the buffer b leaves x
unfoldable pub unless_refused_with : Check → Tables → List ℕ → Left → Left
unless_refused_with (Ok tt) d b x = x
unless_refused_with (Err r) d b x = record { answer = Refused r 0; tables = d; buffer = b }

-- a call without a buffer
abbrev pub unless_refused : Check → Tables → Left → Left
unless_refused t d x = unless_refused_with t d [] x

abbrev pub done_with : Tables → Left
done_with d = record { answer = Done; tables = d; buffer = [] }

-- 2 for tables that don't count as started
unfoldable pub tested : Bool → Check → Check
tested counted t = cond counted t (failed 2)

-- one law for each way out of the code
module _ (t : Check) (d : Tables) (y : Left) where
  pub left-refused : {b : List ℕ} (r : Refusal) → t ≡ Err r → (o : Outcome) → o ≡ refusal d.state r → left o d.keys d.links d.certs d.order b ≡ unless_refused_with t d b y
  unfolding refusal unless_refused_with
  left-refused {b} r e o f = ap (λ (z : Outcome). left z d.keys d.links d.certs d.order b) f ∙ rw e refl

  pub left_passed : (b : List ℕ) → t ≡ no_refusal → (x : Left) → x ≡ y → x ≡ unless_refused_with t d b y
  unfolding unless_refused_with
  left_passed b e x f = f ∙ rw e refl

  pub left-done : t ≡ no_refusal → (x : Left) → x ≡ y → x ≡ unless_refused t d y
  left-done = left_passed []

-- the test, by whether the tables count as started
module _ (counted : Bool) (t : Check) (r : Bool) (e : r ≡ counted) where
  pub tested_no : not r ≡ true → tested counted t ≡ failed 2
  unfolding tested
  tested_no h = rw (sym e ∙ not-true r h) refl

  pub tested_by : not r ≡ false → (u : Check) → t ≡ u → tested counted t ≡ u
  unfolding tested
  tested_by h u f = rw (sym e ∙ not-false r h) f

-- one that passed
pub tested-yes : (b : Bool) (t : Check) → tested b t ≡ no_refusal → (b ≡ true) × (t ≡ no_refusal)
unfolding tested
tested-yes true t e = (refl, e)
tested-yes false t e = absurd (not_failed _ e)

-- ---- 01's calls

-- what a call but start does, by whether the tables count as started
unfoldable pub by_tables : Bool → Store → calls.Call → calls.Outcome
by_tables true v c = perform v c
by_tables false v c = unstarted v c

pub call_by_lem : (v : Store) (c : calls.Call) → is_start c ≡ false → call v c ≡ by_tables (counts_as_started v) v c
unfolding call by_tables
call_by_lem v c h = by_test (counts_as_started v) (λ t. rw (t, call, by_tables) refl) (λ f. rw (f, h, call, by_tables) refl)

-- a call without a buffer, by what it does where the tables count as started
pub call-tested : (v : Store) (c : calls.Call) (o : Out Store) (t : Check) (u : Store) → is_start c ≡ false → buffer_of c ≡ [] → perform v c ≡ finish v o → (counts_as_started v ≡ true → o ≡ unless_failed t (good u))
    → call v c ≡ finish v (unless_failed (tested (counts_as_started v) t) (good u))
unfolding tested by_tables finish unless_failed refusal_of
call-tested v c o t u st le ac h = call_by_lem v c st ∙ by (counts_as_started v) (λ e. e)
  where
    by : (b : Bool) → (b ≡ true → counts_as_started v ≡ true) → by_tables b v c ≡ finish v (unless_failed (cond b t (failed 2)) (good u))
    by true e = ac ∙ ap (finish v) (h (e refl))
    by false e = ap (λ l. record { answer = calls.refused (number 2) 0; store = v; buffer = l }) le

-- a call that a test may refuse
module _ (c : calls.Call) (m : Tables → Left) (d : Tables) (t : Check) (y : Left) (is : m d ≡ unless_refused_with t d (buffer_of c) y) (ok : nothing_done y.answer ≡ false) where
  idle_kept : (u : Check) → nothing_done (unless_refused_with u d (buffer_of c) y).answer ≡ true → ((unless_refused_with u d (buffer_of c) y).tables ≡ d) × ((unless_refused_with u d (buffer_of c) y).buffer ≡ buffer_of c)
  unfolding unless_refused_with
  idle_kept (Ok tt) h = absurd (clash h ok)
  idle_kept (Err r) h = (refl, refl)

  did_unless : outcome_of (unless_refused_with t d (buffer_of c) y) ≡ call (view_of d) c → (x : Left) → x ≡ m d → Did c m d x
  did_unless h x e = did c m d (ap outcome_of is ∙ h) (subst (λ (z : Left). nothing_done z.answer ≡ true → (z.tables ≡ d) × (z.buffer ≡ buffer_of c)) (sym is) (idle_kept t)) x e

-- one without a buffer that is done, and leaves the tables e: 01's store u
module _ (c : calls.Call) (m : Tables → Left) (d e : Tables) (t : Check) (is : m d ≡ unless_refused t d (done_with e)) (le : buffer_of c ≡ []) (u : Store) (h : call (view_of d) c ≡ finish (view_of d) (unless_failed t (good u))) (s : t ≡ no_refusal → view_of e ≡ u) where
  done_is : (w : Check) → (w ≡ no_refusal → view_of e ≡ u) → outcome_of (unless_refused w d (done_with e)) ≡ finish (view_of d) (unless_failed w (good u))
  unfolding outcome_of answer_of unless_refused_with finish unless_failed
  done_is (Ok tt) k = ap (λ v. calls.without_buffer v done) (k refl)
  done_is (Err r) k = refl

  pub did_done : (x : Left) → x ≡ m d → Did c m d x
  unfolding nothing_done
  did_done =
      did_unless c m d t (done_with e) (is ∙ ap (λ (l : List ℕ). unless_refused_with t d l (done_with e)) (sym le)) refl
      (ap (λ (l : List ℕ). outcome_of (unless_refused_with t d l (done_with e))) le ∙ (done_is t s ∙ sym h))

-- one but start, by what it does where the tables count as started
module _ (c : calls.Call) (m : Tables → Left) (d : Tables) (t : Check) (y : Left) (is : m d ≡ unless_refused_with (tested (counts_as_started (view_of d)) t) d (buffer_of c) y) (ok : nothing_done y.answer ≡ false) (st : is_start c ≡ false) where
  pub did_tested : (counts_as_started (view_of d) ≡ true → outcome_of (unless_refused_with t d (buffer_of c) y) ≡ perform (view_of d) c) → (x : Left) → x ≡ m d → Did c m d x
  unfolding outcome_of answer_of refusal_of unless_refused_with tested by_tables
  did_tested h = did_unless c m d (tested (counts_as_started (view_of d)) t) y is ok (by (counts_as_started (view_of d)) (λ e. e) ∙ sym (call_by_lem (view_of d) c st))
    where
      by : (b : Bool) → (b ≡ true → counts_as_started (view_of d) ≡ true) → outcome_of (unless_refused_with (tested b t) d (buffer_of c) y) ≡ by_tables b (view_of d) c
      by true e = h (e refl)
      by false e = refl

-- one that only tables that don't count as started refuse
pub did_started : (c : calls.Call) (m : Tables → Left) (d : Tables) (y : Left) → m d ≡ unless_refused_with (tested (counts_as_started (view_of d)) no_refusal) d (buffer_of c) y → nothing_done y.answer ≡ false → is_start c ≡ false
    → (counts_as_started (view_of d) ≡ true → outcome_of y ≡ perform (view_of d) c) → (x : Left) → x ≡ m d → Did c m d x
unfolding unless_refused_with
did_started c m d y is ok st = did_tested c m d no_refusal y is ok st
