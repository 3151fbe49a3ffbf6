-- Theorems on the definitions of specs/Code.
use Rattle.std.specs.Prelude.{ℕ, suc, ◌≡◌, refl, true, eqb}
use Rattle.std.proofs.Common.{sym, ◌∙◌, subst, ap, ap₂}
use mathlib.Core.List.{List, [], ◌∷◌, ◌++◌, map, Memᴰ}
use Rattle.laws.specs.Lists.{NoDup, joined}
use Rattle.spec.specs.Ids.{Id}
use Rattle.spec.specs.Store.{Store, retained}
use Rattle.spec.specs.Rules.{counts_as_started}
use Rattle.spec.specs.Calls as calls
use Rattle.spec.specs.Calls.{Call, StartArgs, start, commit, call, done, flag, anchors, refused}
use Rattle.spec.specs.Demand.{AllInList, after, History, wrote, histories, Given, gave, resolutions, AllExact, AsSaid, AllAsSaid, AllArrive, Summed, LinksTold}
use Rattle.spec.specs.HeightEquations.{Sized}
use Rattle.spec.proofs.Demand3.{demand_3, sums_follow}
use Rattle.spec.proofs.LinksFollow.{links_follow}
use Rattle.models.specs.Digest.{Fit}
use Rattle.tables_test.specs.Whole.{sized}
use Rattle.tables_test.specs.Refines.{counted}
use Rattle.models.specs.declared.refusal.Refusal.{Refusal}
use Rattle.commit_answer.specs.declared.answer.Answer.{Answer}
use Rattle.commit_answer.specs.declared.answer.Answer.TheVariants.{Done, Flag, Anchors, Refused}
use Rattle.models.specs.Refusal.{refusal_from, refusal_from_of}
use Rattle.commit_answer.specs.Answer.{Tables, view_of, Left, outcome_of, answer_of, Did}
use Rattle.demand.specs.Code.{Made, outcome, Chained, last_tables, calls_of, histories_in, resolutions_in, AllSaid, FirstHalf, SecondHalf, EachRecord, SumsFollow, LinksFollow}

-- ---- the code's lists are the definitions'

pub answer_is : (m : Made) → (outcome m).answer ≡ answer_of m.left.answer
unfolding outcome_of
answer_is m = refl

pub buffer_is : (m : Made) → (outcome m).buffer ≡ m.left.buffer
unfolding outcome_of
buffer_is m = refl

left_is : (m : Made) → (outcome m).store ≡ view_of m.left.tables
unfolding outcome_of
left_is m = refl

-- the store after a call
pub store_is : (m : Made) (s : Store) → view_of m.before ≡ s → view_of m.left.tables ≡ (call s m.what).store
store_is m s e = sym (left_is m) ∙ (ap (λ (o : calls.Outcome). o.store) m.did.answer ∙ ap (λ t. (call t m.what).store) e)

histories_is : (s : Store) (d : Tables) (ms : List Made) → view_of d ≡ s → Chained d ms → histories_in ms ≡ histories s (calls_of ms)
unfolding histories_in histories
histories_is s d [] e r = refl
histories_is s d (m ∷ ms) e (b, r) =
    let k : view_of m.before ≡ s = ap view_of b ∙ e in
    ap₂ ◌++◌ (ap (wrote (view_of m.before) m.what) m.did.answer ∙ ap (λ t. wrote t m.what (call t m.what)) k) (histories_is (call s m.what).store m.left.tables ms (store_is m s k) r)

resolutions_is : (s : Store) (d : Tables) (ms : List Made) → view_of d ≡ s → Chained d ms → resolutions_in ms ≡ resolutions s (calls_of ms)
unfolding resolutions_in resolutions
resolutions_is s d [] e r = refl
resolutions_is s d (m ∷ ms) e (b, r) =
    let k : view_of m.before ≡ s = ap view_of b ∙ e in
    ap₂ ◌++◌ (ap (gave m.what) (sym (answer_is m) ∙ (ap (λ (o : calls.Outcome). o.answer) m.did.answer ∙ ap (λ t. (call t m.what).answer) k))) (resolutions_is (call s m.what).store m.left.tables ms (store_is m s k) r)

said_is : (s : Store) (d : Tables) (ms : List Made) → view_of d ≡ s → Chained d ms → AllAsSaid s (calls_of ms) → AllSaid ms
said_is s d [] e r a = tt
said_is s d (m ∷ ms) e (b, r) (a, rest) =
    let k : view_of m.before ≡ s = ap view_of b ∙ e in
    let o : outcome m ≡ call s m.what = m.did.answer ∙ ap (λ t. call t m.what) k in
    (subst (λ t. AsSaid t m.what (outcome m)) (sym k) (subst (AsSaid s m.what) (sym o) a), said_is (call s m.what).store m.left.tables ms (store_is m s k) r rest)

pub last_is : (s : Store) (d : Tables) (ms : List Made) → view_of d ≡ s → Chained d ms → view_of (last_tables d ms) ≡ after s (calls_of ms)
unfolding last_tables after
last_is s d [] e r = e
last_is s d (m ∷ ms) e (b, r) = last_is (call s m.what).store m.left.tables ms (store_is m s (ap view_of b ∙ e)) r

-- the code's answer is known from 01's
from_answer : calls.Answer → Answer
from_answer done = Done
from_answer (flag b) = Flag b
from_answer (anchors n) = Anchors n
from_answer (refused r n) = Refused (refusal_from r) n

from_answer_lem : (a : Answer) → from_answer (answer_of a) ≡ a
unfolding from_answer answer_of
from_answer_lem Done = refl
from_answer_lem (Flag b) = refl
from_answer_lem (Anchors n) = refl
from_answer_lem (Refused r n) = ap (λ (x : Refusal). Refused x n) (refusal_from_of r)

answer-same : (x y : Answer) → answer_of x ≡ answer_of y → x ≡ y
answer-same x y e = sym (from_answer_lem x) ∙ (ap from_answer e ∙ from_answer_lem y)

-- what a call that was made answered and wrote
pub made_is : (m : Made) (s : Store) (c : Call) → view_of m.before ≡ s → m.what ≡ c → outcome m ≡ call s c
made_is m s c e f = m.did.answer ∙ ap₂ call e f

-- what a start that is done answers and leaves in 01's terms
start_is : (s : Made) (b : StartArgs) → s.what ≡ start b → answer_of s.left.answer ≡ done
    → ((call (view_of s.before) (start b)).answer ≡ done) × (view_of s.left.tables ≡ (call (view_of s.before) (start b)).store)
start_is s b f a =
    let o : outcome s ≡ call (view_of s.before) (start b) = made_is s (view_of s.before) (start b) refl f in
    (ap (λ (x : calls.Outcome). x.answer) (sym o) ∙ (answer_is s ∙ a), sym (left_is s) ∙ ap (λ (x : calls.Outcome). x.store) o)

-- ---- the theorems

first_half : FirstHalf
first_half s b ms f a r i =
    let (d, e) = start_is s b f a in
    let (x, y, z, w) = demand_3.0 (view_of s.before) b (calls_of ms) d i in
    let hs : histories_in ms ≡ histories (call (view_of s.before) (start b)).store (calls_of ms) = histories_is (call (view_of s.before) (start b)).store s.left.tables ms e r in (
      rw hs x,
      rw (hs, resolutions_is (call (view_of s.before) (start b)).store s.left.tables ms e r) y,
      said_is (call (view_of s.before) (start b)).store s.left.tables ms e r z,
      λ q. subst (λ u. retained u q ≡ eqb q b.bottom) (sym e) (w q),
    )

second_half : SecondHalf
second_half d fk fl c i ls b n m l ms m0 m1 a r v l0 l1 =
    let t = counted d.state d.keys d.links d.certs d.order fk fl c in
    let z : Sized (view_of d) = sized d.state d.keys d.links d.certs d.order fk fl t.shaped t.facts.inside in
    let x : outcome m ≡ call (view_of d) (commit i ls b) = made_is m (view_of d) (commit i ls b) (ap view_of m0) m1 in
    let y : outcome l ≡ call (after (view_of d) (calls_of ms)) (commit i ls b) = made_is l (after (view_of d) (calls_of ms)) (commit i ls b) (ap view_of l0 ∙ last_is (view_of d) d ms refl r) l1 in
    let k = demand_3.1 (view_of d) z c i ls b n (ap (λ (o : calls.Outcome). o.answer) (sym x) ∙ (answer_is m ∙ a)) (calls_of ms) v in (
      answer-same l.left.answer m.left.answer (sym (answer_is l) ∙ (ap (λ (o : calls.Outcome). o.answer) y ∙ (k.0 ∙ (ap (λ (o : calls.Outcome). o.answer) (sym x) ∙ answer_is m)))),
      sym (buffer_is l) ∙ (ap (λ (o : calls.Outcome). o.buffer) y ∙ (k.1 ∙ (ap (λ (o : calls.Outcome). o.buffer) (sym x) ∙ buffer_is m))),
    )

pub demand_3_of_code : FirstHalf × SecondHalf
demand_3_of_code = (first_half, second_half)

-- what is so of each record by the definitions is so of the code's
each_of_code : (P : List Given → History → Type 0)
    → ((s : Store) (b : StartArgs) (cs : List Call) → (call s (start b)).answer ≡ done → AllInList cs → let t = (call s (start b)).store in (h : History) → Memᴰ h (histories t cs) → P (resolutions t cs) h)
    → EachRecord P
each_of_code P follow s b ms f a r i h m =
    let (d, e) = start_is s b f a in
    subst (λ g. P g h) (sym (resolutions_is (call (view_of s.before) (start b)).store s.left.tables ms e r))
    (follow (view_of s.before) b (calls_of ms) d i h (subst (λ hs. Memᴰ h hs) (histories_is (call (view_of s.before) (start b)).store s.left.tables ms e r) m))

pub sums_of_code : SumsFollow
sums_of_code = each_of_code Summed sums_follow

pub links_of_code : LinksFollow
links_of_code = each_of_code LinksTold links_follow
