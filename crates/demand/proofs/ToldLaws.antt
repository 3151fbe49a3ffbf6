-- Theorems on the definitions of specs/Told.
use Rattle.std.specs.Prelude.{ℕ, ◌≡◌, ◌↔◌, true, List, map, length}
use Rattle.std.proofs.Common.{sym, ◌∙◌, ap}
use Rattle.laws.specs.Lists.{joined}
use Rattle.spec.specs.Ids.{Id}
use Rattle.spec.specs.Rules.{counts_as_started}
use Rattle.spec.specs.Chain.{Refusal}
use Rattle.spec.specs.History.{lists_ok}
use Rattle.spec.specs.Calls as calls
use Rattle.spec.specs.Calls.{Call, outlook, commit, call, anchors, refused, number_of}
use Rattle.spec.specs.Demand.{History, read_records, Told, read_told}
use Rattle.spec.specs.HeightEquations.{Sized}
use Rattle.spec.specs.WellFormed.{Wf, counts_as_started_elim}
use Rattle.spec.proofs.Demand3First.{outlook_store}
use Rattle.spec.specs.Outlook.{Lists}
use Rattle.spec.proofs.Outlook.{outlook-call}
use Rattle.spec.proofs.OutlookCounts.{counts-agree, lists-told, commit-told}
use Rattle.models.specs.Digest.{Fit}
use Rattle.tables_test.specs.Whole.{sized}
use Rattle.tables_test.specs.Refines.{counted}
use Rattle.commit_answer.specs.Answer.{Tables, view_of, answer_of}
use Rattle.demand.specs.Code.{Made}
use Rattle.demand.proofs.CodeLaws.{answer_is, buffer_is, store_is, made_is}
use Rattle.demand.specs.Told.{CountsAgree, ListsTold, NoRoomAtMost}

-- ---- the proofs

module _ (d : Tables) (fk : Fit d.keys) (fl : Fit d.links) (h : counts_as_started (view_of d) ≡ true) where
  pub size : Sized (view_of d)
  size = let t = counted d.state d.keys d.links d.certs d.order fk fl h in sized d.state d.keys d.links d.certs d.order fk fl t.shaped t.facts.inside

  well : Wf (view_of d)
  well = counts_as_started_elim (view_of d) size h

  -- a call that was made on these tables: its answer and its bytes
  module _ (m : Made) (x : Call) (e : view_of m.before ≡ view_of d) (f : m.what ≡ x) where
    answered : answer_of m.left.answer ≡ (call (view_of d) x).answer
    answered = sym (answer_is m) ∙ ap (λ (o : calls.Outcome). o.answer) (made_is m (view_of d) x e f)

    wrote : m.left.buffer ≡ (call (view_of d) x).buffer
    wrote = sym (buffer_is m) ∙ ap (λ (o : calls.Outcome). o.buffer) (made_is m (view_of d) x e f)

  -- an outlook leaves the store as it was
  looked_store : (i : Id) (c : List ℕ) (o : Made) → o.before ≡ d → o.what ≡ outlook i c → view_of o.left.tables ≡ view_of d
  looked_store i c o e f =
      store_is o (view_of d) (ap view_of e) ∙ (ap (λ (x : Call). (call (view_of d) x).store) f
      ∙ (ap (λ (y : calls.Outcome). y.store) (outlook-call (view_of d) well i c) ∙ outlook_store (view_of d) i c))

pub counts_of_code : CountsAgree
counts_of_code d fk fl h i c l b m n o k o0 o1 oa k0 k1 ka =
    let ko : view_of k.before ≡ view_of d = ap view_of k0 ∙ looked_store d fk fl h i c o o0 o1 in
    rw (wrote d fk fl h o (outlook i c) (ap view_of o0) o1, wrote d fk fl h k (commit i l b) ko k1)
    (counts-agree (view_of d) (size d fk fl h) h i c l b m n (sym (answered d fk fl h o (outlook i c) (ap view_of o0) o1) ∙ oa) (sym (answered d fk fl h k (commit i l b) ko k1) ∙ ka))

pub lists_of_code : ListsTold
lists_of_code d fk fl h i c m o o0 o1 oa l =
    rw (wrote d fk fl h o (outlook i c) (ap view_of o0) o1)
    (lists-told (view_of d) (well d fk fl h) i c m (sym (answered d fk fl h o (outlook i c) (ap view_of o0) o1) ∙ oa) l)

pub refusals_of_code : NoRoomAtMost
refusals_of_code d fk fl h i c l b n o k o0 o1 k0 k1 ka r f oa =
    commit-told (view_of d) (well d fk fl h) i c l b n (sym (answered d fk fl h k (commit i l b) (ap view_of k0) k1) ∙ ka) r f (sym (answered d fk fl h o (outlook i c) (ap view_of o0) o1) ∙ oa)
