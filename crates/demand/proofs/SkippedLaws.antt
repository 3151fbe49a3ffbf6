-- Theorems on the definitions of specs/Skipped.
use Rattle.std.specs.Prelude.{ℕ, ◌+◌, ◌≡◌, refl, true, List, ◌++◌}
use Rattle.std.proofs.Common.{sym, ◌∙◌, ap₂, subst}
use Rattle.std.proofs.Math.Path.{ap}
use Rattle.spec.specs.Ids.{Id}
use Rattle.spec.specs.Store.{Store}
use Rattle.spec.specs.Rules.{counts_as_started}
use Rattle.spec.specs.Chain.{anchors_of, good}
use Rattle.spec.specs.Calls as calls
use Rattle.spec.specs.Calls.{commit, call, anchors}
use Rattle.spec.proofs.Preservation.{is_reset_call, rules_kept}
use Rattle.skipped.specs.Skipped as skipped
use Rattle.skipped.specs.Skipped.{Passes, SameLists, SameInRow, records_in}
use Rattle.skipped.proofs.InRow as proofs
use Rattle.skipped.proofs.InRow.{chains}
use Rattle.commit_answer.specs.Answer.{Tables, view_of, Left, outcome_of, answer_of, Did}
use Rattle.commit_answer.specs.declared.answer.Answer.TheVariants.{Anchors}
use Rattle.commit_call.specs.Commit.{commit_left, tables_after, tables-append, tables-left}
use Rattle.demand.specs.Told.{OnTables}
use Rattle.demand.proofs.ToldLaws.{size}
use Rattle.demand.specs.Skipped.{Commits, SkippedIf, Skipped, SkippedInRow}

-- ---- the proof

-- a commit of the code in 01's terms
module _ (d : Tables) (i : Id) (l b : List ℕ) (n : ℕ) (x : Left) (h : Commits d i l b x) where
  left_is : view_of x.tables ≡ (call (view_of d) (commit i l b)).store
  unfolding outcome_of
  left_is = ap (λ (o : calls.Outcome). o.store) h.answer

  buffer_is : x.buffer ≡ (call (view_of d) (commit i l b)).buffer
  unfolding outcome_of
  buffer_is = ap (λ (o : calls.Outcome). o.buffer) h.answer

  answer_is : x.answer ≡ Anchors n → (call (view_of d) (commit i l b)).answer ≡ anchors n
  unfolding outcome_of answer_of
  answer_is e = ap (λ (o : calls.Outcome). o.answer) (sym h.answer) ∙ ap answer_of e

-- what the definitions say of the stores and the buffers, the code's commits do, to the word
of_code : (Same : (s left : Store) (S T : Id) (ls lt l : List ℕ) → Type 0) → skipped.SkippedIf Same → SkippedIf Same
unfolding is_reset_call
of_code Same skips d fk fl c S T ls lt l bs bt b m n k one two alone o t a om tn ak p r =
    let s = view_of d in
    let z = size d fk fl c in
    let st : view_of one.tables ≡ (call s (commit S ls bs)).store = left_is d S ls bs m one o in
    let a1 : (call s (commit S ls bs)).answer ≡ anchors m = answer_is d S ls bs m one o om in
    let a2 : (call (call s (commit S ls bs)).store (commit T lt bt)).answer ≡ anchors n = ap (λ (u : Store). (call u (commit T lt bt)).answer) (sym st) ∙ answer_is one.tables T lt bt n two t tn in
    let a3 : (call s (commit T l b)).answer ≡ anchors k = answer_is d T l b k alone a ak in
    let (records, counts, stores) = skips s z c S T ls lt l bs bt b m n k a1 a2 a3 p (subst (λ (u : Store). Same s u S T ls lt l) st r) in
    let (es, fs, e1, e2, e3) = chains s z c S T ls lt l bs bt b m n k a1 a2 a3 p in
    let c1 : counts_as_started (view_of one.tables) ≡ true = subst (λ (u : Store). counts_as_started u ≡ true) (sym st) (rules_kept s z c (commit S ls bs) refl).1 in
    let first : one.tables ≡ tables_after d es = tables-left d S ls bs m one o.words om c es e1 in
    let second : two.tables ≡ tables_after one.tables fs = tables-left one.tables T lt bt n two t.words tn c1 fs (subst (λ (u : Store). anchors_of u T ≡ good fs) (sym st) e2) in
    let third : alone.tables ≡ tables_after d (es ++ fs) = tables-left d T l b k alone a.words ak c (es ++ fs) e3 in (
      ap₂ (λ (u v : List ℕ). records_in m u ++ records_in n v) (buffer_is d S ls bs m one o) (buffer_is one.tables T lt bt n two t ∙ ap (λ (u : Store). (call u (commit T lt bt)).buffer) st)
          ∙ (records ∙ ap (records_in k) (sym (buffer_is d T l b k alone a))),
      counts,
      second ∙ (ap (λ (y : Tables). tables_after y fs) first ∙ (sym (tables-append d es fs) ∙ sym third)),
    )

pub skipped_of_code : Skipped
skipped_of_code f = of_code (SameLists f) (proofs.skipped f)

pub skipped_in_row_of_code : SkippedInRow
skipped_in_row_of_code = of_code SameInRow proofs.skipped_in_row
