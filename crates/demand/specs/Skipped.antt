-- Skipped triggers (02: N9) of the code: of three commits that did as their contracts say, with the tables that they left, to the word, and the
-- bytes of the buffers that they were lent.
use Rattle.std.specs.Prelude.{ℕ, ◌+◌, ◌≡◌, refl, true, List, ◌++◌}
use Rattle.std.proofs.Common.{sym, ◌∙◌, ap₂, subst}
use Rattle.std.proofs.Math.Path.{ap}
use Rattle.spec.specs.Ids.{Id}
use Rattle.spec.specs.Store.{Store}
use Rattle.spec.specs.Rules.{counts_as_started}
use Rattle.spec.specs.Chain.{anchors_of, good}
use Rattle.spec.specs.Calls as calls
use Rattle.spec.specs.Calls.{commit, call, anchors}
use Rattle.spec.proofs.Preservation.{is_reset_call, rules_kept}
use Rattle.skipped.specs.Skipped as skipped
use Rattle.skipped.specs.Skipped.{Passes, SameLists, SameInRow, records_in}
use Rattle.skipped.proofs.InRow as proofs
use Rattle.skipped.proofs.InRow.{chains}
use Rattle.commit_answer.specs.Answer.{Tables, view_of, Left, outcome_of, answer_of, Did}
use Rattle.commit_answer.specs.declared.answer.Answer.TheVariants.{Anchors}
use Rattle.commit_call.specs.Commit.{commit_left, tables_after, tables-append, tables-left}
use Rattle.demand.specs.Told.{OnTables}

-- the code's commit of i on the tables d, lent the lists l and the buffer b, left x: its contract
abbrev pub Commits : Tables → Id → List ℕ → List ℕ → Left → Type 0
Commits d i l b x = Did (commit i l b) (commit_left i l b) d x

-- "two stores in the same state, with only commits made. One commits trigger S and then T, the other only T. If none is refused .. the anchor
-- records of S and T in a row are those of T alone, and both stores end with the same marks": with every word of state and tables the same
abbrev pub SkippedIf : ((s left : Store) (S T : Id) (ls lt l : List ℕ) → Type 0) → Type 0
SkippedIf Same = OnTables (λ d. (S T : Id) (ls lt l bs bt b : List ℕ) (m n k : ℕ) (one two alone : Left)
    → Commits d S ls bs one → Commits one.tables T lt bt two → Commits d T l b alone
    → one.answer ≡ Anchors m → two.answer ≡ Anchors n → alone.answer ≡ Anchors k
    → Passes (view_of d) S T → Same (view_of d) (view_of one.tables) S T ls lt l
    → (records_in m one.buffer ++ records_in n two.buffer ≡ records_in k alone.buffer) × (m + n ≡ k) × (two.tables ≡ alone.tables))

-- "Both boards get the same place list for each anchor and round."
abbrev pub Skipped : Type 0
Skipped = (f : Id → ℕ → List ℕ) → SkippedIf (SameLists f)

-- or the same bytes of lists in a row
abbrev pub SkippedInRow : Type 0
SkippedInRow = SkippedIf SameInRow
