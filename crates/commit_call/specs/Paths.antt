-- The records of a commit, by paths.
use Rattle.std.specs.Prelude.{ℕ, ◌≡◌, List, ◌++◌}
use Rattle.std.proofs.Common.{sym, subst}
use Rattle.spec.specs.Ids.{Id}
use Rattle.spec.specs.Demand.{read_records, finished}
use Rattle.spec.proofs.Invariant.{Inv}
use Rattle.spec.proofs.Demand3First.{all_ids, finishes}
use Rattle.spec.proofs.Demand3.{as_histories, AllByPaths, commit_paths}
use Rattle.spec.specs.Calls as calls
use Rattle.commit_answer.specs.Answer.{Tables, view_of, Left, outcome_of, answer_of, Did}

-- what a commit did to tables d that meet the invariant of demand 3, hs the ids of the histories before: the ids in the records that the
-- bytes hold are exactly those that paths reach and no history before held, and the tables after it meet the invariant again
pub records_by_paths : (i : Id) (ls b : List ℕ) (m : Tables → Left) (d : Tables) (x : Left) (hs : List Id) → Did (calls.commit i ls b) m d x → Inv (view_of d) hs
    → (read_records (view_of d) (finished (answer_of x.answer)) x.buffer ≡ as_histories (view_of d) (finishes (view_of d) i ls b)) × AllByPaths hs (finishes (view_of d) i ls b) × Inv (view_of x.tables) (hs ++ all_ids (finishes (view_of d) i ls b))
unfolding outcome_of
records_by_paths i ls b m d x hs h v =
    subst (λ (o : calls.Outcome). (read_records (view_of d) (finished o.answer) o.buffer ≡ as_histories (view_of d) (finishes (view_of d) i ls b)) × AllByPaths hs (finishes (view_of d) i ls b) × Inv o.store (hs ++ all_ids (finishes (view_of d) i ls b)))
    (sym h.answer) (commit_paths (view_of d) hs i ls b v)
