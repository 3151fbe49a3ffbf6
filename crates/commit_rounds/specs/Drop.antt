-- Rounds are dropped (01: commit/mod.rs, `drop_upto`).
use Rattle.std.specs.Prelude.{ℕ, ◌-◌, max, min, ◌≡◌, refl, List, [], eqb}
use Rattle.std.proofs.Common.{sym, ◌∙◌, ap}
use Rattle.spec.specs.Rules.{counts_as_started}
use Rattle.spec.specs.Calls as calls
use Rattle.spec.specs.Calls.{perform, is_start, buffer_of}
use Rattle.models.specs.Digest.{Fit}
use Rattle.dag_round_keys.specs.Zero.{emptied}
use Rattle.dag_round_order.specs.Shift.{drained}
use Rattle.commit_state.specs.declared.state.State.{State}
use Rattle.commit_state.specs.Back.{dropped_state}
use Rattle.back_drain.specs.Model.{drain_bottom}
use Rattle.dag_round_order.specs.Span.{below}
use Rattle.back_drain.specs.Drop.{drop_view_lem, drop-answer, drop_buffer}
use Rattle.commit_answer.specs.declared.answer.Answer.TheVariants.{Flag}
use Rattle.commit_answer.specs.Answer.{Tables, tables, view_of, Left, outcome_of, answer_of, nothing_done, Did, unless_refused, tested, did_started}
use Rattle.commit_rounds.specs.Drain.{drained_tables, drained_is}
use Rattle.models.specs.Refusal.{no_refusal}

-- the tables after it, if it isn't refused
abbrev pub dropped_tables : ℕ → Tables → Tables
dropped_tables r d = drained_tables (dropped_state d.state (min r d.state.top.0)) (drain_bottom d.state r) d

-- yes if all of the range is dropped
abbrev pub dropped_left : ℕ → Tables → Left
dropped_left r d = record { answer = Flag (eqb (min r d.state.top.0) r); tables = dropped_tables r d; buffer = [] }

-- what the call leaves
abbrev pub drop_left : ℕ → Tables → Left
drop_left r d = unless_refused (tested (counts_as_started (view_of d)) no_refusal) d (dropped_left r d)

-- it does 01's call
pub drop_did : (r : ℕ) (d : Tables) → Fit d.keys → Fit d.links → (x : Left) → x ≡ drop_left r d → Did (calls.drop r) (drop_left r) d x
unfolding is_start buffer_of perform nothing_done outcome_of answer_of
drop_did r d fk fl =
    did_started (calls.drop r) (drop_left r) d (dropped_left r d) refl refl refl
    (λ h i. record { answer = sym (drop-answer d.state d.keys d.links d.certs d.order r) i; store = drop_view_lem d.state d.keys d.links d.certs d.order r fk fl h i; buffer = sym (drop_buffer d.state d.keys d.links d.certs d.order r) i })

-- the code's numbers are those of the tables
pub dropped_is : (r : ℕ) (d : Tables) (actual lowest k : ℕ) → actual ≡ min r d.state.top.0 → lowest ≡ max d.state.bottom.0 actual → k ≡ below d.keys d.order d.state.count lowest
    → (t : State) → t ≡ dropped_state d.state actual lowest (d.state.count - k) → {ks ls cs os : List ℕ}
    → ks ≡ emptied d.keys 8 d.order k → ls ≡ emptied d.links 328 d.order k → cs ≡ emptied d.certs 1 d.order k → os ≡ drained d.order d.state.count k
    → ◌≡◌ {A = Left} (record { answer = Flag (eqb actual r); tables = tables t ks ls cs os; buffer = [] }) (dropped_left r d)
dropped_is r d actual lowest k a l g t e w x y z =
    let same = drained_is (dropped_state d.state (min r d.state.top.0)) (drain_bottom d.state r) d lowest k (l ∙ ap (max d.state.bottom.0) a) g t (e ∙ ap (λ (q : ℕ). dropped_state d.state q lowest (d.state.count - k)) a) w x y z in
    λ i. record { answer = Flag (eqb (a i) r); tables = same i; buffer = [] }
