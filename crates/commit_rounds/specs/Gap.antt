-- The gap question (01: commit/mod.rs, `is_once_after_gap`).
use Rattle.std.specs.Prelude.{ℕ, ◌≡◌, List, [], Bool, eqb}
use Rattle.std.proofs.Math.Path.{refl, ap}
use Rattle.std.proofs.Common.{sym, ◌∙◌, eq-eqb, ne_eqb}
use Rattle.std.proofs.Math.Bool.{true, false}
use Rattle.std.proofs.Math.Option.{some}
use Rattle.spec.specs.Store.{Store, with_numbers, with_gap}
use Rattle.spec.specs.Rules.{counts_as_started}
use Rattle.spec.specs.Calls as calls
use Rattle.spec.specs.Calls.{perform, gap_question, flag, without_buffer, do_gap_question, is_start, buffer_of}
use Rattle.commit_state.specs.declared.state.State.{State}
use Rattle.commit_state.specs.View.{gap_of, gap_waits, progress_of, conf_of}
use Rattle.commit_state.specs.Back.{asked_state}
use Rattle.tables_test.specs.View.{view, regular}
use Rattle.commit_answer.specs.declared.answer.Answer.TheVariants.{Flag}
use Rattle.commit_answer.specs.Answer.{Tables, tables, view_of, Left, outcome_of, answer_of, nothing_done, Did, unless_refused, tested, did_started}
use Rattle.models.specs.Refusal.{no_refusal}

-- the state with the question put, if it is waited for
unfoldable pub put_by : Bool → State → State
put_by true s = asked_state s
put_by false s = s

-- the answer and the tables, by whether it is waited for
abbrev pub put_left : Bool → Tables → Left
put_left b d = record { answer = Flag b; tables = tables (put_by b d.state) d.keys d.links d.certs d.order; buffer = [] }

-- what the call leaves
abbrev pub gap_left : Tables → Left
gap_left d = unless_refused (tested (counts_as_started (view_of d)) no_refusal) d (put_left (eqb d.state.emit_first_after_gap 1) d)

module _ (s : State) (ks ls cs os : List ℕ) where
  abbrev v : Store
  v = view s ks ls cs os

  -- 01's answer, by the same
  unfoldable resolution : Bool → calls.Outcome
  resolution b = elim b [ true ↦ without_buffer (with_gap v (some true)) (flag true) | false ↦ without_buffer v (flag false) ]

  resolution_is : do_gap_question v ≡ resolution (eqb s.emit_first_after_gap 1)
  unfolding do_gap_question resolution view progress_of
  resolution_is = ap resolution (gap_waits s.emit_first_after_gap)

  put_is : (b : Bool) → outcome_of (put_left b (tables s ks ls cs os)) ≡ resolution b
  unfolding outcome_of answer_of put_by resolution view asked_state progress_of gap_of with_numbers regular conf_of
  put_is true = refl
  put_is false = refl

-- it does 01's call
pub gap_did : (d : Tables) (x : Left) → x ≡ gap_left d → Did gap_question gap_left d x
unfolding is_start buffer_of perform nothing_done
gap_did d =
    did_started gap_question gap_left d (put_left (eqb d.state.emit_first_after_gap 1) d) refl refl refl (λ h. put_is d.state d.keys d.links d.certs d.order (eqb d.state.emit_first_after_gap 1) ∙ sym (resolution_is d.state d.keys d.links d.certs d.order))

-- one law for each way out of the code
module _ (d : Tables) where
  pub put_other : (d.state.emit_first_after_gap ≡ 1 → ⊥) → ◌≡◌ {A = Left} (record { answer = Flag false; tables = d; buffer = [] }) (put_left (eqb d.state.emit_first_after_gap 1) d)
  unfolding put_by
  put_other n = rw (ne_eqb d.state.emit_first_after_gap 1 n) refl

  pub put_asked : d.state.emit_first_after_gap ≡ 1 → (t : State) → t ≡ asked_state d.state
      → ◌≡◌ {A = Left} (record { answer = Flag true; tables = tables t d.keys d.links d.certs d.order; buffer = [] }) (put_left (eqb d.state.emit_first_after_gap 1) d)
  unfolding put_by
  put_asked e t f = rw (eq-eqb d.state.emit_first_after_gap 1 e, f) refl
