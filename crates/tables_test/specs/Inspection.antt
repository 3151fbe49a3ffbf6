-- What an inspection of tables that count as started tells.
use Rattle.std.specs.Prelude.{ℕ, ◌≡◌, true}
use mathlib.Core.List.{List, Memᴰ}
use Rattle.spec.specs.Rules.{counts_as_started}
use Rattle.spec.specs.WellFormed.{counts_as_started_elim}
use Rattle.spec.specs.Inspect.{Event, events}
use Rattle.spec.specs.Inspection.{ListsRise}
use Rattle.spec.proofs.Inspection.{lists_rise}
use Rattle.models.specs.Digest.{Fit}
use Rattle.commit_state.specs.Memory.{memory_rises}
use Rattle.commit_state.specs.declared.state.State.{State}
use Rattle.tables_test.specs.View.{view}
use Rattle.tables_test.specs.Whole.{sized}
use Rattle.tables_test.specs.Refines.{counted}

-- "inside a round all lists rise by digest", "Blamed ids have the earlier round first": every list of every event, of all tables that
-- count as started
pub started-lists_rise : (s : State) (ks ls cs os : List ℕ) → Fit ks → Fit ls → counts_as_started (view s ks ls cs os) ≡ true → (b : ℕ) (e : Event) → Memᴰ e (events (view s ks ls cs os) b) → ListsRise e
unfolding view
started-lists_rise s ks ls cs os fk fl h =
    let t = counted s ks ls cs os fk fl h in
    lists_rise (view s ks ls cs os) (counts_as_started_elim (view s ks ls cs os) (sized s ks ls cs os fk fl t.shaped t.facts.inside) h) (memory_rises s.memory t.memory_ok)
