-- A remove: the store after it.
use Rattle.std.specs.Prelude.{ℕ, ◌-◌, ◌≤◌, ◌≡◌, List, true}
use Rattle.std.proofs.Math.Path.{refl}
use Rattle.spec.specs.Store.{with_numbers, with_memory}
use Rattle.spec.specs.Rules.{counts_as_started}
use Rattle.spec.specs.Calls as calls
use Rattle.models.specs.Digest.{Fit}
use Rattle.dag_round_keys.specs.Zero.{emptied}
use Rattle.dag_round_order.specs.Shift.{drained}
use Rattle.commit_state.specs.Memory.{memory_holds}
use Rattle.commit_state.specs.View.{conf_of, progress_of, memory_of}
use Rattle.commit_state.specs.Back.{removed_state}
use Rattle.commit_state.specs.declared.state.Memory.{Memory}
use Rattle.commit_state.specs.declared.state.State.{State}
use Rattle.tables_test.specs.View.{view}
use Rattle.dag_round_order.specs.Span.{below}
use Rattle.back_drain.specs.Refines.{drained-view}

module _ (s : State) (ks ls cs os : List ℕ) (fk : Fit ks) (fl : Fit ls) (h : counts_as_started (view s ks ls cs os) ≡ true) (b : ℕ) (low : s.bottom.0 ≤ b) (m : Memory) (holds : memory_holds m ≡ true) where
  -- how many places go
  abbrev k : ℕ
  k = below ks os s.count b

  -- it is the store that 01 leaves, with the memory m
  pub remove-view : view (removed_state s b (s.count - k) m) (emptied ks 8 os k) (emptied ls 328 os k) (emptied cs 1 os k) (drained os s.count k) ≡ with_memory (calls.drained (view s ks ls cs os) b) (memory_of m)
  unfolding view removed_state calls.drained with_numbers conf_of progress_of
  remove-view = drained-view s ks ls cs os fk fl h b low (removed_state s b (s.count - k) m) refl refl holds refl refl refl refl
