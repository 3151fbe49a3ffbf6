-- A drop: the store after it, and its answer.
use Prim.Native.Nat.{ℕ, ◌-◌, min}
use Rattle.std.specs.Prelude.{◌≡◌, List, [], true, eqb}
use Rattle.std.proofs.Math.Path.{refl}
use Rattle.std.proofs.Common.{arith}
use Rattle.spec.specs.Store.{Store, with_numbers}
use Rattle.spec.specs.Rules.{counts_as_started}
use Rattle.spec.specs.Calls as calls
use Rattle.spec.specs.Calls.{flag, new_bottom, do_drop}
use Rattle.models.specs.Digest.{Fit}
use Rattle.dag_round_keys.specs.Zero.{emptied}
use Rattle.dag_round_order.specs.Shift.{drained}
use Rattle.commit_state.specs.View.{gap_of, conf_of, progress_of}
use Rattle.commit_state.specs.Back.{dropped_state}
use Rattle.commit_state.specs.declared.state.State.{State}
use Rattle.tables_test.specs.View.{view}
use Rattle.tables_test.specs.Refines.{counted}
use Rattle.back_drain.specs.Model.{drain_bottom}
use Rattle.dag_round_order.specs.Span.{below}
use Rattle.back_drain.specs.Refines.{drained-view}

-- the store that is read after it, with the first k places of the order gone
abbrev pub drop_view : State → List ℕ → List ℕ → List ℕ → List ℕ → ℕ → ℕ → Store
drop_view s ks ls cs os r k = view (dropped_state s (min r s.top.0) (drain_bottom s r) (s.count - k)) (emptied ks 8 os k) (emptied ls 328 os k) (emptied cs 1 os k) (drained os s.count k)

module _ (s : State) (ks ls cs os : List ℕ) (r : ℕ) where
  -- it is the store that 01 leaves
  pub drop_view_lem : Fit ks → Fit ls → counts_as_started (view s ks ls cs os) ≡ true → drop_view s ks ls cs os r (below ks os s.count (drain_bottom s r)) ≡ (do_drop (view s ks ls cs os) r).store
  unfolding view dropped_state calls.drained new_bottom do_drop with_numbers conf_of progress_of gap_of
  drop_view_lem fk fl h =
      let b : ℕ = drain_bottom s r in
      drained-view s ks ls cs os fk fl h b (omega arith) (dropped_state s (min r s.top.0) b (s.count - below ks os s.count b)) refl refl (counted s ks ls cs os fk fl h).memory_ok refl refl refl refl

  -- yes, if the whole range is dropped
  pub drop-answer : (do_drop (view s ks ls cs os) r).answer ≡ flag (eqb (min r s.top.0) r)
  unfolding view do_drop
  drop-answer = refl

  -- it writes nothing
  pub drop_buffer : (do_drop (view s ks ls cs os) r).buffer ≡ []
  unfolding do_drop
  drop_buffer = refl
