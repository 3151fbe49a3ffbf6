-- Theorems on the definitions of specs/Model.
use Rattle.std.specs.Prelude.{ℕ, ◌-◌, ◌<◌, ◌≤◌, ◌≡◌, List, Bool, true, false}
use Rattle.std.proofs.Math.Path.{refl, sym}
use Rattle.std.proofs.Common.{◌∙◌}
use borrow.Author.Tests.{le-leb, lt-leb}
use Rattle.laws.specs.Scan.{any}
use Rattle.models.specs.Refusal.{failed, or_next}
use Rattle.models.specs.declared.refusal.Refusal.{Refusal}
use Rattle.commit_state.specs.declared.state.State.{State}
use Rattle.back_history.specs.Model.{missing}
use Rattle.back_history.specs.Picked.{uncertified_at}
use Rattle.back_committable.specs.declared.anchor.HistorySpan.{HistorySpan}
use Rattle.back_committable.specs.ModelPoints.{found_fault}
use Rattle.back_committable.specs.Model.{code_of}
use Rattle.std.specs.Prelude.{Err}
use Rattle.models.specs.Refusal.{Check, no_refusal}

module _ (s : State) (ks cs os : List ℕ) (m : List Bool) (x : HistorySpan) (r : ℕ) where
  -- at genesis
  pub code_genesis : r ≤ s.genesis.0 → failed 22 ≡ code_of s ks cs os m x r
  unfolding code_of
  code_genesis l = rw (le-leb r s.genesis.0 l) refl

  module _ (l : s.genesis.0 < r) (f : Check) (e : f ≡ found_fault ks cs os m x.low x.high) where
    -- a point is refused
    pub code_fault : (w : Refusal) → f ≡ Err w → Err w ≡ code_of s ks cs os m x r
    unfolding code_of or_next
    code_fault w h = rw (lt-leb r s.genesis.0 l, sym e ∙ h) refl

    -- none is
    module _ (z : f ≡ no_refusal) (a : Bool) (h : a ≡ missing s.full_history_bottom.0 x.limit.0 s.bottom.0) where
      -- rounds are missing
      pub code_missing : a ≡ true → failed 17 ≡ code_of s ks cs os m x r
      unfolding code_of or_next
      code_missing t = rw (lt-leb r s.genesis.0 l, sym e ∙ z, ← h, t) refl

      -- none are
      module _ (n : a ≡ false) (b : Bool) (g : b ≡ any (x.high - x.low) (uncertified_at cs os m x.low)) where
        -- a point has the height 0
        pub code_flat : b ≡ true → failed 18 ≡ code_of s ks cs os m x r
        unfolding code_of or_next
        code_flat t = rw (lt-leb r s.genesis.0 l, sym e ∙ z, ← h, n, ← g, t) refl

        -- none has
        pub code_none : b ≡ false → no_refusal ≡ code_of s ks cs os m x r
        unfolding code_of or_next
        code_none t = rw (lt-leb r s.genesis.0 l, sym e ∙ z, ← h, n, ← g, t) refl
