-- What the lines of the points read.
use Rattle.std.specs.Prelude.{ℕ, ◌+◌, ◌*◌, ◌<◌, ◌≤◌, ◌≡◌, refl, List, Bool, true, false, ◌&&◌, length}
use Rattle.std.proofs.Common.{sym, ◌∙◌, arith}
use Rattle.laws.specs.Test.{by_test}
use Rattle.spec.specs.Rules.{is_started, counts_as_started}
use Rattle.commit_state.specs.View.{phase_of}
use Rattle.commit_state.specs.Back.{unstarted_state}
use Rattle.commit_state.specs.declared.state.State.{State}
use Rattle.models.specs.Digest.{Fit}
use Rattle.models.specs.Tables.{place_at, Inside}
use Rattle.tables_test.specs.Model.{shape, shape_says}
use Rattle.tables_test.specs.Refines.{counted}
use Rattle.tables_test.specs.View.{regular, view}

-- the first n cells of the order hold places of the tables
unfoldable pub Readable : List ℕ → List ℕ → List ℕ → ℕ → Type 0
Readable ks cs os n = (length ks ≡ length os * 8) × (length cs ≡ length os) × (n ≤ length os) × Inside os n (length os)

-- tables that count as started are so
pub readable : (s : State) (ks ls cs os : List ℕ) → Fit ks → Fit ls → (b : Bool) → b ≡ counts_as_started (view s ks ls cs os) → b ≡ true → Readable ks cs os s.count
unfolding Readable
readable s ks ls cs os fk fl b e h =
    let t = counted s ks ls cs os fk fl (sym e ∙ h) in
    let l = shape_says ks ls cs os t.shaped in
    (l.0, l.2, t.count_ok, t.facts.inside)

-- each index is within its table
module _ (ks cs os : List ℕ) (n i : ℕ) (r : Readable ks cs os n) (l : i < n) where
  pub reads_order : i < length os
  unfolding Readable
  reads_order = omega (arith, r.2)

  pub reads_cert : (q : ℕ) → q ≡ place_at os i → q < length cs
  unfolding Readable
  reads_cert q e = omega (arith, r.1, r.3 i l, e)

  pub reads-key : (q : ℕ) → q ≡ place_at os i → q * 8 + 8 ≤ length ks
  unfolding Readable
  reads-key q e = omega (arith, r.0, r.3 i l, e)

-- a state that no call has written doesn't count as started, whatever the tables
pub unstarted_not : (ks ls cs os : List ℕ) → counts_as_started (view unstarted_state ks ls cs os) ≡ false
unfolding counts_as_started view phase_of is_started unstarted_state
unstarted_not ks ls cs os = by_test (shape ks ls cs os && regular unstarted_state ks ls cs os) (λ y. rw y refl) (λ n. rw n refl)
