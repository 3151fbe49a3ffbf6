-- Tables that are zeroed, with no place in use.
use Rattle.std.specs.Prelude.{ℕ, ◌≡◌, List, true, length}
use Rattle.std.proofs.Math.Path.{refl}
use Rattle.std.proofs.Common.{arith, le-leb}
use Rattle.laws.specs.Test.{both}
use Rattle.laws.specs.Scan.{any, every}
use Rattle.spec.specs.Store.{Store, free}
use Rattle.models.specs.Tables.{is_used}
use Rattle.dag_round_keys.specs.Fill.{zeroed, filled-length}
use Rattle.dag_round_keys.specs.Sorted.{is_inside, is_sorted}
use Rattle.tables_links.specs.Links.{links_hold}
use Rattle.commit_state.specs.declared.state.State.{State}
use Rattle.commit_state.specs.View.{phase_of}
use Rattle.commit_state.specs.Memory.{memory_holds}
use Rattle.tables_test.specs.Model.{shape}
use Rattle.tables_test.specs.View.{view, regular, seen_at}

-- all words 0
unfoldable pub blank : List ℕ → List ℕ
blank t = zeroed t 0 (length t)

blank-length : (t : List ℕ) → length (blank t) ≡ length t
unfolding blank
blank-length t = filled-length _ t 0 (length t)

-- where no place is in use, nothing but the memory is to be regular
pub regular-none : (t : State) (ks ls cs os : List ℕ) → t.count ≡ 0 → memory_holds t.memory ≡ true → regular t ks ls cs os ≡ true
unfolding regular is_inside is_sorted links_hold every
regular-none t ks ls cs os z m = rw z (both (le-leb 0 (length os) (omega arith)) (both m refl))

module _ (ks ls cs os : List ℕ) (sh : shape ks ls cs os ≡ true) where
  blank-shape : shape (blank ks) (blank ls) (blank cs) (blank os) ≡ true
  unfolding shape
  blank-shape = rw (blank-length ks, blank-length ls, blank-length cs, blank-length os) sh

  module _ (t : State) (z : t.count ≡ 0) (m : memory_holds t.memory ≡ true) where
    abbrev v : Store
    v = view t (blank ks) (blank ls) (blank cs) (blank os)

    pub blank_phase : v.phase ≡ phase_of t.phase
    unfolding view
    blank_phase = rw (both blank-shape (regular-none t (blank ks) (blank ls) (blank cs) (blank os) z m)) refl

    pub blank_places : v.places ≡ length os
    unfolding view
    blank_places = rw blank-shape (blank-length os)

    pub blank_pt : (q : ℕ) → v.pt q ≡ free
    unfolding view seen_at is_used any
    blank_pt q = rw z refl

    pub blank_heights : (q : ℕ) → v.heights q ≡ 0
    unfolding view is_used any
    blank_heights q = rw z refl
