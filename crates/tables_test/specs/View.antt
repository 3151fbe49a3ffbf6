-- State and tables as the store of document 01.
use Rattle.std.specs.Prelude.{ℕ, ◌<◌, ◌≡◌, List, Bool, true, ◌&&◌, ◌||◌, cond, eqb, leb, ltb, length, get_or}
use Rattle.std.proofs.Math.Path.{refl, ap}
use Rattle.std.proofs.Common.{◌∙◌, arith, ne_eqb}
use Rattle.laws.specs.Test.{by_test, clash}
use Rattle.laws.specs.Scan.{every}
use Rattle.spec.specs.Store as store
use Rattle.spec.specs.Store.{Point, Store, free}
use Rattle.models.specs.Cert.{height_of}
use Rattle.models.specs.Tables.{status_at, marks_at, place_at, Used, is_used, evidence_at, used_is, proof_round_at}
use Rattle.dag_round_keys.specs.Sorted.{is_inside, is_sorted}
use Rattle.tables_links.specs.Links.{links_hold}
use Rattle.commit_state.specs.View.{given_at, resolution_at, point_at, rounds_of, conf_of, progress_of, memory_of, phase_of}
use Rattle.commit_state.specs.Memory.{memory_holds}
use Rattle.commit_state.specs.declared.dag.Dag.{Dag}
use Rattle.commit_state.specs.declared.state.State.{State}
use Rattle.tables_test.specs.Model.{shape}

-- the words of a used place are values of 01: marks, certificate word, evidence and the top proof's round
unfoldable pub words_fit : List ℕ → List ℕ → List ℕ → ℕ → Bool
words_fit ks ls cs q =
    ltb (marks_at ks q) 8 && (leb (get_or cs q 0) 65_535 && (eqb (status_at ks q) 0 || (ltb (evidence_at ls q) 4_294_967_296 && ltb (proof_round_at ls q) 4_294_967_296)))

-- what the tables must be to be read as 01's store: the inspector's memory rises, places of the order are in range and sorted, targets
-- the places that their links name, words values
unfoldable pub regular : State → List ℕ → List ℕ → List ℕ → List ℕ → Bool
regular s ks ls cs os =
    leb s.count (length os) && (memory_holds s.memory && (is_inside os s.count (length os) && (is_sorted ks os s.count
    && (links_hold s.bottom.0 ks ls os s.count && every s.count (λ i. words_fit ks ls cs (place_at os i))))))

-- the point at the place q, of n used ones
unfoldable pub seen_at : List ℕ → List ℕ → List ℕ → List ℕ → ℕ → ℕ → Point
seen_at ks ls cs os n q = cond (is_used os n q) (point_at ks ls cs q) free

unfoldable pub view : State → List ℕ → List ℕ → List ℕ → List ℕ → Store
view s ks ls cs os = record {
  phase = cond (shape ks ls cs os && regular s ks ls cs os) (phase_of s.phase) store.other;
  places = cond (shape ks ls cs os) (length os) 0;
  pt = seen_at ks ls cs os s.count;
  heights = λ q. cond (is_used os s.count q) (height_of (get_or cs q 0)) 0;
  bottom = s.bottom.0;
  top = s.top.0;
  rounds = rounds_of s;
  conf = conf_of s;
  progress = progress_of s;
  memory = memory_of s.memory;
}

-- the same of what the code reads as one
abbrev pub view_of : Dag → Store
view_of d = view d.state.now d.keys.now d.links.now d.certs.now d.order.now

module _ (ks ls cs os : List ℕ) (n q : ℕ) where
  pub seen_used : Used os n q → seen_at ks ls cs os n q ≡ point_at ks ls cs q
  unfolding seen_at
  seen_used u = rw ((used_is os n q).1 u) refl

  -- a resolved point holds what it was given
  pub seen_given : Used os n q → 0 < status_at ks q → (seen_at ks ls cs os n q).resolution ≡ given_at ks ls q
  unfolding point_at resolution_at
  seen_given u l = ap (λ (p : Point). p.resolution) (seen_used u) ∙ rw (ne_eqb (status_at ks q) 0 (λ e. omega arith)) refl

  pub seen_named : (seen_at ks ls cs os n q).named ≡ true → Used os n q
  unfolding seen_at
  seen_named h = by_test (is_used os n q) (λ t. (used_is os n q).0 t) (λ f. absurd (clash (rw (f, seen_at) at h) refl))
