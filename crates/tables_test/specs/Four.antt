-- At most four digests of an author in a round.
use Rattle.std.specs.Prelude.{ℕ, ◌≤◌, ◌<◌, ◌≡◌, refl, List, true, ◌&&◌}
use Rattle.std.proofs.Math.Path.{ap, ap₂}
use Rattle.std.proofs.Common.{arith}
use Rattle.std.proofs.Math.ListN.{length}
use Rattle.std.proofs.Math.Dec.{eqb}
use Rattle.laws.specs.Test.{and_l}
use Rattle.laws.specs.Scan.{those-same}
use Rattle.spec.specs.Store.{Point, Store, id_at}
use Rattle.spec.specs.Rules.{version, versions}
use Rattle.models.specs.Tables.{place_at, Inside, Used}
use Rattle.dag_round_keys.specs.Sorted.{Sorted, sorted_apart}
use Rattle.tables_ids.specs.Refines.{same_author, Few}
use Rattle.commit_state.specs.View.{point_at}
use Rattle.tables_test.specs.Count.{places_fewer, positions_fewer}

module _ (n : ℕ) (ks ls cs os : List ℕ) (v : Store) (named : (q : ℕ) → (v.pt q).named ≡ true → Used os n q) (point : (q : ℕ) → Used os n q → v.pt q ≡ point_at ks ls cs q) where
  version_is : (q : ℕ) → Used os n q → (i : ℕ) → i < n → version v (id_at v q) (place_at os i) ≡ same_author ks os q i
  unfolding version point_at
  version_is q u i l = ap₂ (λ (a b : Point). a.named && (eqb a.id.round b.id.round && eqb a.id.author b.id.author)) (point (place_at os i) (i, l, refl)) (point q u)

  pub four_elim : Few ks os n → (q : ℕ) → Used os n q → versions v (id_at v q) ≤ 4
  unfolding version
  four_elim h q u =
      let a = places_fewer v.places (place_at os) (version v (id_at v q)) n (λ p l e. named p (and_l _ _ e)) in
      let b = ap length (those-same n (λ i. version v (id_at v q) (place_at os i)) (same_author ks os q) (version_is q u)) in
      omega (arith, a, b, h q u)

  pub four_intro : Sorted ks os n → Inside os n v.places → ((q : ℕ) → Used os n q → versions v (id_at v q) ≤ 4) → Few ks os n
  four_intro sorted inside h q u =
      let a = positions_fewer v.places (place_at os) (version v (id_at v q)) n (λ i j l m e. sorted_apart ks os n i j sorted l m e) inside in
      let b = ap length (those-same n (λ i. version v (id_at v q) (place_at os i)) (same_author ks os q) (version_is q u)) in
      omega (arith, a, b, h q u)
