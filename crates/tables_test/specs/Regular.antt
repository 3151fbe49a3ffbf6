-- Tables that can be read as 01's store, part by part.
use Rattle.std.specs.Prelude.{ℕ, ◌≤◌, ◌≡◌, List, true, leb, length}
use Rattle.std.proofs.Math.Path.{refl, subst}
use borrow.Author.Tests.{leb-true, le-leb}
use Rattle.laws.specs.Test.{both, and_l, and_r}
use Rattle.laws.specs.Scan.{every_elim, every_intro}
use Rattle.models.specs.Tables.{place_at, Inside, Used}
use Rattle.dag_round_keys.specs.Sorted.{Sorted, is_inside, is_sorted, inside_is, sorted_is}
use Rattle.tables_links.specs.Links.{links_hold}
use Rattle.tables_links.specs.Named.{Links, links_sound, links_complete}
use Rattle.commit_state.specs.Memory.{memory_holds}
use Rattle.commit_state.specs.declared.state.State.{State}
use Rattle.tables_test.specs.Model.{shape}
use Rattle.tables_test.specs.View.{view, regular, words_fit}

pub record Regular (s : State) (ks ls cs os : List ℕ) : Type 0 where
  pub room : s.count ≤ length os
  pub memory : memory_holds s.memory ≡ true
  pub inside : Inside os s.count (length os)
  pub sorted : Sorted ks os s.count
  pub right : Links s.bottom.0 ks ls os s.count
  pub fits : (q : ℕ) → Used os s.count q → words_fit ks ls cs q ≡ true

module _ (s : State) (ks ls cs os : List ℕ) where
  -- all that the test of them says
  pub regular_elim : regular s ks ls cs os ≡ true → Regular s ks ls cs os
  unfolding regular
  regular_elim h =
      let a = and_r (leb s.count (length os)) _ h in
      let b = and_r (memory_holds s.memory) _ a in
      let c = and_r (is_inside os s.count (length os)) _ b in
      let d = and_r (is_sorted ks os s.count) _ c in
      record {
        room = leb-true _ _ (and_l (leb s.count (length os)) _ h);
        memory = and_l (memory_holds s.memory) _ a;
        inside = (inside_is os s.count (length os)).0 (and_l (is_inside os s.count (length os)) _ b);
        sorted = (sorted_is ks os s.count).0 (and_l (is_sorted ks os s.count) _ c);
        right = links_sound s.bottom.0 ks ls os s.count (and_l (links_hold s.bottom.0 ks ls os s.count) _ d);
        fits = λ q (i, l, e). subst (λ x. words_fit ks ls cs x ≡ true) e (every_elim s.count (λ j. words_fit ks ls cs (place_at os j)) (and_r (links_hold s.bottom.0 ks ls os s.count) _ d) i l);
      }

  -- and back, for at most 4,096 places
  pub regular_intro : length os ≤ 4096 → Regular s ks ls cs os → regular s ks ls cs os ≡ true
  unfolding regular
  regular_intro small r =
      both (le-leb _ _ r.room) (both r.memory (both ((inside_is os s.count (length os)).1 r.inside) (both ((sorted_is ks os s.count).1 r.sorted)
      (both (links_complete s.bottom.0 ks ls os s.count r.inside small r.right) (every_intro s.count _ (λ i l. r.fits (place_at os i) (i, l, refl)))))))

-- tables before and after a change that leaves both regular
module _ (s t : State) (ks ls cs os ks2 ls2 cs2 os2 : List ℕ) (sh : shape ks ls cs os ≡ true) (rg : regular s ks ls cs os ≡ true) (sh2 : shape ks2 ls2 cs2 os2 ≡ true) where
  -- the phase stays
  pub phase_same : regular t ks2 ls2 cs2 os2 ≡ true → t.phase ≡ s.phase → (view t ks2 ls2 cs2 os2).phase ≡ (view s ks ls cs os).phase
  unfolding view
  phase_same rg2 e = rw (both sh2 rg2, both sh rg, e) refl

  -- the number of places stays
  pub places_same : length os2 ≡ length os → (view t ks2 ls2 cs2 os2).places ≡ (view s ks ls cs os).places
  unfolding view
  places_same e = rw (sh2, sh) e
