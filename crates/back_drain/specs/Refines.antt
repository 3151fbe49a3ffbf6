-- Tables without the rounds below a new bottom, read as the store of document 01.
use Rattle.std.specs.Prelude.{ℕ, ◌-◌, ◌*◌, ◌≤◌, ◌≡◌, refl, List, Bool, true, false, ◌&&◌, leb, ltb, length, get_or}
use Rattle.std.proofs.Math.Path.{sym, ap, fun_ext}
use Rattle.std.proofs.Common.{subst, ◌∙◌, arith, le-leb, le-ltb, lt-ltb, eq-eqb}
use Rattle.std.proofs.Math.Bool.{cond}
use Rattle.std.proofs.lemmas.Bool.{lt-leb}
use Rattle.laws.specs.Test.{both, le_or}
use Rattle.spec.specs.Store as store
use Rattle.spec.specs.Store.{Point, Store, free, with_numbers}
use Rattle.spec.specs.Rules.{counts_as_started}
use Rattle.spec.specs.Calls as calls
use Rattle.models.specs.Digest.{Fit}
use Rattle.models.specs.Cert.{height_of}
use Rattle.models.specs.Tables.{round_at, place_at, Inside, Used, is_used, used_is}
use Rattle.dag_round_keys.specs.Zero.{emptied, emptied-length}
use Rattle.dag_round_keys.specs.Key.{key-same}
use Rattle.dag_round_keys.specs.Sorted.{Sorted}
use Rattle.dag_round_order.specs.Shift.{drained, drained-sorted, drained-inside}
use Rattle.models.specs.Live.{Live}
use Rattle.tables_links.specs.Named.{Links}
use Rattle.commit_state.specs.Memory.{memory_holds}
use Rattle.commit_state.specs.View.{point_at, window, conf_of, progress_of, memory_of}
use Rattle.commit_state.specs.Reads.{window-cut}
use Rattle.commit_state.specs.declared.state.State.{State}
use Rattle.tables_test.specs.Model.{shape, shape_says, places_says}
use Rattle.tables_test.specs.View.{seen_at, seen_used, view, regular, words_fit}
use Rattle.tables_test.specs.Regular.{regular_intro, phase_same, places_same}
use Rattle.tables_test.specs.Refines.{Started, counted}
use Rattle.tables_test.specs.Same.{Same, same_target, same_names, same_cert, same_point, same_fit}
use Rattle.back_drain.specs.Model.{drained-length, used_kept, is_used_kept, words_kept}
use Rattle.dag_round_order.specs.Span.{below, below-le}

-- either choice is f
cond_same : {A : Type 0} (g : Bool) (f : A) → cond g f f ≡ f
cond_same true f = refl
cond_same false f = refl

-- what is read of a place of round r, in the store round g: x before if it is used (u), y after if its round is from b up too, else f
chosen : {A : Type 0} (u : Bool) (b r g : ℕ) (y x f : A) → (u ≡ true → g ≡ r) → ((u && leb b r) ≡ true → y ≡ x) → cond (u && leb b r) y f ≡ cond (ltb g b) f (cond u x f)
chosen false b r g y x f e d = sym (cond_same (ltb g b) f)
chosen true b r g y x f e d =
    le_or b r
    (λ l. rw (le-leb b r l, le-ltb g b (omega (arith, e refl))) (d (le-leb b r l)))
    (λ l. rw (lt-leb b r l, lt-ltb g b (omega (arith, e refl))) refl)

module _ (s : State) (ks ls cs os : List ℕ) (fk : Fit ks) (fl : Fit ls) (h : counts_as_started (view s ks ls cs os) ≡ true) (b : ℕ) (low : s.bottom.0 ≤ b) where
  -- the store before
  abbrev v : Store
  v = view s ks ls cs os

  -- how many places are used before
  abbrev n : ℕ
  n = s.count

  -- how many of them go
  abbrev k : ℕ
  k = below ks os n b

  -- the keys after
  abbrev ks2 : List ℕ
  ks2 = emptied ks 8 os k

  -- the links after
  abbrev ls2 : List ℕ
  ls2 = emptied ls 328 os k

  -- the certificate words after
  abbrev cs2 : List ℕ
  cs2 = emptied cs 1 os k

  -- the order after
  abbrev os2 : List ℕ
  os2 = drained os n k

  -- what the tables hold before
  had : Started s ks ls cs os
  had = counted s ks ls cs os fk fl h

  -- a place that stays was used, of a round from b up
  stayed : (q : ℕ) → Used os2 (n - k) q → Used os n q × (b ≤ round_at ks q)
  stayed q u = (used_kept ks os n b had.facts.sorted had.count_ok q).0 u

  -- its words are as they were
  kept : (t : List ℕ) (w q : ℕ) → Used os2 (n - k) q → Same t w q (emptied t w os k)
  kept = words_kept ks os n b had.facts.sorted had.count_ok

  -- as many places
  size : length os2 ≡ length os
  size = drained-length os n k (below-le ks os n b) had.count_ok

  -- the tables still have room for the same number of places
  shaped2 : shape ks2 ls2 cs2 os2 ≡ true
  unfolding shape
  shaped2 =
      let (a, c, d) = shape_says ks ls cs os had.shaped in
      both (eq-eqb _ _ (emptied-length ks 8 os k ∙ (a ∙ ap (λ (x : ℕ). x * 8) (sym size))))
      (both (eq-eqb _ _ (emptied-length ls 328 os k ∙ (c ∙ ap (λ (x : ℕ). x * 328) (sym size))))
      (eq-eqb _ _ (emptied-length cs 1 os k ∙ (d ∙ sym size))))

  -- the order still holds places
  inside2 : Inside os2 (n - k) (length os2)
  inside2 = subst (Inside os2 (n - k)) (sym size) (drained-inside os n k (length os) had.count_ok had.facts.inside)

  -- it is still sorted
  sorted2 : Sorted ks2 os2 (n - k)
  sorted2 x y l m =
      rw (key-same ks2 ks (place_at os2 x) (place_at os2 x) (kept ks 8 (place_at os2 x) (x, omega arith, refl)), key-same ks2 ks (place_at os2 y) (place_at os2 y) (kept ks 8 (place_at os2 y) (y, m, refl)))
      (drained-sorted ks os n k had.count_ok had.facts.sorted x y l m)

  -- a link that is live still was live, and leads to a place that stays
  links2 : Links b ks2 ls2 os2 (n - k)
  links2 q j u (st, sm, far, fine) t =
      let (w, l) = stayed q u in
      let hq = kept ks 8 q u in
      let hl = kept ls 328 q u in
      let r = hq 0 (omega arith) in
      let a = same_target ls ls2 q hl j sm in
      let live : Live s.bottom.0 ks q j = (omega (arith, hq 6 (omega arith)), sm, omega arith, omega (arith, hq 6 (omega arith))) in
      let (p, up, e, m) = had.facts.right q j w live (omega arith) in
      let u2 = (used_kept ks os n b had.facts.sorted had.count_ok p).1 (up, omega (arith, m.falls)) in
      (p, u2, a ∙ e, same_names ls ls2 q hl ks ks2 j p hq (kept ks 8 p u2) sm m)

  -- the words of a place that stays still are values of 01
  fit2 : (q : ℕ) → Used os2 (n - k) q → words_fit ks2 ls2 cs2 q ≡ true
  fit2 q u = same_fit ks ls cs ks2 ls2 cs2 q (kept ks 8 q u) (kept ls 328 q u) (kept cs 1 q u) ∙ had.fits q (stayed q u).0

  -- a state with the places that stay and the new bottom
  module _ (t : State) (ec : t.count ≡ n - k) (eb : t.bottom.0 ≡ b) (holds : memory_holds t.memory ≡ true) where
    -- the tables can still be read as a store
    drained-regular : regular t ks2 ls2 cs2 os2 ≡ true
    drained-regular =
        regular_intro t ks2 ls2 cs2 os2 (omega (arith, size, places_says _ had.places_ok)) (record {
          room = omega (arith, had.count_ok, size, ec);
          memory = holds;
          inside = subst (λ m. Inside os2 m (length os2)) (sym ec) inside2;
          sorted = subst (Sorted ks2 os2) (sym ec) sorted2;
          right = subst (λ m. Links t.bottom.0 ks2 ls2 os2 m) (sym ec) (subst (λ c. Links c ks2 ls2 os2 (n - k)) (sym eb) links2);
          fits = λ q u. fit2 q (subst (λ m. Used os2 m q) ec u);
        })

    -- the phase stays
    drained_phase : t.phase ≡ s.phase → (view t ks2 ls2 cs2 os2).phase ≡ v.phase
    drained_phase = phase_same s t ks ls cs os ks2 ls2 cs2 os2 had.shaped had.regulated shaped2 drained-regular

    -- the number of places stays
    drained_places : (view t ks2 ls2 cs2 os2).places ≡ v.places
    drained_places = places_same s t ks ls cs os ks2 ls2 cs2 os2 had.shaped had.regulated shaped2 size

    -- what is read of the place q: as it was, or f below b
    reads : {A : Type 0} (q : ℕ) (y x f : A) → (Used os2 (n - k) q → y ≡ x) → cond (is_used os2 t.count q) y f ≡ cond (ltb (store.round_at v q) b) f (cond (is_used os n q) x f)
    unfolding view point_at
    reads q y x f d =
        let z = is_used_kept ks os n b had.facts.sorted had.count_ok q in
        (λ i. cond (is_used os2 (ec i) q) y f)
        ∙ (ap (λ c. cond c y f) z
        ∙ chosen (is_used os n q) b (round_at ks q) (store.round_at v q) y x f (λ u. ap (λ (p : Point). p.id.round) (seen_used ks ls cs os n q ((used_is os n q).0 u))) (λ u. d ((used_is os2 (n - k) q).0 (z ∙ u))))

    -- the points are those that 01 leaves
    drained_pt : (view t ks2 ls2 cs2 os2).pt ≡ (calls.drained v b).pt
    unfolding view seen_at calls.drained
    drained_pt = fun_ext (λ q. reads q (point_at ks2 ls2 cs2 q) (point_at ks ls cs q) free (λ u. same_point ks ls cs ks2 ls2 cs2 q (kept ks 8 q u) (kept ls 328 q u) (kept cs 1 q u)))

    -- and so are their heights
    drained_heights : (view t ks2 ls2 cs2 os2).heights ≡ (calls.drained v b).heights
    unfolding view calls.drained
    drained_heights = fun_ext (λ q. reads q (height_of (get_or cs2 q 0)) (height_of (get_or cs q 0)) 0 (λ u. ap height_of (same_cert ks ls cs ks2 ls2 cs2 q (kept ks 8 q u) (kept ls 328 q u) (kept cs 1 q u))))

    -- so the store is the one that 01 leaves, with the progress and the memory of t
    pub drained-view : t.phase ≡ s.phase → t.top ≡ s.top → t.rounds ≡ s.rounds → conf_of t ≡ conf_of s → view t ks2 ls2 cs2 os2 ≡ with_numbers (calls.drained v b) (progress_of t) (memory_of t.memory)
    unfolding view calls.drained with_numbers
    drained-view ph tp rd cf = λ i. record {
      phase = drained_phase ph i;
      places = drained_places i;
      pt = drained_pt i;
      heights = drained_heights i;
      bottom = eb i;
      top = (tp i).0;
      rounds = fun_ext (λ r. (λ j. window (rd j) (eb j) (tp j).0 r) ∙ window-cut s.rounds s.bottom.0 b s.top.0 r low) i;
      conf = cf i;
      progress = progress_of t;
      memory = memory_of t.memory;
    }
