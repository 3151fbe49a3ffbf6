-- Once the height of a place is handed on, the tables are read as the store with the heights of its paths (01: cert.rs).
use Rattle.std.specs.Prelude.{ℕ, ◌*◌, ◌≤◌, ◌<◌, ◌≡◌, List, true, false, leb, ltb, length, get_or}
use Rattle.std.proofs.Math.Path.{refl, sym}
use Rattle.std.proofs.Common.{◌∙◌, ap, subst, inl, arith, eq-eqb, leb-true, le-leb}
use Rattle.std.proofs.Math.Bool.{cond}
use Rattle.laws.specs.Test.{by_test, clash, both, and_l, and_r}
use Rattle.spec.specs.Store.{Point, Store, free, with_points}
use Rattle.spec.specs.Paths.{height}
use Rattle.spec.specs.Graph.{along}
use Rattle.spec.specs.Heights.{height_unique}
use Rattle.spec.specs.Links.{linked}
use Rattle.spec.specs.HeightEquations.{Sized, height_is}
use Rattle.spec.specs.Calls.{with_path_heights}
use Rattle.models.specs.Cert.{height_of}
use Rattle.models.specs.Digest.{Fit}
use Rattle.models.specs.Tables.{round_at, status_at, marks_at, Used, is_used, used_is}
use Rattle.tables_links.specs.Named.{links_fall}
use Rattle.commit_state.specs.View.{point_at, resolution_at, rounds_of, conf_of, progress_of, memory_of}
use Rattle.commit_state.specs.declared.state.State.{State}
use Rattle.tables_test.specs.Model.{shape, shape_says}
use Rattle.tables_test.specs.View.{words_fit, regular, seen_at, view}
use Rattle.tables_test.specs.Regular.{Regular, regular_elim, regular_intro, phase_same, places_same}
use Rattle.tables_test.specs.Heights.{heights_are_elim}
use Rattle.tables_test.specs.Whole.{sized}
use Rattle.cert_certify.specs.Model.{traversed}
use Rattle.cert_certify.specs.Sane.{Rooted, Placed}
use Rattle.cert_certify.specs.Refines.{Tops, Met, OnBut, traversed-length, traversed_flags, traversed_small, traversed_heights}
use Rattle.cert_certify.specs.Word.{flags_same}

-- a place that is not named has no height
free-height : (v : Store) → Sized v → (p : ℕ) → (v.pt p).named ≡ false → height v p ≡ 0
free-height v z p e =
    height_unique (height_is v z p) (record {
      bound = λ t to w. absurd (clash (along (λ x. (v.pt x).named ≡ true) (λ x y l n. (linked _ _ l).named_is) w (and_l _ _ to)) e);
      met = inl refl;
    })

-- the settled store does not depend on the heights before
settled_heights : (v : Store) (f : ℕ → Point) (g h : ℕ → ℕ) → Sized (with_points v f g) → with_path_heights (with_points v f g) ≡ with_path_heights (with_points v f h)
unfolding with_path_heights with_points
settled_heights v f g h z = λ j. record {
  phase = v.phase;
  places = v.places;
  pt = f;
  heights = λ p. same p j;
  bottom = v.bottom;
  top = v.top;
  rounds = v.rounds;
  conf = v.conf;
  progress = v.progress;
  memory = v.memory;
}
  where
    same : (p : ℕ) → height (with_points v f g) p ≡ height (with_points v f h) p
    same p = height_unique (height_is (with_points v f g) z p) (height_is (with_points v f h) z p)

-- the certificate word of a used place has 16 bits
pub cert_small : (ks ls cs : List ℕ) (q : ℕ) → words_fit ks ls cs q ≡ true → get_or cs q 0 < 65536
unfolding words_fit
cert_small ks ls cs q h = let l : get_or cs q 0 ≤ 65_535 = leb-true _ _ (and_l (leb (get_or cs q 0) 65_535) _ (and_r (ltb (marks_at ks q) 8) _ h)) in omega (arith, l)

-- tables with other certificate words, of 16 bits
module _ (s : State) (ks ls cs ds os : List ℕ) (sh : shape ks ls cs os ≡ true) (rg : regular s ks ls cs os ≡ true) (small : length os ≤ 4096) (long : length ds ≡ length cs)
    (fit : (p : ℕ) → Used os s.count p → get_or ds p 0 < 65536) where
  -- the shape stays
  pub shape-certs : shape ks ls ds os ≡ true
  unfolding shape
  shape-certs = let (a, b, c) = shape_says ks ls cs os sh in both (eq-eqb _ _ a) (both (eq-eqb _ _ b) (eq-eqb _ _ (long ∙ c)))

  -- they are regular
  pub regular-certs : regular s ks ls ds os ≡ true
  unfolding words_fit
  regular-certs =
      let r = regular_elim s ks ls cs os rg in
      regular_intro s ks ls ds os small (record {
        room = r.room;
        memory = r.memory;
        inside = r.inside;
        sorted = r.sorted;
        right = r.right;
        fits = λ p u.
            let a = r.fits p u in
            both (and_l (ltb (marks_at ks p) 8) _ a) (both (le-leb (get_or ds p 0) 65_535 (omega (arith, fit p u))) (and_r (leb (get_or cs p 0) 65_535) _ (and_r (ltb (marks_at ks p) 8) _ a)));
      })

module _ (s : State) (ks ls cs os : List ℕ) (q : ℕ) (sh : shape ks ls cs os ≡ true) (rg : regular s ks ls cs os ≡ true) (small : length os ≤ 4096) (u : Used os s.count q) where
  -- the tables, as `traverse_certify` needs them
  pub rooted : Rooted s.bottom.0 ks ls cs os s.count q
  rooted =
      let r = regular_elim s ks ls cs os rg in
      let long = (shape_says ks ls cs os sh).2 in
      record {
        small = omega (arith, long, small);
        inside = λ i l. omega (arith, r.inside i l, long);
        falls = links_fall s.bottom.0 ks ls os s.count r.right;
        first = u;
      }

  -- the same, without the order
  pub placed : (length ks ≡ length cs * 8) × (length ls ≡ length cs * 328) × Placed s.bottom.0 ks ls cs q
  placed = let (a, b, c) = shape_says ks ls cs os sh in (omega (arith, a, c), omega (arith, b, c), (os, s.count, rooted))

  module _ (fk : Fit ks) (fl : Fit ls) (low : (p : ℕ) → Used os s.count p → s.bottom.0 ≤ round_at ks p) (fine : (p : ℕ) → Used os s.count p → status_at ks p ≤ 5)
      (tops : Tops s.commit_history_rounds cs os s.count) (met : Met s.bottom.0 s.commit_history_rounds ks ls cs os s.count) (but : OnBut q s.bottom.0 ks ls cs os s.count) where
    -- the number of used places
    abbrev n : ℕ
    n = s.count

    -- the store before
    abbrev v : Store
    v = view s ks ls cs os

    -- the certificate words after
    abbrev ds : List ℕ
    ds = traversed s.bottom.0 ks ls cs q

    -- as many of them
    long : length ds ≡ length cs
    long = traversed-length s.bottom.0 ks ls cs os n q rooted

    -- what the tables hold
    r : Regular s ks ls cs os
    r = regular_elim s ks ls cs os rg

    -- the words have 16 bits
    fit : (p : ℕ) → Used os n p → get_or ds p 0 < 65536
    fit p x = traversed_small s.bottom.0 ks ls cs os n q rooted p (cert_small ks ls cs p (r.fits p x))

    -- the shape stays
    shape-after : shape ks ls ds os ≡ true
    shape-after = shape-certs s ks ls cs ds os sh rg small long fit

    -- the points stay
    point-same : (p : ℕ) → seen_at ks ls ds os n p ≡ seen_at ks ls cs os n p
    unfolding seen_at point_at
    point-same p = λ j. cond (is_used os n p) (record {
      named = true;
      id = (point_at ks ls cs p).id;
      resolution = resolution_at ks ls p;
      flags = flags_same (get_or ds p 0) (get_or cs p 0) (traversed_flags s.bottom.0 ks ls cs os n q rooted p) j;
    }) free

    -- the heights are those of paths
    height-after : (p : ℕ) → cond (is_used os n p) (height_of (get_or ds p 0)) 0 ≡ height v p
    unfolding view seen_at conf_of height_of
    height-after p =
        let z = sized s ks ls cs os fk fl sh r.inside in
        by_test (is_used os n p)
        (λ t. rw t (heights_are_elim s.bottom.0 n ks ls ds os r.sorted r.right low fine fk fl v z (λ x. sym (point-same x)) (traversed_heights s.bottom.0 ks ls cs os n q rooted s.commit_history_rounds tops met but) p ((used_is os n p).0 t)))
        (λ f. rw f (sym (free-height v z p (rw f refl))))

    -- the view after the height of q is handed on
    pub settled_view : view s ks ls (traversed s.bottom.0 ks ls cs q) os ≡ with_path_heights (view s ks ls cs os)
    unfolding view with_path_heights with_points
    settled_view = λ j. record {
      phase = phase_same s s ks ls cs os ks ls ds os sh rg shape-after (regular-certs s ks ls cs ds os sh rg small long fit) refl j;
      places = places_same s s ks ls cs os ks ls ds os sh rg shape-after refl j;
      pt = λ p. point-same p j;
      heights = λ p. height-after p j;
      bottom = s.bottom.0;
      top = s.top.0;
      rounds = rounds_of s;
      conf = conf_of s;
      progress = progress_of s;
      memory = memory_of s.memory;
    }

    -- the same, from tables that held other points and heights
    module _ (ks0 ls0 cs0 : List ℕ) (sh0 : shape ks0 ls0 cs0 os ≡ true) (rg0 : regular s ks0 ls0 cs0 os ≡ true) (f : ℕ → Point) (same : (p : ℕ) → seen_at ks ls cs os s.count p ≡ f p) where
      -- what changed of the store that they held
      changed : v ≡ with_points (view s ks0 ls0 cs0 os) f v.heights
      unfolding view with_points
      changed = λ j. record {
        phase = phase_same s s ks0 ls0 cs0 os ks ls cs os sh0 rg0 sh rg refl j;
        places = places_same s s ks0 ls0 cs0 os ks ls cs os sh0 rg0 sh refl j;
        pt = λ p. same p j;
        heights = v.heights;
        bottom = s.bottom.0;
        top = s.top.0;
        rounds = rounds_of s;
        conf = conf_of s;
        progress = progress_of s;
        memory = memory_of s.memory;
      }

      -- the view after
      pub settled_from : (g : ℕ → ℕ) → view s ks ls (traversed s.bottom.0 ks ls cs q) os ≡ with_path_heights (with_points (view s ks0 ls0 cs0 os) f g)
      settled_from g =
          settled_view ∙ (ap with_path_heights changed ∙ settled_heights (view s ks0 ls0 cs0 os) f v.heights g (subst Sized changed (sized s ks ls cs os fk fl sh r.inside)))
