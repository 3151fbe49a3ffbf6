-- Once the height of place q is handed on, every stored height is the height by paths (models/cert.rs).
use Rattle.std.specs.Prelude.{ℕ, suc, ◌-◌, ◌/◌, ◌%◌, ◌≤◌, ◌<◌, ◌≡◌, ◌⊎◌, ◌≢◌, List, eqb, get_or, length}
use Rattle.std.proofs.Math.Path.{refl, sym, ap}
use Rattle.std.proofs.Common.{◌∙◌, subst, inl, inr}
use native.Mathlib.Omega.{arith}
use Rattle.laws.specs.Test.{le_or}
use Rattle.spec.specs.Paths.{Path, height_from}
use Rattle.spec.specs.Graph.{append, along, path_down}
use Rattle.models.specs.Tables.{round_at, place_at, Used, dist}
use Rattle.tables_heights.specs.View.{height_at, top_at}
use Rattle.models.specs.Live.{reach}
use Rattle.tables_heights.specs.Refines.{Leads, Top, Heights}
use Rattle.cert_certify.specs.Model.{Work, passed, visited, propagated, start, traversed, visited-next, visited-stays}
use Rattle.cert_certify.specs.Queue.{Queued, Grows, queued_or, grows_queued, start-queued}
use Rattle.cert_certify.specs.Sane.{Rooted, Sane, down, handed_gets, visited_sane, visited_grows, visited_most}

-- every top has at least the height H + 1
abbrev pub Tops : ℕ → List ℕ → List ℕ → ℕ → Type 0
Tops H cs os n = (t : ℕ) → Top cs os n t → suc H ≤ height_at cs t

-- h is 0, or what some top gives place p
abbrev pub Given : ℕ → ℕ → List ℕ → List ℕ → List ℕ → List ℕ → ℕ → ℕ → ℕ → Type 0
Given b H ks ls cs os n p h = (h ≡ 0) ⊎ ((t : ℕ) × Top cs os n t × Path (Leads b ks ls os n) t p × (h ≡ height_from H (round_at ks) t p))

-- no used place has another height
abbrev pub Met : ℕ → ℕ → List ℕ → List ℕ → List ℕ → List ℕ → ℕ → Type 0
Met b H ks ls cs os n = (p : ℕ) → Used os n p → Given b H ks ls cs os n p (height_at cs p)

-- every place but q has handed its height on
abbrev pub OnBut : ℕ → ℕ → List ℕ → List ℕ → List ℕ → List ℕ → ℕ → Type 0
OnBut q b ks ls cs os n = (p t : ℕ) → p ≢ q → Leads b ks ls os n p t → height_at cs p - (round_at ks p - round_at ks t) ≤ height_at cs t

module _ (b : ℕ) (ks ls cs os : List ℕ) (n q : ℕ) (r : Rooted b ks ls cs os n q) where
  -- the words after
  abbrev cs2 : List ℕ
  cs2 = traversed b ks ls cs q

  -- the work after f entries of the queue
  abbrev at : ℕ → Work
  at f = visited b ks ls (start cs q) f

  -- the work at the end
  abbrev end : Work
  end = at 4096

  -- the words are those of the end
  is : cs2 ≡ end.certs
  unfolding traversed propagated
  is = refl

  -- the end is as it should be
  done : Sane b ks ls cs os n q end
  done = visited_sane b ks ls cs os n q r 4096

  -- and goes on from the start
  begun : Grows (start cs q) end
  unfolding visited
  begun = visited_grows b ks ls cs os n q r 0 4096 (omega arith)

  -- as many words
  pub traversed-length : length cs2 ≡ length cs
  traversed-length = rw is done.size

  -- the flags stay
  pub traversed_flags : (p : ℕ) → get_or cs2 p 0 / 4096 ≡ get_or cs p 0 / 4096
  traversed_flags p = rw is (done.flags p)

  -- a word of 16 bits stays one
  pub traversed_small : (p : ℕ) → get_or cs p 0 < 65536 → get_or cs2 p 0 < 65536
  traversed_small p l = omega (arith, traversed_flags p)

  -- no height falls
  pub traversed-rises : (p : ℕ) → height_at cs p ≤ height_at cs2 p
  unfolding start
  traversed-rises p = rw is (begun.rises p)

  -- the queue never has more entries
  most : end.tail ≤ 4096
  most = visited_most b ks ls cs os n q r 4096

  -- an entry at the end was there when its turn came
  came : (i : ℕ) → i < end.tail → i < (at i).tail
  came i l =
      le_or (at i).tail i
      (λ m. absurd (omega (arith, ap (λ w. w.tail) (visited-stays b ks ls (start cs q) i 4096 m (omega (arith, most))))))
      (λ m. m)

  -- a queued place has handed its height on
  on : (p t : ℕ) → Queued end p → (e : Leads b ks ls os n p t) → height_at end.certs p - dist e.which ≤ height_at end.certs t
  unfolding passed
  on p t (i, l, d) e =
      let m = came i l in
      let g : Grows (at i) end = visited_grows b ks ls cs os n q r i 4096 (omega (arith, most)) in
      let g2 : Grows (at (suc i)) end = visited_grows b ks ls cs os n q r (suc i) 4096 (omega (arith, most)) in
      let d2 : place_at (at i).queue i ≡ p = sym (g.entries i m).1 ∙ d in
      let u : Queued (at i) p = (i, m, d2) in
      let step : at (suc i) ≡ passed b ks ls (at i) p = visited-next b ks ls (start cs q) i m ∙ ap (passed b ks ls (at i)) d2 in
      let up : height_at (passed b ks ls (at i) p).certs t ≤ height_at end.certs t = rw step at (g2.rises t) in
      omega (
        arith,
        ap (λ (c : ℕ). c % 4096) (g.words p u),
        handed_gets b ks ls cs os n q r (at i) (visited_sane b ks ls cs os n q r i) p u (reach b ks p) e.which t e.live (omega arith) e.to,
      )

  -- so tops stay
  top_same : (p : ℕ) → top_at cs2 p ≡ top_at cs p
  top_same p =
      let e : get_or cs2 p 0 / 32768 % 2 ≡ get_or cs p 0 / 32768 % 2 = omega (arith, traversed_flags p) in ap (λ (x : ℕ). eqb x 1) e

  module _ (H : ℕ) (tops : Tops H cs os n) (met : Met b H ks ls cs os n) (but : OnBut q b ks ls cs os n) where
    -- a live link
    abbrev LinkedTo : ℕ → ℕ → Type 0
    LinkedTo = Leads b ks ls os n

    -- every place has handed its height on
    all_on : (p t : ℕ) → LinkedTo p t → height_at cs2 p - (round_at ks p - round_at ks t) ≤ height_at cs2 t
    all_on p t e =
        rw is
        (queued_or end p
        (λ u. omega (arith, on p t u e, (r.falls p e.which t e.from e.live e.to).1))
        (λ u. omega (
          arith,
          but p t (λ x. u (rw x (grows_queued (start cs q) end begun q (start-queued cs q)))) e,
          ap (λ (c : ℕ). c % 4096) (done.old p u),
          rw is at (traversed-rises t),
        )))

    -- so no top gives a place more than its height
    bound : (t p : ℕ) → Top cs2 os n t → Path LinkedTo t p → height_from H (round_at ks) t p ≤ height_at cs2 p
    bound t p (u, x) w =
        (along (λ y. (round_at ks y ≤ round_at ks t) × (height_from H (round_at ks) t y ≤ height_at cs2 y))
        (λ y z e (l, g). (omega (arith, down b ks ls cs os n q r y z e), omega (arith, down b ks ls cs os n q r y z e, all_on y z e))) w
        (omega arith, omega (arith, tops t (u, sym (top_same t) ∙ x), traversed-rises t))).1

    -- and some top gives it that
    found : (p : ℕ) → Used os n p → Given b H ks ls cs2 os n p (height_at cs2 p)
    found p v =
        subst (λ l. Given b H ks ls cs2 os n p (height_at l p)) (sym is)
        (queued_or end p (λ u. rw (done.held p u) (new u (met q r.first))) (λ u. rw (done.old p u) (old (met p v))))
      where
        old : {h : ℕ} → Given b H ks ls cs os n p h → Given b H ks ls cs2 os n p h
        old (inl e) = inl e
        old (inr (t, (u, x), w, e)) = inr (t, (u, top_same t ∙ x), w, e)

        new : Queued end p → Given b H ks ls cs os n q (height_at cs q) → Given b H ks ls cs2 os n p (height_at cs q - (round_at ks q - round_at ks p))
        new u (inl e) = inl (omega arith)
        new u (inr (t, (v, x), w, e)) =
            let a : round_at ks p ≤ round_at ks q = path_down (down b ks ls cs os n q r) (done.path p u) in
            let c : round_at ks q ≤ round_at ks t = path_down (down b ks ls cs os n q r) w in
            inr (t, (v, top_same t ∙ x), append w (done.path p u), omega arith)

    -- every used place's stored height is its height by paths
    pub traversed_heights : Heights b H ks ls cs2 os n
    traversed_heights p u = record { bound = λ t. bound t p; met = found p u }
