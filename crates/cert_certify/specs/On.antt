-- Heights that are those of paths: what a place hands on, and what stays where links are added.
use Rattle.std.specs.Prelude.{ℕ, suc, ◌-◌, ◌≤◌, ◌≡◌, List, ◌≢◌}
use Rattle.std.proofs.Common.{sym, ◌∙◌, ap₂, inl, inr, ⊎_elim, arith}
use Rattle.spec.specs.Paths.{here}
use Rattle.spec.specs.Graph.{path_down, snoc, carry}
use Rattle.models.specs.Tables.{round_at, Used}
use Rattle.tables_heights.specs.View.{height_at, top_at}
use Rattle.tables_heights.specs.Refines.{Top, Leads, Heights}
use Rattle.cert_certify.specs.Sane.{Rooted, down}
use Rattle.cert_certify.specs.Refines.{Tops, Met, OnBut}

module _ (b H : ℕ) (ks ls cs os : List ℕ) (n q : ℕ) (root : Rooted b ks ls cs os n q) (heights_are : Heights b H ks ls cs os n) where
  -- a link leads to a used place
  lands : (p x : ℕ) → Leads b ks ls os n p x → Used os n x
  lands p x e = (root.falls p e.which x e.from e.live e.to).0

  -- every place has handed its height on
  pub handed_on : (p x : ℕ) → Leads b ks ls os n p x → height_at cs p - (round_at ks p - round_at ks x) ≤ height_at cs x
  handed_on p x e =
      let fall = down b ks ls cs os n q root in
      let l = fall p x e in
      ⊎_elim (λ z. omega arith) (λ (y, to, w, z). omega (arith, l, z, path_down fall w, (heights_are x (lands p x e)).bound y to (snoc w e))) (heights_are p e.from).met

  -- tables with the same rounds, heights and tops, in which only q has other links, and more of them
  module _ (ks2 ls2 cs2 : List ℕ) (rounds : (p : ℕ) → Used os n p → round_at ks2 p ≡ round_at ks p) (heights : (p : ℕ) → height_at cs2 p ≡ height_at cs p) (marks : (p : ℕ) → top_at cs2 p ≡ top_at cs p)
      (more : (p x : ℕ) → Leads b ks ls os n p x → Leads b ks2 ls2 os n p x) (less : (p x : ℕ) → p ≢ q → Leads b ks2 ls2 os n p x → Leads b ks ls os n p x) where
    -- tops are what they were
    was_top : (x : ℕ) → Top cs2 os n x → Top cs os n x
    was_top x (u, e) = (u, sym (marks x) ∙ e)

    -- every top has a top's height
    pub still_tops : Tops H cs2 os n
    still_tops x to = omega (arith, heights x, (heights_are x to.0).bound x (was_top x to) here)

    -- every height is what some top gives
    pub still_met : Met b H ks2 ls2 cs2 os n
    still_met p u =
        ⊎_elim
        (λ z. inl (heights p ∙ z))
        (λ (x, (y, e), w, z). inr (x, (y, marks x ∙ e), carry more w, heights p ∙ (z ∙ ap₂ (λ (r o : ℕ). suc H - (r - o)) (sym (rounds x y)) (sym (rounds p u)))))
        (heights_are p u).met

    -- every place but q has handed its height on
    pub still_on : OnBut q b ks2 ls2 cs2 os n
    still_on p x d e =
        let old = less p x d e in
        omega (arith, heights p, heights x, rounds p old.from, rounds x (lands p x old), handed_on p x old)
