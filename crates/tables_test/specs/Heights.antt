-- Heights that the tables hold are the store's heights.
use Rattle.std.specs.Prelude.{ℕ, ◌≤◌, ◌≡◌, refl, List, true}
use Rattle.std.proofs.Common.{sym, ◌∙◌, ap₂, subst, inl, inr, ⊎_elim}
use Rattle.std.proofs.Math.Path.{ap}
use Rattle.laws.specs.Test.{both, and_l, and_r}
use Rattle.spec.specs.Store as store
use Rattle.spec.specs.Store.{Store, links_to, resolved}
use Rattle.spec.specs.Paths as paths
use Rattle.spec.specs.Paths.{LinkedTo, height_from, IsHeight, height}
use Rattle.spec.specs.Graph.{carry}
use Rattle.spec.specs.Heights.{height_unique}
use Rattle.spec.specs.Links.{resolved-named}
use Rattle.spec.specs.HeightEquations.{Sized, height_is}
use Rattle.models.specs.Digest.{Fit}
use Rattle.models.specs.Cert.{flags_of}
use Rattle.models.specs.Tables.{round_at, status_at, Used}
use Rattle.dag_round_keys.specs.Sorted.{Sorted}
use Rattle.tables_heights.specs.View.{height_at}
use Rattle.tables_heights.specs.Refines.{Leads, Top, Heights}
use Rattle.tables_links.specs.Named.{Links}
use Rattle.commit_state.specs.View.{point_at}
use Rattle.tables_test.specs.View.{seen_at, seen_used, seen_named}
use Rattle.tables_test.specs.Edges.{edge_elim, edge_intro}

-- a height by other links, rounds and tops that are the same
height_move : {LinkedTo F : ℕ → ℕ → Type 0} {r s : ℕ → ℕ} {T U : ℕ → Type 0} {H p m : ℕ} → ((x y : ℕ) → LinkedTo x y → F x y) → ((x y : ℕ) → F x y → LinkedTo x y)
    → ((x : ℕ) → T x → U x × (r x ≡ s x)) → ((x : ℕ) → U x → T x) → r p ≡ s p → IsHeight LinkedTo r T H p m → IsHeight F s U H p m
height_move {r = r} {s = s} {H = H} {p = p} {m = m} f g t u e h = record {
  bound = λ x a k. subst (λ z. z ≤ m) (same x (t x (u x a)).1) (h.bound x (u x a) (carry g k));
  met = ⊎_elim (λ z. inl z) (λ (x, a, k, z). inr (x, (t x a).0, carry f k, z ∙ same x (t x a).1)) h.met;
}
  where
    same : (x : ℕ) → r x ≡ s x → height_from H r x p ≡ height_from H s x p
    same x d = rw (d, e) refl

module _ (b n : ℕ) (ks ls cs os : List ℕ) (sorted : Sorted ks os n) (right : Links b ks ls os n) (low : (q : ℕ) → Used os n q → b ≤ round_at ks q) (fine : (q : ℕ) → Used os n q → status_at ks q ≤ 5) (fk : Fit ks) (fl : Fit ls)
    (v : Store) (sized : Sized v) (sees : (q : ℕ) → v.pt q ≡ seen_at ks ls cs os n q) where
  -- a used place is a named one
  pub named_used : (q : ℕ) → (v.pt q).named ≡ true → Used os n q
  named_used q h = seen_named ks ls cs os n q (ap (λ p. p.named) (sym (sees q)) ∙ h)

  pub used_point : (q : ℕ) → Used os n q → v.pt q ≡ point_at ks ls cs q
  used_point q u = sees q ∙ seen_used ks ls cs os n q u

  pub used_named : (q : ℕ) → Used os n q → (v.pt q).named ≡ true
  unfolding point_at
  used_named q u = ap (λ p. p.named) (used_point q u)

  pub used_round : (q : ℕ) → Used os n q → store.round_at v q ≡ round_at ks q
  unfolding point_at
  used_round q u = ap (λ p. p.id.round) (used_point q u)

  -- links
  pub link_elim : (p q : ℕ) → LinkedTo v p q → Leads b ks ls os n p q
  unfolding links_to
  link_elim p q h =
      let u : Used os n p = named_used p (resolved-named (v.pt p) (and_l _ _ h)) in
      let w : Used os n q = named_used q (and_l _ _ (and_r (resolved (v.pt p)) _ h)) in
      edge_elim b n ks ls cs os sorted right low fk fl p q u w (fine p u) (ap₂ links_to (sym (used_point p u)) (sym (used_point q w)) ∙ h)

  pub link_intro : (p q : ℕ) → Leads b ks ls os n p q → LinkedTo v p q
  link_intro p q e = let (w, h) = edge_intro b n ks ls cs os sorted right low fk fl p q e in ap₂ links_to (used_point p e.from) (used_point q w) ∙ h

  -- tops
  top_elim : (t : ℕ) → paths.Top v t → Top cs os n t × (store.round_at v t ≡ round_at ks t)
  unfolding point_at flags_of
  top_elim t h =
      let u : Used os n t = named_used t (and_l _ _ h) in
      ((u, ap (λ p. p.flags.top) (sym (used_point t u)) ∙ and_r (v.pt t).named _ h), used_round t u)

  top_intro : (t : ℕ) → Top cs os n t → paths.Top v t
  unfolding point_at flags_of
  top_intro t (u, h) = both (used_named t u) (ap (λ p. p.flags.top) (used_point t u) ∙ h)

  -- the heights by paths are the store's
  pub heights_are_elim : Heights b v.conf.history_rounds ks ls cs os n → (q : ℕ) → Used os n q → height_at cs q ≡ height v q
  heights_are_elim h q u =
      height_unique (height_move link_intro link_elim (λ t a. (top_intro t a, sym (used_round t a.0))) (λ t a. (top_elim t a).0) (sym (used_round q u)) (h q u)) (height_is v sized q)

  pub heights_are_intro : ((q : ℕ) → Used os n q → height_at cs q ≡ height v q) → Heights b v.conf.history_rounds ks ls cs os n
  heights_are_intro h q u = subst (IsHeight _ _ _ _ q) (sym (h q u)) (height_move link_elim link_intro top_elim top_intro (used_round q u) (height_is v sized q))
