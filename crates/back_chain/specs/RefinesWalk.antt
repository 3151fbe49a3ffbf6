-- The walk over the tables is that of document 01 (back.rs, 'Chain').
use Prim.Native.Nat.{ℕ, zero, suc, ◌+◌, ◌≤◌}
use Rattle.std.specs.Prelude.{◌≡◌, List, [], ◌∷◌, true}
use Rattle.std.proofs.Math.Path.{refl, ap}
use Rattle.std.proofs.Common.{sym, ◌∙◌, le-leb}
use native.Mathlib.Omega.{arith}
use Rattle.std.proofs.lemmas.Bool.{lt-leb}
use Rattle.spec.specs.Store.{Store}
use Rattle.spec.specs.Rules.{counts_as_started}
use Rattle.spec.specs.Chain as chain
use Rattle.spec.specs.Chain.{good, walk}
use Rattle.models.specs.Digest.{Fit}
use Rattle.models.specs.Parts.{id_of}
use Rattle.models.specs.declared.parts.PointId.{PointId}
use Rattle.models.specs.declared.refusal.Refusal.{Refusal}
use Rattle.commit_state.specs.declared.state.State.{State}
use Rattle.tables_test.specs.View.{view}
use Rattle.dag_round_points.specs.Model.{id_words}
use Rattle.back_walk.specs.declared.EnqueuedAnchor.{EnqueuedAnchor}
use Rattle.back_walk.specs.declared.Step.TheVariants.{Pass, End, Anchor}
use Rattle.models.specs.Ids.{top_id}
use Rattle.back_walk.specs.Model.{step_at}
use Rattle.back_walk.specs.Refines.{enqueued_of, Below, onward, top_fit, visit_is}
use Rattle.back_chain.specs.Chain.{chain_of, chain_out, chain-none, out_good, out_bad}
use Rattle.back_chain.specs.declared.Chain.{Chain}
use Rattle.std.specs.Prelude.{Err, Ok}
use Rattle.back_walk.specs.Model.{Stepped}

module _ (s : State) (ks ls cs os : List ℕ) (low : ℕ) where
  -- the k rounds from low on, downwards; i is the sought proof's id
  unfoldable pub walked : ℕ → Below
  walked zero i acc = good acc
  walked (suc k) i acc = onward ls (step_at s ks ls cs os low (low + k) i) (walked k) i acc

  -- ---- the code's steps

  module _ (k j : ℕ) (i : PointId) (acc : List chain.EnqueuedAnchor) (more : k ≡ suc j) (x : ℕ) (at : x ≡ low + j) (p : Stepped) (e : p ≡ step_at s ks ls cs os low x i) where
    -- the round that is visited
    step : (q : Stepped) → p ≡ q → step_at s ks ls cs os low (low + j) i ≡ q
    step q h = ap (λ (y : ℕ). step_at s ks ls cs os low y i) (sym at) ∙ (sym e ∙ h)

    pub walked-pass : p ≡ (Ok Pass) → walked j i acc ≡ walked k i acc
    unfolding walked onward
    walked-pass h = rw (more, walked, step (Ok Pass) h) refl

    pub walked_end : p ≡ (Ok End) → (c : Chain) → chain_of c.list c.count ≡ acc → chain_out (Ok c) ≡ walked k i acc
    unfolding walked onward
    walked_end h c l = out_good (Ok c) c refl ∙ rw (more, walked, step (Ok End) h, l) refl

    pub walked-bad : (r : Refusal) → p ≡ Err r → chain_out (Err r) ≡ walked k i acc
    unfolding walked onward
    walked-bad r h = out_bad (Err r) r refl ∙ rw (more, walked, step (Err r) h) refl

    pub walked-found : (f : EnqueuedAnchor) → p ≡ Ok (Anchor f) → (z : PointId) (l : List chain.EnqueuedAnchor) → z ≡ top_id ls f.anchor → l ≡ enqueued_of f ∷ acc → walked j z l ≡ walked k i acc
    unfolding walked onward
    walked-found f h z l a b = rw (more, walked, step (Ok (Anchor f)) h, a, b) refl

  pub walked_start : (k : ℕ) (i : PointId) (l : List EnqueuedAnchor) → walked k i (chain_of l 0) ≡ walked k i []
  walked_start k i l = ap (walked k i) (chain-none l)

  pub walked_none : (k : ℕ) (i : PointId) (acc : List chain.EnqueuedAnchor) → k ≡ 0 → (c : Chain) → chain_of c.list c.count ≡ acc → chain_out (Ok c) ≡ walked k i acc
  unfolding walked
  walked_none k i acc e c l = out_good (Ok c) c refl ∙ rw (e, l) refl

-- ---- the definitions' walk

-- what follows matters only for ids whose words fit
onward-same : (ls : List ℕ) (p : Stepped) (f g : Below) (i : PointId) (acc : List chain.EnqueuedAnchor) → Fit ls → Fit (id_words i) → ((z : PointId) (l : List chain.EnqueuedAnchor) → Fit (id_words z) → f z l ≡ g z l) → onward ls p f i acc ≡ onward ls p g i acc
unfolding onward
onward-same ls (Ok Pass) f g i acc fl fi h = h i acc fi
onward-same ls (Ok End) f g i acc fl fi h = refl
onward-same ls (Err r) f g i acc fl fi h = refl
onward-same ls (Ok (Anchor e)) f g i acc fl fi h = h _ _ (top_fit ls e.anchor fl)

module _ (s : State) (ks ls cs os : List ℕ) (fk : Fit ks) (fl : Fit ls) (c : counts_as_started (view s ks ls cs os) ≡ true) (low : ℕ) (room : s.bottom.0 ≤ low) where
  -- the store
  abbrev v : Store
  v = view s ks ls cs os

  pub walked_is : (k : ℕ) (i : PointId) (acc : List chain.EnqueuedAnchor) → low + k ≤ s.top.0 → Fit (id_words i) → walked s ks ls cs os low (suc k) i acc ≡ walk v low k (id_of i) acc
  unfolding walk walked
  walked_is zero i acc l fi =
      rw (plain low)
      (onward-same ls _ _ _ i acc fl fi (λ z m f. refl)
      ∙ (sym (visit_is s ks ls cs os fk fl c low low room (omega arith) (λ y m. good m) i fi acc) ∙ ap (λ b. chain.visit v low b (λ y m. good m) (id_of i) acc) (le-leb low low (omega arith))))
    where
      plain : (n : ℕ) → n + 0 ≡ n
      plain n = omega arith
  walked_is (suc k) i acc l fi =
      onward-same ls _ _ (λ z m. walk v low k (id_of z) m) i acc fl fi (λ z m f. walked_is k z m (omega arith) f)
      ∙ (sym (visit_is s ks ls cs os fk fl c low (low + suc k) (omega arith) l (walk v low k) i fi acc) ∙ ap (λ b. chain.visit v (low + suc k) b (walk v low k) (id_of i) acc) (lt-leb (low + suc k) low (omega arith)))
