-- The references owed at the reported rounds as events, round by round (01: inspector.rs, `take_events`).
use Rattle.std.specs.Prelude.{ℕ, zero, suc, ◌+◌, ◌-◌, ◌<◌, ◌≤◌, ◌≡◌, Bool, get_or}
use Rattle.std.proofs.Math.Path.{refl, sym}
use Rattle.std.proofs.Common.{ap, subst, ◌∙◌, arith}
use mathlib.Core.List.{List, []}
use Rattle.std.proofs.Math.Bool.{false}
use Rattle.laws.specs.Lists.{up_to}
use Rattle.laws.specs.Peers.{member}
use Rattle.spec.specs.Store.{Store}
use Rattle.spec.specs.Inspect.{Event, not_referenced, no_inclusions, only_if, event_bytes, shown, over}
use Rattle.spec.specs.Inspection.{first_shown, before, inspected_round}
use Rattle.inspector_references.specs.Sets.{none-member}
use Rattle.inspector_events.specs.declared.emitted.Emitted.{Emitted}
use Rattle.inspector_events.specs.Told.{Told, Ready, told_none, upto_more, upto_ready}
use Rattle.inspector_faults.specs.Refines.{over-rounds}
use Rattle.inspector_rounds.specs.Rounds.{owed_to, SignersHold, below_all}

-- the references owed at round r
abbrev owed_at : Store → ℕ → List Event
owed_at v r = up_to 32 (no_inclusions v (inspected_round v r))

-- none, if no list has any
nothing : {A : Type 0} (n : ℕ) (f : ℕ → List A) → ((i : ℕ) → f i ≡ []) → up_to n f ≡ []
unfolding up_to
nothing zero f h = refl
nothing (suc n) f h = rw (nothing n f h, h n) refl

module _ (v : Store) (w : Bool) (b : List ℕ) (e : Emitted) (f : ℕ) (is : f ≡ first_shown v) (low n : ℕ) (all : n ≡ low - f) where
  -- there is room for all rounds
  rounds_ready : Ready event_bytes w b e (over (no_inclusions v) (shown v low)) → Ready event_bytes w b e (owed_to v n)
  rounds_ready r = subst (Ready event_bytes w b e) (over-rounds v (no_inclusions v) low ∙ ap (owed_to v) (omega (arith, all, is))) r

  module _ (k : ℕ) (m : Emitted) (b₁ : List ℕ) (s : Told event_bytes w b e (owed_to v k) m b₁) where
    pub rounds-told : k ≤ n → n ≤ k → Told event_bytes w b e (over (no_inclusions v) (shown v low)) m b₁
    rounds-told l g = subst (λ xs. Told event_bytes w b e xs m b₁) (ap (owed_to v) (below_all k n low f (first_shown v) l g all is) ∙ sym (over-rounds v (no_inclusions v) low)) s

    -- a round with signers
    module _ (r : ℕ) (at : r ≡ f + k) where
      here : owed_at v (first_shown v + k) ≡ owed_at v r
      here = ap (owed_at v) (ap (λ x. x + k) (sym is) ∙ sym at)

      pub round_ready : k < n → Ready event_bytes w b e (over (no_inclusions v) (shown v low)) → Ready event_bytes w b₁ m (owed_at v r)
      round_ready l g = subst (Ready event_bytes w b₁ m) here (upto_ready event_bytes w b e (λ j. owed_at v (first_shown v + j)) k m b₁ s n l (rounds_ready g))

      pub round-told : (q q' : Emitted) (b₂ b₃ : List ℕ) → Told event_bytes w b₁ m (owed_at v r) q b₂ → q' ≡ q → b₃ ≡ b₂ → Told event_bytes w b e (owed_to v (k + 1)) q' b₃
      round-told q q' b₂ b₃ t i j = upto_more event_bytes w b e (λ j. owed_at v (first_shown v + j)) k m b₁ s q q' b₂ b₃ (subst (λ xs. Told event_bytes w b₁ m xs q b₂) (sym here) t) i j

    -- a round without: nothing is owed
    pub round-none : (sg : List ℕ) → SignersHold v low sg → k < n → get_or sg k 0 ≡ 0 → (q : Emitted) (b₂ : List ℕ) → q ≡ m → b₂ ≡ b₁ → Told event_bytes w b e (owed_to v (k + 1)) q b₂
    unfolding no_inclusions only_if
    round-none sg h l z q b₂ i j =
        upto_more event_bytes w b e (λ j. owed_at v (first_shown v + j)) k m b₁ s m q b₁ b₂
        (subst (λ xs. Told event_bytes w b₁ m xs m b₁) (sym (nothing 32 (no_inclusions v (inspected_round v (first_shown v + k))) none)) (told_none event_bytes w b₁ m)) i j
      where
        none : (a : ℕ) → no_inclusions v (inspected_round v (first_shown v + k)) a ≡ []
        none a =
            let d : not_referenced (before v (first_shown v + k)) v (first_shown v + k) a ≡ false = sym (h.cells k (omega (arith, l, all, is)) a) ∙ (ap (λ x. member x a) z ∙ none-member a) in
            rw d refl
