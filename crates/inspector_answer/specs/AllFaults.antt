-- The events of the points' faults, of all rounds that a remove reports (01: inspector.rs, `take_events`).
use Rattle.std.specs.Prelude.{ℕ, ◌+◌, ◌*◌, ◌-◌, ◌≤◌, ◌<◌, ◌≡◌, List, ◌++◌, Bool, true, length}
use Rattle.std.proofs.Common.{sym, subst, ◌∙◌, arith}
use Rattle.std.proofs.Math.Path.{ap}
use Rattle.laws.specs.Lists.{up_to}
use Rattle.spec.specs.Store.{Store}
use Rattle.spec.specs.Rules.{counts_as_started}
use Rattle.spec.specs.Inspect.{is_trans_invalid, is_invalid, is_ill_formed, shown, Event, singles, equivocations, over, event_bytes}
use Rattle.spec.specs.Inspection.{first_shown}
use Rattle.models.specs.Digest.{Fit}
use Rattle.models.specs.Tables.{Inside}
use Rattle.dag_round_keys.specs.Sorted.{Sorted}
use Rattle.commit_state.specs.declared.state.State.{State}
use Rattle.tables_test.specs.Model.{places_says, shape_says}
use Rattle.tables_test.specs.View.{view}
use Rattle.tables_test.specs.Refines.{Started, counted}
use Rattle.back_history.specs.Refines.{well}
use Rattle.inspector_events.specs.declared.emitted.Emitted.{Emitted}
use Rattle.inspector_events.specs.Told.{Told, Ready, ready_first, ready_rest, told-then}
use Rattle.inspector_faults.specs.declared.Fault.{Fault}
use Rattle.inspector_faults.specs.declared.Fault.TheVariants as fault
use Rattle.inspector_faults.specs.Faults.{round_faults}
use Rattle.inspector_faults.specs.Refines.{trans_invalid_are, invalid_are, ill_formed_are, equivocations_are}

-- those of one fault, of the rounds below b
unfoldable pub fault_events : Fault → Store → ℕ → List Event
fault_events fault.TransInvalid v b = over (singles 1 is_trans_invalid v) (shown v b)
fault_events fault.Invalid v b = over (singles 2 is_invalid v) (shown v b)
fault_events fault.IllFormed v b = over (singles 3 is_ill_formed v) (shown v b)
fault_events fault.Equivocated v b = over (equivocations v) (shown v b)

-- those of all four
unfoldable pub all_faults : Store → ℕ → List Event
all_faults v b = fault_events fault.TransInvalid v b ++ (fault_events fault.Invalid v b ++ (fault_events fault.IllFormed v b ++ fault_events fault.Equivocated v b))

-- ---- one fault

module _ (s : State) (ks ls cs os : List ℕ) (fk : Fit ks) (fl : Fit ls) (h : counts_as_started (view s ks ls cs os) ≡ true) where
  -- the store
  abbrev v : Store
  v = view s ks ls cs os

  abbrev t : Started s ks ls cs os
  t = counted s ks ls cs os fk fl h

  -- its positions may be read
  pub tables_ready : (length ks ≡ length os * 8) × (s.count ≤ length os) × Inside os s.count (length os)
  tables_ready = let (a, b, c) = shape_says ks ls cs os t.shaped in (a, t.count_ok, t.facts.inside)

  pub order_ready : Sorted ks os s.count × (length os ≤ 4096) × (length cs ≡ length os)
  order_ready = let (a, b, c) = shape_says ks ls cs os t.shaped in (t.facts.sorted, places_says _ t.places_ok, c)

  -- the rounds from `first` on, x of them
  module _ (first low x : ℕ) (e : first ≡ first_shown v) (d : x ≡ low - first) where
    -- are retained
    pub rounds_fit : low ≤ s.top.0 → (j : ℕ) → j < x → first + j ≤ 4_000_000_000
    unfolding view
    rounds_fit l j m = let w = well s ks ls cs os fk fl t in omega (arith, l, m, d, w.high)

    -- what the code sends of them
    events_are : (f : Fault) → up_to x (λ j. round_faults ks cs os s.count f (first + j)) ≡ fault_events f v low
    unfolding fault_events
    events_are f = (λ i. up_to ((d ∙ ap (λ y. low - y) e) i) (λ j. round_faults ks cs os s.count f (e i + j))) ∙ each f
      where
        each : (f : Fault) → up_to (low - first_shown v) (λ j. round_faults ks cs os s.count f (first_shown v + j)) ≡ fault_events f v low
        each fault.TransInvalid = trans_invalid_are s ks ls cs os fk fl t low
        each fault.Invalid = invalid_are s ks ls cs os fk fl t low
        each fault.IllFormed = ill_formed_are s ks ls cs os fk fl t low
        each fault.Equivocated = equivocations_are s ks ls cs os fk fl t low

    module _ (w : Bool) (b : List ℕ) (m : Emitted) (f : Fault) where
      pub events_ready : Ready event_bytes w b m (fault_events f v low) → Ready event_bytes w b m (up_to x (λ j. round_faults ks cs os s.count f (first + j)))
      events_ready = subst (Ready event_bytes w b m) (sym (events_are f))

      pub events-told : (r : Emitted) (b' : List ℕ) → Told event_bytes w b m (up_to x (λ j. round_faults ks cs os s.count f (first + j))) r b' → Told event_bytes w b m (fault_events f v low) r b'
      events-told r b' = subst (λ xs. Told event_bytes w b m xs r b') (events_are f)

-- ---- the four, one after the other

module _ (v : Store) (low : ℕ) (w : Bool) (b : List ℕ) (e : Emitted) (h : Ready event_bytes w b e (all_faults v low)) where
  abbrev x₁ : List Event
  x₁ = fault_events fault.TransInvalid v low

  abbrev x₂ : List Event
  x₂ = fault_events fault.Invalid v low

  abbrev x₃ : List Event
  x₃ = fault_events fault.IllFormed v low

  abbrev x₄ : List Event
  x₄ = fault_events fault.Equivocated v low

  pub ready_trans_invalid : Ready event_bytes w b e x₁
  unfolding all_faults
  ready_trans_invalid = ready_first event_bytes w b e x₁ (x₂ ++ (x₃ ++ x₄)) h

  module _ (e₁ : Emitted) (b₁ : List ℕ) (t₁ : Told event_bytes w b e x₁ e₁ b₁) where
    h₁ : Ready event_bytes w b₁ e₁ (x₂ ++ (x₃ ++ x₄))
    unfolding all_faults
    h₁ = ready_rest event_bytes w b e x₁ (x₂ ++ (x₃ ++ x₄)) e₁ b₁ t₁ h

    pub ready_invalid : Ready event_bytes w b₁ e₁ x₂
    ready_invalid = ready_first event_bytes w b₁ e₁ x₂ (x₃ ++ x₄) h₁

    module _ (e₂ : Emitted) (b₂ : List ℕ) (t₂ : Told event_bytes w b₁ e₁ x₂ e₂ b₂) where
      h₂ : Ready event_bytes w b₂ e₂ (x₃ ++ x₄)
      h₂ = ready_rest event_bytes w b₁ e₁ x₂ (x₃ ++ x₄) e₂ b₂ t₂ h₁

      pub ready_ill_formed : Ready event_bytes w b₂ e₂ x₃
      ready_ill_formed = ready_first event_bytes w b₂ e₂ x₃ x₄ h₂

      module _ (e₃ : Emitted) (b₃ : List ℕ) (t₃ : Told event_bytes w b₂ e₂ x₃ e₃ b₃) where
        pub ready_equivocated : Ready event_bytes w b₃ e₃ x₄
        ready_equivocated = ready_rest event_bytes w b₂ e₂ x₃ x₄ e₃ b₃ t₃ h₂

        pub faults-told : (r : Emitted) (b₄ : List ℕ) → Told event_bytes w b₃ e₃ x₄ r b₄ → Told event_bytes w b e (all_faults v low) r b₄
        unfolding all_faults
        faults-told r b₄ t₄ =
            told-then event_bytes w b e x₁ (x₂ ++ (x₃ ++ x₄)) e₁ r b₁ b₄ t₁
            (told-then event_bytes w b₁ e₁ x₂ (x₃ ++ x₄) e₂ r b₂ b₄ t₂ (told-then event_bytes w b₂ e₂ x₃ x₄ e₃ r b₃ b₄ t₃ t₄))
