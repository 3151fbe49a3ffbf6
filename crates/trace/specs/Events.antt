-- The events that a remove reports, read from bytes.
use Rattle.std.specs.Prelude.{ℕ, ◌+◌, ◌-◌, ◌*◌, ◌/◌, ◌<◌, ◌≤◌, ◌≡◌, List, Bool, true, false, cond, eqb, leb, length, Option, None, Some}
use Rattle.std.proofs.Math.Path.{refl, sym, subst}
use Rattle.std.proofs.Common.{ap, ◌∙◌, arith}
use Rattle.std.proofs.Math.ListN.{get_or, get_or-eq_default}
use borrow.Author.Tests.{ne_eqb, le-leb, lt-leb, leb-true}
use Rattle.laws.specs.Test.{by_test, cond_yes, cond_no}
use Rattle.models.specs.declared.parts.Round.{Round}
use Rattle.trace.specs.Numbers.{number_at}
use Rattle.trace.specs.declared.events.Event.{Event}
use Rattle.trace.specs.declared.events.Event.TheVariants.{Single, Equivocated, EvidenceNoInclusion}

-- the event, if its n bytes from p on are there
unfoldable pub whole_event : List ℕ → ℕ → ℕ → Event → Option Event
whole_event b p n e = cond (leb (p + n) (length b)) (Some e) None

-- "each after its kind (1 byte) .. kind 1 to 3 with an id"
abbrev pub single_in : List ℕ → ℕ → ℕ → Option Event
single_in b p k = whole_event b p 38 (Single k)

-- "4 author, round, count, digests", "Counts are 4 bytes."
abbrev pub equivocated_in : List ℕ → ℕ → Option Event
equivocated_in b p = let n = number_at b (p + 6) 4 in whole_event b p (10 + n * 32) (Equivocated (get_or b (p + 1) 0) (record { 0 = number_at b (p + 2) 4 }) n)

-- "5 signer, count, blamed ids, count, proof ids"
abbrev pub no_inclusion_in : List ℕ → ℕ → Option Event
no_inclusion_in b p =
    let x = number_at b (p + 2) 4 in
    let y = number_at b (p + 6 + x * 37) 4 in
    whole_event b p (10 + (x + y) * 37) (EvidenceNoInclusion (get_or b (p + 1) 0) x y)

-- by its kind; none of another kind
unfoldable pub event_of : List ℕ → ℕ → ℕ → Option Event
event_of b p k =
    cond (eqb k 1) (single_in b p 1) (cond (eqb k 2) (single_in b p 2) (cond (eqb k 3) (single_in b p 3) (
    cond (eqb k 4) (equivocated_in b p) (cond (eqb k 5) (no_inclusion_in b p) None))))

abbrev pub event_in : List ℕ → ℕ → Option Event
event_in b p = event_of b p (get_or b p 0)

-- its bytes are within b
unfoldable pub Fits : List ℕ → ℕ → Option Event → Type 0
Fits b p (Some (Single k)) = p + 38 ≤ length b
Fits b p (Some (Equivocated a r n)) = p + 10 + n * 32 ≤ length b
Fits b p (Some (EvidenceNoInclusion a x y)) = p + 10 + (x + y) * 37 ≤ length b
Fits b p None = Unit {0}

-- ---- laws

module _ (b : List ℕ) (p : ℕ) where
  -- whether the bytes are there
  pub event_cut : (n : ℕ) (e : Event) → length b < p + n → None ≡ whole_event b p n e
  unfolding whole_event
  event_cut n e l = sym (cond_no _ _ _ (lt-leb (p + n) (length b) l) refl)

  pub event_whole : (n : ℕ) (e : Event) → p + n ≤ length b → Some e ≡ whole_event b p n e
  unfolding whole_event
  event_whole n e l = sym (cond_yes _ _ _ (le-leb (p + n) (length b) l) refl)

  -- kind 4
  module _ (n : ℕ) (e : n ≡ number_at b (p + 6) 4) (l : p + 10 ≤ length b) where
    pub equivocated_cut : (length b - p - 10) / 32 < n → None ≡ equivocated_in b p
    equivocated_cut m = event_cut _ _ (omega arith)

    pub equivocated_whole : (a r : ℕ) → a ≡ get_or b (p + 1) 0 → r ≡ number_at b (p + 2) 4 → n ≤ (length b - p - 10) / 32 → Some (Equivocated a (record { 0 = r }) n) ≡ equivocated_in b p
    equivocated_whole a r i j m = rw (i, j, e) (event_whole _ _ (omega arith))

  -- kind 5
  module _ (x : ℕ) (e : x ≡ number_at b (p + 2) 4) (l : p + 10 ≤ length b) where
    pub blamed_cut : (length b - p - 10) / 37 < x → None ≡ no_inclusion_in b p
    blamed_cut m = event_cut _ _ (omega arith)

    module _ (y : ℕ) (h : y ≡ number_at b (p + 6 + x * 37) 4) (m : x ≤ (length b - p - 10) / 37) where
      pub proofs-cut : (length b - p - 10) / 37 - x < y → None ≡ no_inclusion_in b p
      proofs-cut n = let g : y ≡ number_at b (p + 6 + number_at b (p + 2) 4 * 37) 4 = rw (sym e) h in event_cut _ _ (omega arith)

      pub no_inclusion_whole : (a : ℕ) → a ≡ get_or b (p + 1) 0 → y ≤ (length b - p - 10) / 37 - x → Some (EvidenceNoInclusion a x y) ≡ no_inclusion_in b p
      no_inclusion_whole a i n =
          let g : y ≡ number_at b (p + 6 + number_at b (p + 2) 4 * 37) 4 = rw (sym e) h in
          rw (i, g, e) (event_whole _ _ (omega arith))

  -- beyond the bytes
  pub event_beyond : length b ≤ p → None ≡ event_in b p
  unfolding event_of
  event_beyond l = rw (get_or-eq_default b 0 l) refl

  -- by cases on the kind
  pub event_kind : (x : Option Event) (j k : ℕ) → j ≡ get_or b p 0 → j ≡ k → x ≡ event_of b p k → x ≡ event_in b p
  event_kind x j k i e h = h ∙ ap (event_of b p) (sym e ∙ i)

  pub event_none : (j : ℕ) → j ≡ get_or b p 0 → (j ≡ 1 → ⊥) → (j ≡ 2 → ⊥) → (j ≡ 3 → ⊥) → (j ≡ 4 → ⊥) → (j ≡ 5 → ⊥) → None ≡ event_in b p
  unfolding event_of
  event_none j i k l m n o = rw (sym i, ne_eqb j 1 k, ne_eqb j 2 l, ne_eqb j 3 m, ne_eqb j 4 n, ne_eqb j 5 o) refl

  fits_cut : Fits b p None
  unfolding Fits
  fits_cut = tt

  fits_whole : (n : ℕ) (e : Event) → (p + n ≤ length b → Fits b p (Some e)) → Fits b p (whole_event b p n e)
  unfolding whole_event
  fits_whole n e f =
      by_test (leb (p + n) (length b))
      (λ t. subst (Fits b p) (sym (cond_yes _ _ _ t refl)) (f (leb-true _ _ t)))
      (λ t. subst (Fits b p) (sym (cond_no _ _ _ t refl)) fits_cut)

  fits-single : (k : ℕ) → Fits b p (single_in b p k)
  unfolding Fits
  fits-single k = fits_whole 38 (Single k) (λ l. l)

  fits_equivocated : (a n : ℕ) (r : Round) → Fits b p (whole_event b p (10 + n * 32) (Equivocated a r n))
  unfolding Fits
  fits_equivocated a n r = fits_whole (10 + n * 32) (Equivocated a r n) (λ l. omega arith)

  fits-no_inclusion : (a x y : ℕ) → Fits b p (whole_event b p (10 + (x + y) * 37) (EvidenceNoInclusion a x y))
  unfolding Fits
  fits-no_inclusion a x y = fits_whole (10 + (x + y) * 37) (EvidenceNoInclusion a x y) (λ l. omega arith)

  fits_either : (t : Bool) (x y : Option Event) → Fits b p x → Fits b p y → Fits b p (cond t x y)
  fits_either true x y f g = f
  fits_either false x y f g = g

  -- an event that is read is within the bytes
  pub event_fits : (e x : Option Event) → e ≡ event_in b p → e ≡ x → Fits b p x
  unfolding event_of
  event_fits e x i h =
      let k = get_or b p 0 in
      let n = number_at b (p + 6) 4 in
      let f : Fits b p (equivocated_in b p) = fits_equivocated (get_or b (p + 1) 0) n (record { 0 = number_at b (p + 2) 4 }) in
      let y = number_at b (p + 2) 4 in
      let g : Fits b p (no_inclusion_in b p) = fits-no_inclusion (get_or b (p + 1) 0) y (number_at b (p + 6 + y * 37) 4) in
      subst (Fits b p) (sym i ∙ h)
      (fits_either (eqb k 1) (single_in b p 1) _ (fits-single 1) (fits_either (eqb k 2) (single_in b p 2) _ (fits-single 2) (fits_either (eqb k 3) (single_in b p 3) _ (fits-single 3)
      (fits_either (eqb k 4) (equivocated_in b p) _ f (fits_either (eqb k 5) (no_inclusion_in b p) None g fits_cut)))))
