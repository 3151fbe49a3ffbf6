-- The marked places of a round, and how many they are (01: back.rs; 02: N1).
use Rattle.std.specs.Prelude.{ℕ, ◌+◌, ◌≤◌, ◌≡◌, Bool, true, false, length, get_or}
use Rattle.std.proofs.Math.Path.{refl, ap}
use Rattle.std.proofs.Common.{sym, ◌∙◌, add-one, length-append}
use mathlib.Core.List.{List, [], ◌∷◌, ◌++◌, append-nil}
use Rattle.laws.specs.Lists.{up_to}
use Rattle.models.specs.Tables.{place_at, Inside}
use Rattle.back_history.specs.Refines.{one, picked}

-- what the order must be for a scan of these positions
abbrev pub Run : List ℕ → ℕ → ℕ → Type 0
Run os low high = (low ≤ high) × (high ≤ length os) × (length os ≤ 4096) × Inside os high (length os)

-- the marked places, of the k positions from low on
unfoldable pub linked_by : List ℕ → List Bool → ℕ → ℕ → List ℕ
linked_by os m low k = picked os (λ q. get_or m q false) low k

-- ---- the steps of the code

module _ (os : List ℕ) (m : List Bool) (low : ℕ) where
  -- none at first
  pub count_none : 0 ≡ length (linked_by os m low 0)
  unfolding linked_by picked up_to
  count_none = refl

  module _ (k q : ℕ) (at : q ≡ place_at os (low + k)) where
    -- one position more
    linked-next : linked_by os m low (k + 1) ≡ linked_by os m low k ++ one (get_or m q false) q
    unfolding linked_by picked up_to
    linked-next = ap (linked_by os m low) (add-one k) ∙ ap (λ x. linked_by os m low k ++ one (get_or m x false) x) (sym at)

    -- its place is marked
    linked-yes : get_or m q false ≡ true → linked_by os m low (k + 1) ≡ linked_by os m low k ++ (q ∷ [])
    unfolding one
    linked-yes t = linked-next ∙ ap (λ b. linked_by os m low k ++ one b q) t

    -- it isn't
    linked_no : get_or m q false ≡ false → linked_by os m low (k + 1) ≡ linked_by os m low k
    unfolding one
    linked_no f = linked-next ∙ (ap (λ b. linked_by os m low k ++ one b q) f ∙ append-nil (linked_by os m low k))

    pub count_yes : (c r : ℕ) → c ≡ length (linked_by os m low k) → get_or m q false ≡ true → r ≡ c + 1 → r ≡ length (linked_by os m low (k + 1))
    count_yes c r h t d = d ∙ (ap (λ x. x + 1) h ∙ sym (ap length (linked-yes t) ∙ length-append (linked_by os m low k) (q ∷ [])))

    pub count_no : (c r : ℕ) → c ≡ length (linked_by os m low k) → get_or m q false ≡ false → r ≡ c → r ≡ length (linked_by os m low (k + 1))
    count_no c r h f d = d ∙ (h ∙ sym (ap length (linked_no f)))

  -- all positions
  pub count_end : (c k n : ℕ) → c ≡ length (linked_by os m low k) → k ≡ n → c ≡ length (linked_by os m low n)
  count_end c k n h e = rw e at h
