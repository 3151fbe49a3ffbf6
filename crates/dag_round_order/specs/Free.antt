-- The least place that is not in use.
use Rattle.std.specs.Prelude.{ℕ, ◌+◌, ◌<◌, ◌≡◌, refl, List, Bool, true, false, not, length, get_or, set}
use Rattle.std.proofs.Common.{sym, ◌∙◌, arith, add-one, get_or-set_same, get_or-set_other, eq-eqb, ne_eqb}
use Rattle.std.proofs.lemmas.Bool.{not-true}
use Rattle.laws.specs.Test.{same_or, not_yes, not_no}
use Rattle.laws.specs.Scan.{any, first, first_is, first_hit}
use Rattle.models.specs.Tables.{is_used}

-- the least place that is not, or `places`
unfoldable pub first_free : List ℕ → ℕ → ℕ → ℕ
first_free o n places = first (λ s. not (is_used o n s)) places

-- none is among none
pub used_none : (o : List ℕ) (s : ℕ) → is_used o 0 s ≡ false
unfolding is_used any
used_none o s = refl

-- the marks of `free_place`, after one position more
pub used_more : (o : List ℕ) (m : List Bool) (p s : ℕ) → get_or o p 0 < length m → get_or m s false ≡ is_used o p s → get_or (set m (get_or o p 0) true) s false ≡ is_used o (p + 1) s
unfolding is_used any
used_more o m p s l h =
    rw add-one
    (same_or (get_or o p 0) s
    (λ e. rw (eq-eqb (get_or o p 0) s e, e) (get_or-set_same m s true false (rw e at l)))
    (λ n. rw (ne_eqb (get_or o p 0) s n) (get_or-set_other m (get_or o p 0) s true false (λ e. n (sym e)) ∙ h)))

-- the place that is found is free
pub free_is_free : (o : List ℕ) (n places : ℕ) → first_free o n places < places → is_used o n (first_free o n places) ≡ false
unfolding first_free
free_is_free o n places l = not-true _ (first_hit _ places l)

-- all are used: none is found
pub free-none : (o : List ℕ) (n places : ℕ) → ((s : ℕ) → s < places → is_used o n s ≡ true) → first_free o n places ≡ places
unfolding first_free
free-none o n places all = first_is _ places places (omega arith) (λ s l. not_yes (all s l)) (λ l. absurd (omega arith))

-- s is free, and all lower ones are used: it is found
pub free-here : (o : List ℕ) (n places s : ℕ) → s < places → is_used o n s ≡ false → ((j : ℕ) → j < s → is_used o n j ≡ true) → first_free o n places ≡ s
unfolding first_free
free-here o n places s l h all = first_is _ places s (omega arith) (λ j m. not_yes (all j m)) (λ m. not_no h)
