-- Places that are marked: by one target word, by the links of a place, by the sweep.
use Rattle.std.specs.Prelude.{ℕ, zero, suc, ◌-◌, ◌<◌, ◌≡◌, List, Bool, true, false, ◌⊎◌, length, get_or, set, replicate}
use Rattle.std.proofs.Common.{sym, subst, ◌∙◌, inl, inr, ⊎_elim, arith, length-set, get_or-set_same, get_or-set_other}
use Rattle.std.proofs.lemmas.List.{length-replicate, get_or-replicate}
use Rattle.std.proofs.Math.ListN.{get_or-eq_default}
use Rattle.laws.specs.Test.{by_test, clash, same_or, le_or}
use Rattle.models.specs.Tables.{place_at, target_at}
use Rattle.models.specs.Live.{reach}
use Rattle.back_history.specs.Down.{down_from}
use Rattle.back_history.specs.Model.{put, put-none, put-place, put_out, marked, marked-length, is_uncommitted, hand_on, swept, alone}

-- place q is marked
abbrev pub On : List Bool → ℕ → Type 0
On m q = get_or m q false ≡ true

-- it is one of the places
pub on_inside : (m : List Bool) (q : ℕ) → On m q → q < length m
on_inside m q h = le_or (length m) q (λ l. absurd (clash h (get_or-eq_default m false l))) (λ l. l)

-- ---- one target word

-- a mark keeps the others
set_keeps : (m : List Bool) (i q : ℕ) → On m q → On (set m i true) q
set_keeps m i q h =
    same_or q i
    (λ e. subst (On (set m i true)) (sym e) (get_or-set_same m i true false (subst (λ x. x < length m) e (on_inside m q h))))
    (λ n. get_or-set_other m i q true false n ∙ h)

-- a target word keeps the marks
put_keeps : (m : List Bool) (t q : ℕ) → On m q → On (put m t) q
put_keeps m t q h =
    same_or t 0
    (λ e. subst (λ x. On x q) (put-none m t e) h)
    (λ d. le_or t 4096
    (λ l. subst (λ x. On x q) (put-place m t d l) (set_keeps m (t - 1) q h))
    (λ l. subst (λ x. On x q) (put_out m t d l) h))

-- it marks the place that it names
put_sets : (m : List Bool) (t q : ℕ) → length m ≡ 4096 → t ≡ suc q → q < 4096 → On (put m t) q
put_sets m t q z e l =
    let d : t - 1 ≡ q = omega arith in
    subst (λ x. On x q) (put-place m t (λ f. omega arith) (omega arith)) (subst (λ i. On (set m i true) q) (sym d) (get_or-set_same m q true false (omega arith)))

-- it marks no other
put_only : (m : List Bool) (t q : ℕ) → On (put m t) q → (On m q) ⊎ (t ≡ suc q)
put_only m t q h =
    same_or t 0
    (λ e. inl (subst (λ x. On x q) (sym (put-none m t e)) h))
    (λ d. le_or t 4096
    (λ l. let g : On (set m (t - 1) true) q = subst (λ x. On x q) (sym (put-place m t d l)) h in
    same_or q (t - 1) (λ e. inr (omega arith)) (λ n. inl (sym (get_or-set_other m (t - 1) q true false n) ∙ g)))
    (λ l. inl (subst (λ x. On x q) (sym (put_out m t d l)) h)))

-- ---- the links of a place

-- links keep the marks
pub marked-keeps : (ls : List ℕ) (m : List Bool) (p k q : ℕ) → On m q → On (marked ls m p k) q
unfolding marked
marked-keeps ls m p zero q h = h
marked-keeps ls m p (suc k) q h = put_keeps (marked ls m p k) (target_at ls p k) q (marked-keeps ls m p k q h)

-- a link of the first k leads to q
pub marked_sets : (ls : List ℕ) (m : List Bool) (p k j q : ℕ) → length m ≡ 4096 → j < k → target_at ls p j ≡ suc q → q < 4096 → On (marked ls m p k) q
unfolding marked
marked_sets ls m p zero j q z l e b = absurd (omega arith)
marked_sets ls m p (suc k) j q z l e b =
    same_or j k
    (λ d. put_sets (marked ls m p k) (target_at ls p k) q (marked-length ls m p k ∙ z) (subst (λ i. target_at ls p i ≡ suc q) d e) b)
    (λ n. put_keeps (marked ls m p k) (target_at ls p k) q (marked_sets ls m p k j q z (omega arith) e b))

-- marked before, or the target of a link
pub marked-only : (ls : List ℕ) (m : List Bool) (p k q : ℕ) → On (marked ls m p k) q → (On m q) ⊎ ((j : ℕ) × (j < k) × (target_at ls p j ≡ suc q))
unfolding marked
marked-only ls m p zero q h = inl h
marked-only ls m p (suc k) q h =
    ⊎_elim
    (λ g. ⊎_elim inl (λ (j, l, e). inr (j, omega arith, e)) (marked-only ls m p k q g))
    (λ e. inr (k, omega arith, e))
    (put_only (marked ls m p k) (target_at ls p k) q h)

-- ---- the sweep keeps what is marked

-- so does a place
hand-keeps : (b : ℕ) (ks ls cs : List ℕ) (m : List Bool) (p q : ℕ) → On m q → On (hand_on b ks ls cs m p) q
unfolding hand_on
hand-keeps b ks ls cs m p q h = by_test (is_uncommitted cs m p) (λ y. rw y (marked-keeps ls m p (reach b ks p) q h)) (λ n. rw n h)

-- so do positions
pub swept_keeps : (b : ℕ) (ks ls cs os : List ℕ) (m : List Bool) (high k q : ℕ) → On m q → On (swept b ks ls cs os m high k) q
unfolding swept down_from
swept_keeps b ks ls cs os m high zero q h = h
swept_keeps b ks ls cs os m high (suc k) q h = hand-keeps b ks ls cs (swept b ks ls cs os m high k) (place_at os (high - suc k)) q (swept_keeps b ks ls cs os m high k q h)

-- ---- the marks at first

-- 4,096 places
pub alone-length : (a : ℕ) → length (alone a) ≡ 4096
unfolding alone
alone-length a = length-set (replicate 4096 false) a true ∙ length-replicate {A = Bool} 4096 false

-- the anchor is marked
pub alone_on : (a : ℕ) → a < 4096 → On (alone a) a
unfolding alone
alone_on a l = get_or-set_same (replicate 4096 false) a true false (subst (λ n. a < n) (sym (length-replicate {A = Bool} 4096 false)) l)

-- no other place is
pub alone-only : (a q : ℕ) → On (alone a) q → q ≡ a
unfolding alone
alone-only a q h =
    same_or q a
    (λ e. e)
    (λ n. absurd (clash h (get_or-set_other (replicate 4096 false) a q true false n ∙ get_or-replicate {A = Bool} 4096 q false false (omega (arith, alone-length a, on_inside (alone a) q h)))))
