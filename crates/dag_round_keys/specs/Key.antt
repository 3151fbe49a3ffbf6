-- The key of a place, and the order of keys.
use Rattle.std.specs.Prelude.{ℕ, zero, suc, ◌+◌, ◌*◌, ◌<◌, ◌≤◌, ◌≡◌, refl, List, [], ◌∷◌, Bool, true, false, ◌&&◌, ◌||◌, ◌⊎◌, get_or, drop, replicate, eqb, ltb}
use Rattle.std.proofs.Common.{sym, ◌∙◌, ap, inl, inr, ⊎_elim, arith, add-zero, eq-eqb, ne_eqb, eqb-true, ltb-true, lt-ltb, le-ltb, ltb-false}
use Rattle.std.proofs.lemmas.Bool.{false≢true}
use Rattle.std.proofs.Math.Bool.{or-false}
use Rattle.laws.specs.Test.{both, and_l, and_r, or_cases, same_or}
use Rattle.models.specs.Tables.{round_at}
use Rattle.models.specs.Digest.{words}

-- the round, then the digest
unfoldable pub key : List ℕ → ℕ → List ℕ
key t i = get_or t (i * 8 + 0) 0 ∷ words t (i * 8 + 2) 4

-- word by word, as a dictionary
unfoldable pub before : List ℕ → List ℕ → Bool
before [] [] = false
before [] (y ∷ ys) = true
before (x ∷ xs) [] = false
before (x ∷ xs) (y ∷ ys) = ltb x y || (eqb x y && before xs ys)

-- word by word equal
unfoldable pub same : List ℕ → List ℕ → Bool
same [] [] = true
same [] (y ∷ ys) = false
same (x ∷ xs) [] = false
same (x ∷ xs) (y ∷ ys) = eqb x y && same xs ys

-- equal words: the rest decides
pub before-next : (x y : ℕ) (xs ys : List ℕ) → x ≡ y → before (x ∷ xs) (y ∷ ys) ≡ before xs ys
unfolding before
before-next x y xs ys e = rw (le-ltb x y (omega arith), eq-eqb x y e) refl

-- other words decide
pub before_here : (x y : ℕ) (xs ys : List ℕ) → (x ≡ y → ⊥) → before (x ∷ xs) (y ∷ ys) ≡ ltb x y
unfolding before
before_here x y xs ys n = rw (ne_eqb x y n) (or-false (ltb x y))

-- a lower word comes before
before-less : (x y : ℕ) (xs ys : List ℕ) → x < y → before (x ∷ xs) (y ∷ ys) ≡ true
unfolding before
before-less x y xs ys l = rw (lt-ltb x y l) refl

-- lower, or equal and the rest comes before
before_cases : (x y : ℕ) (xs ys : List ℕ) → before (x ∷ xs) (y ∷ ys) ≡ true → (x < y) ⊎ ((x ≡ y) × (before xs ys ≡ true))
unfolding before
before_cases x y xs ys h =
    ⊎_elim (λ l. inl (ltb-true x y l)) (λ e. inr (eqb-true x y (and_l _ _ e), and_r (eqb x y) _ e))
    (or_cases (ltb x y) (eqb x y && before xs ys) h)

-- none comes before itself
pub before_irrefl : (a : List ℕ) → before a a ≡ false
unfolding before
before_irrefl [] = refl
before_irrefl (x ∷ xs) = before-next x x xs xs refl ∙ before_irrefl xs

-- the order is transitive
pub before_trans : (a b c : List ℕ) → before a b ≡ true → before b c ≡ true → before a c ≡ true
unfolding before
before_trans [] [] c h k = absurd (false≢true h)
before_trans [] (y ∷ ys) [] h k = absurd (false≢true k)
before_trans [] (y ∷ ys) (z ∷ zs) h k = refl
before_trans (x ∷ xs) [] c h k = absurd (false≢true h)
before_trans (x ∷ xs) (y ∷ ys) [] h k = absurd (false≢true k)
before_trans (x ∷ xs) (y ∷ ys) (z ∷ zs) h k = go (before_cases x y xs ys h) (before_cases y z ys zs k) (before_trans xs ys zs)
  where
    go : (x < y) ⊎ ((x ≡ y) × (before xs ys ≡ true)) → (y < z) ⊎ ((y ≡ z) × (before ys zs ≡ true)) → (before xs ys ≡ true → before ys zs ≡ true → before xs zs ≡ true) → before (x ∷ xs) (z ∷ zs) ≡ true
    go (inl l) (inl m) r = before-less x z xs zs (omega arith)
    go (inl l) (inr m) r = before-less x z xs zs (omega arith)
    go (inr l) (inl m) r = before-less x z xs zs (omega arith)
    go (inr l) (inr m) r = before-next x z xs zs (l.0 ∙ m.0) ∙ r l.1 m.1

-- neither comes before the other: they are one
pub before-total : (a b : List ℕ) → before a b ≡ false → before b a ≡ false → a ≡ b
unfolding before
before-total [] [] h k = refl
before-total [] (y ∷ ys) h k = absurd (false≢true (sym h))
before-total (x ∷ xs) [] h k = absurd (false≢true (sym k))
before-total (x ∷ xs) (y ∷ ys) h k =
    same_or x y
    (λ e. rw (e, before-total xs ys (sym (before-next x y xs ys e) ∙ h) (sym (before-next y x ys xs (sym e)) ∙ k)) refl)
    (λ n. absurd (n (omega (arith, ltb-false x y (sym (before_here x y xs ys n) ∙ h), ltb-false y x (sym (before_here y x ys xs (λ e. n (sym e))) ∙ k)))))

-- a key equals itself
pub same_refl : (a : List ℕ) → same a a ≡ true
unfolding same
same_refl [] = refl
same_refl (x ∷ xs) = both (eq-eqb x x refl) (same_refl xs)

-- equal keys are one
pub same-eq : (a b : List ℕ) → same a b ≡ true → a ≡ b
unfolding same
same-eq [] [] h = refl
same-eq [] (y ∷ ys) h = absurd (false≢true h)
same-eq (x ∷ xs) [] h = absurd (false≢true h)
same-eq (x ∷ xs) (y ∷ ys) h = rw (eqb-true x y (and_l _ _ h), same-eq xs ys (and_r (eqb x y) _ h)) refl

-- rounds rise along the order
pub before-round : (t : List ℕ) (i j : ℕ) → before (key t i) (key t j) ≡ true → round_at t i ≤ round_at t j
unfolding key
before-round t i j h = ⊎_elim (λ l. omega arith) (λ e. omega (arith, e.0)) (before_cases _ _ (words t (i * 8 + 2) 4) (words t (j * 8 + 2) 4) h)

-- the least key of round r
abbrev pub round_key : ℕ → List ℕ
round_key r = r ∷ replicate 4 0

-- no words come before zeros
words-zeros : (t : List ℕ) (p m : ℕ) → before (words t p m) (replicate m 0) ≡ false
unfolding words before
words-zeros t p zero = refl
words-zeros t p (suc m) =
    same_or (get_or t p 0) 0
    (λ e. before-next (get_or t p 0) 0 (words t (p + 1) m) (replicate m 0) e ∙ words-zeros t (p + 1) m)
    (λ n. before_here (get_or t p 0) 0 (words t (p + 1) m) (replicate m 0) n ∙ le-ltb (get_or t p 0) 0 (omega arith))

-- before the least key of round r come the lower rounds
pub before-round_key : (t : List ℕ) (i r : ℕ) → before (key t i) (round_key r) ≡ ltb (round_at t i) r
unfolding key
before-round_key t i r =
    same_or (round_at t i) r
    (λ e. before-next _ _ _ _ e ∙ (words-zeros t (i * 8 + 2) 4 ∙ sym (le-ltb (round_at t i) r (omega arith))))
    (λ n. before_here _ _ _ _ n)

-- equal words, one by one
pub words_same : (t u : List ℕ) (p q m : ℕ) → ((j : ℕ) → j < m → get_or t (p + j) 0 ≡ get_or u (q + j) 0) → words t p m ≡ words u q m
unfolding words
words_same t u p q zero h = refl
words_same t u p q (suc m) h =
    rw (here, words_same t u (p + 1) (q + 1) m (λ j l. rw (over p j, over q j) (h (suc j) (omega arith)))) refl
  where
    here : get_or t p 0 ≡ get_or u q 0
    here = rw (add-zero p, add-zero q) at (h 0 (omega arith))

    over : (p j : ℕ) → p + 1 + j ≡ p + suc j
    over p j = omega arith

-- and back
pub words-each : (t u : List ℕ) (p q m : ℕ) → words t p m ≡ words u q m → (k : ℕ) → k < m → get_or t (p + k) 0 ≡ get_or u (q + k) 0
unfolding words
words-each t u p q zero e k l = absurd (omega arith)
words-each t u p q (suc m) e zero l = rw (add-zero p, add-zero q) (ap (λ (w : List ℕ). get_or w 0 0) e)
words-each t u p q (suc m) e (suc k) l = rw (over p k, over q k) at (words-each t u (p + 1) (q + 1) m (ap (drop 1) e) k (omega arith))
  where
    over : (p k : ℕ) → p + 1 + k ≡ p + suc k
    over p k = omega arith

-- words compare as the first of them that differ
pub words-before : (t u : List ℕ) (p q m k : ℕ) → k < m → ((j : ℕ) → j < k → get_or t (p + j) 0 ≡ get_or u (q + j) 0) → (get_or t (p + k) 0 ≡ get_or u (q + k) 0 → ⊥) → before (words t p m) (words u q m) ≡ ltb (get_or t (p + k) 0) (get_or u (q + k) 0)
unfolding words
words-before t u p q zero k l h n = absurd (omega arith)
words-before t u p q (suc m) zero l h n = rw (add-zero p, add-zero q) (before_here (get_or t p 0) (get_or u q 0) (words t (p + 1) m) (words u (q + 1) m) (rw (add-zero p, add-zero q) at n))
words-before t u p q (suc m) (suc k) l h n =
    before-next (get_or t p 0) (get_or u q 0) (words t (p + 1) m) (words u (q + 1) m) (rw (add-zero p, add-zero q) at (h 0 (omega arith)))
    ∙ rw (over p k, over q k) at (words-before t u (p + 1) (q + 1) m k (omega arith) (λ j i. rw (over p j, over q j) (h (suc j) (omega arith))) (rw (over p k, over q k) n))
  where
    over : (p k : ℕ) → p + 1 + k ≡ p + suc k
    over p k = omega arith

-- a key depends on its place's words alone
pub key-same : (t u : List ℕ) (i j : ℕ) → ((w : ℕ) → w < 8 → get_or t (i * 8 + w) 0 ≡ get_or u (j * 8 + w) 0) → key t i ≡ key u j
unfolding key
key-same t u i j h =
    rw (h 0 (omega arith), words_same t u (i * 8 + 2) (j * 8 + 2) 4 (λ w l. rw (over i w, over j w) (h (2 + w) (omega arith)))) refl
  where
    over : (i w : ℕ) → i * 8 + 2 + w ≡ i * 8 + (2 + w)
    over i w = omega arith
