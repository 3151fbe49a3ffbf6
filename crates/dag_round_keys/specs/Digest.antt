-- A digest as one number: its four words to the base 2 ^ 64, the most significant first. Keys compare as rounds, then as digests.
use Rattle.std.specs.Prelude.{ℕ, ◌+◌, ◌*◌, ◌^◌, ◌<◌, ◌≡◌, List, [], ◌∷◌, true, false, ◌&&◌, ◌||◌, length, get_or, drop, eqb, ltb}
use Rattle.std.proofs.Common.{sym, ◌∙◌, arith, eq-eqb, ne_eqb, eqb-true, lt-ltb, le-ltb}
use Rattle.std.proofs.Math.Path.{ap}
use Rattle.laws.specs.Test.{same_or, le_or, same_test}
use Rattle.laws.specs.Bytes.{Below, number, number_lt}
use Rattle.dag_round_keys.specs.Key.{key, before, same, before-next, before_here, same_refl, same-eq, words_same, words-each, words-before}
use Rattle.models.specs.Tables.{round_at, digest_of}
use Rattle.models.specs.Digest.{digest_words_lem, words, digest_at, Fit, words-length, words-below}

-- digits in the order of a dictionary are in the order of their numbers
number-before : (b m : ℕ) (xs ys : List ℕ) → length xs ≡ length ys → Below b xs → Below b ys → before xs ys ≡ ltb (number b m xs) (number b m ys)
unfolding before number
number-before b m [] [] e f g = sym (le-ltb m m (omega arith))
number-before b m [] (y ∷ ys) e f g = absurd (omega arith)
number-before b m (x ∷ xs) [] e f g = absurd (omega arith)
number-before b m (x ∷ xs) (y ∷ ys) e f g =
    let l : length xs ≡ length ys = omega arith in
    same_or x y
    (λ s. before-next x y xs ys s ∙ (number-before b (m * b + x) xs ys l f.1 g.1 ∙ ap (λ (z : ℕ). ltb (number b (m * b + x) xs) (number b (m * b + z) ys)) s))
    (λ n. before_here x y xs ys n
    ∙ le_or x y
    (λ k. lt-ltb x y (omega arith) ∙ sym (lt-ltb _ _ (number_lt b (m * b + x) (m * b + y) xs ys l f.1 g.1 (omega arith))))
    (λ k. let h = number_lt b (m * b + y) (m * b + x) ys xs (sym l) g.1 f.1 (omega arith) in
    le-ltb x y (omega arith) ∙ sym (le-ltb (number b (m * b + x) xs) (number b (m * b + y) ys) (omega arith))))

module _ (t u : List ℕ) (p q : ℕ) where
  -- four equal words: one digest
  pub digest_alike : ((k : ℕ) → k < 4 → get_or t (p + k) 0 ≡ get_or u (q + k) 0) → digest_at t p ≡ digest_at u q
  unfolding digest_at
  digest_alike h = ap (number (2 ^ 64) 0) (words_same t u p q 4 h)

  -- the test of it passes
  pub digest_yes : ((k : ℕ) → k < 4 → get_or t (p + k) 0 ≡ get_or u (q + k) 0) → eqb (digest_at t p) (digest_at u q) ≡ true
  digest_yes h = eq-eqb _ _ (digest_alike h)

  -- a word that differs
  pub digest_no : Fit t → Fit u → (k : ℕ) → k < 4 → (get_or t (p + k) 0 ≡ get_or u (q + k) 0 → ⊥) → eqb (digest_at t p) (digest_at u q) ≡ false
  digest_no f g k l n = ne_eqb _ _ (λ e. n (words-each t u p q 4 ((digest_words_lem t u p q f g).1 e) k l))

-- a digest is the rest of its key
pub key_digest : (t u : List ℕ) (i j : ℕ) → key t i ≡ key u j → digest_of t i ≡ digest_of u j
unfolding key digest_at
key_digest t u i j e = ap (λ (k : List ℕ). number (2 ^ 64) 0 (drop 1 k)) e

-- the same, as tests
pub digest_same : (t u : List ℕ) (p q : ℕ) → Fit t → Fit u → same (words t p 4) (words u q 4) ≡ eqb (digest_at t p) (digest_at u q)
digest_same t u p q f g =
    same_test _ _
    (λ h. eq-eqb _ _ ((digest_words_lem t u p q f g).0 (same-eq _ _ h)))
    (λ h. rw ((digest_words_lem t u p q f g).1 (eqb-true _ _ h)) (same_refl (words u q 4)))

-- the words are in order exactly if the numbers are
pub digest_before : (t u : List ℕ) (p q : ℕ) → Fit t → Fit u → before (words t p 4) (words u q 4) ≡ ltb (digest_at t p) (digest_at u q)
unfolding digest_at
digest_before t u p q f g =
    number-before (2 ^ 64) 0 (words t p 4) (words u q 4) (words-length t p 4 ∙ sym (words-length u q 4)) (words-below t p 4 f) (words-below u q 4 g)

module _ (t u : List ℕ) (p q : ℕ) where
  -- four equal words: not lower
  pub digest_level : ((k : ℕ) → k < 4 → get_or t (p + k) 0 ≡ get_or u (q + k) 0) → ltb (digest_at t p) (digest_at u q) ≡ false
  digest_level h = let e = digest_alike t u p q h in le-ltb (digest_at t p) (digest_at u q) (omega arith)

  -- the first words that differ decide
  pub digest_first : Fit t → Fit u → (k : ℕ) → k < 4 → ((j : ℕ) → j < k → get_or t (p + j) 0 ≡ get_or u (q + j) 0) → (get_or t (p + k) 0 ≡ get_or u (q + k) 0 → ⊥) → ltb (digest_at t p) (digest_at u q) ≡ ltb (get_or t (p + k) 0) (get_or u (q + k) 0)
  digest_first f g k l h n = sym (digest_before t u p q f g) ∙ words-before t u p q 4 k l h n

-- a key comes before: a lower round, or the same and a lower digest
pub before_is : (t u : List ℕ) (i j : ℕ) → Fit t → Fit u → before (key t i) (key u j) ≡ (ltb (round_at t i) (round_at u j) || (eqb (round_at t i) (round_at u j) && ltb (digest_of t i) (digest_of u j)))
unfolding key before
before_is t u i j f g = ap (λ z. ltb (round_at t i) (round_at u j) || (eqb (round_at t i) (round_at u j) && z)) (digest_before t u (i * 8 + 2) (j * 8 + 2) f g)

-- keys are equal: the same round and the same digest
pub same_is : (t u : List ℕ) (i j : ℕ) → Fit t → Fit u → same (key t i) (key u j) ≡ (eqb (round_at t i) (round_at u j) && eqb (digest_of t i) (digest_of u j))
unfolding key same
same_is t u i j f g = ap (λ z. eqb (round_at t i) (round_at u j) && z) (digest_same t u (i * 8 + 2) (j * 8 + 2) f g)
