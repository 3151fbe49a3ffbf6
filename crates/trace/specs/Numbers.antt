-- Numbers, digests and ids in bytes, big-endian.
use Rattle.std.specs.Prelude.{ℕ, zero, suc, ◌+◌, ◌*◌, ◌^◌, ◌≡◌, refl, List, [], ◌∷◌, ◌++◌, get_or}
use Rattle.std.proofs.Common.{sym, ap, ◌∙◌, arith, add-zero, zero-add, suc-add}
use Rattle.laws.specs.Bytes.{number, value, value-append}
use Rattle.spec.specs.Ids.{Id}
use Rattle.models.specs.Digest.{words, digest_at}
use Rattle.models.specs.Parts.{id_of}
use Rattle.models.specs.declared.parts.PointId.{PointId}

-- "all big-endian": the number in the m bytes of f from p on
unfoldable pub number_at : List ℕ → ℕ → ℕ → ℕ
number_at f p m = value 0 (words f p m)

-- "id (round 4, author 1, digest 32)"
unfoldable pub id_at : List ℕ → ℕ → Id
id_at f p = record { round = number_at f p 4; author = get_or f (p + 4) 0; digest = number_at f (p + 5) 32 }

-- the digest in the 32 bytes from p on as four words
unfoldable pub digest_words : List ℕ → ℕ → List ℕ
digest_words f p = number_at f p 8 ∷ number_at f (p + 8) 8 ∷ number_at f (p + 16) 8 ∷ number_at f (p + 24) 8 ∷ []

-- the id in the 37 bytes from p on, as the code has it
unfoldable pub point_id_at : List ℕ → ℕ → PointId
point_id_at f p = record { round = record { 0 = number_at f p 4 }; author = get_or f (p + 4) 0; digest = record { 0 = digest_words f (p + 5) } }

-- ---- laws

-- m words, then n more
pub words_append : (f : List ℕ) (p m n q : ℕ) → q ≡ p + m → words f p m ++ words f q n ≡ words f p (m + n)
unfolding words
words_append f p zero n q e = rw (e, add-zero p, zero-add n) refl
words_append f p (suc m) n q e = rw (suc-add m n) (ap (λ (xs : List ℕ). get_or f p 0 ∷ xs) (words_append f (p + 1) m n q (omega arith)))

-- the number in two bytes
pub number-two : (f : List ℕ) (p a b : ℕ) → a ≡ get_or f p 0 → b ≡ get_or f (p + 1) 0 → a * 256 + b ≡ number_at f p 2
unfolding number_at value number words
number-two f p a b i j = rw (i, j, zero-add (get_or f p 0)) refl

-- the number in four bytes
pub number-four : (f : List ℕ) (p a b c d : ℕ) → a ≡ get_or f p 0 → b ≡ get_or f (p + 1) 0 → c ≡ get_or f (p + 2) 0 → d ≡ get_or f (p + 3) 0
    → ((a * 256 + b) * 256 + c) * 256 + d ≡ number_at f p 4
unfolding number_at value number words
number-four f p a b c d i j k l =
    let u : p + 1 + 1 ≡ p + 2 = omega arith in
    let v : p + 2 + 1 ≡ p + 3 = omega arith in
    rw (i, j, k, l, u, v, zero-add (get_or f p 0)) refl

-- four bytes after a number
then-four : (acc : ℕ) (f : List ℕ) (p : ℕ) → acc * 4294967296 + number_at f p 4 ≡ value acc (words f p 4)
unfolding number_at value number words
then-four acc f p = omega arith

-- one run of bytes after another
run_append : (f : List ℕ) (p m n : ℕ) → value (value 0 (words f p m)) (words f (p + m) n) ≡ number_at f p (m + n)
unfolding number_at
run_append f p m n = sym (value-append 0 (words f p m) (words f (p + m) n)) ∙ ap (value 0) (words_append f p m n (p + m) refl)

-- the number in eight bytes
pub number_eight : (f : List ℕ) (p h l : ℕ) → h ≡ number_at f p 4 → l ≡ number_at f (p + 4) 4 → h * 4294967296 + l ≡ number_at f p 8
unfolding number_at
number_eight f p h l a b = rw (a, b) (then-four (number_at f p 4) f (p + 4) ∙ run_append f p 4 4)

-- eight bytes after a number
then_eight : (acc : ℕ) (f : List ℕ) (p : ℕ) → acc * 2 ^ 64 + number_at f p 8 ≡ value acc (words f p 8)
unfolding number_at value number words
then_eight acc f p = omega arith

-- eight bytes more
eight_more : (f : List ℕ) (p m acc w : ℕ) → acc ≡ number_at f p m → w ≡ number_at f (p + m) 8 → acc * 2 ^ 64 + w ≡ number_at f p (m + 8)
unfolding number_at
eight_more f p m acc w a b = rw (a, b) (then_eight (number_at f p m) f (p + m) ∙ run_append f p m 8)

-- four words are the number in 32 bytes
pub digest_is : (f : List ℕ) (p : ℕ) → digest_at (digest_words f p) 0 ≡ number_at f p 32
unfolding digest_at digest_words number words number_at value
digest_is f p =
    eight_more f p 24 _ _
    (eight_more f p 16 _ _ (eight_more f p 8 _ _ (eight_more f p 0 0 (number_at f p 8) refl (ap (λ (k : ℕ). number_at f k 8) (sym (add-zero p)))) refl) refl)
    refl

-- an id from its parts
pub id_is : (f : List ℕ) (p r a : ℕ) (d : List ℕ) → r ≡ number_at f p 4 → a ≡ get_or f (p + 4) 0 → d ≡ digest_words f (p + 5)
    → ◌≡◌ {A = PointId} (record { round = record { 0 = r }; author = a; digest = record { 0 = d } }) (point_id_at f p)
unfolding point_id_at
id_is f p r a d i j k = rw (i, j, k) refl

-- read as 01's
pub id_read : (f : List ℕ) (p : ℕ) (i : PointId) → i ≡ point_id_at f p → id_of i ≡ id_at f p
unfolding point_id_at id_at
id_read f p i e = ap id_of e ∙ rw (digest_is f (p + 5)) refl
