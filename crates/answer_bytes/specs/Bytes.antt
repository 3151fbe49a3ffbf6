-- Bytes in a lent buffer, and those of an id, from its place's words (01: parts.rs).
use Rattle.std.specs.Prelude.{ℕ, zero, suc, ◌+◌, ◌*◌, ◌/◌, ◌%◌, ◌^◌, ◌<◌, ◌≤◌, ◌≡◌, List, [], ◌∷◌, ◌++◌, length, get_or, set, take}
use Rattle.std.proofs.Common.{sym, ap, ap₂, ◌∙◌, append-nil, append_assoc, arith, add-one, add-zero, add-suc, mul_assoc, pow-suc, take-suc, take_all, length-take-le}
use Rattle.std.proofs.Math.Nat.{pow-zero}
use Rattle.laws.specs.Bytes.{be, number, written, written-append, be-length, and_then}
use Rattle.spec.specs.Ids.{Id, id_bytes}
use Rattle.models.specs.Digest.{Fit, words, digest_at}
use Rattle.models.specs.Tables.{round_at, author_at, digest_of}

-- the id in the keys of place q
abbrev pub place_id : List ℕ → ℕ → Id
place_id ks q = record { round = round_at ks q; author = author_at ks q; digest = digest_of ks q }

-- ---- bytes put one after another

-- one byte more
pub bytes-more : (b d g xs : List ℕ) (at k : ℕ) → k < length xs → d ≡ written b at (take k xs) → g ≡ set d (at + k) (get_or xs k 0) → g ≡ written b at (take (k + 1) xs)
unfolding written
bytes-more b d g xs at k l e q =
    q ∙ (ap (λ (y : List ℕ). set y (at + k) (get_or xs k 0)) e ∙ sym (ap (written b at) (ap (λ (n : ℕ). take n xs) (add-one k) ∙ take-suc xs k 0 l) ∙ written-append b at (take k xs) (get_or xs k 0 ∷ []) (at + k) (ap (λ (n : ℕ). at + n) (sym (length-take-le k xs (omega arith))))))

pub bytes_end : (b d xs : List ℕ) (at k : ℕ) → length xs ≤ k → d ≡ written b at (take k xs) → d ≡ written b at xs
bytes_end b d xs at k l e = e ∙ ap (written b at) (take_all k xs l)

-- ---- numbers

-- offsets
twice : (p : ℕ) → p + 1 + 1 ≡ p + 2
twice p = omega arith

thrice : (p : ℕ) → p + 1 + 1 + 1 ≡ p + 3
thrice p = omega arith

-- the bytes of a number with n more digits to the base 256
be_join : (m n a b : ℕ) → b < 256 ^ n → be (m + n) (a * 256 ^ n + b) ≡ be m a ++ be n b
unfolding be
be_join m zero a b l = rw (add-zero m, append-nil (be m a)) (ap (be m) (first (256 ^ 0) (pow-zero 256) l))
  where
    first : (w : ℕ) → w ≡ 1 → b < w → a * w + b ≡ a
    first w e k = rw e (omega arith)
be_join m (suc n) a b l =
    rw (add-suc m n, be)
    (ap₂ (λ (x y : ℕ). be (m + n) x ++ (y ∷ [])) (upper (256 ^ suc n) (256 ^ n) (pow-suc 256 n)) (lower (256 ^ suc n) (256 ^ n) (pow-suc 256 n))
    ∙ (ap (λ (x : List ℕ). x ++ (b % 256 ∷ [])) (be_join m n a (b / 256) (small (256 ^ suc n) (256 ^ n) (pow-suc 256 n) l)) ∙ append_assoc (be m a) (be n (b / 256)) (b % 256 ∷ [])))
  where
    times : (w x : ℕ) → w ≡ x * 256 → a * w ≡ a * x * 256
    times w x e = rw e (sym (mul_assoc a x 256))

    upper : (w x : ℕ) → w ≡ x * 256 → (a * w + b) / 256 ≡ a * x + b / 256
    upper w x e = let t = times w x e in omega (arith, t)

    lower : (w x : ℕ) → w ≡ x * 256 → (a * w + b) % 256 ≡ b % 256
    lower w x e = let t = times w x e in omega (arith, t)

    small : (w x : ℕ) → w ≡ x * 256 → b < w → b / 256 < x
    small w x e k = omega arith

-- a digest's bytes are those of its words
pub digest_bytes : (t : List ℕ) (p : ℕ) → Fit t → be 8 (get_or t (p + 0) 0) ++ (be 8 (get_or t (p + 1) 0) ++ (be 8 (get_or t (p + 2) 0) ++ be 8 (get_or t (p + 3) 0))) ≡ be 32 (digest_at t p)
unfolding digest_at words number
digest_bytes t p f = rw (add-zero p, sym (twice p), sym (thrice p)) (sym (whole (get_or t p 0) (get_or t (p + 1) 0) (get_or t (p + 1 + 1) 0) (get_or t (p + 1 + 1 + 1) 0) (f (p + 1)) (f (p + 1 + 1)) (f (p + 1 + 1 + 1))))
  where
    nothing : (w : ℕ) → 0 * 2 ^ 64 + w ≡ w
    nothing w = omega arith

    whole : (w x y z : ℕ) → x < 2 ^ 64 → y < 2 ^ 64 → z < 2 ^ 64 → be 32 ((((0 * 2 ^ 64 + w) * 2 ^ 64 + x) * 2 ^ 64 + y) * 2 ^ 64 + z) ≡ be 8 w ++ (be 8 x ++ (be 8 y ++ be 8 z))
    whole w x y z a b c =
        be_join 24 8 _ z c
        ∙ (ap (λ (l : List ℕ). l ++ be 8 z) (be_join 16 8 _ y b ∙ ap (λ (l : List ℕ). l ++ be 8 y) (be_join 8 8 _ x a ∙ ap (λ (k : ℕ). be 8 k ++ be 8 x) (nothing w)))
        ∙ (append_assoc (be 8 w ++ be 8 x) (be 8 y) (be 8 z) ∙ append_assoc (be 8 w) (be 8 x) (be 8 y ++ be 8 z)))

-- round, author and digest of a place, put one after the other, are the bytes of its id
pub id-put : (ks : List ℕ) (q r a : ℕ) (b b₁ b₂ b₃ : List ℕ) (at e₁ e₂ : ℕ) → r ≡ round_at ks q → a ≡ author_at ks q → e₁ ≡ at + 4 → b₁ ≡ written b at (be 4 r) → e₂ ≡ e₁ + 1
    → b₂ ≡ written b₁ e₁ (be 1 a) → b₃ ≡ written b₂ e₂ (be 32 (digest_of ks q)) → b₃ ≡ written b at (id_bytes (place_id ks q))
unfolding id_bytes
id-put ks q r a b b₁ b₂ b₃ at e₁ e₂ round author x p y n d =
    and_then b b₁ b₃ at e₁ _ _ 4 (be-length 4 _) x (p ∙ ap (λ (v : ℕ). written b at (be 4 v)) round)
    (and_then b₁ b₂ b₃ e₁ e₂ _ _ 1 (be-length 1 _) y (n ∙ ap (λ (v : ℕ). written b₁ e₁ (be 1 v)) author) d)
