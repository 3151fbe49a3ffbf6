-- Certificate words read as numbers (models/cert.rs).
-- certs, 1 word a place: top 0x8000, started 0x4000, completed 0x2000, committed 0x1000, height in the low 12 bits.
use Rattle.std.specs.Prelude.{ℕ, ◌%◌, ◌≡◌, refl, List, Bool, true, false, cond, get_or}
use Rattle.models.specs.Cert.{bit_of}

abbrev pub height_at : List ℕ → ℕ → ℕ
height_at cs q = get_or cs q 0 % 4096

-- the top bit
abbrev pub top_of : ℕ → Bool
top_of c = bit_of 0x8000 c

abbrev pub top_at : List ℕ → ℕ → Bool
top_at cs q = top_of (get_or cs q 0)

-- what a place has by its own word, T if it is a top
unfoldable pub own_of : ℕ → ℕ → ℕ
own_of T c = cond (top_of c) T 0

abbrev pub own_at : ℕ → List ℕ → ℕ → ℕ
own_at T cs q = own_of T (get_or cs q 0)

pub own_top : (T c : ℕ) → top_of c ≡ true → own_of T c ≡ T
unfolding own_of
own_top T c e = rw e refl

pub own-none : (T c : ℕ) → top_of c ≡ false → own_of T c ≡ 0
unfolding own_of
own-none T c e = rw e refl
