-- The kinds of recorded calls.
use Rattle.std.specs.Prelude.{ℕ, ◌≡◌, refl, Bool, true, false, ◌&&◌, cond, eqb, leb}
use Rattle.std.proofs.Common.{ne_eqb}

-- "start, round, name, resolve, certify, commit, remove, drop, gap question; reset". An outlook has no kind in a trace; the bench's programs
-- have one for it. Broken: none of these
pub data Kind : Type 0 where
  Start : Kind
  Round : Kind
  Name : Kind
  Resolve : Kind
  Certify : Kind
  Commit : Kind
  Remove : Kind
  Drop : Kind
  Gap : Kind
  Reset : Kind
  Outlook : Kind
  Broken : Kind

-- "Kinds 1 to 9: start, round, name, resolve, certify, commit, remove, drop, gap question; reset is 10"; the bench's outlook is 11
unfoldable pub kind_of : ℕ → Kind
kind_of k =
    cond (eqb k 1) Start (cond (eqb k 2) Round (cond (eqb k 3) Name (cond (eqb k 4) Resolve (cond (eqb k 5) Certify (cond (eqb k 6) Commit (
    cond (eqb k 7) Remove (cond (eqb k 8) Drop (cond (eqb k 9) Gap (cond (eqb k 10) Reset (cond (eqb k 11) Outlook Broken))))))))))

-- the kinds of a trace
unfoldable pub kind_ok : ℕ → Bool
kind_ok k = leb 1 k && leb k 10

-- those that are known, the bench's outlook among them if w says so
unfoldable pub kind_known : Bool → ℕ → Bool
kind_known w k = cond (w && eqb k 11) true (kind_ok k)

-- every kind but broken
abbrev pub known : Kind → Bool
known k = elim k [ Start ↦ true | Round ↦ true | Name ↦ true | Resolve ↦ true | Certify ↦ true | Commit ↦ true | Remove ↦ true | Drop ↦ true | Gap ↦ true | Reset ↦ true | Outlook ↦ true | Broken ↦ false ]

-- no other number is a kind
pub kind-none : (k : ℕ) → (k ≡ 1 → ⊥) → (k ≡ 2 → ⊥) → (k ≡ 3 → ⊥) → (k ≡ 4 → ⊥) → (k ≡ 5 → ⊥) → (k ≡ 6 → ⊥) → (k ≡ 7 → ⊥) → (k ≡ 8 → ⊥)
    → (k ≡ 9 → ⊥) → (k ≡ 10 → ⊥) → (k ≡ 11 → ⊥) → kind_of k ≡ Broken
unfolding kind_of
kind-none k a b c d e f g h i j l =
    rw (ne_eqb k 1 a, ne_eqb k 2 b, ne_eqb k 3 c, ne_eqb k 4 d, ne_eqb k 5 e, ne_eqb k 6 f, ne_eqb k 7 g, ne_eqb k 8 h, ne_eqb k 9 i, ne_eqb k 10 j, ne_eqb k 11 l) refl
