-- Rows of 11 words: how a table of them is filled, and the entries that they hold (01: inspector.rs).
use Prim.Native.Nat.{ℕ, zero, suc, ◌+◌, ◌-◌, ◌*◌, ◌^◌, ◌<◌, ◌≤◌}
use Rattle.std.specs.Prelude.{◌≡◌, Bool, cond, ltb, take, drop}
use Rattle.std.proofs.Math.Path.{refl, ap, ap₂}
use Rattle.std.proofs.Common.{sym, ◌∙◌, add-one, length-drop, take-suc, get_or-drop, get_or-append-add}
use mathlib.Core.List.{List, [], ◌∷◌, ◌++◌, map, map-append}
use Rattle.std.proofs.Math.Option.{none, some}
use native.Mathlib.Omega.{arith}
use Rattle.std.proofs.Math.ListN.{length, get_or, length-append, get_or-append}
use Rattle.std.proofs.Math.Seq.{take-length}
use Rattle.laws.specs.Test.{same_or}
use Rattle.laws.specs.Scan.{any, any_same}
use Rattle.laws.specs.Lists.{has, up_to}
use Rattle.laws.specs.Peers.{member}
use Rattle.spec.specs.Store.{Entry}
use Rattle.models.specs.Digest.{digest_at}
use Rattle.dag_round_keys.specs.Fill.{copied, filled-length, filled_in, filled_off}
use Rattle.dag_round_keys.specs.Digest.{digest_alike}
use Rattle.inspector_references.specs.Trusted.{has-take}
use Rattle.inspector_references.specs.Referring.{row_author, row_digest, row_previous, row_signed, row_peers}

-- ---- one row

-- four words that are the same have the same digest
four-alike : (xs ys : List ℕ) (p q : ℕ) → get_or xs (p + 0) 0 ≡ get_or ys (q + 0) 0 → get_or xs (p + 1) 0 ≡ get_or ys (q + 1) 0 → get_or xs (p + 2) 0 ≡ get_or ys (q + 2) 0 → get_or xs (p + 3) 0 ≡ get_or ys (q + 3) 0 → digest_at xs p ≡ digest_at ys q
four-alike xs ys p q a b c d = digest_alike xs ys p q each
  where
    each : (i : ℕ) → i < 4 → get_or xs (p + i) 0 ≡ get_or ys (q + i) 0
    each zero l = a
    each (suc zero) l = b
    each (suc (suc zero)) l = c
    each (suc (suc (suc zero))) l = d
    each (suc (suc (suc (suc i)))) l = absurd (omega arith)

-- the four words from p on
unfoldable pub words_from : List ℕ → ℕ → List ℕ
words_from t p = get_or t (p + 0) 0 ∷ get_or t (p + 1) 0 ∷ get_or t (p + 2) 0 ∷ get_or t (p + 3) 0 ∷ []

-- their digest
pub from_digest : (t : List ℕ) (p : ℕ) → digest_at (words_from t p) 0 ≡ digest_at t p
unfolding words_from
from_digest t p = four-alike (words_from t p) t 0 p refl refl refl refl

-- author, digest, previous, previous digest, peers
unfoldable pub row_from : ℕ → List ℕ → ℕ → List ℕ → ℕ → List ℕ
row_from a d t p u = a ∷ get_or d 0 0 ∷ get_or d 1 0 ∷ get_or d 2 0 ∷ get_or d 3 0 ∷ t ∷ get_or p 0 0 ∷ get_or p 1 0 ∷ get_or p 2 0 ∷ get_or p 3 0 ∷ u ∷ []

module _ (a : ℕ) (d : List ℕ) (t : ℕ) (p : List ℕ) (u : ℕ) where
  -- its digests
  pub row_digest_lem : digest_at (row_from a d t p u) 1 ≡ digest_at d 0
  unfolding row_from
  row_digest_lem = four-alike (row_from a d t p u) d 1 0 refl refl refl refl

  pub row_signed_lem : digest_at (row_from a d t p u) 6 ≡ digest_at p 0
  unfolding row_from
  row_signed_lem = four-alike (row_from a d t p u) p 6 0 refl refl refl refl

-- ---- the table

-- the table t with rows in its first n
unfoldable pub stacked : (ℕ → List ℕ) → List ℕ → ℕ → List ℕ
stacked row t zero = t
stacked row t (suc n) = copied (stacked row t n) (n * 11) (row n) 0 11

-- the steps of the code

-- a row more leaves the table as long
pub stacked-size : (i n : ℕ) (s r x : List ℕ) → length s ≡ n → r ≡ copied s (i * 11) x 0 11 → length r ≡ n
stacked-size i n s r x e h = ap length h ∙ (filled-length (λ j. get_or x (0 + j) 0) s (i * 11) 11 ∙ e)

module _ (row : ℕ → List ℕ) (t : List ℕ) where
  pub stacked-none : t ≡ stacked row t 0
  unfolding stacked
  stacked-none = refl

  pub stacked-more : (i : ℕ) (s r x : List ℕ) → s ≡ stacked row t i → x ≡ row i → r ≡ copied s (i * 11) x 0 11 → r ≡ stacked row t (i + 1)
  unfolding stacked
  stacked-more i s r x e d h = rw (add-one i, stacked, ← e, ← d) h

  pub stacked_end : (i n : ℕ) (s : List ℕ) → s ≡ stacked row t i → i ≤ n → n ≤ i → s ≡ stacked row t n
  stacked_end i n s e l m = let d : i ≡ n = omega arith in rw d at e

  -- as long as t
  pub stacked-length : (n : ℕ) → length (stacked row t n) ≡ length t
  unfolding stacked
  stacked-length zero = refl
  stacked-length (suc n) = filled-length _ (stacked row t n) (n * 11) 11 ∙ stacked-length n

  -- word f of row k
  pub stacked_in : (n k f : ℕ) → n * 11 ≤ length t → k < n → f < 11 → get_or (stacked row t n) (k * 11 + f) 0 ≡ get_or (row k) f 0
  unfolding stacked
  stacked_in zero k f r l m = absurd (omega arith)
  stacked_in (suc n) k f r l m =
      let z : 0 + f ≡ f = omega arith in
      same_or k n
      (λ e. rw e (filled_in (λ i. get_or (row n) (0 + i) 0) (stacked row t n) (n * 11) 11 f (omega (arith, stacked-length n)) m ∙ ap (λ x. get_or (row n) x 0) z))
      (λ d. filled_off (λ i. get_or (row n) (0 + i) 0) (stacked row t n) (n * 11) 11 (k * 11 + f) (λ i o e. omega arith) ∙ stacked_in n k f (omega arith) (omega arith) m)

  -- the digest from word p of row k on
  pub stacked_digest : (n k p : ℕ) → n * 11 ≤ length t → k < n → p + 4 ≤ 11 → digest_at (stacked row t n) (k * 11 + p) ≡ digest_at (row k) p
  stacked_digest n k p r l m =
      digest_alike (stacked row t n) (row k) (k * 11 + p) p
      (λ i o. let z : k * 11 + p + i ≡ k * 11 + (p + i) = omega arith in ap (λ x. get_or (stacked row t n) x 0) z ∙ stacked_in n k (p + i) r l (omega arith))

-- rows that are the same below n
pub stacked-same : (row row2 : ℕ → List ℕ) (t : List ℕ) (n : ℕ) → ((i : ℕ) → i < n → row i ≡ row2 i) → stacked row t n ≡ stacked row2 t n
unfolding stacked
stacked-same row row2 t zero h = refl
stacked-same row row2 t (suc n) h = let e : stacked row t n ≡ stacked row2 t n = stacked-same row row2 t n (λ i l. h i (omega arith)) in λ i. copied (e i) (n * 11) (h n (omega arith) i) 0 11

-- ---- the entries

-- the entry that row k holds
unfoldable pub entry_at : List ℕ → ℕ → Entry
entry_at rs k = record { author = row_author rs k; digest = row_digest rs k; previous = cond (ltb 0 (row_previous rs k)) (some (row_signed rs k)) none; unreferenced_by = member (row_peers rs k) }

-- those of the first n rows
unfoldable pub entries_of : List ℕ → ℕ → List Entry
entries_of rs n = up_to n (λ k. entry_at rs k ∷ [])

-- authors are peers, sets have 32 bits
abbrev pub RowsFit : List ℕ → ℕ → Type 0
RowsFit rs n = (k : ℕ) → k < n → (row_author rs k < 32) × (row_peers rs k < 2 ^ 32)

-- row k of the table holds what it holds alone
pub stacked-entry : (row : ℕ → List ℕ) (t : List ℕ) (n k : ℕ) → n * 11 ≤ length t → k < n → entry_at (stacked row t n) k ≡ entry_at (row k) 0
unfolding entry_at
stacked-entry row t n k r l =
    let word : (f : ℕ) → f < 11 → get_or (stacked row t n) (k * 11 + f) 0 ≡ get_or (row k) f 0 = λ f m. stacked_in row t n k f r l m in
    let a : row_author (stacked row t n) k ≡ row_author (row k) 0 = word 0 (omega arith) in
    let d : row_digest (stacked row t n) k ≡ row_digest (row k) 0 = stacked_digest row t n k 1 r l (omega arith) in
    let p : row_previous (stacked row t n) k ≡ row_previous (row k) 0 = word 5 (omega arith) in
    let g : row_signed (stacked row t n) k ≡ row_signed (row k) 0 = stacked_digest row t n k 6 r l (omega arith) in
    let u : row_peers (stacked row t n) k ≡ row_peers (row k) 0 = word 10 (omega arith) in
    λ i. record { author = a i; digest = d i; previous = cond (ltb 0 (p i)) (some (g i)) none; unreferenced_by = member (u i) }

module _ (rs : List ℕ) where
  pub entries-length : (n : ℕ) → length (entries_of rs n) ≡ n
  unfolding entries_of up_to
  entries-length zero = refl
  entries-length (suc n) = length-append (entries_of rs n) (entry_at rs n ∷ []) ∙ omega (arith, entries-length n)

  pub entries_at : (n k : ℕ) (z : Entry) → k < n → get_or (entries_of rs n) k z ≡ entry_at rs k
  unfolding entries_of up_to
  entries_at zero k z l = absurd (omega arith)
  entries_at (suc n) k z l =
      let e : length (entries_of rs n) ≡ n = entries-length n in
      same_or k n
      (λ d. let x : k ≡ length (entries_of rs n) + 0 = omega arith in rw x (get_or-append-add (entries_of rs n) (entry_at rs n ∷ []) 0 z ∙ ap (entry_at rs) (sym d ∙ x)))
      (λ d. get_or-append (entries_of rs n) (entry_at rs n ∷ []) z k (omega arith) ∙ entries_at n k z (omega arith))

  -- they are the images of other elements, one by one
  pub entries-map : {A : Type 0} (f : A → Entry) (l : List A) (z : A) (n : ℕ) → n ≤ length l → ((k : ℕ) → k < n → entry_at rs k ≡ f (get_or l k z)) → entries_of rs n ≡ map f (take n l)
  unfolding entries_of up_to
  entries-map f l z zero r h = refl
  entries-map f l z (suc n) r h =
      ap₂ ◌++◌ (entries-map f l z n (omega arith) (λ k m. h k (omega arith))) (ap (λ x. x ∷ []) (h n (omega arith)))
      ∙ (sym (map-append f (take n l) (get_or l n z ∷ [])) ∙ ap (map f) (sym (take-suc l n z (omega arith))))

  -- one of them passes, from row m on
  pub has-entries : (f : Entry → Bool) (n m : ℕ) → m ≤ n → has f (drop m (entries_of rs n)) ≡ any (n - m) (λ i. f (entry_at rs (m + i)))
  has-entries f n m l =
      let z : Entry = entry_at rs 0 in
      let e : length (drop m (entries_of rs n)) ≡ n - m = length-drop m (entries_of rs n) ∙ ap (λ x. x - m) (entries-length n) in
      ap (has f) (sym (take-length (drop m (entries_of rs n))))
      ∙ (ap (λ x. has f (take x (drop m (entries_of rs n)))) e
      ∙ (has-take f (drop m (entries_of rs n)) z (n - m) (omega (arith, e))
      ∙ any_same (n - m) _ _ (λ i b. ap f (get_or-drop m (entries_of rs n) i z ∙ entries_at n (m + i) z (omega arith)))))
