-- A call written as a record of a trace (02: N5).
use Rattle.std.specs.Prelude.{ℕ, ◌+◌, ◌<◌, ◌≤◌, ◌≡◌, List, [], ◌∷◌, ◌++◌, Bool, true, false, not, ◌&&◌, ltb}
use Rattle.std.proofs.Math.Path.{refl, ap}
use Rattle.std.proofs.Common.{sym, ap₂, ◌∙◌, subst, append_assoc, true≢false, arith, length-append, lt-ltb, le-ltb, le-leb, ltb-false}
use Rattle.std.proofs.Math.Dec.{leb}
use Rattle.std.proofs.Math.ListN.{length}
use Rattle.std.proofs.lemmas.Bool.{lt-leb}
use Rattle.laws.specs.Test.{both, by_test, and_no, and_l, and_no_r, and_assoc}
use Rattle.laws.specs.Lists.{all}
use Rattle.laws.specs.Bytes.{be, be-length, written, written-length, and_then}
use Rattle.spec.specs.Chain.{Out, bad, good, then, refuse}
use Rattle.spec.specs.Calls.{Call, number_of, start, reset_all, round, name, resolve, certify, gap_question, commit, outlook, remove, drop}
use Rattle.trace.proofs.ReadBack.{record_size_lem}
use Rattle.trace.specs.Write.{Field, field_bytes, fits_field, fields_of, kind_byte, sayable, fields_in, record_bytes, record_of, put_record}

-- what writing leaves: b, d the buffer before and after it, x the number of a refusal or 0, n the record's length or 0; l: that length
unfoldable pub PutAs : Out (List ℕ) → ℕ → List ℕ → ℕ → ℕ → List ℕ → Type 0
PutAs (bad r) l b x n d = (x ≡ number_of r) × (n ≡ 0) × (d ≡ b)
PutAs (good e) l b x n d = (x ≡ 0) × (n ≡ l) × (d ≡ e)

-- "Writing a call's record refuses with 26 .., then with 21 a short buffer"
abbrev pub Puts : List ℕ → Call → ℕ → ℕ → List ℕ → Type 0
Puts b c x n d = PutAs (put_record b c) (length (record_bytes (kind_byte c) (fields_in c))) b x n d

-- ---- the parts of the code

-- refused with 26 unless the first test passes, then with 21 if the second does
unfoldable pub tests : Bool → Bool → List ℕ → Out (List ℕ)
tests u v e = refuse (not u) 26 (refuse v 21 (good e))

-- the first six bytes of a record with n bytes of fields
unfoldable pub head_bytes : ℕ → ℕ → List ℕ
head_bytes n k = be 4 (2 + n) ++ (be 1 1 ++ be 1 k)

-- refused, or the head is written; f: each field fits
pub record Opened (k : ℕ) (f : Bool) (n : ℕ) (b : List ℕ) (x : ℕ) (d : List ℕ) : Type 0 where
  pub left : PutAs (tests (f && leb (2 + n) 4096) (ltb (length b) (6 + n)) (written b 0 (head_bytes n k))) 0 b x 0 d

-- what a call's record says: its kind, whether each field fits and the call can be said, the bytes of its fields, its fields
pub record Said (c : Call) (k : ℕ) (f : Bool) (n : ℕ) (fs : List Field) : Type 0 where
  pub kind : kind_byte c ≡ k
  pub fields : fields_of c ≡ fs
  pub fit : f ≡ (sayable c && all fits_field fs)
  pub size : f ≡ true → n ≡ length (field_bytes fs)

pub tests_short : (u v : Bool) (e : List ℕ) (l : ℕ) (b : List ℕ) → u ≡ true → v ≡ true → PutAs (tests u v e) l b 21 0 b
unfolding PutAs tests refuse number_of
tests_short true true e l b h i = (refl, refl, refl)
tests_short true false e l b h i = absurd (true≢false (sym i))
tests_short false v e l b h i = absurd (true≢false (sym h))

pub tests-done : (u v : Bool) (e : List ℕ) (l x n : ℕ) (b d : List ℕ) → u ≡ true → v ≡ false → x ≡ 0 → n ≡ l → d ≡ e → PutAs (tests u v e) l b x n d
unfolding PutAs tests refuse
tests-done true false e l x n b d h i p q r = (p, q, r)
tests-done true true e l x n b d h i p q r = absurd (true≢false i)
tests-done false v e l x n b d h i p q r = absurd (true≢false (sym h))

-- a kind is a byte
pub kind_byte_lem : (c : Call) → be 1 (kind_byte c) ≡ kind_byte c ∷ []
unfolding be kind_byte
kind_byte_lem (start a) = refl
kind_byte_lem reset_all = refl
kind_byte_lem (round r p) = refl
kind_byte_lem (name i) = refl
kind_byte_lem (resolve i t) = refl
kind_byte_lem (certify i) = refl
kind_byte_lem gap_question = refl
kind_byte_lem (commit i l b) = refl
kind_byte_lem (outlook i b) = refl
kind_byte_lem (remove r f b) = refl
kind_byte_lem (drop r) = refl

-- a record is its head and its fields
pub record_is : (n k : ℕ) (xs : List ℕ) → be 1 k ≡ k ∷ [] → n ≡ length xs → record_bytes k xs ≡ head_bytes n k ++ xs
unfolding head_bytes be
record_is n k xs h l = ap (λ (m : ℕ). be 4 (2 + m) ++ (1 ∷ k ∷ xs)) (sym l) ∙ sym (append_assoc (be 4 (2 + n)) (1 ∷ be 1 k) xs ∙ ap (λ (y : List ℕ). be 4 (2 + n) ++ (1 ∷ (y ++ xs))) h)

pub head_size : (n k : ℕ) → length (head_bytes n k) ≡ 6
unfolding head_bytes
head_size n k = length-append (be 4 (2 + n)) _ ∙ ap₂ ◌+◌ (be-length 4 (2 + n)) (length-append (be 1 1) (be 1 k) ∙ ap₂ ◌+◌ (be-length 1 1) (be-length 1 k))

pub whole_size : (k : ℕ) (xs : List ℕ) → length (record_bytes k xs) ≡ 6 + length xs
whole_size k xs = omega (arith, record_size_lem k xs)

-- a test that is told otherwise
pub said_as : {c : Call} {k : ℕ} {f g : Bool} {n : ℕ} {fs : List Field} → f ≡ g → Said c k g n fs → Said c k f n fs
said_as e s = record { kind = s.kind; fields = s.fields; fit = e ∙ s.fit; size = λ t. s.size (sym e ∙ t) }
