-- Theorems on the definitions of specs/Puts.
use Rattle.std.specs.Prelude.{ℕ, ◌+◌, ◌<◌, ◌≤◌, ◌≡◌, List, [], ◌∷◌, ◌++◌, Bool, true, false, not, ◌&&◌, ltb}
use Rattle.std.proofs.Math.Path.{refl, ap}
use Rattle.std.proofs.Common.{sym, ap₂, ◌∙◌, subst, append_assoc, true≢false, arith, length-append, lt-ltb, le-ltb, le-leb, ltb-false}
use Rattle.std.proofs.Math.Dec.{leb}
use Rattle.std.proofs.Math.ListN.{length}
use Rattle.std.proofs.lemmas.Bool.{lt-leb}
use Rattle.laws.specs.Test.{both, by_test, and_no, and_l, and_no_r, and_assoc}
use Rattle.laws.specs.Lists.{all}
use Rattle.laws.specs.Bytes.{be, be-length, written, written-length, and_then}
use Rattle.spec.specs.Chain.{Out, bad, good, then, refuse}
use Rattle.spec.specs.Calls.{Call, number_of, start, reset_all, round, name, resolve, certify, gap_question, commit, outlook, remove, drop}
use Rattle.trace.proofs.ReadBack.{record_size_lem}
use Rattle.trace.specs.Write.{Field, field_bytes, fits_field, fields_of, kind_byte, sayable, fields_in, record_bytes, record_of, put_record}
use Rattle.trace_write.specs.Puts.{PutAs, Puts, tests, head_bytes, Opened, Said, tests_short, tests-done, kind_byte_lem, record_is, head_size, whole_size}

-- ---- laws

-- by cases on the tests
tests_unfit : (u v : Bool) (e : List ℕ) (l : ℕ) (b : List ℕ) → u ≡ false → PutAs (tests u v e) l b 26 0 b
unfolding PutAs tests refuse number_of
tests_unfit false v e l b h = (refl, refl, refl)
tests_unfit true v e l b h = absurd (true≢false h)

-- what is refused is so whatever is written else
tests-refused : (u v : Bool) (e e' : List ℕ) (l l' x : ℕ) (b d : List ℕ) → PutAs (tests u v e) l b x 0 d → (x ≡ 0 → ⊥) → PutAs (tests u v e') l' b x 0 d
unfolding PutAs tests refuse
tests-refused false v e e' l l' x b d p n = p
tests-refused true true e e' l l' x b d p n = p
tests-refused true false e e' l l' x b d p n = absurd (n p.0)

tests-passed : (u v : Bool) (e : List ℕ) (l x n : ℕ) (b d : List ℕ) → PutAs (tests u v e) l b x n d → x ≡ 0 → (u ≡ true) × (v ≡ false) × (d ≡ e)
unfolding PutAs tests refuse number_of
tests-passed false v e l x n b d p z = absurd (omega (arith, p.0, z))
tests-passed true true e l x n b d p z = absurd (omega (arith, p.0, z))
tests-passed true false e l x n b d p z = (refl, refl, p.2)

-- the head
module _ (k : ℕ) (f : Bool) (n : ℕ) (b : List ℕ) where
  pub head_unfit : f ≡ false → Opened k f n b 26 b
  head_unfit h = record { left = tests_unfit _ _ _ _ _ (and_no _ h) }

  pub head_long : 4094 < n → Opened k f n b 26 b
  head_long l = record { left = tests_unfit _ _ _ _ _ (and_no_r f (lt-leb (2 + n) 4096 (omega arith))) }

  fine : f ≡ true → n ≤ 4094 → (f && leb (2 + n) 4096) ≡ true
  fine h l = both h (le-leb (2 + n) 4096 (omega arith))

  pub head_short : f ≡ true → n ≤ 4094 → length b < 6 + n → Opened k f n b 21 b
  head_short h l m = record { left = tests_short _ _ _ _ _ (fine h l) (lt-ltb (length b) (6 + n) m) }

  pub head_done : (b₁ b₂ b₃ : List ℕ) (a c : ℕ) → f ≡ true → n ≤ 4094 → 6 + n ≤ length b → a ≡ 0 + 4 → c ≡ a + 1 → b₁ ≡ written b 0 (be 4 (2 + n)) → b₂ ≡ written b₁ a (be 1 1)
      → b₃ ≡ written b₂ c (be 1 k) → Opened k f n b 0 b₃
  unfolding head_bytes
  head_done b₁ b₂ b₃ a c h l m i j p q r = record {
    left = tests-done _ _ _ _ _ _ _ _ (fine h l) (le-ltb (length b) (6 + n) m) refl refl (and_then b b₁ b₃ 0 a (be 4 (2 + n)) (be 1 1 ++ be 1 k) 4 (be-length 4 (2 + n)) i p (and_then b₁ b₂ b₃ a c (be 1 1) (be 1 k) 1 (be-length 1 1) j q r));
  }

  -- where it is written there is room for the fields
  pub head_room : (x : ℕ) (d : List ℕ) → Opened k f n b x d → x ≡ 0 → 6 + n ≤ length d
  head_room x d o z =
      let t = tests-passed _ _ _ _ _ _ _ _ o.left z in
      omega (arith, ltb-false (length b) (6 + n) t.1, ap length t.2 ∙ written-length b 0 (head_bytes n k))

-- the record of a call by the tests of the head
then-tests : (b r : List ℕ) (u : Bool) → then (refuse (not u) 26 (good r)) (λ (x : List ℕ). refuse (ltb (length b) (length x)) 21 (good (written b 0 x))) ≡ tests u (ltb (length b) (length r)) (written b 0 r)
unfolding refuse tests
then-tests b r true = refl
then-tests b r false = refl

tests_no : (u w v z : Bool) (e : List ℕ) → u ≡ false → w ≡ false → tests u v e ≡ tests w z e
unfolding tests refuse
tests_no u w v z e h i = rw (h, i) refl

module _ {c : Call} {k : ℕ} {f : Bool} {n : ℕ} {fs : List Field} (said : Said c k f n fs) (b : List ℕ) where
  put_by_lem : put_record b c ≡ tests (f && leb (2 + n) 4096) (ltb (length b) (6 + n)) (written b 0 (record_bytes k (field_bytes fs)))
  unfolding put_record record_of
  put_by_lem = rw (said.kind, said.fields) (then-tests b (record_bytes k (field_bytes fs)) _ ∙ by_test f whole unfit)
    where
      grouped : (sayable c && (all fits_field fs && leb (2 + length (field_bytes fs)) 4096)) ≡ (f && leb (2 + length (field_bytes fs)) 4096)
      grouped = and_assoc (sayable c) (all fits_field fs) _ ∙ ap (λ (x : Bool). x && leb (2 + length (field_bytes fs)) 4096) (sym said.fit)

      whole : f ≡ true → tests (sayable c && (all fits_field fs && leb (2 + length (field_bytes fs)) 4096)) (ltb (length b) (length (record_bytes k (field_bytes fs)))) (written b 0 (record_bytes k (field_bytes fs)))
          ≡ tests (f && leb (2 + n) 4096) (ltb (length b) (6 + n)) (written b 0 (record_bytes k (field_bytes fs)))
      whole t =
          ap₂ (λ (u v : Bool). tests u v (written b 0 (record_bytes k (field_bytes fs)))) (grouped ∙ ap (λ (m : ℕ). f && leb (2 + m) 4096) (sym (said.size t)))
          (ap (ltb (length b)) (whole_size k (field_bytes fs) ∙ ap (λ (m : ℕ). 6 + m) (sym (said.size t))))

      unfit : f ≡ false → tests (sayable c && (all fits_field fs && leb (2 + length (field_bytes fs)) 4096)) (ltb (length b) (length (record_bytes k (field_bytes fs)))) (written b 0 (record_bytes k (field_bytes fs)))
          ≡ tests (f && leb (2 + n) 4096) (ltb (length b) (6 + n)) (written b 0 (record_bytes k (field_bytes fs)))
      unfit t = tests_no _ _ _ _ _ (grouped ∙ and_no _ t) (and_no _ t)

  module _ (x : ℕ) (d : List ℕ) (o : Opened k f n b x d) where
    pub put_refused : (x ≡ 0 → ⊥) → Puts b c x 0 d
    put_refused w = rw put_by_lem (tests-refused _ _ _ _ _ _ _ _ _ o.left w)

    -- the fields stand behind the head
    pub put-done : (m : ℕ) (e : List ℕ) → x ≡ 0 → m ≡ 6 + n → e ≡ written d 6 (field_bytes fs) → Puts b c x m e
    put-done m e z i q =
        let t = tests-passed _ _ _ _ _ _ _ _ o.left z in
        let l = said.size (and_l _ _ t.0) in
        rw put_by_lem
        (tests-done _ _ _ _ _ _ b _ t.0 t.1 z (i ∙ ap (λ (y : ℕ). 6 + y) l ∙ sym (ap₂ (λ (y : ℕ) (gs : List Field). length (record_bytes y (field_bytes gs))) said.kind said.fields ∙ whole_size k (field_bytes fs)))
        (and_then b d e 0 6 (head_bytes n k) (field_bytes fs) 6 (head_size n k) refl t.2 q ∙ ap (written b 0) (sym (record_is n k (field_bytes fs) (subst (λ (y : ℕ). be 1 y ≡ y ∷ []) said.kind (kind_byte_lem c)) l))))
