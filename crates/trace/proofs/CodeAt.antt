-- The number that a record is refused with, as the code finds it (02: N5).
use Rattle.std.specs.Prelude.{ℕ, zero, suc, ◌+◌, ◌<◌, ◌≡◌, refl, List, Bool, true, false, not, ◌&&◌, cond, leb, get_or}
use Rattle.std.proofs.Math.Path.{sym, ap₂}
use Rattle.std.proofs.Common.{ap, ◌∙◌, eq-eqb, ne_eqb, arith}
use Rattle.std.proofs.lemmas.Bool.{lt-leb}
use Rattle.laws.specs.Test.{and_no_r, cond_yes, cond_no}
use Rattle.spec.specs.Chain.{Out, bad, good, refuse}
use Rattle.spec.specs.Calls.{number_of}
use Rattle.trace.specs.Kinds.{kind_ok, kind_known}
use Rattle.trace.specs.Head.{fields_fit, whole_at, fields_at, part, rest_at, version_ok, kind_code, code_at, head_by, head_at, code_cut, head_good, head_bad}
use Rattle.trace.specs.Codes.{Found, read_at}
use Rattle.trace.specs.declared.head.Record.{Record}

-- ---- it is N5's

unfoldable pub code_of : Out Found → ℕ
code_of (bad r) = number_of r
code_of (good f) = 0

codes : (a b c d : Bool) (f : Found) → code_of (refuse (not a) 26 (refuse (not (b && c)) 27 (refuse (not d) 26 (good f)))) ≡ cond a (cond b (cond c (cond d 0 26) 27) 27) 26
unfolding code_of refuse number_of
codes false b c d f = refl
codes true false c d f = refl
codes true true false d f = refl
codes true true true false f = refl
codes true true true true f = refl

pub code_is : (room bs : List ℕ) (p : ℕ) → code_of (read_at room bs p) ≡ code_at false bs p
unfolding read_at code_at kind_code kind_known
code_is room bs p = codes (whole_at bs p) (version_ok (get_or bs (p + 4) 0) (get_or bs (p + 5) 0)) (kind_ok (get_or bs (p + 5) 0)) (fields_fit (get_or bs (p + 5) 0) (fields_at bs p)) _

-- ---- laws

above : (k : ℕ) (f : List ℕ) → 10 < k → 27 ≡ kind_code false k f
unfolding kind_code kind_known kind_ok
above k f l = sym (cond_no _ _ 27 (and_no_r (leb 1 k) (lt-leb k 10 l)) refl)

-- no other number is a kind
pub code_none : (k : ℕ) (f : List ℕ) → (k ≡ 1 → ⊥) → (k ≡ 2 → ⊥) → (k ≡ 3 → ⊥) → (k ≡ 4 → ⊥) → (k ≡ 5 → ⊥) → (k ≡ 6 → ⊥) → (k ≡ 7 → ⊥) → (k ≡ 8 → ⊥) → (k ≡ 9 → ⊥) → (k ≡ 10 → ⊥) → 27 ≡ kind_code false k f
unfolding kind_code kind_known kind_ok
code_none zero f a b c d e g h i j l = refl
code_none (suc zero) f a b c d e g h i j l = absurd (a refl)
code_none (suc (suc zero)) f a b c d e g h i j l = absurd (b refl)
code_none (suc (suc (suc zero))) f a b c d e g h i j l = absurd (c refl)
code_none (suc (suc (suc (suc zero)))) f a b c d e g h i j l = absurd (d refl)
code_none (suc (suc (suc (suc (suc zero))))) f a b c d e g h i j l = absurd (e refl)
code_none (suc (suc (suc (suc (suc (suc zero)))))) f a b c d e g h i j l = absurd (g refl)
code_none (suc (suc (suc (suc (suc (suc (suc zero))))))) f a b c d e g h i j l = absurd (h refl)
code_none (suc (suc (suc (suc (suc (suc (suc (suc zero)))))))) f a b c d e g h i j l = absurd (i refl)
code_none (suc (suc (suc (suc (suc (suc (suc (suc (suc zero))))))))) f a b c d e g h i j l = absurd (j refl)
code_none (suc (suc (suc (suc (suc (suc (suc (suc (suc (suc zero)))))))))) f a b c d e g h i j l = absurd (l refl)
code_none (suc (suc (suc (suc (suc (suc (suc (suc (suc (suc (suc k))))))))))) f a b c d e g h i j l =
    above (suc (suc (suc (suc (suc (suc (suc (suc (suc (suc (suc k))))))))))) f (omega arith)

-- the code of a kind, from that of its length
pub kind_code_lem : (w : Bool) (j k r : ℕ) (f : List ℕ) → k ≡ j → r ≡ kind_code w j f → r ≡ kind_code w k f
kind_code_lem w j k r f e q = q ∙ ap (λ (i : ℕ). kind_code w i f) (sym e)

-- but for its outlook the bench knows the same kinds
pub bench_other : (k r : ℕ) (f : List ℕ) → (k ≡ 11 → ⊥) → r ≡ kind_code false k f → r ≡ kind_code true k f
unfolding kind_code kind_known
bench_other k r f n q = q ∙ ap (λ (b : Bool). cond (cond b true (kind_ok k)) (cond (fields_fit k f) 0 26) 27) (sym (ne_eqb k 11 n))

module _ (w : Bool) (bs : List ℕ) (p : ℕ) where
  pub code_version : (v : ℕ) → v ≡ get_or bs (p + 4) 0 → whole_at bs p ≡ true → (v ≡ 1 → ⊥) → 27 ≡ code_at w bs p
  unfolding code_at version_ok
  code_version v e y n = sym (cond_yes _ _ 27 y (cond_no _ _ 27 (ne_eqb _ 1 (λ q. n (e ∙ q))) refl))

  pub code_fields : (u : Bool) (v k t r : ℕ) → w ≡ u → v ≡ get_or bs (p + 4) 0 → k ≡ get_or bs (p + 5) 0 → t ≡ rest_at bs p → whole_at bs p ≡ true → v ≡ 1 → r ≡ kind_code u k (part bs (p + 6) (p + 4 + t)) → r ≡ code_at w bs p
  unfolding code_at version_ok
  code_fields u v k t r a e g q y o h =
      h ∙ (ap (λ (x : Bool). kind_code x k (part bs (p + 6) (p + 4 + t))) (sym a) ∙ ap₂ (λ (i j : ℕ). kind_code w i (part bs (p + 6) (p + 4 + j))) g q ∙ sym (cond_yes _ _ _ y (cond_yes _ _ _ (eq-eqb _ 1 (sym e ∙ o)) refl)))

  -- the record, by the ways out of the code
  pub record_cut : whole_at bs p ≡ false → ◌≡◌ {A = Record} (record { code = 26; kind = 0; from = p; end = p }) (head_at w bs p)
  record_cut h = sym (ap (λ (c : ℕ). head_by c bs p) (code_cut bs p w h) ∙ head_bad bs p 26 (λ z. omega arith))

  pub record_bad : (c : ℕ) → c ≡ code_at w bs p → (c ≡ 0 → ⊥) → ◌≡◌ {A = Record} (record { code = c; kind = 0; from = p; end = p }) (head_at w bs p)
  record_bad c e n = sym (ap (λ (x : ℕ). head_by x bs p) (sym e) ∙ head_bad bs p c n)

  pub record_good : (c k t : ℕ) → c ≡ code_at w bs p → c ≡ 0 → k ≡ get_or bs (p + 5) 0 → t ≡ rest_at bs p → ◌≡◌ {A = Record} (record { code = 0; kind = k; from = p + 6; end = p + 4 + t }) (head_at w bs p)
  record_good c k t e z g q = rw (g, q) (sym (head_good bs p (code_at w bs p) (sym e ∙ z)))
