-- The ranges of the words of a used place (dag/dag_round.rs).
use Prim.Native.Nat.{ℕ, zero, suc, ◌≤◌, ◌<◌}
use Rattle.std.specs.Prelude.{◌≡◌, Bool, true, not, ◌&&◌, ◌||◌, List, get_or, leb, ltb}
use Rattle.std.proofs.Math.Path.{refl, ap}
use Rattle.std.proofs.Common.{sym, ◌∙◌, ap₂, arith}
use Rattle.models.specs.DagPoint.{case_of}
use Rattle.models.specs.declared.dag_point.DagPoint.{DagPoint}
use Rattle.models.specs.Tables.{author_at, status_at, marks_at, evidence_at, proof_round_at, proof_author_at}
use Rattle.models.specs.Cert.{flags_of, height_of}
use Rattle.std.specs.Prelude.{None, Option, Some}

-- status, marks, author, certificate word
unfoldable pub point_in_range : ℕ → ℕ → ℕ → ℕ → Bool
point_in_range s m a c = leb s 5 && (ltb m 8 && (ltb a 32 && (leb c 65535 && (ltb 0 (height_of c) || not (flags_of c).committed))))

-- evidence, round and author of the top proof
unfoldable pub resolution_in_range : ℕ → ℕ → ℕ → Bool
resolution_in_range e r a = ltb e 4294967296 && (ltb r 4294967296 && ltb a 32)

-- by the case of the point: of one that is named only they may be anything
unfoldable pub told_of : Option DagPoint → ℕ → ℕ → ℕ → Bool
told_of None e r a = true
told_of (Some p) e r a = resolution_in_range e r a

unfoldable pub told_fits : List ℕ → List ℕ → ℕ → Bool
told_fits ks ls q = told_of (case_of (status_at ks q)) (evidence_at ls q) (proof_round_at ls q) (proof_author_at ls q)

unfoldable pub words_at : List ℕ → List ℕ → List ℕ → ℕ → Bool
words_at ks ls cs q = point_in_range (status_at ks q) (marks_at ks q) (author_at ks q) (get_or cs q 0) && told_fits ks ls q

-- ---- the code's steps

module _ (ks ls : List ℕ) (q : ℕ) (c : Option DagPoint) (is : c ≡ case_of (status_at ks q)) where
  pub resolution_named : c ≡ None → true ≡ told_fits ks ls q
  unfolding told_fits told_of
  resolution_named e = ap (λ (x : Option DagPoint). told_of x (evidence_at ls q) (proof_round_at ls q) (proof_author_at ls q)) (sym e ∙ is)

  pub resolution_given : (p : DagPoint) (b : Bool) (e r a : ℕ) → c ≡ Some p → e ≡ evidence_at ls q → r ≡ proof_round_at ls q → a ≡ proof_author_at ls q → b ≡ resolution_in_range e r a → b ≡ told_fits ks ls q
  unfolding told_fits told_of
  resolution_given p b e r a i x y z h = h ∙ (λ j. resolution_in_range (x j) (y j) (z j)) ∙ ap (λ (x : Option DagPoint). told_of x (evidence_at ls q) (proof_round_at ls q) (proof_author_at ls q)) (sym i ∙ is)

-- the words that are read
pub words_by : (ks ls cs : List ℕ) (q s m a : ℕ) (n t b : Bool) → s ≡ status_at ks q → m ≡ marks_at ks q → a ≡ author_at ks q → n ≡ point_in_range s m a (get_or cs q 0) → t ≡ told_fits ks ls q → b ≡ (n && t) → b ≡ words_at ks ls cs q
unfolding words_at
words_by ks ls cs q s m a n t b x y z f g h = h ∙ ap₂ ◌&&◌ (f ∙ (λ j. point_in_range (x j) (y j) (z j) (get_or cs q 0))) g

-- ---- by the status

module _ (e r a : ℕ) where
  pub resolution_none : (n : ℕ) → n ≡ 0 → told_of (case_of n) e r a ≡ true
  unfolding case_of told_of
  resolution_none n z = rw z refl

  pub resolution_some : (n : ℕ) → 0 < n → n ≤ 5 → told_of (case_of n) e r a ≡ resolution_in_range e r a
  unfolding case_of told_of
  resolution_some zero x y = absurd (omega arith)
  resolution_some (suc zero) x y = refl
  resolution_some (suc (suc zero)) x y = refl
  resolution_some (suc (suc (suc zero))) x y = refl
  resolution_some (suc (suc (suc (suc zero)))) x y = refl
  resolution_some (suc (suc (suc (suc (suc zero))))) x y = refl
  resolution_some (suc (suc (suc (suc (suc (suc n)))))) x y = absurd (omega arith)
