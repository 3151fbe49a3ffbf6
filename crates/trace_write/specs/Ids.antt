-- An id that a function is given, as fields.
use Rattle.std.specs.Prelude.{ℕ, ◌+◌, ◌*◌, ◌^◌, ◌<◌, ◌≡◌, List, [], ◌∷◌, Bool, true, ◌&&◌, leb, length}
use Rattle.std.proofs.Common.{sym, ap₂, ◌∙◌, subst, arith, lt-ltb, le-ltb, le-leb}
use Rattle.std.specs.Int.{w64}
use mir.Val.{Val}
use denote.Plain.{UInt}
use Rattle.std.specs.Borrow.{Array}
use denote.Laws.{Is}
use denote.Struct.Declared.{row}
use Rattle.std.proofs.lemmas.Bool.{lt-leb}
use Rattle.laws.specs.Test.{le_or, and-true}
use Rattle.laws.specs.Lists.{all}
use Rattle.laws.specs.Bytes.{be, be-length, written, and_then, number_fits}
use Rattle.spec.specs.Ids.{id_bytes}
use Rattle.models.specs.contracts.parts.PointId.{the_type}
use Rattle.models.specs.declared.parts.PointId.{PointId}
use Rattle.models.specs.Digest.{Fit, each_fit, words, words-length, words-below, digest_at}
use Rattle.models.specs.Parts.{id_of}
use Rattle.trace.specs.Write.{Field, field, fits_field, id_then}
use Rattle.trace_write.specs.Fields.{fit_none, fit_more}

-- a field of one byte
pub byte_fit : (a : ℕ) (fs : List Field) (b : Bool) → b ≡ all fits_field fs → (leb a 255 && b) ≡ all fits_field (field 1 a ∷ fs)
unfolding all fits_field
byte_fit a fs b h = ap₂ ◌&&◌ (le_or a 255 (λ l. le-leb a 255 l ∙ sym (lt-ltb a 256 (omega arith))) (λ l. lt-leb a 255 l ∙ sym (le-ltb a 256 (omega arith)))) h

-- a digest fits its 32 bytes
pub digest_small : (t : List ℕ) (p : ℕ) → Fit t → digest_at t p < 256 ^ 32
unfolding digest_at
digest_small t p f = let h = number_fits (2 ^ 64) 0 1 (words t p 4) (words-below t p 4 f) (omega arith) in subst (λ (n : ℕ). digest_at t p < 1 * (2 ^ 64) ^ n) (words-length t p 4) h

array_fit : (xs : List ℕ) (vs : List Val) → Is (Array (UInt w64) 4) xs vs → Fit xs
array_fit xs vs e = each_fit xs e.0 e.1.1

module _ (i : PointId) (vs : List Val) (g : Is (row the_type) i vs) where
  pub id-length : length i.digest.0 ≡ 4
  id-length = g.1.1.1.1.0.1.1.0.1.0.1

  -- all but its author fits
  pub id_fit : leb i.author 255 ≡ all fits_field (id_then (id_of i) [])
  id_fit =
      let d : ℕ = digest_at i.digest.0 0 in
      fit_more 4 i.round.0 (field 1 i.author ∷ field 32 d ∷ []) _ g.1.1.0.1.1.0.1
      (sym (and-true _) ∙ byte_fit i.author (field 32 d ∷ []) true (fit_more 32 d [] _ (digest_small i.digest.0 0 (array_fit i.digest.0 _ g.1.1.1.1.0.1.1.0)) fit_none))

-- round, author and digest, put one after the other
pub id-put : (i : PointId) (b b₁ b₂ b₃ : List ℕ) (at e₁ e₂ : ℕ) → e₁ ≡ at + 4 → b₁ ≡ written b at (be 4 i.round.0) → e₂ ≡ e₁ + 1 → b₂ ≡ written b₁ e₁ (be 1 i.author)
    → b₃ ≡ written b₂ e₂ (be 32 (digest_at i.digest.0 0)) → b₃ ≡ written b at (id_bytes (id_of i))
unfolding id_bytes
id-put i b b₁ b₂ b₃ at e₁ e₂ x p y n d = and_then b b₁ b₃ at e₁ _ _ 4 (be-length 4 _) x p (and_then b₁ b₂ b₃ e₁ e₂ _ _ 1 (be-length 1 _) y n d)
