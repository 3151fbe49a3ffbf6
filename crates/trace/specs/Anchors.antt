-- The record of a committed anchor, read from bytes.
use Rattle.std.specs.Prelude.{ℕ, ◌+◌, ◌<◌, ◌≤◌, ◌≡◌, List, Bool, true, false, cond, get_or, Option, None, Some}
use Rattle.std.proofs.Math.Path.{refl, sym}
use Rattle.std.proofs.Common.{◌∙◌, arith}
use Rattle.std.proofs.Math.Dec.{eqb}
use borrow.Author.Tests.{eq-eqb, ne_eqb}
use Rattle.laws.specs.Test.{by_test, clash, same_or}
use Rattle.laws.specs.Scan.{every, every_elim, every_intro}
use Rattle.spec.specs.Ids.{Id}
use Rattle.spec.specs.History.{includes_word, witness_word, anchor_word}
use Rattle.models.specs.Parts.{id_of}
use Rattle.trace.specs.Numbers.{number_at, id_at, point_id_at, id_read}
use Rattle.trace.specs.declared.anchors.AnchorHead.{AnchorHead}
use Rattle.trace.specs.declared.anchors.Word.{Word}
use Rattle.trace.specs.declared.anchors.Word.TheVariants as word

-- "Anchor record: anchor id, proof id, executable (1 byte), previous anchor round (4; 0 for none), number of points (4), their ids."
pub record Anchor : Type 0 where
  pub anchor : Id
  pub proof : Id
  pub executable : ℕ
  pub previous : ℕ
  pub points : ℕ

-- in the 83 bytes from p on: 37, 37, 1, 4, 4
unfoldable pub anchor_in : List ℕ → ℕ → Anchor
anchor_in b p = record { anchor = id_at b p; proof = id_at b (p + 37); executable = get_or b (p + 74) 0; previous = number_at b (p + 75) 4; points = number_at b (p + 79) 4 }

-- as the code has it
unfoldable pub anchor_of : AnchorHead → Anchor
anchor_of h = record { anchor = id_of h.anchor; proof = id_of h.proof; executable = h.executable; previous = h.previous; points = h.points }

-- from its parts
pub anchor_is : (b : List ℕ) (p : ℕ) (h : AnchorHead) → h.anchor ≡ point_id_at b p → h.proof ≡ point_id_at b (p + 37) → h.executable ≡ get_or b (p + 74) 0 → h.previous ≡ number_at b (p + 75) 4
    → h.points ≡ number_at b (p + 79) 4 → anchor_of h ≡ anchor_in b p
unfolding anchor_of anchor_in
anchor_is b p h i j k l m = rw (id_read b p h.anchor i, id_read b (p + 37) h.proof j, k, l, m) refl

-- ---- the word of a link (02: N7)

-- the eight bytes of w stand in b from p on
unfoldable pub stands_at : List ℕ → ℕ → List ℕ → Bool
stands_at b p w = every 8 (λ k. eqb (get_or b (p + k) 0) (get_or w k 0))

-- the word there, by its bytes; none for other bytes
unfoldable pub word_in : List ℕ → ℕ → Option Word
word_in b p = cond (stands_at b p includes_word) (Some word.Includes) (cond (stands_at b p witness_word) (Some word.Witness) (cond (stands_at b p anchor_word) (Some word.Anchor) None))

module _ (b : List ℕ) (p : ℕ) (w : List ℕ) where
  -- the first k bytes are alike
  abbrev pub Alike : ℕ → Type 0
  Alike k = (i : ℕ) → i < k → get_or b (p + i) 0 ≡ get_or w i 0

  -- one byte more
  pub alike-more : (k : ℕ) → Alike k → get_or b (p + k) 0 ≡ get_or w k 0 → Alike (k + 1)
  alike-more k h e i l = same_or i k (λ d. rw d e) (λ d. h i (omega arith))

  -- all
  pub stands_yes : (k : ℕ) → Alike k → 8 ≤ k → true ≡ stands_at b p w
  unfolding stands_at
  stands_yes k h l = sym (every_intro 8 (λ k. eqb (get_or b (p + k) 0) (get_or w k 0)) (λ i a. eq-eqb _ _ (h i (omega arith))))

  -- one that differs
  pub stands_no : (k : ℕ) → k < 8 → (get_or b (p + k) 0 ≡ get_or w k 0 → ⊥) → false ≡ stands_at b p w
  unfolding stands_at
  stands_no k l n = by_test (every 8 (λ k. eqb (get_or b (p + k) 0) (get_or w k 0))) (λ t. absurd (clash (every_elim 8 (λ k. eqb (get_or b (p + k) 0) (get_or w k 0)) t k l) (ne_eqb _ _ n))) sym

-- the word is read by the first that stands there
module _ (b : List ℕ) (p : ℕ) (x : Bool) (is : x ≡ stands_at b p includes_word) where
  pub word-includes : x ≡ true → Some word.Includes ≡ word_in b p
  unfolding word_in
  word-includes t = rw (sym is ∙ t) refl

  module _ (no : x ≡ false) (y : Bool) (so : y ≡ stands_at b p witness_word) where
    pub word_witness : y ≡ true → Some word.Witness ≡ word_in b p
    unfolding word_in
    word_witness t = rw (sym is ∙ no, sym so ∙ t) refl

    module _ (nor : y ≡ false) (z : Bool) (thus : z ≡ stands_at b p anchor_word) where
      pub word-anchor : z ≡ true → Some word.Anchor ≡ word_in b p
      unfolding word_in
      word-anchor t = rw (sym is ∙ no, sym so ∙ nor, sym thus ∙ t) refl

      pub word-other : z ≡ false → None ≡ word_in b p
      unfolding word_in
      word-other f = rw (sym is ∙ no, sym so ∙ nor, sym thus ∙ f) refl
