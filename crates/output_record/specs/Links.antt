-- What is told of each point of a record, as bytes, from what is noted for its place (02: N7).
use Rattle.std.specs.Prelude.{ℕ, ◌+◌, ◌*◌, ◌-◌, ◌<◌, ◌≤◌, ◌≡◌, List, [], ◌∷◌, ◌++◌, Bool, true, false, cond, eqb, length, get_or}
use Rattle.std.proofs.Math.Path.{refl, ap}
use Rattle.std.proofs.Common.{sym, ap₂, ◌∙◌, arith, length-append, eq-eqb, ne_eqb, eqb-true}
use Rattle.std.proofs.lemmas.Bool.{eqb-false}
use Rattle.laws.specs.Test.{by_test}
use Rattle.laws.specs.Lists.{joined}
use Rattle.laws.specs.Bytes.{written, and_then}
use Rattle.spec.specs.Ids.{id_bytes}
use Rattle.spec.specs.History.{includes_word, witness_word, anchor_word}
use Rattle.spec.specs.Records.{id-length}
use Rattle.models.specs.Tables.{round_at}
use Rattle.answer_bytes.specs.Bytes.{place_id}

-- the place that is told for q: the one noted for it; q itself where none is
unfoldable pub told_for : List ℕ → ℕ → ℕ
told_for by q = cond (eqb (get_or by q 0) 0) q (get_or by q 0 - 1)

-- the word: `includes` where that place is one round above
unfoldable pub word_of : List ℕ → List ℕ → ℕ → List ℕ
word_of ks by q = cond (eqb (get_or by q 0) 0) anchor_word (cond (eqb (round_at ks q + 1) (round_at ks (told_for by q))) includes_word witness_word)

-- "the id of a point of the same history that links to it and the word"
unfoldable pub link_of : List ℕ → List ℕ → ℕ → List ℕ
link_of ks by q = id_bytes (place_id ks (told_for by q)) ++ word_of ks by q

-- of places
unfoldable pub links_of : List ℕ → List ℕ → List ℕ → List ℕ
links_of ks by l = joined (link_of ks by) l

-- of a place that another is noted for
module _ (ks by : List ℕ) (q p : ℕ) (some : eqb (get_or by q 0) 0 ≡ false) (is : get_or by q 0 - 1 ≡ p) where
  pub told-some : told_for by q ≡ p
  unfolding told_for
  told-some = rw some is

  pub word_some : word_of ks by q ≡ cond (eqb (round_at ks q + 1) (round_at ks p)) includes_word witness_word
  unfolding word_of
  word_some = rw (some, told-some) refl

-- ---- lengths

word-length : (ks by : List ℕ) (q : ℕ) → length (word_of ks by q) ≡ 8
unfolding word_of
word-length ks by q = by_test (eqb (get_or by q 0) 0) (λ t. rw t refl) (λ f. rw f (by_test (eqb (round_at ks q + 1) (round_at ks (told_for by q))) (λ t. rw t refl) (λ g. rw g refl)))

link-length : (ks by : List ℕ) (q : ℕ) → length (link_of ks by q) ≡ 45
unfolding link_of
link-length ks by q = length-append (id_bytes (place_id ks (told_for by q))) _ ∙ ap₂ ◌+◌ (id-length (place_id ks (told_for by q))) (word-length ks by q)

pub links-length : (ks by l : List ℕ) → length (links_of ks by l) ≡ length l * 45
unfolding links_of joined
links-length ks by [] = refl
links-length ks by (q ∷ l) = length-append (link_of ks by q) _ ∙ (ap₂ ◌+◌ (link-length ks by q) (links-length ks by l) ∙ omega arith)

-- ---- the steps of the code

-- whether a round is the next above another
pub next-yes : (here up : ℕ) → here < up → eqb (up - here) 1 ≡ eqb (here + 1) up
next-yes here up l = sym (go (eqb (up - here) 1) refl)
  where
    go : (b : Bool) → eqb (up - here) 1 ≡ b → eqb (here + 1) up ≡ b
    go true e = eq-eqb (here + 1) up (omega (arith, l, eqb-true (up - here) 1 e))
    go false e = ne_eqb (here + 1) up (λ d. eqb-false (up - here) 1 e (omega (arith, l, d)))

pub next_no : (here up : ℕ) → up ≤ here → false ≡ eqb (here + 1) up
next_no here up l = sym (ne_eqb (here + 1) up (λ e. omega (arith, e, l)))

module _ (ks by : List ℕ) (q y : ℕ) (is : y ≡ get_or by q 0) (b b₁ b₂ : List ℕ) (at e r : ℕ) where
  -- the word after the id
  after-id : (p : ℕ) (word : List ℕ) → told_for by q ≡ p → word_of ks by q ≡ word → length word ≡ 8 → e ≡ at + 37 → b₁ ≡ written b at (id_bytes (place_id ks p)) → (r ≡ e + length word) × (b₂ ≡ written b₁ e word)
      → (r ≡ at + 45) × (b₂ ≡ written b at (link_of ks by q))
  unfolding link_of
  after-id p word told is_Is_word eight d h (g, w) = (
    omega (arith, g, d, eight),
    and_then b b₁ b₂ at e (id_bytes (place_id ks (told_for by q))) (word_of ks by q) 37 (id-length (place_id ks (told_for by q))) d (h ∙ ap (λ x. written b at (id_bytes (place_id ks x))) (sym told)) (w ∙ ap (written b₁ e) (sym is_Is_word)),
  )

  -- nothing is noted
  pub link-own : y ≡ 0 → e ≡ at + 37 → b₁ ≡ written b at (id_bytes (place_id ks q)) → (r ≡ e + 8) × (b₂ ≡ written b₁ e anchor_word) → (r ≡ at + 45) × (b₂ ≡ written b at (link_of ks by q))
  unfolding told_for word_of
  link-own z = after-id q anchor_word (rw (eq-eqb (get_or by q 0) 0 (sym is ∙ z)) refl) (rw (eq-eqb (get_or by q 0) 0 (sym is ∙ z)) refl) refl

  -- the place p is
  module _ (p : ℕ) (n : y ≡ 0 → ⊥) (place : p ≡ y - 1) (near : Bool) (round : near ≡ eqb (round_at ks q + 1) (round_at ks p)) where
    some : eqb (get_or by q 0) 0 ≡ false
    some = ne_eqb (get_or by q 0) 0 (λ z. n (is ∙ z))

    told : told_for by q ≡ p
    told = told-some ks by q p some (sym (place ∙ ap (λ x. x - 1) is))

    word : word_of ks by q ≡ cond near includes_word witness_word
    word = word_some ks by q p some (sym (place ∙ ap (λ x. x - 1) is)) ∙ rw round refl

    pub link_near : near ≡ true → e ≡ at + 37 → b₁ ≡ written b at (id_bytes (place_id ks p)) → (r ≡ e + 8) × (b₂ ≡ written b₁ e includes_word) → (r ≡ at + 45) × (b₂ ≡ written b at (link_of ks by q))
    link_near t = after-id p includes_word told (word ∙ rw t refl) refl

    pub link_far : near ≡ false → e ≡ at + 37 → b₁ ≡ written b at (id_bytes (place_id ks p)) → (r ≡ e + 8) × (b₂ ≡ written b₁ e witness_word) → (r ≡ at + 45) × (b₂ ≡ written b at (link_of ks by q))
    link_far f = after-id p witness_word told (word ∙ rw f refl) refl
