-- 02, N6: "supposes that the anchors before it in the same outlook have been committed": the certificate words with the committed bit of the
-- places that they took, in no table.
use Rattle.std.specs.Prelude.{ℕ, zero, suc, ◌%◌, ◌<◌, ◌≡◌, refl, List, [], ◌∷◌, Bool, ◌&&◌, ◌||◌, cond, ltb, length, set, replicate}
use Rattle.std.proofs.Math.Path.{sym, ap}
use Rattle.std.proofs.Common.{◌∙◌, arith}
use Rattle.std.proofs.Math.Bool.{true, false, not}
use Rattle.std.proofs.Math.ListN.{get_or}
use Rattle.laws.specs.Test.{and_no_r}
use Rattle.models.specs.Cert.{flags_of, height_of, marked, committed_word}
use Rattle.cert_certify.specs.Word.{flags_word, height-word}
use Rattle.back_history.specs.Model.{is_uncommitted}

-- the flags of a word whose committed bit is set, or not
pub flags_marked : (b : Bool) (c d : ℕ) → d ≡ cond b (committed_word c) c → flags_of d ≡ record { top = (flags_of c).top; started = (flags_of c).started; completed = (flags_of c).completed; committed = b || (flags_of c).committed }
unfolding committed_word marked height_of
flags_marked true c d e = ap flags_of e ∙ flags_word (marked (flags_of c)) (height_of c) (omega arith)
flags_marked false c d e = ap flags_of e

-- its height
pub height-marked : (b : Bool) (c d : ℕ) → d ≡ cond b (committed_word c) c → height_of d ≡ height_of c
unfolding committed_word height_of
height-marked true c d e = ap height_of e ∙ height-word (marked (flags_of c)) (c % 4096) (omega arith)
height-marked false c d e = ap height_of e

-- the words, with the bit where a place is taken
unfoldable pub supposing : List Bool → List ℕ → List ℕ
supposing [] cs = cs
supposing (t ∷ ts) [] = []
supposing (t ∷ ts) (c ∷ cs) = cond t (committed_word c) c ∷ supposing ts cs

-- as many words
pub supposing-length : (ts : List Bool) (cs : List ℕ) → length (supposing ts cs) ≡ length cs
unfolding supposing
supposing-length [] cs = refl
supposing-length (t ∷ ts) [] = refl
supposing-length (t ∷ ts) (c ∷ cs) = ap suc (supposing-length ts cs)

-- the word of place q
pub supposing_at : (ts : List Bool) (cs : List ℕ) (q : ℕ) → q < length cs → get_or (supposing ts cs) q 0 ≡ cond (get_or ts q false) (committed_word (get_or cs q 0)) (get_or cs q 0)
unfolding supposing
supposing_at [] cs q l = refl
supposing_at (t ∷ ts) [] q l = absurd (omega arith)
supposing_at (t ∷ ts) (c ∷ cs) zero l = refl
supposing_at (t ∷ ts) (c ∷ cs) (suc q) l = supposing_at ts cs q (omega arith)

-- no place is taken
pub supposing-none : (n : ℕ) (cs : List ℕ) → supposing (replicate n false) cs ≡ cs
unfolding supposing
supposing-none zero cs = refl
supposing-none (suc n) [] = refl
supposing-none (suc n) (c ∷ cs) = ap (λ (ds : List ℕ). c ∷ ds) (supposing-none n cs)

-- one more is
pub supposing-more : (ts : List Bool) (cs : List ℕ) (q : ℕ) → q < length ts → q < length cs → supposing (set ts q true) cs ≡ set (supposing ts cs) q (committed_word (get_or cs q 0))
unfolding supposing
supposing-more [] cs q l m = absurd (omega arith)
supposing-more (t ∷ ts) [] q l m = absurd (omega arith)
supposing-more (t ∷ ts) (c ∷ cs) zero l m = refl
supposing-more (t ∷ ts) (c ∷ cs) (suc q) l m = ap (λ (ds : List ℕ). cond t (committed_word c) c ∷ ds) (supposing-more ts cs q (omega arith) (omega arith))

-- ---- the steps of the code

module _ (ts : List Bool) (cs : List ℕ) (m : List Bool) (q : ℕ) (l : q < length cs) where
  -- a taken place counts as committed
  pub fresh_taken : get_or ts q false ≡ true → false ≡ is_uncommitted (supposing ts cs) m q
  unfolding is_uncommitted
  fresh_taken h =
      let f = flags_marked true (get_or cs q 0) (get_or (supposing ts cs) q 0) (supposing_at ts cs q l ∙ rw h refl) in
      sym (ap (λ (b : Bool). get_or m q false && not b) (ap (λ g. g.committed) f) ∙ and_no_r (get_or m q false) refl)

  -- the word of any other is as it was
  word-left : get_or ts q false ≡ false → get_or (supposing ts cs) q 0 ≡ get_or cs q 0
  word-left h = supposing_at ts cs q l ∙ rw h refl

  pub fresh_left : get_or ts q false ≡ false → (b : Bool) → b ≡ is_uncommitted cs m q → b ≡ is_uncommitted (supposing ts cs) m q
  unfolding is_uncommitted
  fresh_left h b e = e ∙ ap (λ (c : ℕ). get_or m q false && not (flags_of c).committed) (sym (word-left h))

-- the bit changes no height
pub supposing-height : (ts : List Bool) (cs : List ℕ) (q : ℕ) → q < length cs → height_of (get_or (supposing ts cs) q 0) ≡ height_of (get_or cs q 0)
supposing-height ts cs q l = height-marked (get_or ts q false) (get_or cs q 0) (get_or (supposing ts cs) q 0) (supposing_at ts cs q l)

pub certified_by : (ts : List Bool) (cs : List ℕ) (q : ℕ) → q < length cs → (h : Bool) → h ≡ ltb 0 (height_of (get_or cs q 0)) → h ≡ ltb 0 (height_of (get_or (supposing ts cs) q 0))
certified_by ts cs q l h e = e ∙ ap (ltb 0) (sym (supposing-height ts cs q l))
