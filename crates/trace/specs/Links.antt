-- The links of a resolution as five words each.
use Prim.Native.Nat.{ℕ, zero, suc, ◌+◌, ◌*◌, ◌/◌, ◌%◌, ◌<◌, ◌≤◌}
use Rattle.std.specs.Prelude.{◌≡◌, List, [], ◌∷◌, ◌++◌, eqb, set, take}
use Rattle.std.proofs.Math.Path.{refl, ap, ap₂}
use Rattle.std.proofs.Common.{sym, ◌∙◌, add-zero, add-one, length-append, get_or-append-add, take_at, eq-eqb}
use native.Mathlib.Omega.{arith}
use Rattle.std.proofs.Math.ListN.{length, get_or, get_or-append}
use Rattle.laws.specs.Test.{same_or, cond_yes}
use Rattle.laws.specs.Bytes.{number, written, written-length, written-append, written_is}
use Rattle.spec.specs.Ids.{Id, Ref}
use Rattle.spec.specs.Store.{Resolution}
use Rattle.models.specs.declared.info.PointInfo.{PointInfo}
use Rattle.models.specs.Digest.{words, digest_at}
use Rattle.models.specs.Info.{ref_at, refs_of, info_of}
use Rattle.trace.specs.Numbers.{number_at, id_at, point_id_at, digest_words, digest_is, id_read}
use Rattle.trace.specs.Head.{links_in}
use Rattle.trace.specs.Fields.{link_in, links_from, payload_from, resolution_in, info_in}

-- the five words of the link at p: peer, then digest
unfoldable pub link_words : List ℕ → ℕ → List ℕ
link_words f p = get_or f p 0 ∷ digest_words f (p + 1)

-- of the first n links of a resolution
unfoldable pub links_words : List ℕ → ℕ → List ℕ
links_words f zero = []
links_words f (suc n) = links_words f n ++ link_words f (82 + n * 33)

-- five words a link
pub links-length : (f : List ℕ) (n : ℕ) → length (links_words f n) ≡ n * 5
unfolding links_words link_words digest_words
links-length f zero = refl
links-length f (suc n) = length-append (links_words f n) (link_words f (82 + n * 33)) ∙ rw (links-length f n) (omega arith)

-- five stores are one link
pub link_put_lem : (f b : List ℕ) (p to x : ℕ) (d : List ℕ) → x ≡ get_or f p 0 → d ≡ digest_words f (p + 1)
    → set (set (set (set (set b (to + 0) x) (to + 1) (get_or d 0 0)) (to + 2) (get_or d 1 0)) (to + 3) (get_or d 2 0)) (to + 4) (get_or d 3 0) ≡ written b to (link_words f p)
unfolding written link_words digest_words
link_put_lem f b p to x d i j =
    let u : to + 1 + 1 ≡ to + 2 = omega arith in
    let v : to + 2 + 1 ≡ to + 3 = omega arith in
    let w : to + 3 + 1 ≡ to + 4 = omega arith in
    rw (i, j, u, v, w, add-zero to) refl

-- one link more
pub links-more : (f b c r : List ℕ) (n : ℕ) → c ≡ written b 0 (links_words f n) → r ≡ written c (n * 5) (link_words f (82 + n * 33)) → r ≡ written b 0 (links_words f (n + 1))
unfolding links_words
links-more f b c r n e q =
    rw (q, e, add-one n) (sym (written-append b 0 (links_words f n) (link_words f (82 + n * 33)) (n * 5) (omega (arith, links-length f n))))

module _ (f b r : List ℕ) (i w k : ℕ) (hi : i ≡ get_or f 80 0) (hw : w ≡ get_or f 81 0) (e : r ≡ written b 0 (links_words f k)) where
  -- the next link is within the fields, its words are within the slice
  pub link_fits : 82 + 33 * links_in f ≤ length f → links_in f * 5 ≤ length b → k < i + w → (82 + k * 33 + 33 ≤ length f) × (k * 5 + 5 ≤ length r)
  unfolding links_in
  link_fits l m n = (omega arith, omega (arith, ap length e ∙ written-length b 0 (links_words f k)))

  -- all links
  pub links_end : k ≤ i + w → i + w ≤ k → r ≡ written b 0 (links_words f (links_in f))
  unfolding links_in
  links_end l m = e ∙ ap (λ (n : ℕ). written b 0 (links_words f n)) (omega arith)

-- ---- words of one list after another

words_left : (xs ys : List ℕ) (p m : ℕ) → p + m ≤ length xs → words (xs ++ ys) p m ≡ words xs p m
unfolding words
words_left xs ys p zero l = refl
words_left xs ys p (suc m) l = ap₂ ◌∷◌ (get_or-append xs ys 0 p (omega arith)) (words_left xs ys (p + 1) m (omega arith))

pub words_right : (xs ys : List ℕ) (q p m : ℕ) → q ≡ length xs + p → words (xs ++ ys) q m ≡ words ys p m
unfolding words
words_right xs ys q p zero e = refl
words_right xs ys q p (suc m) e = ap₂ ◌∷◌ (rw e (get_or-append-add xs ys p 0)) (words_right xs ys (q + 1) (p + 1) m (omega arith))

abbrev reference : ℕ → ℕ → Ref
reference a d = record { peer = a; digest = d }

ref-left : (xs ys : List ℕ) (j : ℕ) → j * 5 + 5 ≤ length xs → ref_at (xs ++ ys) j ≡ ref_at xs j
unfolding digest_at
ref-left xs ys j l = ap₂ reference (get_or-append xs ys 0 (j * 5 + 0) (omega arith)) (ap (number _ 0) (words_left xs ys (j * 5 + 1) 4 (omega arith)))

ref_right : (xs ys : List ℕ) (j : ℕ) → length xs ≡ j * 5 → ref_at (xs ++ ys) j ≡ ref_at ys 0
unfolding digest_at
ref_right xs ys j e =
    ap₂ reference (ap (λ (k : ℕ). get_or (xs ++ ys) k 0) (ap (λ (k : ℕ). k + 0) (sym e)) ∙ get_or-append-add xs ys 0 0) (ap (number _ 0) (words_right xs ys (j * 5 + 1) 1 4 (omega arith)))

-- the words of a link read as the link
ref_is : (f : List ℕ) (p : ℕ) → ref_at (link_words f p) 0 ≡ link_in f p
unfolding link_words digest_at words
ref_is f p = ap (reference (get_or f p 0)) (digest_is f (p + 1))

ref_at_lem : (f : List ℕ) (n j : ℕ) → j < n → ref_at (links_words f n) j ≡ link_in f (82 + j * 33)
unfolding links_words
ref_at_lem f zero j l = absurd (omega arith)
ref_at_lem f (suc n) j l =
    same_or j n
    (λ e. rw e (ref_right (links_words f n) _ n (links-length f n) ∙ ref_is f (82 + n * 33)))
    (λ d. ref-left (links_words f n) _ j (omega (arith, links-length f n)) ∙ ref_at_lem f n j (omega arith))

-- so do those of many
refs_are : (f : List ℕ) (n j m : ℕ) → j + m ≤ n → refs_of (links_words f n) j m ≡ links_from f (82 + j * 33) m
unfolding refs_of links_from
refs_are f n j zero l = refl
refs_are f n j (suc m) l =
    let e : 82 + (j + 1) * 33 ≡ 82 + j * 33 + 33 = omega arith in
    ap₂ ◌∷◌ (ref_at_lem f n j (omega arith)) (refs_are f n (j + 1) m (omega arith) ∙ ap (λ (p : ℕ). links_from f p m) e)

-- ---- what a resolution tells

-- with another top proof and other links
abbrev telling : List ℕ → Id → List Ref → List Ref → Resolution
telling f t is ws = record {
  status = get_or f 37 0;
  proof = eqb (get_or f 38 0 % 2) 1;
  trigger = eqb (get_or f 38 0 / 2 % 2) 1;
  cause = eqb (get_or f 38 0 / 4 % 2) 1;
  top_proof = t;
  evidence = number_at f 76 4;
  includes = is;
  witness = ws;
  payload_len = number_at f (payload_from f) 4;
  payload_bytes = number_at f (payload_from f + 4) 4;
}

module _ (f : List ℕ) where
  -- the fields of a resolution, read as 01's with the words of their links
  pub info_read : info_of (info_in f) (links_words f (links_in f)) ≡ resolution_in f
  unfolding info_of info_in resolution_in links_in
  info_read =
      let a : ℕ = get_or f 80 0 in
      let b : ℕ = get_or f 81 0 in
      cond_yes _ _ _ (eq-eqb _ _ (links-length f (a + b)))
      (ap (λ (x : Id). telling f x (refs_of (links_words f (a + b)) 0 a) (refs_of (links_words f (a + b)) a b)) (id_read f 39 (point_id_at f 39) refl)
      ∙ ap₂ (telling f (id_at f 39)) (refs_are f (a + b) 0 a (omega arith)) (refs_are f (a + b) a b (omega arith)))

  -- the number of links
  pub links_are : (i : PointInfo) → i ≡ info_in f → i.includes + i.witness ≡ links_in f
  unfolding links_in info_in
  links_are i e = rw e refl

  -- their words in a slice: they stand from its start on
  pub links-taken : (b r : List ℕ) (n : ℕ) → n ≡ links_in f → links_in f * 5 ≤ length b → r ≡ written b 0 (links_words f (links_in f)) → take (n * 5) r ≡ links_words f (links_in f)
  links-taken b r n h l e =
      let q : length (links_words f (links_in f)) ≡ n * 5 = links-length f (links_in f) ∙ ap (λ (m : ℕ). m * 5) (sym h) in
      ap (take (n * 5)) (e ∙ written_is b 0 (links_words f (links_in f)) (omega (arith, q, l, h))) ∙ take_at (links_words f (links_in f)) _ (n * 5) q
