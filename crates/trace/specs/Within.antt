-- A record among more bytes is the same record.
use Rattle.std.specs.Prelude.{ℕ, zero, suc, ◌+◌, ◌-◌, ◌<◌, ◌≤◌, ◌≡◌, refl, List, ◌∷◌, ◌++◌, Bool, true, ◌&&◌, cond, get_or, take, drop}
use Rattle.std.proofs.Common.{sym, ap₂, ◌∙◌, arith, length-drop, get_or-append-add}
use Rattle.std.proofs.Math.Path.{ap}
use Rattle.std.proofs.Math.ListN.{length, length-append, get_or-append}
use Rattle.std.proofs.lemmas.List.{take-append-le, drop-append-le}
use Rattle.std.proofs.Math.Seq.{drop-append-add}
use Rattle.std.proofs.Math.Dec.{leb}
use Rattle.laws.specs.Test.{by_test, clash}
use Rattle.laws.specs.Bytes.{value}
use Rattle.models.specs.Digest.{words}
use Rattle.trace.specs.Numbers.{number_at}
use Rattle.trace.specs.Links.{words_right}
use Rattle.trace.specs.Head.{rest_at, whole_at, fields_at, version_ok, kind_code, code_at, same-le, whole_elim, whole_intro, code_cut}

words_left : (xs es : List ℕ) (p m : ℕ) → p + m ≤ length xs → words (xs ++ es) p m ≡ words xs p m
unfolding words
words_left xs es p zero l = refl
words_left xs es p (suc m) l = ap₂ ◌∷◌ (get_or-append xs es 0 p (omega arith)) (words_left xs es (p + 1) m (omega arith))

-- a record with the same parts is refused with the same number
code_same : (w : Bool) (xs ys : List ℕ) (p q : ℕ) → whole_at xs p ≡ whole_at ys q → get_or xs (p + 4) 0 ≡ get_or ys (q + 4) 0 → get_or xs (p + 5) 0 ≡ get_or ys (q + 5) 0 → fields_at xs p ≡ fields_at ys q → code_at w xs p ≡ code_at w ys q
unfolding code_at
code_same w xs ys p q h v k f i = cond (h i) (cond (version_ok (v i) (k i)) (kind_code w (k i) (f i)) 27) 26

-- what stands behind other bytes is read as if they weren't there, a record that is refused too
module _ (zs xs : List ℕ) (x : ℕ) where
  abbrev n : ℕ
  n = length zs + x

  byte_behind : (k : ℕ) → get_or (zs ++ xs) (n + k) 0 ≡ get_or xs (x + k) 0
  byte_behind k = ap (λ (i : ℕ). get_or (zs ++ xs) i 0) (on (length zs) x k) ∙ get_or-append-add zs xs (x + k) 0
    where
      on : (n m i : ℕ) → n + m + i ≡ n + (m + i)
      on n m i = omega arith

  rest_behind : rest_at (zs ++ xs) n ≡ rest_at xs x
  unfolding number_at
  rest_behind = ap (value 0) (words_right zs xs n x 4 refl)

  whole_behind : whole_at (zs ++ xs) n ≡ whole_at xs x
  unfolding whole_at
  whole_behind =
      let l : length (zs ++ xs) ≡ length zs + length xs = length-append zs xs in
      let r : rest_at (zs ++ xs) n ≡ rest_at xs x = rest_behind in
      let a : leb (n + 4) (length (zs ++ xs)) ≡ leb (x + 4) (length xs) = same-le (n + 4) (length (zs ++ xs)) (x + 4) (length xs) (λ h. omega arith) (λ h. omega arith) in
      let b : leb (n + 4 + rest_at (zs ++ xs) n) (length (zs ++ xs)) ≡ leb (x + 4 + rest_at xs x) (length xs) = same-le (n + 4 + rest_at (zs ++ xs) n) (length (zs ++ xs)) (x + 4 + rest_at xs x) (length xs) (λ h. omega arith) (λ h. omega arith) in
      λ i. a i && (leb 2 (r i) && (leb (r i) 4096 && b i))

  fields_behind : fields_at (zs ++ xs) n ≡ fields_at xs x
  fields_behind =
      ap₂ (λ (k : ℕ) (l : List ℕ). take k l) (size (length zs) x (rest_at (zs ++ xs) n) (rest_at xs x) rest_behind)
      (ap (λ (i : ℕ). drop i (zs ++ xs)) (on (length zs) x) ∙ drop-append-add zs xs (x + 6))
    where
      size : (n m r s : ℕ) → r ≡ s → n + m + 4 + r - (n + m + 6) ≡ m + 4 + s - (m + 6)
      size n m r s e = omega arith

      on : (n m : ℕ) → n + m + 6 ≡ n + (m + 6)
      on n m = omega arith

  pub code_behind : (w : Bool) → code_at w (zs ++ xs) n ≡ code_at w xs x
  code_behind w = code_same w (zs ++ xs) xs n x whole_behind (byte_behind 4) (byte_behind 5) fields_behind

-- a whole record is read as if nothing stood behind it
module _ (xs es : List ℕ) (x : ℕ) where
  rest_before : x + 4 ≤ length xs → rest_at (xs ++ es) x ≡ rest_at xs x
  unfolding number_at
  rest_before l = ap (value 0) (words_left xs es x 4 l)

  module _ (h : whole_at xs x ≡ true) where
    rest_same : rest_at (xs ++ es) x ≡ rest_at xs x
    rest_same = rest_before (omega (arith, whole_elim xs x h))

    byte_before : (k : ℕ) → k < 6 → get_or (xs ++ es) (x + k) 0 ≡ get_or xs (x + k) 0
    byte_before k l = get_or-append xs es 0 (x + k) (omega (arith, whole_elim xs x h))

    whole_before : whole_at (xs ++ es) x ≡ true
    whole_before =
        let (a, b, c) = whole_elim xs x h in
        whole_intro (xs ++ es) x (omega (arith, rest_same)) (omega (arith, rest_same)) (omega (arith, rest_same, length-append xs es))

    fields_before : fields_at (xs ++ es) x ≡ fields_at xs x
    fields_before =
        let (a, b, c) = whole_elim xs x h in
        ap₂ (λ (n : ℕ) (l : List ℕ). take n l) (ap (λ (r : ℕ). x + 4 + r - (x + 6)) rest_same) (drop-append-le (x + 6) xs es (omega arith))
        ∙ take-append-le (x + 4 + rest_at xs x - (x + 6)) (drop (x + 6) xs) es (omega (arith, length-drop (x + 6) xs))

    code_before : (w : Bool) → code_at w (xs ++ es) x ≡ code_at w xs x
    code_before w = code_same w (xs ++ es) xs x x (whole_before ∙ sym h) (byte_before 4 (omega arith)) (byte_before 5 (omega arith)) fields_before

  -- and so is any, where as many bytes are there as a record may have: one that isn't whole there is so for its length
  pub code_far : (w : Bool) → x + 4100 ≤ length xs → code_at w (xs ++ es) x ≡ code_at w xs x
  code_far w l =
      by_test (whole_at xs x) (λ h. code_before h w)
      (λ f. code_cut (xs ++ es) x w (by_test (whole_at (xs ++ es) x) (λ t. absurd (clash (shorter t) f)) (λ g. g)) ∙ sym (code_cut xs x w f))
    where
      shorter : whole_at (xs ++ es) x ≡ true → whole_at xs x ≡ true
      shorter t =
          let (a, b, c) = whole_elim (xs ++ es) x t in
          let e : rest_at (xs ++ es) x ≡ rest_at xs x = rest_before (omega arith) in
          whole_intro xs x (omega arith) (omega arith) (omega arith)

-- the record of xs at x, with the bytes zs before xs and es behind it
module _ (zs xs es : List ℕ) (x : ℕ) (h : whole_at xs x ≡ true) where
  abbrev bs : List ℕ
  bs = zs ++ (xs ++ es)

  abbrev q : ℕ
  q = length zs + x

  pub kind-within : get_or bs (q + 5) 0 ≡ get_or xs (x + 5) 0
  kind-within = byte_behind zs (xs ++ es) x 5 ∙ byte_before xs es x h 5 (omega arith)

  pub rest_within : rest_at bs q ≡ rest_at xs x
  rest_within = rest_behind zs (xs ++ es) x ∙ rest_same xs es x h

  pub fields_within : fields_at bs q ≡ fields_at xs x
  fields_within = fields_behind zs (xs ++ es) x ∙ fields_before xs es x h

  pub code_within : (w : Bool) → code_at w bs q ≡ code_at w xs x
  code_within w = code_behind zs (xs ++ es) x w ∙ code_before xs es x h w
