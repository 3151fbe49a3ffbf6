-- Where a record stands, and its kind.
use Rattle.std.specs.Prelude.{ℕ, ◌+◌, ◌-◌, ◌*◌, ◌<◌, ◌≤◌, List, Bool, ◌&&◌, cond, eqb, leb, get_or, take, drop}
use Rattle.std.proofs.Math.Path.{◌≡◌, refl, sym}
use Rattle.std.proofs.Common.{ap, ◌∙◌}
use Rattle.std.proofs.Math.Bool.{true, false}
use native.Mathlib.Omega.{arith}
use Rattle.std.proofs.Math.ListN.{length, length-take}
use borrow.Author.Tests.{eq-eqb, ne_eqb, le-leb, lt-leb, leb-true, eqb-true}
use Rattle.laws.specs.Test.{by_test, clash, same_test, both, and_l, and_r, and_no, and_no_r, cond_no}
use Rattle.trace.specs.Numbers.{number_at}
use Rattle.trace.specs.Kinds.{Kind, Start, Round, Name, Resolve, Certify, Commit, Remove, Drop, Gap, Reset, Outlook, Broken, kind_of, kind_known, known}
use Rattle.trace.specs.declared.head.Record.{Record}

-- a resolution's "number of includes, of witness (1 each)": both
unfoldable pub links_in : List ℕ → ℕ
links_in f = get_or f 80 0 + get_or f 81 0

-- 02, N5: "Commit: id, place lists": the lists are all bytes after the id
abbrev pub lists_in : List ℕ → List ℕ
lists_in f = drop 37 f

-- the length of a kind's fields; a link has 33 bytes, the payload's two numbers 8, the lists of a commit may have any number
unfoldable pub size_of : Kind → List ℕ → ℕ
size_of Start f = 22
size_of Round f = 8
size_of Name f = 37
size_of Resolve f = 90 + 33 * links_in f
size_of Certify f = 37
size_of Commit f = 37 + (length f - 37)
size_of Remove f = 9
size_of Drop f = 4
size_of Gap f = 0
size_of Reset f = 0
size_of Outlook f = 37
size_of Broken f = 0

-- a known kind, and fields of its length
unfoldable pub fits : Kind → List ℕ → Bool
fits k f = known k && eqb (length f) (size_of k f)

-- of the kind that the byte k stands for
unfoldable pub fields_fit : ℕ → List ℕ → Bool
fields_fit k f = fits (kind_of k) f

-- "length of the rest (4 bytes)"
abbrev pub rest_at : List ℕ → ℕ → ℕ
rest_at bs p = number_at bs p 4

-- at p stand a length of the rest, 2 to 4,096, and as many bytes
unfoldable pub whole_at : List ℕ → ℕ → Bool
whole_at bs p = leb (p + 4) (length bs) && (leb 2 (rest_at bs p) && (leb (rest_at bs p) 4096 && leb (p + 4 + rest_at bs p) (length bs)))

-- bs from a to before b
abbrev pub part : List ℕ → ℕ → ℕ → List ℕ
part bs a b = take (b - a) (drop a bs)

-- the fields of the record at p
abbrev pub fields_at : List ℕ → ℕ → List ℕ
fields_at bs p = part bs (p + 6) (p + 4 + rest_at bs p)

-- "version byte 1"
unfoldable pub version_ok : ℕ → ℕ → Bool
version_ok v k = eqb v 1

-- "It refuses with 26 a record .. of wrong length for its kind, and with 27, before that last test, an unknown version or kind": the number that the
-- fields f of the kind byte k are refused with, 0 for none. w: whether the bench's outlook is known
unfoldable pub kind_code : Bool → ℕ → List ℕ → ℕ
kind_code w k f = cond (kind_known w k) (cond (fields_fit k f) 0 26) 27

-- the number that the record at p is refused with, first of all "a record cut short, with a rest under 2 or above 4,096 bytes"
unfoldable pub code_at : Bool → List ℕ → ℕ → ℕ
code_at w bs p = cond (whole_at bs p) (cond (version_ok (get_or bs (p + 4) 0) (get_or bs (p + 5) 0)) (kind_code w (get_or bs (p + 5) 0) (fields_at bs p)) 27) 26

-- the record at p: its kind byte, where its fields begin, where they end; or the number that it is refused with
unfoldable pub head_by : ℕ → List ℕ → ℕ → Record
head_by c bs p = cond (eqb c 0) (record { code = 0; kind = get_or bs (p + 5) 0; from = p + 6; end = p + 4 + rest_at bs p }) (record { code = c; kind = 0; from = p; end = p })

abbrev pub head_at : Bool → List ℕ → ℕ → Record
head_at w bs p = head_by (code_at w bs p) bs p

-- as many bytes must be left for a record to be played: the most that a record has, unless the bytes are the last
abbrev pub least_left : Bool → ℕ
least_left last = cond last 1 4100

-- ---- laws

-- two comparisons that hold together are one
pub same-le : (a b c d : ℕ) → (a ≤ b → c ≤ d) → (c ≤ d → a ≤ b) → leb a b ≡ leb c d
same-le a b c d f g = same_test (leb a b) (leb c d) (λ h. le-leb c d (f (leb-true a b h))) (λ h. le-leb a b (g (leb-true c d h)))

-- 0 or not
pub by_zero : (c : ℕ) {A : Type 0} → (c ≡ 0 → A) → ((c ≡ 0 → ⊥) → A) → A
by_zero c y n = by_test (eqb c 0) (λ t. y (eqb-true c 0 t)) (λ t. n (λ z. clash (eq-eqb c 0 z) t))

module _ (f : List ℕ) where
  pub commit-size : leb 37 (length f) ≡ eqb (length f) (37 + (length f - 37))
  commit-size =
      same_test (leb 37 (length f)) (eqb (length f) (37 + (length f - 37)))
      (λ h. eq-eqb (length f) (37 + (length f - 37)) (omega (arith, leb-true 37 (length f) h)))
      (λ h. le-leb 37 (length f) (omega (arith, eqb-true (length f) (37 + (length f - 37)) h)))

  pub resolve_short : length f < 90 → false ≡ eqb (length f) (90 + 33 * links_in f)
  resolve_short l = sym (ne_eqb (length f) (90 + 33 * links_in f) (λ e. omega arith))

  pub resolve_long : (i w : ℕ) → i ≡ get_or f 80 0 → w ≡ get_or f 81 0 → eqb (length f) (90 + 33 * (i + w)) ≡ eqb (length f) (90 + 33 * links_in f)
  unfolding links_in
  resolve_long i w a b = rw (a, b) refl

-- by cases on the tests of a whole record
module _ (bs : List ℕ) (p : ℕ) where
  pub whole_short : length bs < p + 4 → false ≡ whole_at bs p
  unfolding whole_at
  whole_short l = rw (lt-leb (p + 4) (length bs) l) refl

  pub whole_little : (r : ℕ) → r ≡ rest_at bs p → r < 2 → false ≡ whole_at bs p
  unfolding whole_at
  whole_little r e l = sym (and_no_r (leb (p + 4) (length bs)) (and_no _ (lt-leb 2 (rest_at bs p) (rw e at l))))

  pub whole_much : (r : ℕ) → r ≡ rest_at bs p → 4096 < r → false ≡ whole_at bs p
  unfolding whole_at
  whole_much r e l = sym (and_no_r (leb (p + 4) (length bs)) (and_no_r (leb 2 (rest_at bs p)) (and_no _ (lt-leb (rest_at bs p) 4096 (rw e at l)))))

  pub whole_end : (r : ℕ) → r ≡ rest_at bs p → p + 4 ≤ length bs → 2 ≤ r → r ≤ 4096 → leb r (length bs - 4 - p) ≡ whole_at bs p
  unfolding whole_at
  whole_end r e k l m =
      rw (le-leb (p + 4) (length bs) k, le-leb 2 (rest_at bs p) (rw e at l), le-leb (rest_at bs p) 4096 (rw e at m), e)
      (same-le (rest_at bs p) (length bs - 4 - p) (p + 4 + rest_at bs p) (length bs) (λ h. omega arith) (λ h. omega arith))

  -- what a whole record has
  pub whole_elim : whole_at bs p ≡ true → (2 ≤ rest_at bs p) × (rest_at bs p ≤ 4096) × (p + 4 + rest_at bs p ≤ length bs)
  unfolding whole_at
  whole_elim h =
      let t = and_r (leb (p + 4) (length bs)) _ h in
      let u = and_r (leb 2 (rest_at bs p)) _ t in
      (leb-true _ _ (and_l _ _ t), leb-true _ _ (and_l _ _ u), leb-true _ _ (and_r (leb (rest_at bs p) 4096) _ u))

  pub whole_intro : 2 ≤ rest_at bs p → rest_at bs p ≤ 4096 → p + 4 + rest_at bs p ≤ length bs → whole_at bs p ≡ true
  unfolding whole_at
  whole_intro a b c =
      let d : p + 4 ≤ length bs = omega arith in
      both (le-leb _ _ d) (both (le-leb _ _ a) (both (le-leb _ _ b) (le-leb _ _ c)))

  -- one that isn't whole
  pub code_cut : (w : Bool) → whole_at bs p ≡ false → code_at w bs p ≡ 26
  unfolding code_at
  code_cut w h = cond_no _ _ 26 h refl

  -- a record that isn't refused
  pub code_whole : (w : Bool) → code_at w bs p ≡ 0 → whole_at bs p ≡ true
  unfolding code_at
  code_whole w h = by_test (whole_at bs p) (λ t. t) (λ t. absurd (zero_no (cond_no _ _ 26 t refl) h))
    where
      zero_no : {n : ℕ} → n ≡ 26 → n ≡ 0 → ⊥
      zero_no e g = omega arith

  pub code_fits : (w : Bool) → code_at w bs p ≡ 0 → (kind_known w (get_or bs (p + 5) 0) ≡ true) × (fields_fit (get_or bs (p + 5) 0) (fields_at bs p) ≡ true)
  unfolding code_at kind_code
  code_fits w h = last (whole_at bs p) (version_ok (get_or bs (p + 4) 0) (get_or bs (p + 5) 0)) (kind_known w (get_or bs (p + 5) 0)) (fields_fit (get_or bs (p + 5) 0) (fields_at bs p)) h
    where
      last : (a b c d : Bool) → ◌≡◌ {A = ℕ} (cond a (cond b (cond c (cond d 0 26) 27) 27) 26) 0 → (c ≡ true) × (d ≡ true)
      last false b c d e = absurd (omega arith)
      last true false c d e = absurd (omega arith)
      last true true false d e = absurd (omega arith)
      last true true true false e = absurd (omega arith)
      last true true true true e = (refl, refl)

  -- by the number that it is refused with
  pub head_good : (c : ℕ) → c ≡ 0 → head_by c bs p ≡ record { code = 0; kind = get_or bs (p + 5) 0; from = p + 6; end = p + 4 + rest_at bs p }
  unfolding head_by
  head_good c e = rw e refl

  pub head_bad : (c : ℕ) → (c ≡ 0 → ⊥) → head_by c bs p ≡ record { code = c; kind = 0; from = p; end = p }
  unfolding head_by
  head_bad c n = cond_no _ _ _ (ne_eqb c 0 n) refl

  pub head_code : (w : Bool) → (head_at w bs p).code ≡ code_at w bs p
  head_code w = by_zero (code_at w bs p) (λ z. ap (λ (x : Record). x.code) (head_good (code_at w bs p) z) ∙ sym z) (λ n. ap (λ (x : Record). x.code) (head_bad (code_at w bs p) n))

  -- a record that isn't broken: its kind, and its fields, which are within the bytes, at most 4,094 and have the length of their kind
  module _ (w : Bool) (r : Record) (e : r ≡ head_at w bs p) where
    pub head_known : known (kind_of r.kind) ≡ true → (code_at w bs p ≡ 0) × (fits (kind_of r.kind) (part bs r.from r.end) ≡ true) × (r.from ≡ p + 6) × (r.from ≤ r.end) × (r.end ≤ length bs) × (length (part bs r.from r.end) ≤ 4094)
    unfolding fields_fit kind_of
    head_known h =
        by_zero (code_at w bs p)
        (λ z.
        let g = e ∙ head_good (code_at w bs p) z in
        let l = whole_elim (code_whole w z) in
        rw g (z, (code_fits w z).1, refl, omega (arith, l), omega (arith, l), omega (arith, l, length-take (p + 4 + rest_at bs p - (p + 6)) (drop (p + 6) bs))))
        (λ n. absurd (clash h (ap (λ (x : Record). known (kind_of x.kind)) (e ∙ head_bad (code_at w bs p) n))))

    -- from an offset within the bytes, broken or not
    pub head_inside : p ≤ length bs → (r.from ≤ r.end) × (r.end ≤ length bs)
    head_inside l =
        by_zero (code_at w bs p)
        (λ z.
        let m = whole_elim (code_whole w z) in
        rw (e ∙ head_good (code_at w bs p) z) (omega (arith, m), omega (arith, m)))
        (λ n. rw (e ∙ head_bad (code_at w bs p) n) (omega arith, l))

-- the fields of a known kind have its length
pub fits-length : (k : Kind) (f : List ℕ) → fits k f ≡ true → length f ≡ size_of k f
unfolding fits
fits-length k f h = eqb-true _ _ (and_r (known k) _ h)

-- so few links that 605 words hold them
pub links-few : (f : List ℕ) → fits Resolve f ≡ true → length f ≤ 4094 → links_in f ≤ 121
unfolding size_of
links-few f h l = omega (arith, fits-length Resolve f h)
