-- The number of places that the arguments say.
use Rattle.std.specs.Prelude.{ℕ, suc, ◌+◌, ◌-◌, ◌*◌, ◌≤◌, ◌<◌, ◌≡◌, List, [], ◌∷◌, Bool, true, false, ◌&&◌, cond, leb, ltb, length, get_or, drop}
use Rattle.std.proofs.Math.Path.{refl, sym, ap}
use Rattle.std.proofs.Common.{◌∙◌, subst, drop-cons, add-one, arith}
use Rattle.std.proofs.Math.Seq.{drop-length}
use borrow.Author.Tests.{le-leb, lt-leb, lt-ltb, le-ltb, leb-true}

-- the places without an argument, and the most that may be asked for
abbrev pub default_places : ℕ
default_places = 20

abbrev pub most_places : ℕ
most_places = 256

-- the bytes of 0 to 9
unfoldable pub is_digit : ℕ → Bool
is_digit d = leb 48 d && leb d 57

-- the decimal number n, with more digits behind it; 0 if one isn't a digit or the number is above the most
unfoldable pub number_from : ℕ → List ℕ → ℕ
number_from n [] = cond (leb n most_places) n 0
number_from n (d ∷ ds) = cond (is_digit d) (number_from (n * 10 + (d - 48)) ds) 0

-- the number that the digits say
abbrev pub number_said : List ℕ → ℕ
number_said ds = number_from 0 ds

-- count: the arguments, the program's name among them. ds: the one after it
unfoldable pub places_said : ℕ → List ℕ → ℕ
places_said count ds = cond (ltb count 2) default_places (cond (ltb 2 count) 0 (number_said ds))

-- ---- laws

most_or : (n : ℕ) (b : Bool) → leb n most_places ≡ b → cond b n 0 ≤ most_places
most_or n true e = leb-true n 256 e
most_or n false e = omega arith

or_none : (n : ℕ) (b : Bool) → n ≤ most_places → cond b n 0 ≤ most_places
or_none n true l = l
or_none n false l = omega arith

none_or : (n : ℕ) (b : Bool) → n ≡ 0 → cond b n 0 ≡ 0
none_or n true e = e
none_or n false e = refl

number_low : (n : ℕ) (ds : List ℕ) → number_from n ds ≤ most_places
unfolding number_from
number_low n [] = most_or n (leb n 256) refl
number_low n (d ∷ ds) = or_none _ (is_digit d) (number_low (n * 10 + (d - 48)) ds)

pub places_low : (count : ℕ) (ds : List ℕ) (r : ℕ) → r ≡ places_said count ds → r ≤ most_places
unfolding places_said
places_low count ds r e = subst (λ x. x ≤ most_places) (sym e) (go (ltb count 2) (ltb 2 count))
  where
    go : (a b : Bool) → cond a default_places (cond b 0 (number_said ds)) ≤ most_places
    go true b = omega arith
    go false true = omega arith
    go false false = number_low 0 ds

-- no argument, more than one, one
pub places_none : (count : ℕ) (ds : List ℕ) → count < 2 → default_places ≡ places_said count ds
unfolding places_said
places_none count ds l = rw (lt-ltb count 2 l) refl

pub places_more : (count : ℕ) (ds : List ℕ) → 2 < count → 0 ≡ places_said count ds
unfolding places_said
places_more count ds l = rw (le-ltb count 2 (omega arith), lt-ltb 2 count l) refl

pub places_one : (count : ℕ) (ds : List ℕ) (r : ℕ) → 2 ≤ count → count ≤ 2 → r ≡ number_said ds → r ≡ places_said count ds
unfolding places_said
places_one count ds r l g e = e ∙ sym (rw (le-ltb count 2 l, le-ltb 2 count g) refl)

-- a number above the most stays above it
pub number_above : (n : ℕ) (ds : List ℕ) → most_places < n → number_from n ds ≡ 0
unfolding number_from
number_above n [] l = rw (lt-leb n 256 l) refl
number_above n (d ∷ ds) l = none_or _ (is_digit d) (number_above (n * 10 + (d - 48)) ds (omega arith))

-- what the loop keeps: the number n of the digits before i
abbrev pub Reading : List ℕ → ℕ → ℕ → Type 0
Reading ds n i = (n ≤ most_places) × (i ≤ length ds) × (number_from n (drop i ds) ≡ number_said ds)

pub reading_none : (ds : List ℕ) → Reading ds 0 0
reading_none ds = (omega arith, omega arith, refl)

-- the digit at i
module _ (ds : List ℕ) (n i : ℕ) (h : Reading ds n i) (l : i < length ds) where
  abbrev x : ℕ
  x = get_or ds i 0

  next : number_said ds ≡ cond (is_digit x) (number_from (n * 10 + (x - 48)) (drop (suc i) ds)) 0
  unfolding number_from
  next = sym h.2 ∙ ap (number_from n) (drop-cons ds i 0 l)

  pub reading_low : x < 48 → 0 ≡ number_said ds
  unfolding is_digit
  reading_low g = sym (next ∙ rw (lt-leb 48 x g) refl)

  pub reading_high : 48 ≤ x → 57 < x → 0 ≡ number_said ds
  unfolding is_digit
  reading_high g k = sym (next ∙ rw (le-leb 48 x g, lt-leb x 57 k) refl)

  module _ (g : 48 ≤ x) (k : x ≤ 57) where
    taken : number_said ds ≡ number_from (n * 10 + (x - 48)) (drop (suc i) ds)
    unfolding is_digit
    taken = next ∙ rw (le-leb 48 x g, le-leb x 57 k) refl

    pub reading_above : most_places < n * 10 + (x - 48) → 0 ≡ number_said ds
    reading_above m = sym (taken ∙ number_above _ _ m)

    pub reading_more : n * 10 + (x - 48) ≤ most_places → Reading ds (n * 10 + (x - 48)) (i + 1)
    reading_more m = (m, omega arith, ap (λ j. number_from (n * 10 + (x - 48)) (drop j ds)) (add-one i) ∙ sym taken)

pub reading_end : (ds : List ℕ) (n i : ℕ) → Reading ds n i → length ds ≤ i → n ≡ number_said ds
unfolding number_from
reading_end ds n i h l =
    let e : i ≡ length ds = omega (arith, h.1) in
    sym (rw (le-leb n 256 h.0) refl) ∙ (sym (ap (number_from n) (drop-length ds)) ∙ (ap (λ j. number_from n (drop j ds)) (sym e) ∙ h.2))
