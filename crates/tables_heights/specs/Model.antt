-- What the code does (models/cert.rs). Cell p + 1 is the place p's; cell 0 takes what no link hands on.
use Rattle.std.specs.Prelude.{ℕ, zero, suc, ◌+◌, ◌-◌, ◌≤◌, ◌<◌, max, ◌≡◌, refl, Bool, true, false, List, eqb, get_or, set, length, replicate}
use Rattle.std.proofs.Math.Path.{sym}
use Rattle.std.proofs.Common.{◌∙◌, add-one, le_of_lt, arith, length-set}
use Rattle.std.proofs.Math.Nat.{max-eq_left, max-eq_right}
use Rattle.std.proofs.lemmas.List.{set-get_or}
use Rattle.std.proofs.Math.Seq.{set_out}
use borrow.Author.Tests.{eq-eqb, ne_eqb}
use Rattle.laws.specs.Scan.{every}
use Rattle.tables_heights.specs.View.{height_at, own_at}
use Rattle.models.specs.Live.{reach}
use Rattle.models.specs.Cert.{height_of}
use Rattle.models.specs.Tables.{place_at, target_at, dist}

-- cell p is raised to v
unfoldable pub raised : List ℕ → ℕ → ℕ → List ℕ
raised h p v = set h p (max (get_or h p 0) v)

-- the first k links of a place of height v, whose cells are a
unfoldable pub pushed : (ℕ → ℕ) → List ℕ → ℕ → ℕ → List ℕ
pushed a h v zero = h
pushed a h v (suc k) = raised (pushed a h v k) (a k) (v - dist k)

-- a place whose cell is p: its own height o, then its m live links
unfoldable pub pushed_one : (ℕ → ℕ) → List ℕ → ℕ → ℕ → ℕ → ℕ → List ℕ
pushed_one a h p o v m = pushed a (raised h p o) v m

-- the first i places of the order
unfoldable pub pushed_all : ℕ → ℕ → List ℕ → List ℕ → List ℕ → List ℕ → List ℕ → ℕ → List ℕ
pushed_all b T ks ls cs os h zero = h
pushed_all b T ks ls cs os h (suc i) =
    let q = place_at os i in pushed_one (target_at ls q) (pushed_all b T ks ls cs os h i) (q + 1) (own_at T cs q) (height_at cs q) (reach b ks q)

-- the cell of the place q holds its stored height
abbrev pub agrees_at : List ℕ → List ℕ → ℕ → Bool
agrees_at l cs q = eqb (get_or l (q + 1) 0) (height_at cs q)

unfoldable pub agrees : List ℕ → List ℕ → List ℕ → ℕ → Bool
agrees l cs os n = every n (λ i. agrees_at l cs (place_at os i))

module _ (l cs : List ℕ) (q h : ℕ) (is : h ≡ height_of (get_or cs q 0)) where
  pub agrees-yes : get_or l (q + 1) 0 ≡ h → agrees_at l cs q ≡ true
  unfolding height_of
  agrees-yes e = eq-eqb _ _ (e ∙ is)

  pub agrees_no : (get_or l (q + 1) 0 ≡ h → ⊥) → agrees_at l cs q ≡ false
  unfolding height_of
  agrees_no e = ne_eqb _ _ (λ d. e (d ∙ sym is))

-- the cells at first
unfoldable pub blank : List ℕ
blank = replicate 4097 0

-- the test that the code makes
unfoldable pub heights_hold : ℕ → ℕ → List ℕ → List ℕ → List ℕ → List ℕ → ℕ → Bool
heights_hold b T ks ls cs os n = agrees (pushed_all b T ks ls cs os blank n) cs os n

-- the code's steps
pub raised_up : (h : List ℕ) (p v : ℕ) → get_or h p 0 < v → raised h p v ≡ set h p v
unfolding raised
raised_up h p v l = rw (max-eq_right (le_of_lt l)) refl

pub raised-same : (h : List ℕ) (p v : ℕ) → v ≤ get_or h p 0 → raised h p v ≡ h
unfolding raised
raised-same h p v l = rw (max-eq_left l, set-get_or h p 0) refl

pub raised_out : (h : List ℕ) (p v : ℕ) → length h ≤ p → raised h p v ≡ h
unfolding raised
raised_out h p v l = set_out h p (max (get_or h p 0) v) l

pub pushed_more : (a : ℕ → ℕ) (h g r : List ℕ) (v k t x : ℕ) → g ≡ pushed a h v k → t ≡ a k → r ≡ raised g t x → x ≡ v - dist k → r ≡ pushed a h v (k + 1)
unfolding pushed
pushed_more a h g r v k t x p w q e = rw add-one (q ∙ (rw (p, w, e) refl))

pub pushed_end : (a : ℕ → ℕ) (h g : List ℕ) (v k m : ℕ) → g ≡ pushed a h v k → k ≤ m → m ≤ k → g ≡ pushed a h v m
pushed_end a h g v k m p b c = let e : k ≡ m = omega arith in rw e at p

-- a height below 2 raises no cell
pub pushed_low : (a : ℕ → ℕ) (h : List ℕ) (v m : ℕ) → v < 2 → h ≡ pushed a h v m
unfolding pushed
pushed_low a h v zero l = refl
pushed_low a h v (suc k) l = pushed_low a h v k l ∙ sym (raised-same (pushed a h v k) (a k) (v - dist k) (let e : v - dist k ≡ 0 = omega arith in rw e (omega arith)))

pub one_more : (a : ℕ → ℕ) (h s r : List ℕ) (p x o y v m : ℕ) → s ≡ raised h p x → x ≡ o → r ≡ pushed a s y m → y ≡ v → r ≡ pushed_one a h p o v m
unfolding pushed_one
one_more a h s r p x o y v m t e u f = u ∙ rw (t, e, f) refl

module _ (b T : ℕ) (ks ls cs os h : List ℕ) where
  pub all_more : (g r : List ℕ) (i q m : ℕ) → g ≡ pushed_all b T ks ls cs os h i → q ≡ place_at os i → m ≡ reach b ks q
      → r ≡ pushed_one (target_at ls q) g (q + 1) (own_at T cs q) (height_at cs q) m → r ≡ pushed_all b T ks ls cs os h (i + 1)
  unfolding pushed_all
  all_more g r i q m p e f u = rw (add-one i) (u ∙ rw (p, f, e) refl)

  pub all_end : (g : List ℕ) (i n : ℕ) → g ≡ pushed_all b T ks ls cs os h i → i ≤ n → n ≤ i → g ≡ pushed_all b T ks ls cs os h n
  all_end g i n p l m = let e : i ≡ n = omega arith in rw e at p

pub hold_by : (b T : ℕ) (ks ls cs os l : List ℕ) (n : ℕ) (r : Bool) → l ≡ pushed_all b T ks ls cs os blank n → r ≡ agrees l cs os n → r ≡ heights_hold b T ks ls cs os n
unfolding heights_hold
hold_by b T ks ls cs os l n r e p = p ∙ rw e

-- lengths
pub raised-length : (h : List ℕ) (p v : ℕ) → length (raised h p v) ≡ length h
unfolding raised
raised-length h p v = length-set h p (max (get_or h p 0) v)

pub pushed-length : (a : ℕ → ℕ) (h : List ℕ) (v k : ℕ) → length (pushed a h v k) ≡ length h
unfolding pushed
pushed-length a h v zero = refl
pushed-length a h v (suc k) = raised-length (pushed a h v k) (a k) (v - dist k) ∙ pushed-length a h v k

pub one-length : (a : ℕ → ℕ) (h : List ℕ) (p o v m : ℕ) → length (pushed_one a h p o v m) ≡ length h
unfolding pushed_one
one-length a h p o v m = pushed-length a (raised h p o) v m ∙ raised-length h p o

pub all-length : (b T : ℕ) (ks ls cs os h : List ℕ) (i : ℕ) → length (pushed_all b T ks ls cs os h i) ≡ length h
unfolding pushed_all
all-length b T ks ls cs os h zero = refl
all-length b T ks ls cs os h (suc i) = one-length _ (pushed_all b T ks ls cs os h i) _ _ _ _ ∙ all-length b T ks ls cs os h i
