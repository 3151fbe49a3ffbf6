-- The test of the links as the code makes it (dag/dag_round.rs).
use Rattle.std.specs.Prelude.{ℕ, ◌+◌, ◌-◌, ◌*◌, ◌%◌, ◌≤◌, ◌<◌, ◌≡◌, Bool, true, false, not, ◌&&◌, ◌||◌, List, get_or, length, replicate, eqb, ltb}
use Rattle.std.proofs.Math.Path.{sym}
use Rattle.std.proofs.Common.{◌∙◌, arith, eq-eqb, ne_eqb, lt-ltb, le-ltb}
use Rattle.std.proofs.lemmas.Bool.{not-true, not-false}
use Rattle.laws.specs.Test.{or_l, and_no, and_yes}
use Rattle.laws.specs.Scan.{every}
use Rattle.models.specs.Live.{reach, Live, reach_live}
use Rattle.models.specs.Digest.{digest_at}
use Rattle.models.specs.Tables.{round_at, author_at, digest_of, place_at, target_at, dist}
use Rattle.dag_round_order.specs.Marks.{marked}

-- where the digest of link k of the place q stands
abbrev pub dig_at : ℕ → ℕ → ℕ
dig_at q k = q * 328 + 72 + k * 4

-- the place p has the round that link k of the place q leads to, the link's peer and its digest
unfoldable pub fits : List ℕ → List ℕ → ℕ → ℕ → ℕ → Bool
fits ks ls q k p = eqb (round_at ks p) (round_at ks q - dist k) && (eqb (author_at ks p) (k % 32) && eqb (digest_of ks p) (digest_at ls (dig_at q k)))

-- the place p is one of the first `places`, used by the marks ms, and fits
unfoldable pub leads_to : List ℕ → List ℕ → List Bool → ℕ → ℕ → ℕ → ℕ → Bool
leads_to ks ls ms places q k p = ltb p places && (get_or ms p false && fits ks ls q k p)

-- link k is none, or leads to such a place
unfoldable pub link_right : List ℕ → List ℕ → List Bool → ℕ → ℕ → ℕ → Bool
link_right ks ls ms places q k = eqb (target_at ls q k) 0 || leads_to ks ls ms places q k (target_at ls q k - 1)

unfoldable pub links_right : List ℕ → List ℕ → List Bool → ℕ → ℕ → ℕ → Bool
links_right ks ls ms places q m = every m (link_right ks ls ms places q)

-- no marks
unfoldable pub blank : List Bool
blank = replicate 4096 false

-- the live links of every used place
unfoldable pub links_hold : ℕ → List ℕ → List ℕ → List ℕ → ℕ → Bool
links_hold b ks ls os n = every n (λ i. links_right ks ls (marked blank os n) (length os) (place_at os i) (reach b ks (place_at os i)))

-- one law for each way out of the test of one link: x and y are the rounds, z the author that are read
module _ (ks ls : List ℕ) (q k p x y : ℕ) (e : x ≡ round_at ks p) (f : y ≡ round_at ks q) where
  pub fits-round : (x ≡ y - dist k → ⊥) → false ≡ fits ks ls q k p
  unfolding fits
  fits-round n = sym (and_no _ (ne_eqb (round_at ks p) (round_at ks q - dist k) (rw (e, f) at n)))

  module _ (r : x ≡ y - dist k) (z : ℕ) (g : z ≡ author_at ks p) where
    pub fits-author : (z ≡ k % 32 → ⊥) → false ≡ fits ks ls q k p
    unfolding fits
    fits-author n = sym (and_yes (eq-eqb (round_at ks p) (round_at ks q - dist k) (rw (e, f) at r)) (and_no _ (ne_eqb (author_at ks p) (k % 32) (rw g at n))))

    pub fits_digest : z ≡ k % 32 → (b : Bool) → b ≡ eqb (digest_of ks p) (digest_at ls (dig_at q k)) → b ≡ fits ks ls q k p
    unfolding fits
    fits_digest a b h = sym (and_yes (eq-eqb (round_at ks p) (round_at ks q - dist k) (rw (e, f) at r)) (and_yes (eq-eqb (author_at ks p) (k % 32) (rw g at a)) (sym h)))

-- link k is none
pub link-none : (ks ls : List ℕ) (ms : List Bool) (places q k a : ℕ) → a ≡ target_at ls q k → a ≡ 0 → true ≡ link_right ks ls ms places q k
unfolding link_right
link-none ks ls ms places q k a e z = sym (or_l (eqb (target_at ls q k) 0) _ (eq-eqb (target_at ls q k) 0 (sym e ∙ z)))

-- link k is there, and leads to p
module _ (ks ls : List ℕ) (ms : List Bool) (places q k a p : ℕ) (is : a ≡ target_at ls q k) (z : a ≡ 0 → ⊥) (e : p ≡ a - 1) where
  some : {x : Bool} → leads_to ks ls ms places q k p ≡ x → link_right ks ls ms places q k ≡ x
  unfolding link_right
  some h = let f : p ≡ target_at ls q k - 1 = rw is at e in rw (ne_eqb (target_at ls q k) 0 (rw is at z), ← f) h

  -- to none of the places
  pub link_far : places ≤ p → false ≡ link_right ks ls ms places q k
  unfolding leads_to
  link_far l = sym (some (and_no _ (le-ltb p places l)))

  -- to one that is not used
  pub link-free : p < places → not (get_or ms p false) ≡ true → false ≡ link_right ks ls ms places q k
  unfolding leads_to
  link-free l h = sym (some (and_yes (lt-ltb p places l) (and_no _ (not-true (get_or ms p false) h))))

  -- to a used one
  pub link_used : p < places → not (get_or ms p false) ≡ false → (b : Bool) → b ≡ fits ks ls q k p → b ≡ link_right ks ls ms places q k
  unfolding leads_to
  link_used l h b g = sym (some (and_yes (lt-ltb p places l) (and_yes (not-false (get_or ms p false) h) (sym g))))

-- live links lead to no round below 0
pub live_dist : (b : ℕ) (ks : List ℕ) (q m : ℕ) → m ≡ reach b ks q → (k : ℕ) → k < m → dist k ≤ round_at ks q
live_dist b ks q m e k l = let v : Live b ks q k = (reach_live b ks q k).0 (omega arith) in omega arith
