-- The words of a place written, and what stays as it was.
use Rattle.std.specs.Prelude.{ℕ, suc, ◌+◌, ◌*◌, ◌<◌, ◌≤◌, ◌≡◌, refl, List, false, length, get_or}
use Rattle.std.proofs.Math.Path.{sym}
use Rattle.std.proofs.Common.{◌∙◌, arith}
use Rattle.laws.specs.Test.{clash}
use Rattle.laws.specs.Scan.{first_ext}
use Rattle.dag_round_keys.specs.Fill.{copied, filled-length, filled_in, filled_off}
use Rattle.dag_round_keys.specs.Key.{key, key-same}
use Rattle.dag_round_keys.specs.Sorted.{Sorted, key_at, place_of}
use Rattle.dag_round_order.specs.Shift.{inserted, inserted-sorted}
use Rattle.models.specs.Tables.{is_used, used_is}

-- t with the first f words of the id in place s
abbrev pub stored : List ℕ → List ℕ → ℕ → ℕ → List ℕ
stored t id s f = copied t (s * 8) id 0 f

-- as long as t
pub stored-length : (t id : List ℕ) (s f : ℕ) → length (stored t id s f) ≡ length t
stored-length t id s f = filled-length _ t (s * 8) f

-- the words of other places stay
pub stored_other : (t id : List ℕ) (s f i w : ℕ) → f ≤ 8 → w < 8 → (i ≡ s → ⊥) → get_or (stored t id s f) (i * 8 + w) 0 ≡ get_or t (i * 8 + w) 0
stored_other t id s f i w l b n = filled_off _ t (s * 8) f (i * 8 + w) (λ k m e. n (omega arith))

-- place s has the id's words
pub stored-own : (t id : List ℕ) (s f w : ℕ) → s * 8 + 8 ≤ length t → f ≤ 8 → w < f → get_or (stored t id s f) (s * 8 + w) 0 ≡ get_or id w 0
stored-own t id s f w r l b = let e : 0 + w ≡ w = omega arith in rw e at (filled_in (λ i. get_or id (0 + i) 0) t (s * 8) f w (omega arith) b)

-- other places keep their keys
pub key-other : (t id : List ℕ) (s i : ℕ) → (i ≡ s → ⊥) → key (stored t id s 8) i ≡ key t i
key-other t id s i n = key-same (stored t id s 8) t i i (λ w l. stored_other t id s 8 i w (omega arith) l n)

-- place s has the id's key
pub key-own : (t id : List ℕ) (s : ℕ) → s * 8 + 8 ≤ length t → key (stored t id s 8) s ≡ key id 0
key-own t id s r = key-same (stored t id s 8) id s 0 (λ w l. rw (none w) (stored-own t id s 8 w r (omega arith) l))
  where
    none : (w : ℕ) → 0 + w ≡ w
    none w = omega arith

-- `put` with a free place and a new key
module _ (t id o : List ℕ) (n s : ℕ) (sorted : Sorted t o n) (room : n < length o) (inside : s * 8 + 8 ≤ length t)
    (free : is_used o n s ≡ false) (fresh : (p : ℕ) → p < n → key_at t o p ≡ key id 0 → ⊥) where
  -- the place stands nowhere
  apart : (p : ℕ) → p < n → get_or o p 0 ≡ s → ⊥
  apart p l e = clash ((used_is o n s).1 (p, l, e)) free

  -- so the keys of the order stay
  same_key : (p : ℕ) → p < n → key_at (stored t id s 8) o p ≡ key_at t o p
  same_key p l = key-other t id s (get_or o p 0) (apart p l)

  -- and the new key belongs where it did
  same_place : place_of t o n (key id 0) ≡ place_of (stored t id s 8) o n (key (stored t id s 8) s)
  unfolding place_of
  same_place = first_ext _ _ n (λ p l. sym (rw (same_key p l, key-own t id s inside) refl))

  -- THE LAW of `put`: the positions stay sorted
  pub put-sorted : Sorted (stored t id s 8) (inserted o n (place_of t o n (key id 0)) s) (suc n)
  put-sorted =
      inserted-sorted (stored t id s 8) o n (place_of t o n (key id 0)) s same_place
      (λ a b l m. rw (same_key a (omega arith), same_key b m) (sorted a b l m))
      room
      (λ p l e. fresh p l (sym (same_key p l) ∙ (e ∙ key-own t id s inside)))
