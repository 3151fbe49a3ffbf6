-- An id as the words of a place.
use Prim.Native.Nat.{ℕ, zero, suc, ◌+◌, ◌^◌, ◌<◌}
use Rattle.std.specs.Prelude.{◌≡◌, List, [], ◌∷◌, get_or}
use Rattle.std.proofs.Math.Path.{refl}
use native.Mathlib.Omega.{arith}
use Rattle.models.specs.Digest.{Fit, digest_at}
use Rattle.dag_round_keys.specs.Digest.{digest_alike}

-- the id with the round r and the author a, and the digest in the four words of t from p on, as the words of a place
unfoldable pub id_from : List ℕ → ℕ → ℕ → ℕ → List ℕ
id_from t p r a = r ∷ a ∷ get_or t (p + 0) 0 ∷ get_or t (p + 1) 0 ∷ get_or t (p + 2) 0 ∷ get_or t (p + 3) 0 ∷ 0 ∷ 0 ∷ []

module _ (t : List ℕ) (p r a : ℕ) where
  -- its words are values
  pub from_fit : Fit t → r < 2 ^ 64 → a < 2 ^ 64 → Fit (id_from t p r a)
  unfolding id_from
  from_fit f l m zero = l
  from_fit f l m (suc zero) = m
  from_fit f l m (suc (suc zero)) = f (p + 0)
  from_fit f l m (suc (suc (suc zero))) = f (p + 1)
  from_fit f l m (suc (suc (suc (suc zero)))) = f (p + 2)
  from_fit f l m (suc (suc (suc (suc (suc zero))))) = f (p + 3)
  from_fit f l m (suc (suc (suc (suc (suc (suc zero)))))) = omega arith
  from_fit f l m (suc (suc (suc (suc (suc (suc (suc zero))))))) = omega arith
  from_fit f l m (suc (suc (suc (suc (suc (suc (suc (suc i)))))))) = omega arith

  -- the words of its digest
  from_word : (i : ℕ) → i < 4 → get_or (id_from t p r a) (2 + i) 0 ≡ get_or t (p + i) 0
  unfolding id_from
  from_word zero l = refl
  from_word (suc zero) l = refl
  from_word (suc (suc zero)) l = refl
  from_word (suc (suc (suc zero))) l = refl
  from_word (suc (suc (suc (suc i)))) l = absurd (omega arith)

  -- its digest
  pub from_digest : digest_at (id_from t p r a) 2 ≡ digest_at t p
  from_digest = digest_alike (id_from t p r a) t 2 p from_word
