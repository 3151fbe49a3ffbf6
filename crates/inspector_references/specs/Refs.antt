-- Links of a point to a digest (01: inspector.rs).
use Prim.Native.Nat.{ℕ, zero, suc, ◌+◌, ◌<◌}
use Rattle.std.specs.Prelude.{◌≡◌, List, Bool, true, false, ◌&&◌, ◌||◌, eqb, ltb}
use Rattle.std.proofs.Math.Path.{refl, sym, ap}
use Rattle.std.proofs.Common.{◌∙◌, lt-ltb, le-ltb}
use native.Mathlib.Omega.{arith}
use Rattle.laws.specs.Test.{by_test, and_no, and_yes}
use Rattle.laws.specs.Lists.{has}
use Rattle.laws.specs.Scan.{any, any_same, any-first}
use Rattle.spec.specs.Store.{Resolution}
use Rattle.spec.specs.Rules.{counts_as_started}
use Rattle.spec.specs.Inspect.{refers_to}
use Rattle.models.specs.Digest.{Fit, digest_at}
use Rattle.models.specs.Tables.{status_at, Used, target_at}
use Rattle.tables_links.specs.Links.{dig_at}
use Rattle.commit_state.specs.View.{refs_from}
use Rattle.commit_state.specs.declared.state.State.{State}
use Rattle.tables_test.specs.View.{view}
use Rattle.back_walk.specs.Refines.{given_at_lem}

-- link k of the place q is there and has the digest d
unfoldable pub refers_by : List ℕ → ℕ → ℕ → ℕ → Bool
refers_by ls q d k = ltb 0 (target_at ls q k) && eqb (digest_at ls (dig_at q k)) d

-- one of the 32 links from b on is such a link
unfoldable pub refers_at : List ℕ → ℕ → ℕ → ℕ → Bool
refers_at ls q b d = any 32 (λ k. refers_by ls q d (b + k))

-- the code's steps
module _ (ls : List ℕ) (q d k x : ℕ) (is : x ≡ target_at ls q k) where
  pub refers-none : x ≡ 0 → refers_by ls q d k ≡ false
  unfolding refers_by
  refers-none e = and_no _ (le-ltb 0 (target_at ls q k) (omega arith))

  pub refers_there : (x ≡ 0 → ⊥) → refers_by ls q d k ≡ eqb (digest_at ls (dig_at q k)) d
  unfolding refers_by
  refers_there n = and_yes (lt-ltb 0 (target_at ls q k) (let m : 0 < x = omega arith in omega arith)) refl

module _ (ls : List ℕ) (q b d : ℕ) where
  -- the link under the peer k, before the others
  refs_one : (k m : ℕ) → refers_to d (refs_from ls q b k (suc m)) ≡ (refers_by ls q d (b + k) || refers_to d (refs_from ls q b (k + 1) m))
  unfolding refers_to has refs_from refers_by
  refs_one k m = by_test (ltb 0 (target_at ls q (b + k))) (λ t. rw (t, refs_from) refl) (λ f. rw (f, refs_from) refl)

  -- the links under the m peers from k on
  refs_any : (k m : ℕ) → refers_to d (refs_from ls q b k m) ≡ any m (λ j. refers_by ls q d (b + (k + j)))
  unfolding refers_to has refs_from any
  refs_any k zero = refl
  refs_any k (suc m) =
      refs_one k m
      ∙ (ap (λ z. refers_by ls q d (b + k) || z) (refs_any (k + 1) m ∙ any_same m _ _ (λ j l. ap (refers_by ls q d) (over j)))
      ∙ (ap (λ z. refers_by ls q d z || any m (λ j. refers_by ls q d (b + (k + suc j)))) first ∙ sym (any-first m (λ j. refers_by ls q d (b + (k + j))))))
    where
      first : b + k ≡ b + (k + 0)
      first = omega arith

      over : (j : ℕ) → b + (k + 1 + j) ≡ b + (k + suc j)
      over j = omega arith

  -- the code's test is that of 01
  pub refers_is : refers_at ls q b d ≡ refers_to d (refs_from ls q b 0 32)
  unfolding refers_at
  refers_is = any_same 32 _ _ (λ k l. ap (refers_by ls q d) (plain k)) ∙ sym (refs_any 0 32)
    where
      plain : (k : ℕ) → b + k ≡ b + (0 + k)
      plain k = omega arith

module _ (s : State) (ks ls cs os : List ℕ) (fk : Fit ks) (fl : Fit ls) (h : counts_as_started (view s ks ls cs os) ≡ true)
    (q : ℕ) (u : Used os s.count q) (st : 0 < status_at ks q) (d : ℕ) where
  -- at a resolved place: its includes
  pub includes_refer : refers_at ls q 0 d ≡ refers_to d ((view s ks ls cs os).pt q).resolution.includes
  includes_refer = refers_is ls q 0 d ∙ ap (λ (t : Resolution). refers_to d t.includes) (sym (given_at_lem s ks ls cs os fk fl h q u st))

  -- and its witness
  pub witness_refer : refers_at ls q 32 d ≡ refers_to d ((view s ks ls cs os).pt q).resolution.witness
  witness_refer = refers_is ls q 32 d ∙ ap (λ (t : Resolution). refers_to d t.witness) (sym (given_at_lem s ks ls cs os fk fl h q u st))
