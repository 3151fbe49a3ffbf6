-- The place that a link's target word gives is the one that the link names.
use Rattle.std.specs.Prelude.{ℕ, suc, ◌+◌, ◌-◌, ◌*◌, ◌≤◌, ◌<◌, ◌≡◌, refl, List, false, ◌&&◌, leb, get_or}
use Rattle.std.proofs.Common.{◌∙◌, ap, arith, add-one}
use Rattle.std.proofs.Math.Bool.{true}
use Rattle.std.proofs.Math.Dec.{eqb, ltb}
use borrow.Author.Tests.{eqb-true, le-leb, lt-ltb}
use Rattle.laws.specs.Test.{by_test, clash, both, and_l, and_r, le_or, cond_yes}
use Rattle.laws.specs.Scan.{first_hit}
use Rattle.models.specs.Digest.{digest_at}
use Rattle.models.specs.Tables.{round_at, author_at, digest_of, place_at, Used}
use Rattle.dag_round_keys.specs.Digest.{key_digest}
use Rattle.dag_round_keys.specs.Id.{id_from, from_digest}
use Rattle.dag_round_keys.specs.Key.{key, same, same-eq}
use Rattle.dag_round_keys.specs.Sorted.{key_at, point_at}
use Rattle.commit_state.specs.declared.state.State.{State}
use Rattle.info_checks.specs.Form.{peer_at}
use Rattle.info_checks.specs.Dangling.{link_words, found_at, is_dangling}
use Rattle.info_store.specs.Model.{target_of}

-- equal keys have equal rounds
key-round : (t u : List ℕ) (i j : ℕ) → key t i ≡ key u j → round_at t i ≡ round_at u j
unfolding key
key-round t u i j e = ap (λ (k : List ℕ). get_or k 0 0) e

-- the place p has the round d below r, the peer and the digest of the lent link j
pub record Leads (ks rs : List ℕ) (d r j p : ℕ) : Type 0 where
  pub round : round_at ks p + d ≡ r
  pub author : author_at ks p ≡ peer_at rs j
  pub digest : digest_of ks p ≡ digest_at rs (j * 5 + 1)

module _ (s : State) (ks os rs : List ℕ) (d r j : ℕ) where
  -- the position where the link's point is found
  abbrev at : ℕ
  at = found_at s ks os rs j (r - d)

  -- the link leads to that place
  found-leads : d ≤ r → at < s.count → Leads ks rs d r j (place_at os at)
  unfolding found_at point_at id_from
  found-leads l k =
      let w = link_words rs j (r - d) in
      let h : (same (key_at ks os at) (key w 0) && eqb (author_at ks (place_at os at)) (peer_at rs j)) ≡ true = first_hit (λ x. same (key_at ks os x) (key w 0) && eqb (author_at ks (place_at os x)) (peer_at rs j)) s.count k in
      let e : key ks (place_at os at) ≡ key w 0 = same-eq _ _ (and_l _ _ h) in
      record {
        round = let f : round_at ks (place_at os at) ≡ r - d = key-round ks w (place_at os at) 0 e in omega arith;
        author = eqb-true _ _ (and_r (same (key_at ks os at) (key w 0)) _ h);
        digest = key_digest ks w (place_at os at) 0 e ∙ from_digest rs (j * 5 + 1) (r - d) (peer_at rs j);
      }

  -- a link into a retained round that is not wild is found
  tame_found : s.bottom.0 + d ≤ r → is_dangling s ks os rs d r j ≡ false → at < s.count
  unfolding is_dangling
  tame_found l e = le_or s.count at (λ m. absurd (clash (both (le-leb (s.bottom.0 + d) r l) (le-leb s.count at m)) e)) (λ m. m)

  -- its target word gives the used place that it names
  pub target-leads : s.bottom.0 + d ≤ r → is_dangling s ks os rs d r j ≡ false → (p : ℕ) × Used os s.count p × (target_of s ks os rs d r j ≡ suc p) × Leads ks rs d r j p
  unfolding target_of
  target-leads l e =
      let k = tame_found l e in
      (place_at os at, (at, k, refl), cond_yes _ 1 _ (both (le-leb (s.bottom.0 + d) r l) (lt-ltb at s.count k)) (add-one (place_at os at)), found-leads (omega arith) k)

  -- a target word is never 0
  pub target_positive : 0 < target_of s ks os rs d r j
  unfolding target_of
  target_positive = by_test (leb (s.bottom.0 + d) r && ltb at s.count) (λ t. rw t (omega arith)) (λ f. rw f (omega arith))
