-- What is read of a place depends on its words alone.
use Prim.Native.Nat.{ℕ, zero, suc, ◌+◌, ◌*◌, ◌<◌, ◌≤◌}
use Rattle.std.specs.Prelude.{◌≡◌, List, ◌∷◌, ltb, get_or}
use Rattle.std.proofs.Math.Path.{refl}
use Rattle.std.proofs.Common.{sym, ◌∙◌, arith}
use Rattle.std.proofs.Math.Bool.{cond}
use Rattle.models.specs.Digest.{digest_at}
use Rattle.models.specs.Tables.{target_at}
use Rattle.dag_round_keys.specs.Digest.{digest_alike}
use Rattle.tables_links.specs.Links.{dig_at}
use Rattle.tables_links.specs.Named.{Names}
use Rattle.commit_state.specs.View.{refs_from, resolution_at, point_at}
use Rattle.tables_test.specs.View.{words_fit}

-- the words of the place q are the same in t and u, tables of w words a place
abbrev pub Same : List ℕ → ℕ → ℕ → List ℕ → Type 0
Same t w q u = (j : ℕ) → j < w → get_or u (q * w + j) 0 ≡ get_or t (q * w + j) 0

module _ (t u : List ℕ) (w q : ℕ) (h : Same t w q u) where
  -- the word at p, which is word j of the place
  same_at : (p j : ℕ) → p ≡ q * w + j → j < w → get_or u p 0 ≡ get_or t p 0
  same_at p j e l = rw e (h j l)

  -- the digest from p on
  same_digest_lem : (p j : ℕ) → p ≡ q * w + j → j + 4 ≤ w → digest_at u p ≡ digest_at t p
  same_digest_lem p j e l = digest_alike u t p p (λ i m. same_at (p + i) (j + i) (omega arith) (omega arith))

-- links that are the same at the place q
module _ (ls ls2 : List ℕ) (q : ℕ) (hl : Same ls 328 q ls2) where
  -- the target of link k
  pub same_target : (k : ℕ) → k < 64 → target_at ls2 q k ≡ target_at ls q k
  same_target k l = same_at ls ls2 328 q hl (q * 328 + 8 + k) (8 + k) (omega arith) (omega arith)

  -- its digest
  pub same-link : (k : ℕ) → k < 64 → digest_at ls2 (dig_at q k) ≡ digest_at ls (dig_at q k)
  same-link k l = same_digest_lem ls ls2 328 q hl (dig_at q k) (72 + k * 4) (omega arith) (omega arith)

  -- the links of a kind
  same_refs : (b k m : ℕ) → b + k + m ≤ 64 → refs_from ls2 q b k m ≡ refs_from ls q b k m
  unfolding refs_from
  same_refs b k zero l = refl
  same_refs b k (suc m) l =
      let rest = same_refs b (k + 1) m (omega arith) in
      let target = same_target (b + k) (omega arith) in
      let digest = same-link (b + k) (omega arith) in
      λ i. cond (ltb 0 (target i)) (record { peer = k; digest = digest i } ∷ rest i) (rest i)

  -- what a link names, with keys that are the same at both of its ends
  pub same_names : (ks ks2 : List ℕ) (k p : ℕ) → Same ks 8 q ks2 → Same ks 8 p ks2 → k < 64 → Names ks ls q k p → Names ks2 ls2 q k p
  same_names ks ks2 k p hq hp l m = record {
    falls = omega (arith, hq 0 (omega arith), hp 0 (omega arith), m.falls);
    author = hp 1 (omega arith) ∙ m.author;
    digest = same_digest_lem ks ks2 8 p hp (p * 8 + 2) 2 refl (omega arith) ∙ (m.digest ∙ sym (same-link k l));
  }

-- tables that are the same at the place q
module _ (ks ls cs ks2 ls2 cs2 : List ℕ) (q : ℕ) (hk : Same ks 8 q ks2) (hl : Same ls 328 q ls2) (hc : Same cs 1 q cs2) where
  -- the certificate word
  pub same_cert : get_or cs2 q 0 ≡ get_or cs q 0
  same_cert = same_at cs cs2 1 q hc q 0 (omega arith) (omega arith)

  -- the point
  pub same_point : point_at ks2 ls2 cs2 q ≡ point_at ks ls cs q
  unfolding point_at resolution_at
  same_point =
      rw (
        hk 0 (omega arith),
        hk 1 (omega arith),
        hk 6 (omega arith),
        hk 7 (omega arith),
        same_digest_lem ks ks2 8 q hk (q * 8 + 2) 2 refl (omega arith),
        hl 0 (omega arith),
        hl 1 (omega arith),
        hl 2 (omega arith),
        hl 7 (omega arith),
        same_digest_lem ls ls2 328 q hl (q * 328 + 3) 3 refl (omega arith),
        same_refs ls ls2 q hl 0 0 32 (omega arith),
        same_refs ls ls2 q hl 32 0 32 (omega arith),
        same_cert,
      )
      refl

  -- the ranges of its words
  pub same_fit : words_fit ks2 ls2 cs2 q ≡ words_fit ks ls cs q
  unfolding words_fit
  same_fit = rw (hk 7 (omega arith), same_cert, hk 6 (omega arith), hl 0 (omega arith), hl 1 (omega arith)) refl
