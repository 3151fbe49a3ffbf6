-- The links that are written are those that are read.
use Prim.Native.Nat.{ℕ, zero, suc, ◌+◌, ◌*◌, ◌≤◌, ◌<◌}
use Rattle.std.specs.Prelude.{◌≡◌, List, ◌∷◌, ◌⊎◌, leb, ltb, length, set}
use Rattle.std.proofs.Math.Path.{refl}
use Rattle.std.proofs.Common.{sym, ◌∙◌, subst, inl, inr, ⊎_elim}
use Rattle.std.proofs.Math.Bool.{true}
use native.Mathlib.Omega.{arith}
use Rattle.std.proofs.Math.ListN.{get_or, length-set}
use Rattle.std.proofs.Math.Seq.{get_or-set_same, get_or-set_other}
use borrow.Author.Tests.{le-leb, leb-true, le-ltb, lt-ltb}
use Rattle.laws.specs.Test.{both, and_l, and_r, same_or, le_or}
use Rattle.spec.specs.Ids.{Ref}
use Rattle.models.specs.Digest.{digest_at}
use Rattle.models.specs.Info.{ref_at, refs_of}
use Rattle.models.specs.Tables.{target_at}
use Rattle.commit_state.specs.View.{refs_from}
use Rattle.dag_round_keys.specs.Fill.{filled_in, filled_off}
use Rattle.dag_round_keys.specs.Digest.{digest_alike}
use Rattle.tables_links.specs.Links.{dig_at}
use Rattle.info_checks.specs.Form.{peer_at, rises_from, Peers, rise_peers, rise_below, rise_apart}
use Rattle.info_store.specs.Model.{link_put, links_put, links-length}

-- y is a word of link k of place q: its target word, or a word of its digest
abbrev pub Word : ℕ → ℕ → ℕ → Type 0
Word q k y = (y ≡ q * 328 + 8 + k) ⊎ ((x : ℕ) × (x < 4) × (y ≡ q * 328 + 72 + k * 4 + x))

-- y is none
abbrev pub Clear : ℕ → ℕ → ℕ → Type 0
Clear q k y = (y ≡ q * 328 + 8 + k → ⊥) × ((x : ℕ) → x < 4 → y ≡ q * 328 + 72 + k * 4 + x → ⊥)

-- a word of one link is none of another
pub word_apart : (q k l y : ℕ) → k < 64 → l < 64 → (k ≡ l → ⊥) → Word q k y → Clear q l y
word_apart q k l y a b d w =
    ⊎_elim
    (λ e. ((λ f. d (omega arith)), λ x m f. omega arith))
    (λ (z, m, e). ((λ f. omega arith), λ x n f. d (omega arith)))
    w

-- ---- one link

module _ (ls : List ℕ) (q k w : ℕ) (rs : List ℕ) (j : ℕ) where
  -- other words stay
  link_off : (y : ℕ) → Clear q k y → get_or (link_put ls q k w rs j) y 0 ≡ get_or ls y 0
  unfolding link_put
  link_off y (a, b) = filled_off _ (set ls (q * 328 + 8 + k) w) (q * 328 + 72 + k * 4) 4 y b ∙ get_or-set_other ls (q * 328 + 8 + k) y w 0 a

  module _ (room : q * 328 + 328 ≤ length ls) (small : k < 64) where
    -- its target word
    link-target : target_at (link_put ls q k w rs j) q k ≡ w
    unfolding link_put
    link-target =
        filled_off _ (set ls (q * 328 + 8 + k) w) (q * 328 + 72 + k * 4) 4 (q * 328 + 8 + k) (λ i l e. omega arith)
        ∙ get_or-set_same ls (q * 328 + 8 + k) w 0 (omega arith)

    -- its digest
    link_digest : (x : ℕ) → x < 4 → get_or (link_put ls q k w rs j) (q * 328 + 72 + k * 4 + x) 0 ≡ get_or rs (j * 5 + 1 + x) 0
    unfolding link_put
    link_digest x l = filled_in (λ i. get_or rs (j * 5 + 1 + i) 0) (set ls (q * 328 + 8 + k) w) (q * 328 + 72 + k * 4) 4 x (omega (arith, length-set ls (q * 328 + 8 + k) w)) l

-- ---- the links of a kind

-- the links from b on of place q are m lent links from link j on, with the target words that f gives
pub record Held (f : ℕ → ℕ) (ls : List ℕ) (q b : ℕ) (rs : List ℕ) (j m : ℕ) : Type 0 where
  pub target : (i : ℕ) → i < m → target_at ls q (b + peer_at rs (j + i)) ≡ f (j + i)
  pub digest : (i : ℕ) → i < m → digest_at ls (dig_at q (b + peer_at rs (j + i))) ≡ digest_at rs ((j + i) * 5 + 1)
  pub none : (c : ℕ) → c < 32 → 0 < target_at ls q (b + c) → (i : ℕ) × (i < m) × (peer_at rs (j + i) ≡ c)

-- y is a word of no link from b to b + 31
abbrev pub Off : ℕ → ℕ → ℕ → Type 0
Off q b y = (c : ℕ) → c < 32 → Clear q (b + c) y

module _ (f : ℕ → ℕ) (ls : List ℕ) (q b : ℕ) (rs : List ℕ) (j : ℕ) where
  -- words of other links stay
  pub links_off : (m y : ℕ) → Peers rs j m → Off q b y → get_or (links_put f ls q b rs j m) y 0 ≡ get_or ls y 0
  unfolding links_put
  links_off zero y p o = refl
  links_off (suc m) y p o =
      link_off (links_put f ls q b rs j m) q (b + peer_at rs (j + m)) (f (j + m)) rs (j + m) y (o (peer_at rs (j + m)) (p m (omega arith)))
      ∙ links_off m y (λ i l. p i (omega arith)) o

  module _ (base : b ≤ 32) where
    -- the words of link i are those that it was given
    links_last : (m : ℕ) → ((x y : ℕ) → x < y → y < m → peer_at rs (j + x) < peer_at rs (j + y)) → Peers rs j m → (i y : ℕ) → i < m → Word q (b + peer_at rs (j + i)) y
        → get_or (links_put f ls q b rs j m) y 0 ≡ get_or (link_put (links_put f ls q b rs j i) q (b + peer_at rs (j + i)) (f (j + i)) rs (j + i)) y 0
    unfolding links_put
    links_last zero up p i y l w = absurd (omega arith)
    links_last (suc m) up p i y l w =
        same_or i m
        (λ e. rw e refl)
        (λ d. let a = up i m (omega arith) (omega arith) in
        let z = p m (omega arith) in
        link_off (links_put f ls q b rs j m) q (b + peer_at rs (j + m)) (f (j + m)) rs (j + m) y (word_apart q (b + peer_at rs (j + i)) (b + peer_at rs (j + m)) y (omega arith) (omega arith) (λ e. omega arith) w)
        ∙ links_last m (λ x y u v. up x y u (omega arith)) (λ x u. p x (omega arith)) i y (omega arith) w)

    -- a target is that of one of them
    links-none : (m : ℕ) → Peers rs j m → (c : ℕ) → c < 32 → target_at ls q (b + c) ≡ 0 → 0 < target_at (links_put f ls q b rs j m) q (b + c) → (i : ℕ) × (i < m) × (peer_at rs (j + i) ≡ c)
    unfolding links_put
    links-none zero p c l z t = absurd (omega arith)
    links-none (suc m) p c l z t =
        same_or (peer_at rs (j + m)) c
        (λ e. (m, omega arith, e))
        (λ d. let u = p m (omega arith) in
        let e = link_off (links_put f ls q b rs j m) q (b + peer_at rs (j + m)) (f (j + m)) rs (j + m) (q * 328 + 8 + (b + c)) (word_apart q (b + c) (b + peer_at rs (j + m)) (q * 328 + 8 + (b + c)) (omega arith) (omega arith) (λ g. d (omega arith)) (inl refl)) in
        let (i, k, g) = links-none m (λ x v. p x (omega arith)) c l z (subst (λ (x : ℕ). 0 < x) e t) in
        (i, omega arith, g))

    -- links written into a place that has none of their kind
    pub held_put : (m : ℕ) → rises_from rs 0 j m ≡ true → q * 328 + 328 ≤ length ls → ((c : ℕ) → c < 32 → target_at ls q (b + c) ≡ 0) → Held f (links_put f ls q b rs j m) q b rs j m
    held_put m h room z = record {
      target = λ i l. last i (q * 328 + 8 + (b + peer_at rs (j + i))) l (inl refl) ∙ link-target (links_put f ls q b rs j i) q (b + peer_at rs (j + i)) (f (j + i)) rs (j + i) (wide i) (low i l);
      digest = λ i l. digest_alike _ rs (dig_at q (b + peer_at rs (j + i))) ((j + i) * 5 + 1) (λ x k. last i (dig_at q (b + peer_at rs (j + i)) + x) l (inr (x, k, refl)) ∙ link_digest (links_put f ls q b rs j i) q (b + peer_at rs (j + i)) (f (j + i)) rs (j + i) (wide i) (low i l) x k);
      none = λ c l t. links-none m (rise_below rs j m h) c l (z c l) t;
    }
      where
        last : (i y : ℕ) → i < m → Word q (b + peer_at rs (j + i)) y → get_or (links_put f ls q b rs j m) y 0 ≡ get_or (link_put (links_put f ls q b rs j i) q (b + peer_at rs (j + i)) (f (j + i)) rs (j + i)) y 0
        last = links_last m (rise_apart rs 0 j m h) (rise_below rs j m h)

        wide : (i : ℕ) → q * 328 + 328 ≤ length (links_put f ls q b rs j i)
        wide i = omega (arith, room, links-length f ls q b rs j i)

        low : (i : ℕ) → i < m → b + peer_at rs (j + i) < 64
        low i l = omega (arith, base, rise_below rs j m h i l)

-- a table with the same words of these links
pub held_same : (f : ℕ → ℕ) (ls us : List ℕ) (q b : ℕ) (rs : List ℕ) (j m : ℕ) → Peers rs j m → ((c y : ℕ) → c < 32 → Word q (b + c) y → get_or us y 0 ≡ get_or ls y 0) → Held f ls q b rs j m → Held f us q b rs j m
held_same f ls us q b rs j m p e h = record {
  target = λ i l. e (peer_at rs (j + i)) (q * 328 + 8 + (b + peer_at rs (j + i))) (p i l) (inl refl) ∙ h.target i l;
  digest = λ i l. digest_alike us ls (dig_at q (b + peer_at rs (j + i))) (dig_at q (b + peer_at rs (j + i))) (λ x k. e (peer_at rs (j + i)) (dig_at q (b + peer_at rs (j + i)) + x) (p i l) (inr (x, k, refl))) ∙ h.digest i l;
  none = λ c l t. h.none c l (subst (λ (x : ℕ). 0 < x) (e c (q * 328 + 8 + (b + c)) l (inl refl)) t);
}

-- ---- the links as they are read

module _ (ls : List ℕ) (q b : ℕ) (rs : List ℕ) where
  -- no link under the peer k
  refs_skip : (k n : ℕ) → target_at ls q (b + k) ≡ 0 → refs_from ls q b k (suc n) ≡ refs_from ls q b (k + 1) n
  unfolding refs_from
  refs_skip k n e = rw (le-ltb 0 (target_at ls q (b + k)) (omega arith)) refl

  -- a link under the peer k, with the digest x
  refs_here : (k n x : ℕ) → 0 < target_at ls q (b + k) → digest_at ls (q * 328 + 72 + (b + k) * 4) ≡ x → refs_from ls q b k (suc n) ≡ record { peer = k; digest = x } ∷ refs_from ls q b (k + 1) n
  unfolding refs_from
  refs_here k n x l e = rw (lt-ltb 0 (target_at ls q (b + k)) l, e) refl

  -- the lent link i of m from link j on is there
  abbrev Hit : ℕ → ℕ → Type 0
  Hit j m = (i : ℕ) → i < m → (0 < target_at ls q (b + peer_at rs (j + i))) × (digest_at ls (q * 328 + 72 + (b + peer_at rs (j + i)) * 4) ≡ digest_at rs ((j + i) * 5 + 1))

  -- no other is, under the peers from k on
  abbrev Miss : ℕ → ℕ → ℕ → Type 0
  Miss k j m = (c : ℕ) → k ≤ c → c < 32 → 0 < target_at ls q (b + c) → (i : ℕ) × (i < m) × (peer_at rs (j + i) ≡ c)

  -- the links under the n peers from k on, which are the last
  refs_are : (n k j m : ℕ) → k + n ≡ 32 → rises_from rs k j m ≡ true → Hit j m → Miss k j m → refs_from ls q b k n ≡ refs_of rs j m
  unfolding refs_of rises_from refs_from
  refs_are zero k j zero e h hit miss = refl
  refs_are zero k j (suc m) e h hit miss = absurd (let (x, y) = rise_peers rs k j (suc m) h 0 (omega arith) in omega arith)
  refs_are (suc n) k j zero e h hit miss =
      refs_skip k n (le_or (target_at ls q (b + k)) 0 (λ l. omega arith) (λ t. absurd (let (i, l, g) = miss k (omega arith) (omega arith) t in omega arith)))
      ∙ refs_are n (k + 1) j zero (omega arith) refl hit (λ c l u t. miss c (omega arith) u t)
  refs_are (suc n) k j (suc m) e h hit miss =
      same_or (peer_at rs j) k
      (λ g. refs_here k n (digest_at rs (j * 5 + 1)) (first g).0 (first g).1
      ∙ link g (refs_are n (k + 1) (j + 1) m (omega arith) (subst (λ (x : ℕ). rises_from rs (x + 1) (j + 1) m ≡ true) g (and_r (ltb (peer_at rs j) 32) _ (and_r (leb k (peer_at rs j)) _ h))) hits (must_reference g)))
      (λ d. let up : rises_from rs (k + 1) j (suc m) ≡ true = both (le-leb (k + 1) (peer_at rs j) (omega (arith, leb-true k (peer_at rs j) (and_l _ _ h)))) (and_r (leb k (peer_at rs j)) _ h) in
      refs_skip k n (le_or (target_at ls q (b + k)) 0 (λ l. omega arith) (λ t. absurd (let (i, l, g) = miss k (omega arith) (omega arith) t in omega (arith, (rise_peers rs (k + 1) j (suc m) up i l).0))))
      ∙ refs_are n (k + 1) j (suc m) (omega arith) up hit (λ c l u t. miss c (omega arith) u t))
    where
      start : j + 0 ≡ j
      start = omega arith

      next : (i : ℕ) → j + suc i ≡ j + 1 + i
      next i = omega arith

      first : peer_at rs j ≡ k → (0 < target_at ls q (b + k)) × (digest_at ls (q * 328 + 72 + (b + k) * 4) ≡ digest_at rs (j * 5 + 1))
      first g = rw (start, g) at (hit 0 (omega arith))

      link : {xs ys : List Ref} → peer_at rs j ≡ k → xs ≡ ys → record { peer = k; digest = digest_at rs (j * 5 + 1) } ∷ xs ≡ ref_at rs j ∷ ys
      link g r = λ i. record { peer = sym g i; digest = digest_at rs (j * 5 + 1) } ∷ r i

      hits : Hit (j + 1) m
      hits i l = rw (next i) at (hit (suc i) (omega arith))

      later : (c i : ℕ) → (peer_at rs j ≡ c → ⊥) → i < suc m → peer_at rs (j + i) ≡ c → (x : ℕ) × (x < m) × (peer_at rs (j + 1 + x) ≡ c)
      later c zero d l g = absurd (d (rw start at g))
      later c (suc i) d l g = (i, omega arith, rw (next i) at g)

      must_reference : peer_at rs j ≡ k → Miss (k + 1) (j + 1) m
      must_reference g c l u t = let (i, v, w) = miss c (omega arith) u t in later c i (λ x. omega arith) v w

-- the links that are held are read
pub held_refs : (f : ℕ → ℕ) (ls : List ℕ) (q b : ℕ) (rs : List ℕ) (j m : ℕ) → rises_from rs 0 j m ≡ true → ((i : ℕ) → 0 < f i) → Held f ls q b rs j m → refs_from ls q b 0 32 ≡ refs_of rs j m
held_refs f ls q b rs j m h pos x =
    refs_are ls q b rs 32 0 j m refl h
    (λ i l. (subst (λ (y : ℕ). 0 < y) (sym (x.target i l)) (pos (j + i)), x.digest i l))
    (λ c l k t. x.none c k t)
