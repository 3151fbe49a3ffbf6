-- What a resolution leaves of the tables.
use Rattle.std.specs.Prelude.{ℕ, zero, suc, ◌+◌, ◌-◌, ◌*◌, ◌≤◌, ◌<◌, ◌≡◌, refl, List, [], ◌∷◌, Bool, true, false, ◌&&◌, cond, leb, ltb, length, get_or, set}
use Rattle.std.proofs.Math.Path.{sym}
use Rattle.std.proofs.Common.{◌∙◌, ap, ap₂, arith, add-one, length-set, le-leb, le-ltb, lt-ltb}
use Rattle.std.proofs.lemmas.Bool.{lt-leb}
use Rattle.laws.specs.Test.{and_no, and_yes, cond_yes, cond_no}
use Rattle.spec.specs.Store.{bit}
use Rattle.models.specs.Tables.{round_at, place_at}
use Rattle.models.specs.declared.info.PointInfo.{PointInfo}
use Rattle.dag_round_keys.specs.Fill.{filled, copied, zeroed, filled-length}
use Rattle.commit_state.specs.declared.state.State.{State}
use Rattle.info_checks.specs.Form.{peer_at}
use Rattle.info_checks.specs.Dangling.{found_at}

-- the marks as one word
unfoldable pub marks_of : Bool → Bool → Bool → ℕ
marks_of proof trigger cause = bit 1 proof + bit 2 trigger + bit 4 cause

-- evidence, top proof and payload as words
unfoldable pub head_words : PointInfo → List ℕ
head_words info =
    let top = info.top_proof in
    let d = top.digest.0 in
    info.evidence ∷ top.round.0 ∷ top.author ∷ get_or d 0 0 ∷ get_or d 1 0 ∷ get_or d 2 0 ∷ get_or d 3 0 ∷ (info.payload_len * 4294967296 + info.payload_bytes) ∷ []

-- the target word of link j, which leads d rounds down from round r
unfoldable pub target_of : State → List ℕ → List ℕ → List ℕ → ℕ → ℕ → ℕ → ℕ
target_of s ks os rs d r j =
    let at = found_at s ks os rs j (r - d) in
    cond (leb (s.bottom.0 + d) r && ltb at s.count) (place_at os at + 1) 1

-- link j of the lent links rs as link k of place q, with the target word w
unfoldable pub link_put : List ℕ → ℕ → ℕ → ℕ → List ℕ → ℕ → List ℕ
link_put ls q k w rs j = copied (set ls (q * 328 + 8 + k) w) (q * 328 + 72 + k * 4) rs (j * 5 + 1) 4

-- m lent links from link j on, as links from b on of place q, each under its peer and with the target word that f gives
unfoldable pub links_put : (ℕ → ℕ) → List ℕ → ℕ → ℕ → List ℕ → ℕ → ℕ → List ℕ
links_put f ls q b rs j zero = ls
links_put f ls q b rs j (suc m) = link_put (links_put f ls q b rs j m) q (b + peer_at rs (j + m)) (f (j + m)) rs (j + m)

-- place q with zeros, then those words
unfoldable pub head_put : List ℕ → ℕ → PointInfo → List ℕ
head_put ls q info = copied (zeroed ls (q * 328) 328) (q * 328) (head_words info) 0 8

-- the links after a resolution
unfoldable pub stored_links : State → List ℕ → List ℕ → List ℕ → ℕ → PointInfo → List ℕ → List ℕ
stored_links s ks ls os q info rs =
    let f = target_of s ks os rs in
    let r = round_at ks q in
    links_put (f 2 r) (links_put (f 1 r) (head_put ls q info) q 0 rs 0 info.includes) q 32 rs info.includes info.witness

-- the keys after it
unfoldable pub stored_keys : List ℕ → ℕ → PointInfo → List ℕ
stored_keys ks q info = set (set ks (q * 8 + 6) info.status) (q * 8 + 7) (marks_of info.proof info.trigger info.cause)

-- ---- the code's steps

module _ (s : State) (ks os rs : List ℕ) (d r j : ℕ) where
  -- the position of the link's point
  abbrev at : ℕ
  at = found_at s ks os rs j (r - d)

  -- the round is not retained
  pub target_below : r < s.bottom.0 + d → 1 ≡ target_of s ks os rs d r j
  unfolding target_of
  target_below l = sym (cond_no _ 1 1 (and_no _ (lt-leb (s.bottom.0 + d) r l)) refl)

  -- no point is found
  pub target_none : (x : ℕ) → s.bottom.0 + d ≤ r → x ≡ at → s.count ≤ x → 1 ≡ target_of s ks os rs d r j
  unfolding target_of
  target_none x l e k = sym (cond_no _ 1 1 (and_yes (le-leb (s.bottom.0 + d) r l) (le-ltb at s.count (omega arith))) refl)

  -- the place of the point that is found
  pub target_found : (x q : ℕ) → s.bottom.0 + d ≤ r → x ≡ at → x < s.count → q ≡ place_at os x → q + 1 ≡ target_of s ks os rs d r j
  unfolding target_of
  target_found x q l e k f = sym (cond_yes _ 1 _ (and_yes (le-leb (s.bottom.0 + d) r l) (lt-ltb at s.count (omega arith))) (rw (f, e) refl))

-- one link more
pub links-more : (f : ℕ → ℕ) (ls gs ts : List ℕ) (q b : ℕ) (rs : List ℕ) (j i k w : ℕ) → gs ≡ links_put f ls q b rs j i → k ≡ b + peer_at rs (j + i) → w ≡ f (j + i) → ts ≡ link_put gs q k w rs (j + i) → ts ≡ links_put f ls q b rs j (i + 1)
unfolding links_put
links-more f ls gs ts q b rs j i k w e g h t = rw (add-one i) (t ∙ rw (e, g, h) refl)

-- no link is left
pub links_end : (f : ℕ → ℕ) (ls gs : List ℕ) (q b : ℕ) (rs : List ℕ) (j i m : ℕ) → gs ≡ links_put f ls q b rs j i → i ≤ m → m ≤ i → gs ≡ links_put f ls q b rs j m
links_end f ls gs q b rs j i m e l k = let x : i ≡ m = omega arith in rw x at e

-- zeros, the first words, includes, witness
pub resolution_by : (s : State) (ks ls os : List ℕ) (q : ℕ) (info : PointInfo) (rs ws l1 l2 l3 l4 : List ℕ) (r : ℕ) → round_at ks q ≡ r → ws ≡ head_words info → l1 ≡ zeroed ls (q * 328) 328 → l2 ≡ copied l1 (q * 328) ws 0 8
    → l3 ≡ links_put (target_of s ks os rs 1 r) l2 q 0 rs 0 info.includes → l4 ≡ links_put (target_of s ks os rs 2 r) l3 q 32 rs info.includes info.witness
    → l4 ≡ stored_links s ks ls os q info rs
unfolding stored_links head_put
resolution_by s ks ls os q info rs ws l1 l2 l3 l4 r i a b c d e =
    rw i (e ∙ ap (λ (x : List ℕ). links_put (target_of s ks os rs 2 r) x q 32 rs info.includes info.witness)
    (d ∙ ap (λ (x : List ℕ). links_put (target_of s ks os rs 1 r) x q 0 rs 0 info.includes) (c ∙ ap₂ (λ (x y : List ℕ). copied x (q * 328) y 0 8) b a)))

-- ---- lengths

-- a link more is no word more
pub link-length : (ls : List ℕ) (q k w : ℕ) (rs : List ℕ) (j : ℕ) → length (link_put ls q k w rs j) ≡ length ls
unfolding link_put
link-length ls q k w rs j = filled-length _ (set ls (q * 328 + 8 + k) w) (q * 328 + 72 + k * 4) 4 ∙ length-set ls (q * 328 + 8 + k) w

-- nor are m links
pub links-length : (f : ℕ → ℕ) (ls : List ℕ) (q b : ℕ) (rs : List ℕ) (j m : ℕ) → length (links_put f ls q b rs j m) ≡ length ls
unfolding links_put
links-length f ls q b rs j zero = refl
links-length f ls q b rs j (suc m) = link-length (links_put f ls q b rs j m) q (b + peer_at rs (j + m)) (f (j + m)) rs (j + m) ∙ links-length f ls q b rs j m

-- nor the first words
pub head_length : (ls : List ℕ) (q : ℕ) (info : PointInfo) → length (head_put ls q info) ≡ length ls
unfolding head_put
head_length ls q info = filled-length _ (zeroed ls (q * 328) 328) (q * 328) 8 ∙ filled-length _ ls (q * 328) 328

-- nor zeros, the first words, then links
pub room_by : (ls : List ℕ) (q : ℕ) (g : ℕ → ℕ) (rs l1 l2 l3 : List ℕ) (f : ℕ → ℕ) (b j m : ℕ) → l1 ≡ zeroed ls (q * 328) 328 → l2 ≡ filled g l1 (q * 328) 8 → l3 ≡ links_put f l2 q b rs j m → length l3 ≡ length ls
room_by ls q g rs l1 l2 l3 f b j m x y z =
    ap length z ∙ (links-length f l2 q b rs j m ∙ (ap length y ∙ (filled-length g l1 (q * 328) 8 ∙ (ap length x ∙ filled-length _ ls (q * 328) 328))))

-- ---- marks

-- a bit is at most its weight
bit_most : (w : ℕ) (b : Bool) → bit w b ≤ w
bit_most w true = omega arith
bit_most w false = omega arith

-- three bits are below 8
pub marks_small : (a b c : Bool) → marks_of a b c < 8
unfolding marks_of
marks_small a b c = omega (arith, bit_most 1 a, bit_most 2 b, bit_most 4 c)

-- the three bits that the code adds
pub marks_by : (x y z : ℕ) (a b c : Bool) → x ≡ bit 1 a → y ≡ bit 2 b → z ≡ bit 4 c → x + y + z ≡ marks_of a b c
unfolding marks_of
marks_by x y z a b c e f g = rw (e, f, g) refl
