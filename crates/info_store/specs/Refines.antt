-- The tables that a resolution leaves are read as the store that it leaves.
use Rattle.std.specs.Prelude.{ℕ, zero, suc, ◌+◌, ◌-◌, ◌*◌, ◌/◌, ◌%◌, ◌≤◌, ◌<◌, ◌≡◌, List, Bool, false, ◌||◌, eqb, leb, ltb, length, set}
use Rattle.std.proofs.Math.Path.{refl, sym, ap}
use Rattle.std.proofs.Common.{◌∙◌, subst, inl}
use Rattle.std.proofs.Math.Bool.{true, cond}
use native.Mathlib.Omega.{arith}
use Rattle.std.proofs.Math.Arith.{digits_div, digits_mod}
use Rattle.std.proofs.Math.ListN.{get_or, length-set}
use Rattle.std.proofs.Math.Seq.{get_or-set_same, get_or-set_other}
use borrow.Author.Tests.{eq-eqb, ne_eqb, lt-ltb, le-leb}
use Rattle.laws.specs.Test.{by_test, both, and_l, and_r, or_r, le_or, same_or}
use Rattle.laws.specs.Scan.{any, any_none}
use Rattle.spec.specs.Store.{Resolution, Point, free}
use Rattle.spec.specs.Rules.{well_formed, counts_as_started}
use Rattle.spec.specs.Calls.{resolved_as}
use Rattle.models.specs.Cert.{bit_of, flags_of}
use Rattle.models.specs.Digest.{Fit, digest_at}
use Rattle.models.specs.Info.{info_of}
use Rattle.models.specs.Tables.{round_at, digest_of, status_at, marks_at, evidence_at, payload_at, place_at, Used, is_used, target_at, dist, proof_round_at}
use Rattle.models.specs.declared.info.PointInfo.{PointInfo}
use Rattle.dag_round_keys.specs.Fill.{zeroed, filled-length, filled_in, filled_off}
use Rattle.dag_round_keys.specs.Digest.{digest_alike}
use Rattle.dag_round_keys.specs.Key.{key, words_same}
use Rattle.dag_round_keys.specs.Sorted.{Sorted}
use Rattle.models.specs.Live.{Live}
use Rattle.tables_links.specs.Links.{dig_at}
use Rattle.tables_links.specs.Named.{Names, Links}
use Rattle.commit_state.specs.View.{resolution_at, given_at, point_at}
use Rattle.commit_state.specs.declared.state.State.{State}
use Rattle.tables_test.specs.Model.{shape, shape_says}
use Rattle.tables_test.specs.View.{words_fit, regular, seen_at, seen_used, view}
use Rattle.tables_test.specs.Same.{Same, same_target, same-link, same_point}
use Rattle.tables_test.specs.Regular.{regular_intro}
use Rattle.tables_test.specs.Refines.{Started, counted}
use Rattle.dag_round_points.specs.Model.{Ready}
use Rattle.dag_round_points.specs.Tests.{ready}
use Rattle.info_checks.specs.Form.{peer_at, given, shaped_given, Formed, formed, rise_below}
use Rattle.info_checks.specs.Dangling.{any_dangling}
use Rattle.info_store.specs.Model.{marks_of, marks_small, head_words, target_of, links_put, head_put, stored_links, stored_keys, links-length, head_length}
use Rattle.info_store.specs.Held.{Off, Held, word_apart, links_off, held_put, held_same, held_refs}
use Rattle.info_store.specs.Ranged.{Ranged}
use Rattle.info_store.specs.Flags.{cert_of, deps_set, cert_most, cert_flags}
use Rattle.info_store.specs.RefinesLinks.{target-leads, target_positive}

-- the marks back from their word
marks_bits : (a b c : Bool) → (bit_of 1 (marks_of a b c) ≡ a) × (bit_of 2 (marks_of a b c) ≡ b) × (bit_of 4 (marks_of a b c) ≡ c)
unfolding marks_of
marks_bits true true true = (refl, refl, refl)
marks_bits true true false = (refl, refl, refl)
marks_bits true false true = (refl, refl, refl)
marks_bits true false false = (refl, refl, refl)
marks_bits false true true = (refl, refl, refl)
marks_bits false true false = (refl, refl, refl)
marks_bits false false true = (refl, refl, refl)
marks_bits false false false = (refl, refl, refl)

-- the words of the top proof's digest
head_digest : (info : PointInfo) (x : ℕ) → x < 4 → get_or (head_words info) (3 + x) 0 ≡ get_or info.top_proof.digest.0 (0 + x) 0
unfolding head_words
head_digest info zero l = refl
head_digest info (suc zero) l = refl
head_digest info (suc (suc zero)) l = refl
head_digest info (suc (suc (suc zero))) l = refl
head_digest info (suc (suc (suc (suc x)))) l = absurd (omega arith)

-- the evidence, the top proof's round and author, and the payload
head_first : (info : PointInfo) → (get_or (head_words info) (0 + 0) 0 ≡ info.evidence) × (get_or (head_words info) (0 + 1) 0 ≡ info.top_proof.round.0) × (get_or (head_words info) (0 + 2) 0 ≡ info.top_proof.author)
    × (get_or (head_words info) (0 + 7) 0 ≡ info.payload_len * 4294967296 + info.payload_bytes)
unfolding head_words
head_first info = (refl, refl, refl, refl)

-- a point that is not resolved now
resolved_off : (t : Resolution) (p : Point) → resolved_as false t p ≡ p
unfolding resolved_as
resolved_off t p = refl

-- of links that are not wild none is
tame_at : (f : ℕ → Bool) (m i : ℕ) → any m f ≡ false → i < m → f i ≡ false
tame_at f m i e l = by_test (f i) (λ t. absurd (any_none m f e i l t)) (λ t. t)

module _ (s : State) (ks ls cs os : List ℕ) (fk : Fit ks) (fl : Fit ls) (h : counts_as_started (view s ks ls cs os) ≡ true) (q : ℕ) (u : Used os s.count q)
    (info : PointInfo) (rs : List ℕ) (g : well_formed (round_at ks q) (info_of info rs) ≡ true) where
  -- the round of the point
  abbrev r : ℕ
  r = round_at ks q

  -- what the resolution is, part by part
  x : Formed info rs
  x = formed info rs r g

  -- what the tables hold
  t : Started s ks ls cs os
  t = counted s ks ls cs os fk fl h

  -- they can be read
  rd : Ready s ks os
  rd = ready s ks ls cs os fk fl h

  -- the place is one of the table's
  inside : q < length os
  inside = let (i, l, e) = u in subst (λ (p : ℕ). p < length os) e (rd.3 i l)

  -- as many words as places
  sizes : (length ks ≡ length os * 8) × (length ls ≡ length os * 328) × (length cs ≡ length os)
  sizes = shape_says ks ls cs os t.shaped

  -- ---- keys

  -- the keys after
  abbrev us : List ℕ
  us = stored_keys ks q info

  -- other words stay
  keys_off : (y : ℕ) → (y ≡ q * 8 + 6 → ⊥) → (y ≡ q * 8 + 7 → ⊥) → get_or us y 0 ≡ get_or ks y 0
  unfolding stored_keys
  keys_off y a b = get_or-set_other (set ks (q * 8 + 6) info.status) (q * 8 + 7) y _ 0 b ∙ get_or-set_other ks (q * 8 + 6) y info.status 0 a

  -- round, author and digest of every place
  pub keys_kept : (p f : ℕ) → f < 6 → get_or us (p * 8 + f) 0 ≡ get_or ks (p * 8 + f) 0
  keys_kept p f l = keys_off (p * 8 + f) (λ e. omega arith) (λ e. omega arith)

  -- all words of other places
  pub keys_other : (p : ℕ) → (p ≡ q → ⊥) → Same ks 8 p us
  keys_other p d f l = keys_off (p * 8 + f) (λ e. d (omega arith)) (λ e. d (omega arith))

  -- the words of a digest
  words_kept : (p i : ℕ) → i < 4 → get_or us (p * 8 + 2 + i) 0 ≡ get_or ks (p * 8 + 2 + i) 0
  words_kept p i l = let e : p * 8 + 2 + i ≡ p * 8 + (2 + i) = omega arith in rw e (keys_kept p (2 + i) (omega arith))

  -- so the digest
  digest_kept : (p : ℕ) → digest_of us p ≡ digest_of ks p
  digest_kept p = digest_alike us ks (p * 8 + 2) (p * 8 + 2) (words_kept p)

  -- the status
  pub status-own : status_at us q ≡ info.status
  unfolding stored_keys
  status-own =
      get_or-set_other (set ks (q * 8 + 6) info.status) (q * 8 + 7) (q * 8 + 6) _ 0 (λ e. omega arith)
      ∙ get_or-set_same ks (q * 8 + 6) info.status 0 (omega (arith, sizes.0, inside))

  -- the marks
  marks-own : marks_at us q ≡ marks_of info.proof info.trigger info.cause
  unfolding stored_keys
  marks-own = get_or-set_same (set ks (q * 8 + 6) info.status) (q * 8 + 7) _ 0 (omega (arith, sizes.0, inside, length-set ks (q * 8 + 6) info.status))

  -- as many keys
  pub keys_length : length us ≡ length ks
  unfolding stored_keys
  keys_length = length-set (set ks (q * 8 + 6) info.status) (q * 8 + 7) _ ∙ length-set ks (q * 8 + 6) info.status

  -- every place keeps its key
  key_kept : (p : ℕ) → key us p ≡ key ks p
  unfolding key
  key_kept p = rw (keys_kept p 0 (omega arith), words_same us ks (p * 8 + 2) (p * 8 + 2) 4 (words_kept p)) refl

  -- ---- links

  -- the target words of the includes, d = 1, and of the witness, d = 2
  abbrev f : ℕ → ℕ → ℕ
  f d = target_of s ks os rs d r

  -- the place with zeros and its first words
  abbrev l0 : List ℕ
  l0 = head_put ls q info

  -- with the includes
  abbrev l1 : List ℕ
  l1 = links_put (f 1) l0 q 0 rs 0 info.includes

  -- the links after: with the witness
  abbrev ts : List ℕ
  ts = links_put (f 2) l1 q 32 rs info.includes info.witness

  -- the words of the place lie in the table
  room0 : q * 328 + 328 ≤ length l0
  room0 = omega (arith, head_length ls q info, sizes.1, inside)

  -- still so
  room1 : q * 328 + 328 ≤ length l1
  room1 = omega (arith, links-length (f 1) l0 q 0 rs 0 info.includes, room0)

  -- what neither kind writes is as zeros and the first words leave it
  links_as : (y : ℕ) → Off q 0 y → Off q 32 y → get_or ts y 0 ≡ get_or l0 y 0
  links_as y a b =
      links_off (f 2) l1 q 32 rs info.includes info.witness y (rise_below rs info.includes info.witness x.witness) b
      ∙ links_off (f 1) l0 q 0 rs 0 info.includes y (rise_below rs 0 info.includes x.includes) a

  -- a word that is none of the first eight is 0
  head_zero : (j : ℕ) → 8 ≤ j → j < 328 → get_or l0 (q * 328 + j) 0 ≡ 0
  unfolding head_put
  head_zero j a b =
      filled_off _ (zeroed ls (q * 328) 328) (q * 328) 8 (q * 328 + j) (λ i l e. omega arith)
      ∙ filled_in (λ i. 0) ls (q * 328) 328 j (omega (arith, sizes.1, inside)) b

  -- so there is no link
  target0 : (k : ℕ) → k < 64 → target_at l0 q k ≡ 0
  target0 k l = let e : q * 328 + 8 + k ≡ q * 328 + (8 + k) = omega arith in rw e (head_zero (8 + k) (omega arith) (omega arith))

  -- the first eight words
  head_own : (j : ℕ) → j < 8 → get_or ts (q * 328 + j) 0 ≡ get_or (head_words info) (0 + j) 0
  unfolding head_put
  head_own j l =
      links_as (q * 328 + j) (λ c m. ((λ e. omega arith), λ i k e. omega arith)) (λ c m. ((λ e. omega arith), λ i k e. omega arith))
      ∙ filled_in (λ i. get_or (head_words info) (0 + i) 0) (zeroed ls (q * 328) 328) (q * 328) 8 j (omega (arith, filled-length (λ i. 0) ls (q * 328) 328, sizes.1, inside)) l

  -- other places keep their words
  links-same : (p : ℕ) → (p ≡ q → ⊥) → Same ls 328 p ts
  unfolding head_put
  links-same p d j l =
      links_as (p * 328 + j) (λ c m. ((λ e. d (omega arith)), λ i k e. d (omega arith))) (λ c m. ((λ e. d (omega arith)), λ i k e. d (omega arith)))
      ∙ (filled_off _ (zeroed ls (q * 328) 328) (q * 328) 8 (p * 328 + j) (λ i k e. d (omega arith))
      ∙ filled_off _ ls (q * 328) 328 (p * 328 + j) (λ i k e. d (omega arith)))

  -- the digest of a link of another place
  same_at : (p k : ℕ) → (p ≡ q → ⊥) → k < 64 → digest_at ts (dig_at p k) ≡ digest_at ls (dig_at p k)
  same_at p k d l = same-link ls ts p (links-same p d) k l

  -- the includes
  held1 : Held (f 1) ts q 0 rs 0 info.includes
  held1 =
      held_same (f 1) l1 ts q 0 rs 0 info.includes (rise_below rs 0 info.includes x.includes)
      (λ c y l w. links_off (f 2) l1 q 32 rs info.includes info.witness y (rise_below rs info.includes info.witness x.witness) (λ a m. word_apart q (0 + c) (32 + a) y (omega arith) (omega arith) (λ e. omega arith) w))
      (held_put (f 1) l0 q 0 rs 0 (omega arith) info.includes x.includes room0 (λ c l. target0 (0 + c) (omega arith)))

  -- the witness
  held2 : Held (f 2) ts q 32 rs info.includes info.witness
  held2 =
      held_put (f 2) l1 q 32 rs info.includes (omega arith) info.witness x.witness room1
      (λ c l. links_off (f 1) l0 q 0 rs 0 info.includes (q * 328 + 8 + (32 + c)) (rise_below rs 0 info.includes x.includes) (λ a m. word_apart q (32 + c) (0 + a) (q * 328 + 8 + (32 + c)) (omega arith) (omega arith) (λ e. omega arith) (inl refl)) ∙ target0 (32 + c) (omega arith))

  -- ---- what is told of the point

  -- the payload's word
  payload-own : payload_at ts q ≡ info.payload_len * 4294967296 + info.payload_bytes
  payload-own = head_own 7 (omega arith) ∙ (head_first info).3

  -- all that was given
  given-own : Ranged info → given_at us ts q ≡ given info rs
  given-own range = λ j. record {
    status = status-own j;
    proof = (ap (bit_of 1) marks-own ∙ (marks_bits info.proof info.trigger info.cause).0) j;
    trigger = (ap (bit_of 2) marks-own ∙ (marks_bits info.proof info.trigger info.cause).1) j;
    cause = (ap (bit_of 4) marks-own ∙ (marks_bits info.proof info.trigger info.cause).2) j;
    top_proof = record { round = (head_own 1 (omega arith) ∙ (head_first info).1) j; author = (head_own 2 (omega arith) ∙ (head_first info).2) j; digest = digest j };
    evidence = (head_own 0 (omega arith) ∙ (head_first info).0) j;
    includes = held_refs (f 1) ts q 0 rs 0 info.includes x.includes (target_positive s ks os rs 1 r) held1 j;
    witness = held_refs (f 2) ts q 32 rs info.includes info.witness x.witness (target_positive s ks os rs 2 r) held2 j;
    payload_len = (ap (λ (z : ℕ). z / 4294967296) payload-own ∙ digits_div info.payload_len range.2) j;
    payload_bytes = (ap (λ (z : ℕ). z % 4294967296) payload-own ∙ digits_mod info.payload_len range.2) j;
  }
    where
      over : (i : ℕ) → get_or ts (q * 328 + (3 + i)) 0 ≡ get_or (head_words info) (0 + (3 + i)) 0 → get_or ts (q * 328 + 3 + i) 0 ≡ get_or (head_words info) (3 + i) 0
      over i e = let a : q * 328 + 3 + i ≡ q * 328 + (3 + i) = omega arith in let b : 3 + i ≡ 0 + (3 + i) = omega arith in ap (λ (z : ℕ). get_or ts z 0) a ∙ (e ∙ ap (λ (z : ℕ). get_or (head_words info) z 0) (sym b))

      digest : digest_at ts (q * 328 + 3) ≡ digest_at info.top_proof.digest.0 0
      digest = digest_alike ts info.top_proof.digest.0 (q * 328 + 3) 0 (λ i l. over i (head_own (3 + i) (omega arith)) ∙ head_digest info i l)

  -- what is told of the point is the resolution
  resolution_is : Ranged info → resolution_at (stored_keys ks q info) (stored_links s ks ls os q info rs) q ≡ info_of info rs
  unfolding resolution_at stored_links
  resolution_is range = rw (ne_eqb (status_at us q) 0 (λ e. omega (arith, e, status-own, x.status.0))) (given-own range ∙ sym (shaped_given info rs x.shaped.2))

  -- other places keep their words
  pub links-other : (p : ℕ) → (p ≡ q → ⊥) → Same ls 328 p (stored_links s ks ls os q info rs)
  unfolding stored_links
  links-other = links-same

  -- as many words
  pub resolution_length : length (stored_links s ks ls os q info rs) ≡ length ls
  unfolding stored_links
  resolution_length = links-length (f 2) l1 q 32 rs info.includes info.witness ∙ (links-length (f 1) l0 q 0 rs 0 info.includes ∙ head_length ls q info)

  -- ---- the tables can be read again

  -- no link is wild
  module _ (tame1 : any_dangling s ks os rs 1 r 0 info.includes ≡ false) (tame2 : any_dangling s ks os rs 2 r info.includes info.witness ≡ false) where
    -- link k of the place p leads to the used place that it names
    abbrev Right : ℕ → ℕ → Type 0
    Right p k = (z : ℕ) × Used os s.count z × (target_at ts p k ≡ suc z) × Names us ts p k z

    -- a live link of the point leads to the used place that it names
    kind_right : (b d j m : ℕ) → Held (f d) ts q b rs j m → any_dangling s ks os rs d r j m ≡ false → (c k : ℕ) → c < 32 → k ≡ b + c → dist k ≡ d → k % 32 ≡ c → s.bottom.0 + d ≤ r → 0 < target_at ts q k → Right q k
    kind_right b d j m held tame c k l e v w live a =
        let (i, n, y) = held.none c l (subst (λ (z : ℕ). 0 < target_at ts q z) e a) in
        let (p, used, z, leads) = target-leads s ks os rs d r (j + i) live (tame_at _ m i tame n) in
        let k_is : k ≡ b + peer_at rs (j + i) = omega arith in (
          p,
          used,
          ap (target_at ts q) k_is ∙ (held.target i n ∙ z),
          record {
            falls = omega (arith, keys_kept p 0 (omega arith), keys_kept q 0 (omega arith), leads.round, v);
            author = keys_kept p 1 (omega arith) ∙ (leads.author ∙ (y ∙ sym w));
            digest = digest_kept p ∙ (leads.digest ∙ sym (ap (λ (z : ℕ). digest_at ts (dig_at q z)) k_is ∙ held.digest i n));
          },
        )

    -- a live link of the point, of either kind
    own_right : (k : ℕ) → Live s.bottom.0 us q k → 0 < target_at ts q k → Right q k
    own_right k live a =
        let e = keys_kept q 0 (omega arith) in
        le_or 32 k
        (λ l. kind_right 32 2 info.includes info.witness held2 tame2 (k - 32) k (omega (arith, live.1)) (omega arith) (omega (arith, live.1)) (omega (arith, live.1)) (omega (arith, e, l, live.1, live.2)) a)
        (λ l. kind_right 0 1 0 info.includes held1 tame1 k k l (omega arith) (omega arith) (omega arith) (omega (arith, e, l, live.2)) a)

    -- a live link of another place leads where it led
    old_right : (p k : ℕ) → (p ≡ q → ⊥) → Used os s.count p → Live s.bottom.0 us p k → 0 < target_at ts p k → Right p k
    old_right p k d v live a =
        let e : target_at ts p k ≡ target_at ls p k = same_target ls ts p (links-same p d) k live.1 in
        let old : Live s.bottom.0 ks p k = (omega (arith, live.0, keys_other p d 6 (omega arith)), live.1, omega (arith, live.2, keys_kept p 0 (omega arith)), omega (arith, live.3, keys_other p d 6 (omega arith))) in
        let (z, w, y, m) = t.facts.right p k v old (omega arith) in (
          z,
          w,
          e ∙ y,
          record {
            falls = omega (arith, keys_kept z 0 (omega arith), keys_kept p 0 (omega arith), m.falls);
            author = keys_kept z 1 (omega arith) ∙ m.author;
            digest = digest_kept z ∙ (m.digest ∙ sym (same_at p k d live.1));
          },
        )

    -- live links lead to the used places that they name
    links-after : Links s.bottom.0 us ts os s.count
    links-after p k v live a =
        same_or p q
        (λ e. rw e (own_right k (rw e at live) (rw e at a)))
        (λ d. old_right p k d v live a)

    -- sorted by their keys
    sorted_after : Sorted us os s.count
    sorted_after a b l m = rw (key_kept (place_at os a), key_kept (place_at os b)) (t.facts.sorted a b l m)

    module _ (range : Ranged info) (ds : List ℕ) (most : (p : ℕ) → Used os s.count p → get_or ds p 0 ≤ 65_535) where
      -- the words of a used place are values
      fit_after : (p : ℕ) → Used os s.count p → words_fit us ts ds p ≡ true
      unfolding words_fit
      fit_after p v =
          same_or p q
          (λ e. rw e (both (lt-ltb (marks_at us q) 8 (omega (arith, marks-own, marks_small info.proof info.trigger info.cause))) (both (le-leb (get_or ds q 0) 65_535 (most q u))
          (or_r (eqb (status_at us q) 0) _ (both (lt-ltb (evidence_at ts q) 4_294_967_296 (omega (arith, head_own 0 (omega arith), (head_first info).0, range.0))) (lt-ltb (proof_round_at ts q) 4_294_967_296 (omega (arith, head_own 1 (omega arith), (head_first info).1, range.1))))))))
          (λ d. let w = t.fits p v in
          rw (keys_other p d 7 (omega arith), keys_other p d 6 (omega arith), links-same p d 0 (omega arith), links-same p d 1 (omega arith))
          (both (and_l (ltb (marks_at ks p) 8) _ w) (both (le-leb _ _ (most p v)) (and_r (leb (get_or cs p 0) 65_535) _ (and_r (ltb (marks_at ks p) 8) _ w)))))

      -- the tables are regular, with any certificate words of 16 bits
      pub regular-after : regular s (stored_keys ks q info) (stored_links s ks ls os q info rs) ds os ≡ true
      unfolding stored_links
      regular-after =
          regular_intro s us ts ds os rd.1 (record {
            room = t.count_ok;
            memory = t.memory_ok;
            inside = rd.3;
            sorted = sorted_after;
            right = links-after;
            fits = fit_after;
          })

    -- ---- the store

    module _ (range : Ranged info) where
      -- the links after, by their name
      abbrev zs : List ℕ
      zs = stored_links s ks ls os q info rs

      -- the certificate words after
      abbrev ws : List ℕ
      ws = deps_set cs q info.status

      -- the word of the place
      pub cert_own : get_or ws q 0 ≡ cert_of info.status (get_or cs q 0)
      unfolding deps_set
      cert_own = get_or-set_same cs q (cert_of info.status (get_or cs q 0)) 0 (omega (arith, inside, sizes.2))

      -- other places keep theirs
      pub cert_other : (p : ℕ) → (p ≡ q → ⊥) → get_or ws p 0 ≡ get_or cs p 0
      unfolding deps_set
      cert_other p d = get_or-set_other cs q p (cert_of info.status (get_or cs q 0)) 0 d

      -- as many
      pub cert_length : length ws ≡ length cs
      unfolding deps_set
      cert_length = length-set cs q (cert_of info.status (get_or cs q 0))

      -- they have 16 bits
      pub cert_fits : (p : ℕ) → Used os s.count p → get_or ws p 0 ≤ 65_535
      cert_fits p v =
          same_or p q
          (λ e. rw (e, cert_own) (cert_most info.status (get_or cs q 0) (t.facts.words q u).named.word))
          (λ d. rw (cert_other p d) (t.facts.words p v).named.word)

      -- the tables are regular
      pub regular_resolution : regular s us zs ws os ≡ true
      regular_resolution = regular-after range ws cert_fits

      -- they have the same shape
      pub shape_resolution : shape us zs ws os ≡ true
      unfolding shape
      shape_resolution =
          both (eq-eqb (length us) (length os * 8) (keys_length ∙ sizes.0))
          (both (eq-eqb (length zs) (length os * 328) (resolution_length ∙ sizes.1)) (eq-eqb (length ws) (length os) (cert_length ∙ sizes.2)))

      -- the flags of the place
      flags_own : flags_of (get_or ws q 0) ≡ record {
        top = (flags_of (get_or cs q 0)).top;
        started = leb (info_of info rs).status 3 || (flags_of (get_or cs q 0)).started;
        completed = leb (info_of info rs).status 3 || (flags_of (get_or cs q 0)).completed;
        committed = (flags_of (get_or cs q 0)).committed;
      }
      flags_own = rw (shaped_given info rs x.shaped.2) (ap flags_of cert_own ∙ cert_flags info.status (get_or cs q 0))

      -- the point
      point-own : point_at us zs ws q ≡ resolved_as true (info_of info rs) (point_at ks ls cs q)
      unfolding point_at resolved_as
      point-own = λ j. record {
        named = true;
        id = record { round = keys_kept q 0 (omega arith) j; author = keys_kept q 1 (omega arith) j; digest = digest_kept q j };
        resolution = resolution_is range j;
        flags = flags_own j;
      }

      -- other points
      seen_other : (p : ℕ) → (p ≡ q → ⊥) → seen_at us zs ws os s.count p ≡ seen_at ks ls cs os s.count p
      unfolding seen_at
      seen_other p d = ap (λ (z : Point). cond (is_used os s.count p) z free) (same_point ks ls cs us zs ws p (keys_other p d) (links-other p d) (λ j l. let e : p * 1 + j ≡ p = omega arith in rw e (cert_other p d)))

      -- the point at a place
      pt_at : (p : ℕ) → (view s us zs ws os).pt p ≡ resolved_as (eqb p q) (info_of info rs) ((view s ks ls cs os).pt p)
      unfolding view
      pt_at p =
          same_or p q
          (λ e. rw (e, eq-eqb q q refl) (seen_used us zs ws os s.count q u ∙ (point-own ∙ ap (resolved_as true (info_of info rs)) (sym (seen_used ks ls cs os s.count q u)))))
          (λ d. rw (ne_eqb p q d) (seen_other p d ∙ sym (resolved_off (info_of info rs) (seen_at ks ls cs os s.count p))))

      -- the point is resolved, the others stay
      pub resolution_pt : (view s (stored_keys ks q info) (stored_links s ks ls os q info rs) (deps_set cs q info.status) os).pt ≡ (λ p. resolved_as (eqb p q) (info_of info rs) ((view s ks ls cs os).pt p))
      resolution_pt = λ j p. pt_at p j
