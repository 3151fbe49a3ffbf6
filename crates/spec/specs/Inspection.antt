-- Laws of remove's definitions: which memory a round meets, what is left of it, that lists rise by digest, and that counts fit.
use Prim.Native.Nat.{ℕ, zero, suc, ◌+◌, ◌-◌, ◌*◌, ◌≤◌, ◌<◌, max}
use Rattle.std.specs.Prelude.{◌≡◌, refl, true, false, not, ◌&&◌, cond, leb, ltb, length}
use Rattle.std.proofs.Common.{sym, ◌∙◌, ap, ap₂, inr}
use Rattle.std.proofs.Math.Path.{subst}
use Rattle.std.proofs.Math.Logic.{⊎_elim}
use Rattle.std.proofs.Math.Bool.{Bool}
use Rattle.std.proofs.lemmas.Bool.{false≢true}
use mathlib.Core.List.Memᴰ
use mathlib.Core.List.{List, [], ◌∷◌, ◌++◌, map, Memᴰ, append-nil, map-append}
use Rattle.std.proofs.Math.Option.{Option, none, some}
use Rattle.std.proofs.Math.Dec.{eqb}
use Rattle.std.proofs.Math.ListN.{length-map}
use borrow.Author.Tests.{eqb-true, eq-eqb, ne_eqb, leb-true, leb-false, le-leb, lt-leb, ltb-true, lt-ltb, le-ltb}
use native.Mathlib.Omega.{arith}
use Rattle.laws.specs.Test.{by_test, same_test, and_l, and_r, same_or, le_or}
use Rattle.laws.specs.Scan.{those, those_elim, those_nodup, those-count, those_fewer}
use Rattle.laws.specs.Lists.{has, has_elim, keep, keep_in, keep_append, keep-length, count, count_none, count_fewer, keys_most, map_same, keep-map, mem_map, joined, joined-append, joined_in, up_to, upto_in, NoDup, Pairs, keys_apart, keys_nodup, map_pairs, picked_pairs}
use Rattle.laws.specs.Sort.{sort, sort_mem, sort_once, sort_rises, sort_count}
use Rattle.laws.specs.Peers.{member}
use Rattle.spec.specs.Ids.{Id, prev}
use Rattle.spec.specs.Store.{Entry, Memory, Store, Look, resolved_at, named_at, never, id_at, round_at, resolved, look_at}
use Rattle.spec.specs.Paths.{proved}
use Rattle.spec.specs.Inspect.{places_in, of, is_trusted, entry_of, round_data, holds, witnessed_by, due, reported, InspectedRound, up_from, last_non_executable, inspected, inspected_rounds, memory_after, shown, is_found, is_trans_invalid, is_invalid, is_ill_formed, proofs, is_valid, is_proved, not_referenced, Counters, one, counted, add, Stats, merge, since, total, stats_of, ids_of, Event, single, equivocation, no_inclusion, only_if, over}
use Rattle.spec.specs.Rules.{is_peer, version, versions}
use Rattle.spec.specs.WellFormed.{Wf}
use Rattle.spec.specs.Order.{Before, strict}

-- ---- what the look-up says of a version

-- a test of resolved points holds of those that are resolved
pub look-test : (s : Store) (f : ℕ → Bool) (q : ℕ) → elim (look_at s q) as (λ l. Bool) [ resolved_at p ↦ f p | named_at p ↦ false | never ↦ false ] ≡ (resolved (s.pt q) && f q)
unfolding look_at
look-test s f q = go (resolved (s.pt q))
  where
    go : (b : Bool) → elim (elim b as (λ b. Look) [ true ↦ resolved_at q | false ↦ named_at q ]) as (λ l. Bool) [ resolved_at p ↦ f p | named_at p ↦ false | never ↦ false ] ≡ (b && f q)
    go true = refl
    go false = refl

pub proved_at : (s : Store) (q : ℕ) → is_proved s q ≡ (resolved (s.pt q) && proved s q)
unfolding is_proved
proved_at s q = look-test s (proved s) q

-- ---- the rounds that a remove looks at

-- of the k rounds from r on those from l on
from_keep : (l r k : ℕ) → keep (leb l) (up_from r k) ≡ up_from (max r l) (r + k - max r l)
unfolding keep up_from
from_keep l r zero = let e : r + zero - max r l ≡ 0 = omega arith in rw e refl
from_keep l r (suc k) =
    let h : keep (leb l) (up_from (suc r) k) ≡ up_from (max (suc r) l) (suc r + k - max (suc r) l) = from_keep l (suc r) k in
    le_or l r
    (λ m. let a : max r l ≡ r = omega arith in
    let b : r + suc k - r ≡ suc k = omega arith in
    let c : max (suc r) l ≡ suc r = omega arith in
    let d : suc r + k - suc r ≡ k = omega arith in
    rw (a, b, le-leb l r m, h, c, d) refl)
    (λ m. let a : max r l ≡ l = omega arith in
    let c : max (suc r) l ≡ l = omega arith in
    let d : suc r + k - l ≡ r + suc k - l = omega arith in
    rw (a, lt-leb l r m, h, c, d) refl)

-- their bounds
from_elim : (r k x : ℕ) → Memᴰ x (up_from r k) → (r ≤ x) × (x < r + k)
unfolding up_from
from_elim r zero x m = absurd (Memᴰ.not-nil m)
from_elim r (suc k) x m =
    ⊎_elim (λ e. (omega arith, omega arith)) (λ n. let (a, b) = from_elim (suc r) k x n in (omega arith, omega arith)) (Memᴰ.cases_cons m)

-- as many as said
from_length : (r k : ℕ) → length (up_from r k) ≡ k
unfolding up_from
from_length r zero = refl
from_length r (suc k) = ap suc (from_length (suc r) k)

-- ---- the memory that a round meets

-- the lowest reported round
abbrev pub first_shown : Store → ℕ
first_shown s = max s.bottom (suc (last_non_executable s))

-- what round r meets: the bottom meets the store's memory, every other round what the round below it left
unfoldable pub before : Store → ℕ → Memory
before s r = cond (eqb r s.bottom) s.memory (round_data s (prev r))

-- round r with the memory that it meets
abbrev pub inspected_round : Store → ℕ → InspectedRound
inspected_round s r = record { memory = before s r; round = r }

-- the rounds above r, of which the first meets what r left
seen_on : (s : Store) (r k : ℕ) → inspected_rounds s (round_data s r) (up_from (suc r) k) ≡ map (λ x. record { memory = round_data s (prev x); round = x }) (up_from (suc r) k)
unfolding inspected_rounds up_from
seen_on s r zero = refl
seen_on s r (suc k) = let e : suc r - 1 ≡ r = omega arith in rw (e, seen_on s (suc r) k) refl

-- the rounds from r on, of which the first meets m
seen_from : (s : Store) (m : Memory) (r k : ℕ) → inspected_rounds s m (up_from r k) ≡ map (λ x. record { memory = cond (eqb x r) m (round_data s (prev x)); round = x }) (up_from r k)
unfolding inspected_rounds up_from
seen_from s m r zero = refl
seen_from s m r (suc k) =
    ap₂ ◌∷◌ (rw (eq-eqb r r refl) refl)
    (seen_on s r k ∙ map_same _ _ (up_from (suc r) k) (λ x n. let (a, b) = from_elim (suc r) k x n in rw (ne_eqb x r (λ e. omega arith)) refl))

-- the inspected rounds
inspected_is : (s : Store) (b : ℕ) → inspected s b ≡ up_from (max s.bottom (last_non_executable s)) (b - max s.bottom (last_non_executable s))
unfolding inspected
inspected_is s b = from_keep (last_non_executable s) s.bottom (b - s.bottom) ∙ ap (up_from (max s.bottom (last_non_executable s))) (go s.bottom b (last_non_executable s))
  where
    go : (m b l : ℕ) → m + (b - m) - max m l ≡ b - max m l
    go m b l = omega arith

-- the reported rounds, each with the memory that it meets
pub shown_is : (s : Store) (b : ℕ) → shown s b ≡ map (inspected_round s) (up_from (first_shown s) (b - first_shown s))
unfolding shown before
shown_is s b =
    ap (λ l. keep reports (inspected_rounds s s.memory l)) (inspected_is s b)
    ∙ (ap (keep reports) (seen_from s s.memory low (b - low))
    ∙ (keep-map reports met (up_from low (b - low))
    ∙ (ap (map met) (from_keep (suc (last_non_executable s)) low (b - low) ∙ ap₂ up_from (first s.bottom (last_non_executable s)) (rest s.bottom (last_non_executable s) b))
    ∙ map_same met _ (up_from (first_shown s) (b - first_shown s)) (λ x n. rw (same x (from_elim _ _ x n).0) refl))))
  where
    low : ℕ
    low = max s.bottom (last_non_executable s)

    reports : InspectedRound → Bool
    reports v = ltb (last_non_executable s) v.round

    met : ℕ → InspectedRound
    met x = record { memory = cond (eqb x low) s.memory (round_data s (prev x)); round = x }

    first : (m l : ℕ) → max (max m l) (suc l) ≡ max m (suc l)
    first m l = omega arith

    rest : (m l b : ℕ) → max m l + (b - max m l) - max (max m l) (suc l) ≡ b - max m (suc l)
    rest m l b = omega arith

    same : (x : ℕ) → first_shown s ≤ x → eqb x low ≡ eqb x s.bottom
    same x h =
        same_test (eqb x low) (eqb x s.bottom)
        (λ t. let e : x ≡ low = eqb-true x low t in eq-eqb x s.bottom (omega arith))
        (λ t. let e : x ≡ s.bottom = eqb-true x s.bottom t in eq-eqb x low (omega arith))

-- ---- the memory that is left

-- the last of the rounds fills it
after_from : (s : Store) (m : Memory) (r k : ℕ) → memory_after s m (up_from r (suc k)) ≡ round_data s (r + k)
unfolding memory_after up_from
after_from s m r zero = ap (round_data s) (omega arith)
after_from s m r (suc k) = after_from s (round_data s r) (suc r) k ∙ ap (round_data s) (omega arith)

-- what the round below the new bottom left, if that round is inspected
pub memory_after_lem : (s : Store) (b : ℕ) → memory_after s s.memory (inspected s b) ≡ cond (ltb (max s.bottom (last_non_executable s)) b) (round_data s (prev b)) s.memory
unfolding memory_after up_from
memory_after_lem s b =
    ap (memory_after s s.memory) (inspected_is s b)
    ∙ le_or b low
    (λ l. let e : b - low ≡ 0 = omega arith in rw (e, le-ltb low b l) refl)
    (λ l. let e : b - low ≡ suc (b - suc low) = omega arith in
    let d : low + (b - suc low) ≡ prev b = omega arith in
    rw (e, lt-ltb low b l) (after_from s s.memory low (b - suc low) ∙ ap (round_data s) d))
  where
    low : ℕ
    low = max s.bottom (last_non_executable s)

-- ---- lists rise by digest

-- digests rise strictly
abbrev pub Lower : Entry → Entry → Type 0
Lower x y = x.digest < y.digest

abbrev pub Ascending : List Entry → Type 0
Ascending es = Pairs Lower es

-- the same of places
abbrev pub LowerAt : Store → ℕ → ℕ → Type 0
LowerAt s p q = (id_at s p).digest < (id_at s q).digest

module _ (s : Store) (r : ℕ) where
  -- the points of the round that pass, sorted by digest
  abbrev pub by_digest : (ℕ → Bool) → List ℕ
  by_digest f = sort (λ p q. leb (id_at s p).digest (id_at s q).digest) (those s.places (λ q. f q && eqb (round_at s q) r))

  -- each passes and is of the round
  pub digest_elim : (f : ℕ → Bool) (q : ℕ) → Memᴰ q (by_digest f) → (q < s.places) × (f q ≡ true) × (round_at s q ≡ r)
  digest_elim f q m =
      let (l, t) = those_elim _ _ q ((sort_mem _ q _).0 m) in
      (l, and_l _ (eqb (round_at s q) r) t, eqb-true _ _ (and_r (f q) _ t))

  -- named ones rise strictly: a round has no digest twice
  pub digest_rises : Wf s → (f : ℕ → Bool) → ((q : ℕ) → f q ≡ true → (s.pt q).named ≡ true) → Pairs (LowerAt s) (by_digest f)
  digest_rises w f named =
      strict (λ (p q : ℕ). at_most p q ≡ true) _ _
      (sort_rises at_most is_total is_trans _)
      (sort_once at_most _ (those_nodup _ _))
      (λ p q m n l d. let (x, a, i) = digest_elim f p m in let (y, b, j) = digest_elim f q n in
      same_or (id_at s p).digest (id_at s q).digest (λ e. absurd (d (w.apart p q (named p a) (named q b) (i ∙ sym j) e))) (λ e. omega (arith, leb-true (id_at s p).digest (id_at s q).digest l)))
    where
      at_most : ℕ → ℕ → Bool
      at_most p q = leb (id_at s p).digest (id_at s q).digest

      is_total : (p q : ℕ) → at_most p q ≡ false → at_most q p ≡ true
      is_total p q f = le-leb (id_at s q).digest (id_at s p).digest (omega (arith, leb-false (id_at s p).digest (id_at s q).digest f))

      is_trans : (p q x : ℕ) → at_most p q ≡ true → at_most q x ≡ true → at_most p x ≡ true
      is_trans p q x f g = le-leb (id_at s p).digest (id_at s x).digest (omega (arith, leb-true (id_at s p).digest (id_at s q).digest f, leb-true (id_at s q).digest (id_at s x).digest g))

  -- a place of the round holds a point of it
  pub place_elim : (q : ℕ) → Memᴰ q (places_in s r) → ((s.pt q).named ≡ true) × (round_at s q ≡ r)
  unfolding places_in
  place_elim q m = let (l, n, e) = digest_elim (λ q. (s.pt q).named) q m in (n, e)

  -- the places rise by digest
  pub places_rise : Wf s → Pairs (LowerAt s) (places_in s r)
  unfolding places_in
  places_rise w = digest_rises w (λ q. (s.pt q).named) (λ q h. h)

  -- so do the entries that the round leaves
  pub data_rises : Wf s → Ascending (round_data s r).entries
  unfolding round_data entry_of
  data_rises w = picked_pairs (LowerAt s) Lower (is_trusted s) (entry_of s r) (λ p q l. l) (places_in s r) (places_rise w)

-- by e, peer a still has to refer to the digest d
abbrev pub is_unreferenced : ℕ → ℕ → Entry → Bool
is_unreferenced a d e = e.unreferenced_by a && holds e.previous d

-- of an entry with the previous digest o and the later entries ys: it is the last by which a has to refer to o, and no point of a witnesses o
unfoldable pub is_last_unreferenced : Store → ℕ → ℕ → List Entry → Option ℕ → Bool
is_last_unreferenced s r a ys none = false
is_last_unreferenced s r a ys (some d) = not (witnessed_by s r a d) && not (has (is_unreferenced a d) ys)

-- without a previous digest nothing is reported
pub reported-none : (es : List Entry) (s : Store) (r a : ℕ) (e : Entry) → e.previous ≡ none → reported es s r a e ≡ (e.unreferenced_by a && false)
unfolding reported
reported-none es s r a e h = rw h refl

-- with one, if its digest is the one that is due
pub reported-some : (es : List Entry) (s : Store) (r a : ℕ) (e : Entry) (d : ℕ) → e.previous ≡ some d → reported es s r a e ≡ (e.unreferenced_by a && holds (due es s r a d) e.digest)
unfolding reported
reported-some es s r a e d h = rw h refl

-- no entry stands twice where digests rise
pub ascending_once : (es : List Entry) → Ascending es → NoDup es
ascending_once es p = keys_nodup (λ (e : Entry). e.digest) es p

-- and of the proofs reported against a each has a previous digest of its own
pub proof_once : (es : List Entry) (s : Store) (r a : ℕ) → Ascending es → (x y : Entry) → Memᴰ x (proofs es s r a) → Memᴰ y (proofs es s r a) → x.previous ≡ y.previous → x ≡ y
unfolding proofs holds
proof_once es s r a p x y m n e =
    let (i, t) = (keep_in (reported es s r a) es x).0 m in
    let (j, u) = (keep_in (reported es s r a) es y).0 n in
    keys_apart (λ (e : Entry). e.digest) es p x y i j (go y.previous refl t u)
  where
    one_of : (o : Option ℕ) (x y : ℕ) → holds o x ≡ true → holds o y ≡ true → x ≡ y
    one_of none x y h k = absurd (false≢true h)
    one_of (some z) x y h k = sym (eqb-true z x h) ∙ eqb-true z y k

    go : (o : Option ℕ) → y.previous ≡ o → reported es s r a x ≡ true → reported es s r a y ≡ true → x.digest ≡ y.digest
    go none h t u = absurd (false≢true (and_r (y.unreferenced_by a) false (sym (reported-none es s r a y h) ∙ u)))
    go (some d) h t u = one_of (due es s r a d) x.digest y.digest
        (and_r (x.unreferenced_by a) _ (sym (reported-some es s r a x d (e ∙ h)) ∙ t))
        (and_r (y.unreferenced_by a) _ (sym (reported-some es s r a y d h) ∙ u))

-- ---- how many

module _ (s : Store) (w : Wf s) (r : ℕ) where
  -- an author has at most 4 points in a round
  pub author-few : (a : ℕ) → count (λ q. eqb (id_at s q).author a) (places_in s r) ≤ 4
  unfolding places_in version
  author-few a = by_test (has by (places_in s r)) (λ t. some_of (has_elim by (places_in s r) t)) (λ n. omega (arith, count_none by (places_in s r) n))
    where
      by : ℕ → Bool
      by q = eqb (id_at s q).author a

      there : ℕ → Bool
      there q = (s.pt q).named && eqb (round_at s q) r

      is_version_lem : (q i : ℕ) → round_at s q ≡ r → by q ≡ true → (there i && by i) ≡ true → version s (id_at s q) i ≡ true
      is_version_lem q i e u t =
          let x : there i ≡ true = and_l (there i) (by i) t in
          let n : (s.pt i).named ≡ true = and_l _ (eqb (round_at s i) r) x in
          let h : round_at s i ≡ round_at s q = eqb-true (round_at s i) r (and_r (s.pt i).named _ x) ∙ sym e in
          let k : (id_at s i).author ≡ (id_at s q).author = eqb-true (id_at s i).author a (and_r (there i) (by i) t) ∙ sym (eqb-true (id_at s q).author a u) in
          rw (n, eq-eqb (round_at s i) (round_at s q) h, eq-eqb (id_at s i).author (id_at s q).author k) refl

      some_of : (q : ℕ) × Memᴰ q (places_in s r) × (by q ≡ true) → count by (places_in s r) ≤ 4
      some_of (q, m, u) =
          let (n, i) = place_elim s r q m in
          let x : count by (places_in s r) ≡ length (those s.places (λ i. there i && by i)) = sort_count _ by (those s.places there) ∙ those-count s.places by there in
          let y : length (those s.places (λ i. there i && by i)) ≤ versions s (id_at s q) = those_fewer s.places (version s (id_at s q)) (λ i. there i && by i) (λ j l t. is_version_lem q j i u t) in
          let z : versions s (id_at s q) ≤ 4 = w.four q n in
          omega arith

  -- so of its points no more than 4 pass a test
  pub passing-few : (f : ℕ → Bool) (a : ℕ) → count (of f s a) (places_in s r) ≤ 4
  passing-few f a =
      let x : count (of f s a) (places_in s r) ≤ count (λ q. eqb (id_at s q).author a) (places_in s r) = count_fewer (λ q. eqb (id_at s q).author a) (of f s a) (places_in s r) (λ q m t. and_l _ (f q) t) in
      let y = author-few a in
      omega arith

  -- an author is a peer below 32
  pub author_low : (q : ℕ) → Memᴰ q (places_in s r) → (id_at s q).author < 32
  unfolding is_peer
  author_low q m = ltb-true _ _ (and_l _ (member (s.rounds (round_at s q)).peers (id_at s q).author) (w.peer q (place_elim s r q m).0))

  -- a round has at most 128 points
  pub round-few : length (places_in s r) ≤ 128
  round-few = keys_most (λ q. (id_at s q).author) 32 4 (places_in s r) author_low author-few

  -- so at most 128 of them pass a test
  pub kept_few : (f : ℕ → Bool) → length (keep f (places_in s r)) ≤ 128
  kept_few f = omega (arith, keep-length f (places_in s r), round-few)

  -- it leaves at most 128 entries
  pub data_few : length (round_data s r).entries ≤ 128
  unfolding round_data
  data_few = omega (arith, length-map (keep (is_trusted s) (places_in s r)) (entry_of s r), kept_few (is_trusted s))

  -- of peers below 32
  pub data_low : (e : Entry) → Memᴰ e (round_data s r).entries → e.author < 32
  unfolding round_data entry_of
  data_low e m =
      let (q, k, h) = mem_map (entry_of s r) _ e m in
      subst (λ (x : Entry). x.author < 32) h (author_low q ((keep_in (is_trusted s) (places_in s r) q).0 k).0)

-- ---- what a remove leaves

-- what holds of a memory and of what every round leaves, holds after any rounds
pub after-all : (P : Memory → Type 0) (s : Store) → ((x : ℕ) → P (round_data s x)) → (m : Memory) (rs : List ℕ) → P m → P (memory_after s m rs)
unfolding memory_after
after-all P s f m [] h = h
after-all P s f m (r ∷ rs) h = after-all P s f (round_data s r) rs (f r)

-- ---- the reported rounds

module _ (s : Store) (b : ℕ) where
  -- each meets the memory said above, above the last non-executable round and below the new bottom
  pub shown_elim : (v : InspectedRound) → Memᴰ v (shown s b) → (v.memory ≡ before s v.round) × (first_shown s ≤ v.round) × (v.round < b)
  shown_elim v m =
      let (x, k, e) = mem_map (inspected_round s) (up_from (first_shown s) (b - first_shown s)) v (subst (Memᴰ v) (shown_is s b) m) in
      let (l, h) = from_elim (first_shown s) (b - first_shown s) x k in
      let i : x ≡ v.round = ap (λ (u : InspectedRound). u.round) e in
      (sym (ap (λ (u : InspectedRound). u.memory) e) ∙ ap (before s) i, rw i at l, let z : x < b = omega arith in rw i at z)

  -- as many as there are rounds from the first on
  pub shown-length : length (shown s b) ≡ b - first_shown s
  shown-length = ap length (shown_is s b) ∙ (length-map (up_from (first_shown s) (b - first_shown s)) (inspected_round s) ∙ from_length (first_shown s) (b - first_shown s))

-- what holds of the store's memory and of what every round leaves, holds of what a round meets
pub before-keeps : (P : Memory → Type 0) (s : Store) (r : ℕ) → P s.memory → ((x : ℕ) → P (round_data s x)) → P (before s r)
unfolding before
before-keeps P s r h f = by_test (eqb r s.bottom) (λ t. rw t h) (λ n. rw n (f (prev r)))

-- ---- one round more

-- the rounds from r on, and one more
from_more : (r k : ℕ) → up_from r (suc k) ≡ up_from r k ++ ((r + k) ∷ [])
unfolding up_from
from_more r zero = let e : r + 0 ≡ r = omega arith in rw e refl
from_more r (suc k) = let e : r + suc k ≡ suc r + k = omega arith in rw e (ap (λ l. r ∷ l) (from_more (suc r) k))

-- below the first reported round nothing is reported
pub shown-none : (s : Store) (b : ℕ) → b ≤ first_shown s → shown s b ≡ []
unfolding up_from
shown-none s b l = let e : b - first_shown s ≡ 0 = omega arith in shown_is s b ∙ rw e refl

-- from there on a round more is reported
pub shown-more : (s : Store) (b : ℕ) → first_shown s ≤ b → shown s (suc b) ≡ shown s b ++ (inspected_round s b ∷ [])
shown-more s b l =
    let e : suc b - first_shown s ≡ suc (b - first_shown s) = omega arith in
    let d : first_shown s + (b - first_shown s) ≡ b = omega arith in
    shown_is s (suc b)
    ∙ (ap (map (inspected_round s)) (ap (up_from (first_shown s)) e ∙ (from_more (first_shown s) (b - first_shown s) ∙ ap (λ x. up_from (first_shown s) (b - first_shown s) ++ (x ∷ [])) d))
    ∙ (map-append (inspected_round s) (up_from (first_shown s) (b - first_shown s)) (b ∷ []) ∙ ap (λ l. l ++ (inspected_round s b ∷ [])) (sym (shown_is s b))))

-- counters, and one round more
total-more : (s : Store) (a : ℕ) (vs : List InspectedRound) (v : InspectedRound) (t : Option Stats) → total s a (vs ++ (v ∷ [])) t ≡ merge (total s a vs t) v.round (counted v.memory s v.round a)
unfolding total
total-more s a [] v t = refl
total-more s a (u ∷ us) v t = total-more s a us v _

-- peer a has counters of round r
abbrev pub has_stats : Store → Option ℕ → ℕ → ℕ → Bool
has_stats s from a r = since from r && member (s.rounds r).peers a

-- up to the first reported round it has none
pub stats_none : (s : Store) (b : ℕ) (from : Option ℕ) (a : ℕ) → b ≤ first_shown s → stats_of s b from a ≡ none
unfolding stats_of total keep
stats_none s b from a l = rw (shown-none s b l) refl

-- from there on a round is added if it has counters of it
pub stats_next : (s : Store) (b : ℕ) (from : Option ℕ) (a : ℕ) → first_shown s ≤ b → stats_of s (suc b) from a ≡ cond (has_stats s from a b) (merge (stats_of s b from a) b (counted (before s b) s b a)) (stats_of s b from a)
unfolding stats_of keep
stats_next s b from a l =
    ap (λ vs. total s a (keep picks vs) none) (shown-more s b l)
    ∙ (ap (λ vs. total s a vs none) (keep_append picks (shown s b) (inspected_round s b ∷ []))
    ∙ by_test (has_stats s from a b)
    (λ t. rw t (total-more s a (keep picks (shown s b)) (inspected_round s b) none))
    (λ n. rw n (ap (λ vs. total s a vs none) (append-nil (keep picks (shown s b))))))
  where
    picks : InspectedRound → Bool
    picks v = has_stats s from a v.round

-- no events up to the first reported round
pub over_none : (s : Store) (f : InspectedRound → ℕ → List Event) (b : ℕ) → b ≤ first_shown s → over f (shown s b) ≡ []
unfolding over joined
over_none s f b l = rw (shown-none s b l) refl

-- from there on those of a round more
pub over-more : (s : Store) (f : InspectedRound → ℕ → List Event) (b : ℕ) → first_shown s ≤ b → over f (shown s (suc b)) ≡ over f (shown s b) ++ up_to 32 (f (inspected_round s b))
unfolding over joined
over-more s f b l =
    ap (over f) (shown-more s b l)
    ∙ (joined-append (λ v. up_to 32 (f v)) (shown s b) (inspected_round s b ∷ [])
    ∙ ap (λ l. over f (shown s b) ++ l) (append-nil (up_to 32 (f (inspected_round s b)))))

-- ---- events

-- every list of an event is in order: digests rise; ids rise by round, inside a round by digest
abbrev pub ListsRise : Event → Type 0
ListsRise (single kind i) = Unit {0}
ListsRise (equivocation a r ds) = Pairs ◌<◌ ds
ListsRise (no_inclusion a xs ys) = Pairs Before xs × Pairs Before ys

-- an event of these is that of a peer at a round
pub over_elim : (f : InspectedRound → ℕ → List Event) (vs : List InspectedRound) (e : Event) → Memᴰ e (over f vs) → (v : InspectedRound) × Memᴰ v vs × ((a : ℕ) × Memᴰ e (f v a))
unfolding over
over_elim f vs e m =
    let (v, k, n) = (joined_in (λ v. up_to 32 (f v)) vs e).0 m in
    let (a, l, h) = (upto_in 32 (f v) e).0 n in
    (v, k, (a, h))

-- the one event, if the test passes
pub onlyif_elim : (t : Bool) (x e : Event) → Memᴰ e (only_if t x) → (t ≡ true) × (x ≡ e)
unfolding only_if
onlyif_elim true x e m = (refl, ⊎_elim sym (λ k. absurd (Memᴰ.not-nil k)) (Memᴰ.cases_cons m))
onlyif_elim false x e m = absurd (Memᴰ.not-nil m)

-- ids of one round and author rise with their digests
pub ids_rise : (r a : ℕ) (ds : List ℕ) → Pairs ◌<◌ ds → Pairs Before (ids_of r a ds)
ids_rise r a ds h = map_pairs ◌<◌ Before (λ d. record { round = r; author = a; digest = d }) (λ x y l. inr (refl, l)) ds h

-- their round
pub ids-round : (r a : ℕ) (ds : List ℕ) (i : Id) → Memᴰ i (ids_of r a ds) → i.round ≡ r
ids-round r a ds i m =
    let (d, k, e) = mem_map (λ (d : ℕ). let x : Id = record { round = r; author = a; digest = d } in x) ds i m in
    sym (ap (λ (x : Id). x.round) e)

-- ---- counts fit

-- each counter is at most n
pub record AtMost (n : ℕ) (c : Counters) : Type 0 where
  pub was_leader : c.was_leader ≤ n
  pub skipped_rounds : c.skipped_rounds ≤ n
  pub valid_points : c.valid_points ≤ n
  pub points_proved : c.points_proved ≤ n
  pub equivocated : c.equivocated ≤ n
  pub trans_invalid : c.trans_invalid ≤ n
  pub invalid : c.invalid ≤ n
  pub ill_formed : c.ill_formed ≤ n
  pub references_skipped : c.references_skipped ≤ n

-- what one round can count
pub record RoundAtMost (c : Counters) : Type 0 where
  pub was_leader : c.was_leader ≤ 1
  pub skipped_rounds : c.skipped_rounds ≤ 1
  pub valid_points : c.valid_points ≤ 1
  pub points_proved : c.points_proved ≤ 4
  pub equivocated : c.equivocated ≤ 3
  pub trans_invalid : c.trans_invalid ≤ 4
  pub invalid : c.invalid ≤ 4
  pub ill_formed : c.ill_formed ≤ 4
  pub references_skipped : c.references_skipped ≤ 128

-- one or none
one_most : (b : Bool) → one b ≤ 1
one_most true = omega arith
one_most false = omega arith

-- n or none
if_most : (b : Bool) (n k : ℕ) → n ≤ k → cond b n 0 ≤ k
if_most true n k l = l
if_most false n k l = omega arith

-- a round adds at most this, if it meets at most 128 entries
pub counted-few : (s : Store) → Wf s → (m : Memory) (r a : ℕ) → length m.entries ≤ 128 → RoundAtMost (counted m s r a)
unfolding counted proofs
counted-few s w m r a l = record {
  was_leader = one_most (holds (s.rounds r).used a);
  skipped_rounds = one_most (eqb (count (of (is_found s) s a) (places_in s r)) 0);
  valid_points = one_most (has (of (is_valid s) s a) (places_in s r));
  points_proved = passing-few s w r (is_proved s) a;
  equivocated = omega (arith, passing-few s w r (is_found s) a);
  trans_invalid = passing-few s w r (is_trans_invalid s) a;
  invalid = passing-few s w r (is_invalid s) a;
  ill_formed = passing-few s w r (is_ill_formed s) a;
  references_skipped = if_most (not_referenced m s r a) (length (proofs m.entries s r a)) 128 (omega (arith, keep-length (reported m.entries s r a) m.entries));
}

-- so each counter at most 128
pub counted_most : (s : Store) → Wf s → (m : Memory) (r a : ℕ) → length m.entries ≤ 128 → AtMost 128 (counted m s r a)
counted_most s w m r a l = go _ (counted-few s w m r a l)
  where
    go : (c : Counters) → RoundAtMost c → AtMost 128 c
    go c h = omega arith

-- at most m, so at most n
most_more : (m n : ℕ) (c : Counters) → m ≤ n → AtMost m c → AtMost n c
most_more m n c l h = omega arith

-- of a sum
add_most : (m n : ℕ) (x y : Counters) → AtMost m x → AtMost n y → AtMost (m + n) (add x y)
unfolding add
add_most m n x y h k = omega arith

-- the counters of a peer that has some
abbrev pub StatsMost : ℕ → Option Stats → Type 0
StatsMost n none = Unit {0}
StatsMost n (some t) = AtMost n t.counters

-- a round more
merge_most : (n : ℕ) (t : Option Stats) (r : ℕ) (c : Counters) → StatsMost n t → AtMost 128 c → StatsMost (n + 128) (merge t r c)
unfolding merge
merge_most n none r c h k = most_more 128 (n + 128) c (omega arith) k
merge_most n (some t) r c h k = add_most n 128 t.counters c h k

-- at most m, so at most n
stats_more : (m n : ℕ) (t : Option Stats) → m ≤ n → StatsMost m t → StatsMost n t
stats_more m n none l h = tt
stats_more m n (some t) l h = most_more m n t.counters l h

-- each round adds at most 128
pub total_most : (s : Store) → Wf s → (a : ℕ) (vs : List InspectedRound) (n : ℕ) (t : Option Stats) → ((v : InspectedRound) → Memᴰ v vs → length v.memory.entries ≤ 128) → StatsMost n t → StatsMost (n + length vs * 128) (total s a vs t)
unfolding total
total_most s w a [] n t few h = stats_more n (n + 0 * 128) t (omega arith) h
total_most s w a (v ∷ vs) n t few h =
    let c : Counters = counted v.memory s v.round a in
    let k : AtMost 128 c = counted_most s w v.memory v.round a (few v (Memᴰ.head refl)) in
    stats_more (n + 128 + length vs * 128) (n + suc (length vs) * 128) (total s a vs (merge t v.round c)) (omega arith)
    (total_most s w a vs (n + 128) (merge t v.round c) (λ u m. few u (Memᴰ.tail m)) (merge_most n t v.round c h k))

-- "Counts always fit": at most 511 rounds are drained, so each counter of a remove's answer is at most 511 * 128
pub counts_fit : (s : Store) → Wf s → length s.memory.entries ≤ 128 → (b : ℕ) → b ≤ s.top → (from : Option ℕ) (a : ℕ) → StatsMost 65_408 (stats_of s b from a)
unfolding stats_of
counts_fit s w l b h from a =
    stats_more (0 + length vs * 128) 65_408 (total s a vs none) (omega (arith, w.few, shown-length s b, keep-length picks (shown s b)))
    (total_most s w a vs 0 none few tt)
  where
    picks : InspectedRound → Bool
    picks v = has_stats s from a v.round

    vs : List InspectedRound
    vs = keep picks (shown s b)

    few : (v : InspectedRound) → Memᴰ v vs → length v.memory.entries ≤ 128
    few v m =
        let (x, y, z) = shown_elim s b v ((keep_in picks (shown s b) v).0 m).0 in
        subst (λ (m : Memory). length m.entries ≤ 128) (sym x) (before-keeps (λ m. length m.entries ≤ 128) s v.round l (data_few s w))
