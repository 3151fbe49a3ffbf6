-- The place lists of an anchor, the order in which they make its history come out (02: N1), and sums over it (02: N2).
use Rattle.std.specs.Prelude.{ℕ, zero, suc, ◌+◌, ◌-◌, ◌≤◌, ◌<◌, ◌≡◌, refl, ◌↔◌, Bool, true, not, ◌&&◌, cond, leb, take, drop}
use Rattle.std.proofs.Common.{sym, ◌∙◌, ap, subst, ⊎_elim, length-take, length-drop, take_at, drop_at, drop-drop, eqb-true, eq-eqb, leb-true, arith}
use mathlib.Core.List.Memᴰ
use mathlib.Core.List.{List, [], ◌∷◌, ◌++◌, map, reverse, reverse-cons, append_assoc, append-nil, Memᴰ}
use Rattle.std.proofs.Math.Dec.{eqb}
use Rattle.std.proofs.Math.ListN.{length, get_or}
use Rattle.std.proofs.lemmas.List.{take-append-le, drop-append-le}
use Rattle.laws.specs.Test.{by_test, both, and-true, and_assoc, and_l, and_r, same_or}
use Rattle.laws.specs.Scan.{every_elim, every_intro, those, those_elim, those_intro, those_nodup, those_fewer}
use Rattle.laws.specs.Lists.{joined, joined_in, weigh, weigh-same, weigh_by, weigh-map, keep, keep_in, keep_nodup, count, NoDup, nodup_append, Pairs, append_pairs, map_pairs, mem_map, map_mem, map_nodup, filled, length-same, reverse_in, reverse_nodup, get_d_in, in_get_d, get_d_apart, count_in, count_once}
use Rattle.laws.specs.Sort.{sort_mem, sort_once, sort_length}
use Rattle.laws.specs.Bytes.{Bytes}
use Rattle.spec.specs.Ids.{Id}
use Rattle.spec.specs.Store.{Resolution, Store, id_at, round_at}
use Rattle.spec.specs.History.{lowest, Need, anchor, hand, marks, needed, in_history, history, linked_in, down_from, rounds_of, counts_in, linked_counts, each_once, lists_ok, round_out, drawn, in_order, summed}
use Rattle.spec.specs.Inspect.{places_in}
use Rattle.spec.specs.Links.{down}
use Rattle.spec.specs.HeightEquations.{inside}
use Rattle.spec.proofs.Sweep.{marked→need, needed_is}
use Rattle.spec.specs.WellFormed.{Wf}
use Rattle.spec.specs.Order.{need_named}
use Rattle.spec.proofs.Order.{history_named, history_elim, history_intro, history_once}
use Rattle.spec.specs.Inspection.{LowerAt, digest_elim, digest_rises, round-few}

-- ---- lists of places

-- the numbers below n, falling
abbrev pub all_below : ℕ → List ℕ
all_below n = those n (λ k. true)

-- n of them
below_length : (n : ℕ) → length (all_below n) ≡ n
unfolding those
below_length zero = refl
below_length (suc n) = ap suc (below_length n)

-- a right list is as long as there are places
pub each-length : (n : ℕ) (l : List ℕ) → each_once n l ≡ true → length l ≡ n
unfolding each_once
each-length n l h = eqb-true _ _ (and_l _ _ h)

-- each place is in it
pub each_in : (n : ℕ) (l : List ℕ) → each_once n l ≡ true → (k : ℕ) → k < n → Memᴰ k l
unfolding each_once
each_in n l h k m = count_in k l (omega (arith, eqb-true (count (eqb k) l) 1 (every_elim n _ (and_r (eqb (length l) n) _ h) k m)))

-- so the places are all that is in it
each-filled : (n : ℕ) (l : List ℕ) → each_once n l ≡ true → ((k : ℕ) → Memᴰ k l → Memᴰ k (all_below n)) × NoDup l
each-filled n l h = filled (all_below n) l (those_nodup n _) (λ k m. each_in n l h k (those_elim n _ k m).0) (omega (arith, each-length n l h, below_length n))

-- no other number is in it
pub each_below : (n : ℕ) (l : List ℕ) → each_once n l ≡ true → (k : ℕ) → Memᴰ k l → k < n
each_below n l h k m = (those_elim n _ k ((each-filled n l h).0 k m)).0

-- none twice
pub each_nodup : (n : ℕ) (l : List ℕ) → each_once n l ≡ true → NoDup l
each_nodup n l h = (each-filled n l h).1

-- as a loop tests it: as many as there are places, each below their number, none twice
pub each_intro : (n : ℕ) (l : List ℕ) → length l ≡ n → ((k : ℕ) → Memᴰ k l → k < n) → NoDup l → each_once n l ≡ true
unfolding each_once
each_intro n l e b d =
    both (eq-eqb _ _ e) (every_intro n _ (λ k m. eq-eqb (count (eqb k) l) 1 (count_once k l d
    ((filled l (all_below n) d (λ x i. those_intro n _ x (b x i) refl) (omega (arith, e, below_length n))).0 k (those_intro n _ k m refl)))))

-- the first round's list, and those of the others
pub lists_head : (n : ℕ) (ns l : List ℕ) → lists_ok (n ∷ ns) l ≡ true → (each_once n (take n l) ≡ true) × (lists_ok ns (drop n l) ≡ true)
unfolding lists_ok
lists_head n ns l h = (and_l _ _ h, and_r (each_once n (take n l)) _ h)

-- the lists of some counts, then those of others: 02, N1: "lists end to end"
pub lists-append : (ns ms l : List ℕ) → lists_ok (ns ++ ms) l ≡ (lists_ok ns l && lists_ok ms (drop (weigh (λ n. n) ns) l))
unfolding lists_ok weigh
lists-append [] ms l = refl
lists-append (n ∷ ns) ms l =
    ap (λ z. each_once n (take n l) && z) (lists-append ns ms (drop n l) ∙ ap (λ z. lists_ok ns (drop n l) && lists_ok ms z) (drop-drop (weigh (λ n. n) ns) n l))
    ∙ and_assoc (each_once n (take n l)) (lists_ok ns (drop n l)) (lists_ok ms (drop (n + weigh (λ n. n) ns) l))

-- one more list, as a loop over the counts tests it
pub lists-more : (ns : List ℕ) (n : ℕ) (l : List ℕ) → lists_ok (ns ++ (n ∷ [])) l ≡ (lists_ok ns l && each_once n (take n (drop (weigh (λ n. n) ns) l)))
unfolding lists_ok
lists-more ns n l = lists-append ns (n ∷ []) l ∙ ap (λ z. lists_ok ns l && z) (and-true (each_once n (take n (drop (weigh (λ n. n) ns) l))))

-- "bytes beyond them unread"
pub lists_unread : (ns l rest : List ℕ) → weigh (λ n. n) ns ≤ length l → lists_ok ns (l ++ rest) ≡ lists_ok ns l
unfolding lists_ok weigh
lists_unread [] l rest h = refl
lists_unread (n ∷ ns) l rest h =
    rw (take-append-le n l rest (omega arith), drop-append-le n l rest (omega arith)) (ap (λ z. each_once n (take n l) && z) (lists_unread ns (drop n l) rest (rw (length-drop n l) (omega arith))))

-- right lists are long enough
pub lists_long : (ns l : List ℕ) → lists_ok ns l ≡ true → weigh (λ n. n) ns ≤ length l
unfolding weigh
lists_long [] l h = omega arith
lists_long (n ∷ ns) l h =
    let (a, b) = lists_head n ns l h in
    let k : weigh (λ n. n) ns ≤ length (drop n l) = lists_long ns (drop n l) b in
    omega (arith, length-drop n l, length-take n l, each-length n (take n l) a, k)

-- right lists for these counts: in each the places fall
abbrev pub falling : List ℕ → List ℕ
falling ns = joined all_below ns

-- they are right, whatever follows
pub falling_ok : (ns rest : List ℕ) → lists_ok ns (falling ns ++ rest) ≡ true
unfolding lists_ok joined
falling_ok [] rest = refl
falling_ok (n ∷ ns) rest =
    let e : (all_below n ++ falling ns) ++ rest ≡ all_below n ++ (falling ns ++ rest) = append_assoc (all_below n) (falling ns) rest in
    rw (e, take_at (all_below n) (falling ns ++ rest) n (below_length n), drop_at (all_below n) (falling ns ++ rest) n (below_length n))
    (both (each_intro n (all_below n) (below_length n) (λ k m. (those_elim n (λ k. true) k m).0) (those_nodup n (λ k. true))) (falling_ok ns rest))

-- they are as long as the counts say
pub falling_rest : (ns rest : List ℕ) → drop (weigh (λ n. n) ns) (falling ns ++ rest) ≡ rest
unfolding weigh joined
falling_rest [] rest = refl
falling_rest (n ∷ ns) rest =
    ap (drop (n + weigh (λ n. n) ns)) (append_assoc (all_below n) (falling ns) rest)
    ∙ (sym (drop-drop (weigh (λ n. n) ns) n (all_below n ++ (falling ns ++ rest))) ∙ (ap (drop (weigh (λ n. n) ns)) (drop_at (all_below n) (falling ns ++ rest) n (below_length n)) ∙ falling_rest ns rest))

-- numbers below 256
all-bytes : (l : List ℕ) → ((k : ℕ) → Memᴰ k l → k < 256) → Bytes l
all-bytes [] h = tt
all-bytes (x ∷ xs) h = (h x (Memᴰ.head refl), all-bytes xs (λ k m. h k (Memᴰ.tail m)))

-- ---- rounds downwards

-- the k rounds from r downwards are at most r, and above r - k
down_elim : (r k x : ℕ) → k ≤ suc r → Memᴰ x (down_from r k) → (x ≤ r) × (suc r ≤ x + k)
unfolding down_from
down_elim r zero x l m = absurd (Memᴰ.not-nil m)
down_elim r (suc k) x l m =
    ⊎_elim (λ e. (omega arith, omega arith)) (λ n. let (a, b) = down_elim (r - 1) k x (omega arith) n in (omega arith, omega arith)) (Memᴰ.cases_cons m)

-- and all of these
down_intro : (r k x : ℕ) → x ≤ r → suc r ≤ x + k → Memᴰ x (down_from r k)
unfolding down_from
down_intro r zero x a b = absurd (omega arith)
down_intro r (suc k) x a b = same_or x r Memᴰ.head (λ n. Memᴰ.tail (down_intro (r - 1) k x (omega arith) (omega arith)))

-- each is above the later ones
down_falls : (r k : ℕ) → k ≤ suc r → Pairs (λ (x y : ℕ). y < x) (down_from r k)
unfolding down_from
down_falls r zero l = tt
down_falls r (suc k) l = ((λ y m. let (a, b) = down_elim (r - 1) k y (omega arith) m in omega arith), down_falls (r - 1) k (omega arith))

-- as many as are said
pub down_length : (r k : ℕ) → length (down_from r k) ≡ k
unfolding down_from
down_length r zero = refl
down_length r (suc k) = ap suc (down_length (r - 1) k)

-- one more below
pub down_more : (r k : ℕ) → down_from r (suc k) ≡ down_from r k ++ ((r - k) ∷ [])
unfolding down_from
down_more r zero = ap (λ n. n ∷ []) (omega arith)
down_more r (suc k) = ap (λ l. r ∷ l) (down_more (r - 1) k ∙ ap (λ n. down_from (r - 1) k ++ (n ∷ [])) (omega arith))

-- the rounds of an anchor are those from its lowest to its own
pub rounds_in : (s : Store) (a x : ℕ) → lowest s a ≤ x → x ≤ round_at s a → Memᴰ x (rounds_of s a)
rounds_in s a x l h = down_intro (round_at s a) (suc (round_at s a) - lowest s a) x h (omega arith)

-- each is above the later ones
rounds_fall : (s : Store) (a : ℕ) → Pairs (λ (x y : ℕ). y < x) (rounds_of s a)
rounds_fall s a = down_falls (round_at s a) (suc (round_at s a) - lowest s a) (omega arith)

-- ---- the points of a round

-- each is a place, needed and of that round
pub linked_elim : (s : Store) (a r q : ℕ) → Memᴰ q (linked_in s a r) → (q < s.places) × (needed s a q ≡ true) × (round_at s q ≡ r)
unfolding linked_in
linked_elim s a r q m = digest_elim s r (needed s a) q m

-- each such place is among them
pub linked_intro : (s : Store) (a r q : ℕ) → q < s.places → needed s a q ≡ true → round_at s q ≡ r → Memᴰ q (linked_in s a r)
unfolding linked_in
linked_intro s a r q l h e =
    (sort_mem (λ p q. leb (id_at s p).digest (id_at s q).digest) q _).1 (those_intro s.places (λ q. needed s a q && eqb (round_at s q) r) q l (both h (eq-eqb _ _ e)))

-- none stands twice
pub linked_once : (s : Store) (a r : ℕ) → NoDup (linked_in s a r)
unfolding linked_in
linked_once s a r = sort_once (λ p q. leb (id_at s p).digest (id_at s q).digest) _ (those_nodup s.places (λ q. needed s a q && eqb (round_at s q) r))

module _ (s : Store) (w : Wf s) (a : ℕ) (there : (s.pt a).named ≡ true) where
  -- a needed point is named
  needed-named : (q : ℕ) → needed s a q ≡ true → (s.pt q).named ≡ true
  unfolding needed
  needed-named q h = need_named s a q there (marked→need s a q (and_l _ _ h))

  -- they rise by digest
  pub linked-rises : (r : ℕ) → Pairs (LowerAt s) (linked_in s a r)
  unfolding linked_in
  linked-rises r = digest_rises s r w (needed s a) needed-named

  -- "At most 4 digests per author and round", and 32 authors: a place fits a byte
  pub linked-few : (r : ℕ) → length (linked_in s a r) ≤ 128
  unfolding linked_in places_in
  linked-few r =
      let x : length (linked_in s a r) ≡ length (those s.places (λ q. needed s a q && eqb (round_at s q) r)) = sort_length _ _ in
      let y : length (places_in s r) ≡ length (those s.places (λ q. (s.pt q).named && eqb (round_at s q) r)) = sort_length _ _ in
      let z : length (those s.places (λ q. needed s a q && eqb (round_at s q) r)) ≤ length (those s.places (λ q. (s.pt q).named && eqb (round_at s q) r)) =
      those_fewer s.places (λ q. (s.pt q).named && eqb (round_at s q) r) (λ q. needed s a q && eqb (round_at s q) r) (λ q l t. both (needed-named q (and_l _ _ t)) (and_r (needed s a q) _ t)) in
      omega (arith, x, y, z, round-few s w r)

  -- so there are right lists of bytes
  pub lists_exist : (l : List ℕ) × Bytes l × (lists_ok (linked_counts s a) l ≡ true)
  lists_exist = (falling (linked_counts s a), all-bytes (falling (linked_counts s a)) small, subst (λ l. lists_ok (linked_counts s a) l ≡ true) (append-nil (falling (linked_counts s a))) (falling_ok (linked_counts s a) []))
    where
      small : (k : ℕ) → Memᴰ k (falling (linked_counts s a)) → k < 256
      small k m =
          let (n, i, j) = (joined_in all_below (linked_counts s a) k).0 m in
          let (r, x, e) = mem_map (λ r. length (linked_in s a r)) (rounds_of s a) n i in
          omega (arith, (those_elim n (λ k. true) k j).0, e, linked-few r)

-- not committed
abbrev uncommitted : Store → ℕ → Bool
uncommitted s q = not (s.pt q).flags.committed

module _ (s : Store) (ps l : List ℕ) (ok : each_once (length ps) l ≡ true) where
  -- what comes out is one of the points and not committed
  out_elim : (q : ℕ) → Memᴰ q (round_out s ps l) → Memᴰ q ps × (uncommitted s q ≡ true)
  unfolding round_out
  out_elim q m =
      let (k, f) = (keep_in (uncommitted s) (map (λ k. get_or ps k 0) l) q).0 ((reverse_in _ q).0 m) in
      let (i, n, e) = mem_map (λ k. get_or ps k 0) l q k in
      (Memᴰ.cast (sym e) (get_d_in ps i 0 (each_below (length ps) l ok i n)), f)

  -- each of them that is not committed comes out
  out_intro : (q : ℕ) → Memᴰ q ps → uncommitted s q ≡ true → Memᴰ q (round_out s ps l)
  unfolding round_out
  out_intro q m f =
      let (k, n, e) = in_get_d ps q 0 m in
      (reverse_in _ q).1 ((keep_in (uncommitted s) (map (λ k. get_or ps k 0) l) q).1 (Memᴰ.cast (sym e) (map_mem (λ k. get_or ps k 0) l k (each_in (length ps) l ok k n)), f))

  -- none twice
  out_once : NoDup ps → NoDup (round_out s ps l)
  unfolding round_out
  out_once d = reverse_nodup (keep (uncommitted s) (map (λ k. get_or ps k 0) l)) (keep_nodup (uncommitted s) (map (λ k. get_or ps k 0) l) (map_nodup (λ k. get_or ps k 0) l (each_nodup (length ps) l ok)
      (λ i j m n e. get_d_apart ps 0 d i j (each_below (length ps) l ok i m) (each_below (length ps) l ok j n) e)))

-- one byte more in front: its point comes out last, if it isn't committed
pub out_more : (s : Store) (ps : List ℕ) (k : ℕ) (l : List ℕ) → round_out s ps (k ∷ l) ≡ round_out s ps l ++ cond (uncommitted s (get_or ps k 0)) (get_or ps k 0 ∷ []) []
unfolding round_out keep
out_more s ps k l =
    by_test (uncommitted s (get_or ps k 0))
    (λ t. rw t (reverse-cons (get_or ps k 0) (keep (uncommitted s) (map (λ k. get_or ps k 0) l))))
    (λ f. rw f (sym (append-nil (reverse (keep (uncommitted s) (map (λ k. get_or ps k 0) l))))))

-- each stands in R to each
any_pairs : {A : Type 0} (R : A → A → Type 0) (l : List A) → ((x y : A) → Memᴰ x l → Memᴰ y l → R x y) → Pairs R l
any_pairs R [] h = tt
any_pairs R (x ∷ xs) h = ((λ y m. h x y (Memᴰ.head refl) (Memᴰ.tail m)), any_pairs R xs (λ y z m n. h y z (Memᴰ.tail m) (Memᴰ.tail n)))

-- ---- the points of several rounds

-- what comes out is in the history and of one of the rounds
pub drawn_elim : (s : Store) (a : ℕ) (rs l : List ℕ) → lists_ok (counts_in s a rs) l ≡ true → (q : ℕ) → Memᴰ q (drawn s a rs l) → Memᴰ (round_at s q) rs × (in_history s a q ≡ true)
unfolding drawn in_history
drawn_elim s a [] l ok q m = absurd (Memᴰ.not-nil m)
drawn_elim s a (r ∷ rs) l ok q m =
    let ps = linked_in s a r in
    let (c, d) = lists_head (length ps) (counts_in s a rs) l ok in
    ⊎_elim
    (λ k. let (x, h) = drawn_elim s a rs (drop (length ps) l) d q k in (Memᴰ.tail x, h))
    (λ k. let (n, f) = out_elim s ps (take (length ps) l) c q k in let (z, h, e) = linked_elim s a r q n in (Memᴰ.head e, both h f))
    (Memᴰ.append_cases (drawn s a rs (drop (length ps) l)) m)

-- all of the history in those rounds comes out
pub drawn_intro : (s : Store) (a : ℕ) (rs l : List ℕ) → lists_ok (counts_in s a rs) l ≡ true → (q : ℕ) → q < s.places → Memᴰ (round_at s q) rs → in_history s a q ≡ true → Memᴰ q (drawn s a rs l)
unfolding drawn in_history
drawn_intro s a [] l ok q b m h = absurd (Memᴰ.not-nil m)
drawn_intro s a (r ∷ rs) l ok q b m h =
    let ps = linked_in s a r in
    let (c, d) = lists_head (length ps) (counts_in s a rs) l ok in
    ⊎_elim
    (λ e. Memᴰ.append_right (drawn s a rs (drop (length ps) l)) (out_intro s ps (take (length ps) l) c q (linked_intro s a r q b (and_l _ _ h) e) (and_r (needed s a q) _ h)))
    (λ k. Memᴰ.append_left (round_out s ps (take (length ps) l)) (drawn_intro s a rs (drop (length ps) l) d q b k h))
    (Memᴰ.cases_cons m)

-- what follows the lists is unread
drawn_unread : (s : Store) (a : ℕ) (rs l rest : List ℕ) → weigh (λ n. n) (counts_in s a rs) ≤ length l → drawn s a rs (l ++ rest) ≡ drawn s a rs l
unfolding drawn weigh
drawn_unread s a [] l rest h = refl
drawn_unread s a (r ∷ rs) l rest h =
    let n = length (linked_in s a r) in
    rw (take-append-le n l rest (omega arith), drop-append-le n l rest (omega arith)) (ap (λ z. z ++ round_out s (linked_in s a r) (take n l)) (drawn_unread s a rs (drop n l) rest (rw (length-drop n l) (omega arith))))

-- "bytes beyond them unread"
pub order_unread : (s : Store) (a : ℕ) (l rest : List ℕ) → lists_ok (linked_counts s a) l ≡ true → in_order s a (l ++ rest) ≡ in_order s a l
unfolding in_order
order_unread s a l rest h = ap (map (id_at s)) (drawn_unread s a (rounds_of s a) l rest (lists_long (linked_counts s a) l h))

-- what comes out of one round is of that round
out_round : (s : Store) (a r : ℕ) (l : List ℕ) → each_once (length (linked_in s a r)) l ≡ true → (q : ℕ) → Memᴰ q (round_out s (linked_in s a r) l) → round_at s q ≡ r
out_round s a r l ok q m = (linked_elim s a r q (out_elim s (linked_in s a r) l ok q m).0).2

-- none comes out twice
drawn_once : (s : Store) (a : ℕ) (rs l : List ℕ) → lists_ok (counts_in s a rs) l ≡ true → Pairs (λ (x y : ℕ). y < x) rs → NoDup (drawn s a rs l)
unfolding drawn
drawn_once s a [] l ok p = tt
drawn_once s a (r ∷ rs) l ok p =
    let ps = linked_in s a r in
    let (c, d) = lists_head (length ps) (counts_in s a rs) l ok in
    nodup_append (drawn s a rs (drop (length ps) l)) (round_out s ps (take (length ps) l)) (drawn_once s a rs (drop (length ps) l) d p.1) (out_once s ps (take (length ps) l) c (linked_once s a r))
    (λ q m n. omega (arith, p.0 (round_at s q) (drawn_elim s a rs (drop (length ps) l) d q m).0, out_round s a r (take (length ps) l) c q n))

-- rounds rise
drawn-rises : (s : Store) (a : ℕ) (rs l : List ℕ) → lists_ok (counts_in s a rs) l ≡ true → Pairs (λ (x y : ℕ). y < x) rs → Pairs (λ (p q : ℕ). round_at s p ≤ round_at s q) (drawn s a rs l)
unfolding drawn
drawn-rises s a [] l ok p = tt
drawn-rises s a (r ∷ rs) l ok p =
    let ps = linked_in s a r in
    let (c, d) = lists_head (length ps) (counts_in s a rs) l ok in
    append_pairs (λ (p q : ℕ). round_at s p ≤ round_at s q) (drawn s a rs (drop (length ps) l)) (round_out s ps (take (length ps) l)) (drawn-rises s a rs (drop (length ps) l) d p.1)
    (any_pairs (λ (p q : ℕ). round_at s p ≤ round_at s q) (round_out s ps (take (length ps) l)) (λ x y m n. omega (arith, out_round s a r (take (length ps) l) c x m, out_round s a r (take (length ps) l) c y n)))
    (λ x y m n. omega (arith, p.0 (round_at s x) (drawn_elim s a rs (drop (length ps) l) d x m).0, out_round s a r (take (length ps) l) c y n))

-- a needed point is not above the anchor
need_under : (s : Store) (a q : ℕ) → Need s a q → round_at s q ≤ round_at s a
need_under s a q anchor = omega arith
need_under s a q (hand p x n d e) = omega (arith, need_under s a p n, down s p x e)

-- in the anchor's round it is the anchor
need_level : (s : Store) (a q : ℕ) → Need s a q → round_at s q ≡ round_at s a → q ≡ a
need_level s a q anchor e = refl
need_level s a q (hand p x n d l) e = absurd (omega (arith, need_under s a p n, down s p x l))

-- so the list of the anchor's round has one byte
pub linked-anchor : (s : Store) → Wf s → (a : ℕ) → (s.pt a).named ≡ true → lowest s a ≤ round_at s a → length (linked_in s a (round_at s a)) ≡ 1
unfolding needed
linked-anchor s w a there l = length-same (linked_in s a (round_at s a)) (a ∷ []) (linked_once s a (round_at s a)) ((λ m. Memᴰ.not-nil m), tt) (λ q. (
  (λ m. let (z, h, e) = linked_elim s a (round_at s a) q m in Memᴰ.head (need_level s a q (marked→need s a q (and_l _ _ h)) e)),
  λ m. Memᴰ.cast (Memᴰ.eq_of_singleton m) (linked_intro s a (round_at s a) a (inside s w.sized a there) ((needed_is s w.sized a a (omega arith)).1 (anchor, l)) refl),
))

-- ---- sums over a list

-- 02, N2: a sum "over its history" over the history's places, whatever their order
pub summed-over : (s : Store) (a : ℕ) (f : Resolution → ℕ) (l : List ℕ) → NoDup l → ((q : ℕ) → Memᴰ q l ↔ ((q < s.places) × (in_history s a q ≡ true))) → weigh (λ q. f (s.pt q).resolution) l ≡ summed f s a
unfolding summed
summed-over s a f l d h = weigh-same (λ q. f (s.pt q).resolution) l (those s.places (in_history s a)) d (those_nodup _ _) (λ q. (
  (λ m. let (i, k) = (h q).0 m in those_intro _ _ q i k),
  λ m. (h q).1 (those_elim _ _ q m),
))

-- ---- the order of a history

module _ (s : Store) (w : Wf s) (a : ℕ) (there : (s.pt a).named ≡ true) (l : List ℕ) (ok : lists_ok (linked_counts s a) l ≡ true) where
  -- the history is in the rounds that have lists
  history-round : (q : ℕ) → in_history s a q ≡ true → Memᴰ (round_at s q) (rounds_of s a)
  unfolding in_history needed
  history-round q h = rounds_in s a (round_at s q) (leb-true _ _ (and_r (marks s a q) _ (and_l _ _ h))) (need_under s a q (marked→need s a q (and_l _ _ (and_l _ _ h))))

  -- what comes out is in the history
  order_elim : (x : Id) → Memᴰ x (in_order s a l) → (q : ℕ) × (in_history s a q ≡ true) × (id_at s q ≡ x)
  unfolding in_order
  order_elim x m = let (q, k, e) = mem_map (id_at s) (drawn s a (rounds_of s a) l) x m in (q, (drawn_elim s a (rounds_of s a) l ok q k).1, e)

  -- all of the history comes out
  order_intro : (q : ℕ) → in_history s a q ≡ true → Memᴰ (id_at s q) (in_order s a l)
  unfolding in_order
  order_intro q h = map_mem (id_at s) (drawn s a (rounds_of s a) l) q (drawn_intro s a (rounds_of s a) l ok q (inside s w.sized q (history_named s w a there q h)) (history-round q h) h)

  -- 02, N1: "the set of points in each history is what it was"
  pub order_mem : (x : Id) → Memᴰ x (in_order s a l) ↔ Memᴰ x (history s a)
  order_mem x = (
    (λ m. let (q, h, e) = order_elim x m in Memᴰ.cast (sym e) (history_intro s w a there q h)),
    λ m. let (q, h, e) = history_elim s w a there x m in Memᴰ.cast (sym e) (order_intro q h),
  )

  -- none comes out twice
  pub order_once : NoDup (in_order s a l)
  unfolding in_order
  order_once = map_nodup (id_at s) (drawn s a (rounds_of s a) l) (drawn_once s a (rounds_of s a) l ok (rounds_fall s a)) (λ x y k m e.
      w.apart x y (history_named s w a there x (drawn_elim s a (rounds_of s a) l ok x k).1) (history_named s w a there y (drawn_elim s a (rounds_of s a) l ok y m).1) (ap (λ (i : Id). i.round) e) (ap (λ (i : Id). i.digest) e))

  -- as many as are in the history
  pub order_length : length (in_order s a l) ≡ length (history s a)
  order_length = length-same (in_order s a l) (history s a) order_once (history_once s w a there) order_mem

  -- "Rounds rise in the answer"
  pub order_rises : Pairs (λ (x y : Id). x.round ≤ y.round) (in_order s a l)
  unfolding in_order
  order_rises = map_pairs (λ (p q : ℕ). round_at s p ≤ round_at s q) (λ (x y : Id). x.round ≤ y.round) (id_at s) (λ x y h. h) (drawn s a (rounds_of s a) l) (drawn-rises s a (rounds_of s a) l ok (rounds_fall s a))

  -- 02, N2: a sum over the ids that come out is the sum over the history, whatever the lists
  pub order_sum : (f : Resolution → ℕ) (g : Id → ℕ) → ((q : ℕ) → in_history s a q ≡ true → g (id_at s q) ≡ f (s.pt q).resolution) → weigh g (in_order s a l) ≡ summed f s a
  unfolding in_order
  order_sum f g h =
      weigh-map g (id_at s) (drawn s a (rounds_of s a) l)
      ∙ (weigh_by (λ q. g (id_at s q)) (λ q. f (s.pt q).resolution) (drawn s a (rounds_of s a) l) (λ q m. h q (drawn_elim s a (rounds_of s a) l ok q m).1)
      ∙ summed-over s a f (drawn s a (rounds_of s a) l) (drawn_once s a (rounds_of s a) l ok (rounds_fall s a)) (λ q. (
        (λ m. let k = (drawn_elim s a (rounds_of s a) l ok q m).1 in (inside s w.sized q (history_named s w a there q k), k)),
        λ (i, k). drawn_intro s a (rounds_of s a) l ok q i (history-round q k) k,
      )))
