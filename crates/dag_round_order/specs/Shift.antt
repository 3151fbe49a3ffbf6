-- A place put into the first n cells of the order, and the first k of them taken out.
use Rattle.std.specs.Prelude.{ℕ, suc, ◌+◌, ◌-◌, ◌<◌, ◌≤◌, ◌≡◌, refl, List, ◌∷◌, ◌++◌, true, length, get_or, set, take, drop}
use Rattle.std.proofs.Common.{sym, ap, ◌∙◌, subst, arith, add-one, length-drop, take-append-drop, take-suc, drop-cons, length-take-le, get_or-take, get_or-drop, get_or-append-add}
use Rattle.std.proofs.Math.Nat.{sub_self}
use Rattle.std.proofs.Math.ListN.{get_or-append}
use Rattle.std.proofs.Math.Seq.{append_snoc}
use Rattle.std.proofs.lemmas.List.{set_at, get_or_at}
use Rattle.laws.specs.Test.{by_test, same_or, le_or}
use Rattle.dag_round_keys.specs.Key.{key, before, before-total}
use Rattle.dag_round_keys.specs.Sorted.{Sorted, key_at, place_of, place-le, place_low, place_high}
use Rattle.models.specs.Tables.{Inside}

-- the cells below `at`, the new one, the cells from `at` to n, and what stood above them
unfoldable pub inserted : List ℕ → ℕ → ℕ → ℕ → List ℕ
inserted o n at x = take at o ++ x ∷ (take (n - at) (drop at o) ++ drop (suc n) o)

-- while cells move up: cell k stands twice
unfoldable pub opened : List ℕ → ℕ → ℕ → List ℕ
opened o n k = take (suc k) o ++ (take (n - k) (drop k o) ++ drop (suc n) o)

-- no cell has moved
pub opened-all : (o : List ℕ) (n : ℕ) → opened o n n ≡ o
unfolding opened
opened-all o n = rw (sub_self n) (take-append-drop (suc n) o)

-- cell k is free to be overwritten
opened-set : (o : List ℕ) (n k v : ℕ) → k < length o → set (opened o n k) k v ≡ take k o ++ v ∷ (take (n - k) (drop k o) ++ drop (suc n) o)
unfolding opened
opened-set o n k v l =
    ap (λ (t : List ℕ). set (t ++ (take (n - k) (drop k o) ++ drop (suc n) o)) k v) (take-suc o k 0 l)
    ∙ (ap (λ (t : List ℕ). set t k v) (append_snoc (take k o) (get_or o k 0) (take (n - k) (drop k o) ++ drop (suc n) o))
    ∙ set_at (take k o) (get_or o k 0) (take (n - k) (drop k o) ++ drop (suc n) o) v k (length-take-le k o (omega arith)))

-- up to k the cells are as they were
opened_at : (o : List ℕ) (n k j : ℕ) → j ≤ k → k < length o → get_or (opened o n k) j 0 ≡ get_or o j 0
unfolding opened
opened_at o n k j l m =
    get_or-append (take (suc k) o) _ 0 j (rw (length-take-le (suc k) o m) (omega arith)) ∙ get_or-take (suc k) o j 0 (omega arith)

-- the cell below moves up
opened-step : (o : List ℕ) (n j : ℕ) → suc j ≤ n → n < length o → set (opened o n (suc j)) (suc j) (get_or o j 0) ≡ opened o n j
unfolding opened
opened-step o n j l m =
    opened-set o n (suc j) (get_or o j 0) (omega arith)
    ∙ ap (λ (t : List ℕ). take (suc j) o ++ (t ++ drop (suc n) o)) (sym tail)
  where
    left : n - j ≡ suc (n - suc j)
    left = omega arith

    tail : take (n - j) (drop j o) ≡ get_or o j 0 ∷ take (n - suc j) (drop (suc j) o)
    tail = rw (left, drop-cons o j 0 (omega arith)) refl

-- the loop of `insert`
pub opened_down : (o : List ℕ) (n k : ℕ) → 0 < k → k ≤ n → n < length o → set (opened o n k) k (get_or (opened o n k) (k - 1) 0) ≡ opened o n (k - 1)
opened_down o n k z l m =
    rw (opened_at o n k (k - 1) (omega arith) (omega arith))
    (subst (λ (x : ℕ). set (opened o n x) x (get_or o (k - 1) 0) ≡ opened o n (k - 1)) (one k z) (opened-step o n (k - 1) (omega arith) m))
  where
    one : (k : ℕ) → 0 < k → suc (k - 1) ≡ k
    one k z = omega arith

-- the last store of `insert`
pub opened-put : (o : List ℕ) (n at x : ℕ) → at ≤ n → n < length o → set (opened o n at) at x ≡ inserted o n at x
unfolding inserted
opened-put o n at x l m = opened-set o n at x (omega arith)

-- below `at` stands what stood there
pub inserted_low : (o : List ℕ) (n at x i : ℕ) → at ≤ length o → i < at → get_or (inserted o n at x) i 0 ≡ get_or o i 0
unfolding inserted
inserted_low o n at x i l m = get_or-append (take at o) _ 0 i (rw (length-take-le at o l) m) ∙ get_or-take at o i 0 m

-- at `at` stands x
pub inserted_at : (o : List ℕ) (n at x : ℕ) → at ≤ length o → get_or (inserted o n at x) at 0 ≡ x
unfolding inserted
inserted_at o n at x l = get_or_at (take at o) x _ 0 at (length-take-le at o l)

-- above it stands what stood one below
pub inserted_high : (o : List ℕ) (n at x i : ℕ) → at ≤ i → i < n → n < length o → get_or (inserted o n at x) (suc i) 0 ≡ get_or o i 0
unfolding inserted
inserted_high o n at x i l m b =
    ap (λ (j : ℕ). get_or (take at o ++ x ∷ (take (n - at) (drop at o) ++ drop (suc n) o)) j 0) split
    ∙ (get_or-append-add (take at o) (x ∷ (take (n - at) (drop at o) ++ drop (suc n) o)) (suc (i - at)) 0
    ∙ (get_or-append (take (n - at) (drop at o)) (drop (suc n) o) 0 (i - at) (rw (length-take-le (n - at) (drop at o) (rw (length-drop at o) (omega arith))) (omega arith))
    ∙ (get_or-take (n - at) (drop at o) (i - at) 0 (omega arith)
    ∙ (get_or-drop at o (i - at) 0 ∙ ap (λ (j : ℕ). get_or o j 0) (back at i l)))))
  where
    back : (at i : ℕ) → at ≤ i → at + (i - at) ≡ i
    back at i l = omega arith

    split : suc i ≡ length (take at o) + suc (i - at)
    split = rw (length-take-le at o (omega arith)) (omega arith)

-- a place whose key stands nowhere is put in where its key belongs
module _ (ks o : List ℕ) (n at x : ℕ) (place : at ≡ place_of ks o n (key ks x)) (sorted : Sorted ks o n) (room : n < length o)
    (fresh : (p : ℕ) → p < n → key_at ks o p ≡ key ks x → ⊥) where
  -- the position is at most n
  at_le : at ≤ n
  at_le = rw place (place-le ks o n (key ks x))

  -- the keys below it
  low : (i : ℕ) → i < at → key_at ks (inserted o n at x) i ≡ key_at ks o i
  low i l = ap (key ks) (inserted_low o n at x i (omega (arith, at_le)) l)

  -- the new key
  new : key_at ks (inserted o n at x) at ≡ key ks x
  new = ap (key ks) (inserted_at o n at x (omega (arith, at_le)))

  -- the keys above it
  high : (i : ℕ) → at < i → i < suc n → key_at ks (inserted o n at x) i ≡ key_at ks o (i - 1)
  high i l m =
      subst (λ (j : ℕ). key_at ks (inserted o n at x) j ≡ key_at ks o (i - 1)) (one i l)
      (ap (key ks) (inserted_high o n at x (i - 1) (omega arith) (omega arith) room))
    where
      one : (i : ℕ) → at < i → suc (i - 1) ≡ i
      one i l = omega arith

  -- the new key comes before those from there on
  after : (i : ℕ) → at ≤ i → i < n → before (key ks x) (key_at ks o i) ≡ true
  after i l m =
      by_test (before (key ks x) (key_at ks o i)) (λ t. t)
      (λ f. absurd (fresh i m (before-total (key_at ks o i) (key ks x) (place_high ks o n (key ks x) i sorted (rw place at l) m) f)))

  -- the positions stay sorted
  pub inserted-sorted : Sorted ks (inserted o n at x) (suc n)
  inserted-sorted a b l m =
      le_or b at
      (λ u. same_or b at
      (λ e. rw (low a (omega arith), e, new) (place_low ks o n (key ks x) a (let h : a < at = omega arith in rw place at h)))
      (λ e. rw (low a (omega arith), low b (omega arith)) (sorted a b l (omega (arith, at_le)))))
      (λ u. rw (high b u m)
      (le_or a at
      (λ v. same_or a at
      (λ e. rw (e, new) (after (b - 1) (omega arith) (omega arith)))
      (λ e. rw (low a (omega arith)) (sorted a (b - 1) (omega arith) (omega arith))))
      (λ v. rw (high a v (omega arith)) (sorted (a - 1) (b - 1) (omega arith) (omega arith)))))

-- the cells still hold places
pub inserted-inside : (o : List ℕ) (n at x places : ℕ) → at ≤ n → n < length o → x < places → Inside o n places → Inside (inserted o n at x) (suc n) places
inserted-inside o n at x places l m h s i b =
    le_or i at
    (λ u. same_or i at
    (λ e. rw (e, inserted_at o n at x (omega arith)) h)
    (λ e. rw (inserted_low o n at x i (omega arith) (omega arith)) (s i (omega arith))))
    (λ u. subst (λ (j : ℕ). get_or (inserted o n at x) j 0 < places) (one i at u)
    (rw (inserted_high o n at x (i - 1) (omega arith) (omega arith) m) (s (i - 1) (omega arith))))
  where
    one : (i at : ℕ) → at < i → suc (i - 1) ≡ i
    one i at l = omega arith

-- the cells from k to n, and what stood after as many
unfoldable pub drained : List ℕ → ℕ → ℕ → List ℕ
drained o n k = take (n - k) (drop k o) ++ drop (n - k) o

-- i cells have moved down
unfoldable pub moved : List ℕ → ℕ → ℕ → List ℕ
moved o k i = take i (drop k o) ++ drop i o

-- none has moved
pub moved_none : (o : List ℕ) (k : ℕ) → moved o k 0 ≡ o
unfolding moved
moved_none o k = refl

-- the next cell to move is as it was
moved_at : (o : List ℕ) (k i : ℕ) → k + i < length o → get_or (moved o k i) (k + i) 0 ≡ get_or o (k + i) 0
unfolding moved
moved_at o k i l =
    ap (λ (j : ℕ). get_or (take i (drop k o) ++ drop i o) j 0) split
    ∙ (get_or-append-add (take i (drop k o)) (drop i o) k 0 ∙ (get_or-drop i o k 0 ∙ ap (λ (j : ℕ). get_or o j 0) (swap i k)))
  where
    swap : (i k : ℕ) → i + k ≡ k + i
    swap i k = omega arith

    split : k + i ≡ length (take i (drop k o)) + k
    split = rw (length-take-le i (drop k o) (rw (length-drop k o) (omega arith))) (omega arith)

-- it moves
moved-put : (o : List ℕ) (k i : ℕ) → k + i < length o → set (moved o k i) i (get_or o (k + i) 0) ≡ moved o k (suc i)
unfolding moved
moved-put o k i l =
    ap (λ (t : List ℕ). set (take i (drop k o) ++ t) i (get_or o (k + i) 0)) (drop-cons o i 0 (omega arith))
    ∙ (set_at (take i (drop k o)) (get_or o i 0) (drop (suc i) o) (get_or o (k + i) 0) i size ∙ sym more)
  where
    size : length (take i (drop k o)) ≡ i
    size = length-take-le i (drop k o) (rw (length-drop k o) (omega arith))

    more : take (suc i) (drop k o) ++ drop (suc i) o ≡ take i (drop k o) ++ get_or o (k + i) 0 ∷ drop (suc i) o
    more =
        rw (take-suc (drop k o) i 0 (rw (length-drop k o) (omega arith)), get_or-drop k o i 0)
        (append_snoc (take i (drop k o)) (get_or o (k + i) 0) (drop (suc i) o))

-- the loop of `drain`
pub moved_more : (o : List ℕ) (k i : ℕ) → k + i < length o → set (moved o k i) i (get_or (moved o k i) (k + i) 0) ≡ moved o k (i + 1)
moved_more o k i l = rw (moved_at o k i l, add-one i) (moved-put o k i l)

-- all have moved
pub moved_all : (o : List ℕ) (n k : ℕ) → moved o k (n - k) ≡ drained o n k
unfolding moved drained
moved_all o n k = refl

-- at i stands what stood at k + i
pub drained_at : (o : List ℕ) (n k i : ℕ) → n ≤ length o → i < n - k → get_or (drained o n k) i 0 ≡ get_or o (k + i) 0
unfolding drained
drained_at o n k i l m =
    get_or-append (take (n - k) (drop k o)) _ 0 i (rw (length-take-le (n - k) (drop k o) (rw (length-drop k o) (omega arith))) m)
    ∙ (get_or-take (n - k) (drop k o) i 0 m ∙ get_or-drop k o i 0)

-- the positions stay sorted
pub drained-sorted : (ks o : List ℕ) (n k : ℕ) → n ≤ length o → Sorted ks o n → Sorted ks (drained o n k) (n - k)
drained-sorted ks o n k l s a b u v =
    rw (drained_at o n k a l (omega arith), drained_at o n k b l v) (s (k + a) (k + b) (omega arith) (omega arith))

-- the cells still hold places
pub drained-inside : (o : List ℕ) (n k places : ℕ) → n ≤ length o → Inside o n places → Inside (drained o n k) (n - k) places
drained-inside o n k places l s i m = rw (drained_at o n k i l m) (s (k + i) (omega arith))
