-- The order in which a history comes out, over the tables (01: back.rs; 02: N1).
use Rattle.std.specs.Prelude.{ℕ, zero, suc, ◌+◌, ◌-◌, ◌<◌, ◌≤◌, ◌≡◌, refl, Bool, true, not, cond, length, get_or, take, drop}
use Rattle.std.proofs.Common.{sym, ap, ◌∙◌, arith, length-append, drop-cons, drop-drop}
use mathlib.Core.List.{List, [], ◌∷◌, ◌++◌, map, reverse, reverse-cons, append_assoc, append-nil}
use Rattle.laws.specs.Test.{by_test}
use Rattle.laws.specs.Lists.{keep, weigh}
use Rattle.spec.specs.History.{lists_ok}
use Rattle.spec.proofs.OrderInRound.{lists_head}
use Rattle.dag_round_order.specs.Span.{below}
use Rattle.back_history.specs.Model.{is_done}
use Rattle.back_order.specs.Linked.{linked_by}
use Rattle.back_order.specs.Counts.{count_by, counts_by}

-- the places ps of a round by the list l, those that aren't committed, in the reverse of the list's order
unfoldable pub out_by : List ℕ → List ℕ → List ℕ → List ℕ
out_by cs ps l = reverse (keep (λ q. not (is_done cs q)) (map (λ k. get_or ps k 0) l))

-- place q, if it isn't committed
unfoldable pub new_of : List ℕ → ℕ → List ℕ
new_of cs q = cond (not (is_done cs q)) (q ∷ []) []

-- the marked places of a round, of the n used ones
abbrev pub ranks_by : List ℕ → List ℕ → ℕ → List Bool → ℕ → List ℕ
ranks_by ks os n m r = linked_by os m (below ks os n r) (below ks os n (r + 1) - below ks os n r)

-- the rounds go down, and come out rising
unfoldable pub drawn_by : List ℕ → List ℕ → ℕ → List ℕ → List Bool → List ℕ → List ℕ → List ℕ
drawn_by ks os n cs m [] l = []
drawn_by ks os n cs m (r ∷ rs) l = let c = count_by ks os n m r in drawn_by ks os n cs m rs (drop c l) ++ out_by cs (ranks_by ks os n m r) (take c l)

-- ---- the bytes of one list, from its end

-- one byte more in front: its place comes out last, if it isn't committed
out_more : (cs ps : List ℕ) (k : ℕ) (l : List ℕ) → out_by cs ps (k ∷ l) ≡ out_by cs ps l ++ new_of cs (get_or ps k 0)
unfolding out_by new_of keep
out_more cs ps k l =
    by_test (not (is_done cs (get_or ps k 0)))
    (λ t. rw t (reverse-cons (get_or ps k 0) (keep (λ q. not (is_done cs q)) (map (λ k. get_or ps k 0) l))))
    (λ f. rw f (sym (append-nil (reverse (keep (λ q. not (is_done cs q)) (map (λ k. get_or ps k 0) l))))))

-- no byte is left
pub out_none : (cs ps l : List ℕ) → out_by cs ps (drop (length l) l) ≡ []
unfolding out_by keep
out_none cs ps [] = refl
out_none cs ps (x ∷ l) = out_none cs ps l

-- the byte at i after those behind it
pub out_step : (cs ps l : List ℕ) (i : ℕ) → i < length l → out_by cs ps (drop i l) ≡ out_by cs ps (drop (suc i) l) ++ new_of cs (get_or ps (get_or l i 0) 0)
out_step cs ps l i h = ap (out_by cs ps) (drop-cons l i 0 h) ∙ out_more cs ps (get_or l i 0) (drop (suc i) l)

-- a part of the list gives no more
pub out_fewer : (cs ps l : List ℕ) (i : ℕ) → length (out_by cs ps (drop i l)) ≤ length (out_by cs ps l)
out_fewer cs ps l zero = omega arith
out_fewer cs ps [] (suc i) = omega arith
out_fewer cs ps (x ∷ l) (suc i) =
    let h : length (out_by cs ps (drop i l)) ≤ length (out_by cs ps l) = out_fewer cs ps l i in
    omega (arith, h, ap length (out_more cs ps x l), length-append (out_by cs ps l) (new_of cs (get_or ps x 0)))

-- ---- more rounds below

-- the lists of further rounds are right too
pub lists-below : (ns ms l : List ℕ) → lists_ok (ns ++ ms) l ≡ true → lists_ok ms (drop (weigh (λ x. x) ns) l) ≡ true
unfolding weigh
lists-below [] ms l h = h
lists-below (n ∷ ns) ms l h = ap (lists_ok ms) (sym (drop-drop (weigh (λ x. x) ns) n l)) ∙ lists-below ns ms (drop n l) (lists_head n (ns ++ ms) l h).1

-- further rounds come out before the others
pub drawn-below : (ks os : List ℕ) (n : ℕ) (cs : List ℕ) (m : List Bool) (rs xs l : List ℕ)
    → drawn_by ks os n cs m (rs ++ xs) l ≡ drawn_by ks os n cs m xs (drop (weigh (λ x. x) (counts_by ks os n m rs)) l) ++ drawn_by ks os n cs m rs l
unfolding drawn_by weigh
drawn-below ks os n cs m [] xs l = sym (append-nil (drawn_by ks os n cs m xs l))
drawn-below ks os n cs m (r ∷ rs) xs l =
    let c = count_by ks os n m r in
    let w = weigh (λ x. x) (counts_by ks os n m rs) in
    let out = out_by cs (ranks_by ks os n m r) (take c l) in
    ap (λ z. z ++ out) (drawn-below ks os n cs m rs xs (drop c l) ∙ ap (λ z. drawn_by ks os n cs m xs z ++ drawn_by ks os n cs m rs (drop c l)) (drop-drop w c l))
    ∙ append_assoc (drawn_by ks os n cs m xs (drop (c + w) l)) (drawn_by ks os n cs m rs (drop c l)) out
