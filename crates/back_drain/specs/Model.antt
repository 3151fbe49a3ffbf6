-- The places of rounds below a new bottom, and the order without them.
use Rattle.std.specs.Prelude.{ℕ, ◌+◌, ◌-◌, ◌<◌, ◌≤◌, max, min, ◌≡◌, List, ◌&&◌, ◌↔◌, leb, length, take, drop}
use Rattle.std.proofs.Common.{sym, ap, subst, ◌∙◌, arith, length-append, length-drop, length-take-le, leb-true, le-leb}
use Rattle.laws.specs.Test.{both, and_l, and_r, same_test, le_or}
use Rattle.models.specs.Tables.{round_at, place_at, Used, is_used, used_is}
use Rattle.dag_round_keys.specs.Sorted.{Sorted}
use Rattle.dag_round_keys.specs.Zero.{emptied, emptied_off}
use Rattle.dag_round_order.specs.Shift.{drained, drained_at}
use Rattle.dag_round_order.specs.Span.{below, below_low, below_high}
use Rattle.commit_state.specs.declared.state.State.{State}
use Rattle.tables_test.specs.Same.{Same}

-- the new bottom of a drain up to round r: not below the old one, and a round is left
abbrev pub drain_bottom : State → ℕ → ℕ
drain_bottom s r = max s.bottom.0 (min r s.top.0)

-- the order without its first k places is as long
pub drained-length : (o : List ℕ) (n k : ℕ) → k ≤ n → n ≤ length o → length (drained o n k) ≡ length o
unfolding drained
drained-length o n k l m =
    length-append (take (n - k) (drop k o)) (drop (n - k) o)
    ∙ rw (length-take-le (n - k) (drop k o) (rw (length-drop k o) (omega arith)), length-drop (n - k) o) (omega arith)

-- the places that it holds: those from k on
pub used_drained : (o : List ℕ) (n k q : ℕ) → n ≤ length o → Used (drained o n k) (n - k) q ↔ ((i : ℕ) × (k ≤ i) × (i < n) × (place_at o i ≡ q))
used_drained o n k q m = (
  (λ (i, l, e). (k + i, omega arith, omega arith, sym (drained_at o n k i m l) ∙ e)),
  λ (i, a, l, e). (i - k, omega arith, drained_at o n k (i - k) m (omega arith) ∙ (ap (place_at o) (back k i a) ∙ e)),
)
  where
    back : (k i : ℕ) → k ≤ i → k + (i - k) ≡ i
    back k i l = omega arith

-- sorted tables, without the places of rounds below b
module _ (ks os : List ℕ) (n b : ℕ) (sorted : Sorted ks os n) (room : n ≤ length os) where
  -- how many places go
  abbrev k : ℕ
  k = below ks os n b

  -- the places of rounds from b up stay in use
  pub used_kept : (q : ℕ) → Used (drained os n k) (n - k) q ↔ (Used os n q × (b ≤ round_at ks q))
  used_kept q = (
    (λ u. let (i, a, l, e) = (used_drained os n k q room).0 u in ((i, l, e), subst (λ x. b ≤ round_at ks x) e (below_high ks os n b i sorted a l))),
    λ ((i, l, e), h). (used_drained os n k q room).1
        (i, le_or k i (λ a. a) (λ a. absurd (let z : round_at ks q < b = subst (λ x. round_at ks x < b) e (below_low ks os n b i a) in omega arith)), l, e),
  )

  -- the test of it
  pub is_used_kept : (q : ℕ) → is_used (drained os n k) (n - k) q ≡ (is_used os n q && leb b (round_at ks q))
  is_used_kept q =
      same_test _ _
      (λ h. let (u, l) = (used_kept q).0 ((used_is _ _ q).0 h) in both ((used_is os n q).1 u) (le-leb _ _ l))
      (λ h. (used_is _ _ q).1 ((used_kept q).1 ((used_is os n q).0 (and_l _ _ h), leb-true _ _ (and_r (is_used os n q) _ h))))

  -- their words stay as they were, in a table of w words a place
  pub words_kept : (t : List ℕ) (w q : ℕ) → Used (drained os n k) (n - k) q → Same t w q (emptied t w os k)
  words_kept t w q u j l =
      emptied_off t w os k q j (λ i m e. let h : b ≤ round_at ks q = ((used_kept q).0 u).1 in let z : round_at ks q < b = subst (λ x. round_at ks x < b) (sym e) (below_low ks os n b i m) in omega arith) l
