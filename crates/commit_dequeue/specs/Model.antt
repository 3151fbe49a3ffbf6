-- What one anchor's commit leaves, word for word.
use Rattle.std.specs.Prelude.{ℕ, ◌+◌, ◌*◌, ◌-◌, ◌<◌, ◌≤◌, ◌≡◌, List, Bool, true, false, cond, eqb, ltb, length, drop}
use Rattle.std.proofs.Math.Path.{refl, sym}
use Rattle.std.proofs.Common.{ap, subst, ◌∙◌, arith, length-drop}
use borrow.Author.Tests.{eq-eqb, ne_eqb, lt-ltb, le-ltb, ltb-false}
use Rattle.laws.specs.Test.{by_test}
use Rattle.laws.specs.Bytes.{written}
use Rattle.spec.specs.Chain.{EnqueuedAnchor}
use Rattle.spec.specs.History.{lists_ok}
use Rattle.spec.proofs.OrderInRound.{lists_long}
use Rattle.models.specs.Tables.{round_at, author_at, Inside}
use Rattle.models.specs.Refusal.{failed, or_next, not_failed}
use Rattle.models.specs.declared.refusal.Refusal.{Refusal}
use Rattle.models.specs.declared.refusal.Refusal.TheVariants.{Number}
use Rattle.dag_round_keys.specs.Sorted.{Sorted}
use Rattle.commit_state.specs.declared.state.State.{State}
use Rattle.back_committable.specs.declared.anchor.Tested.{Tested}
use Rattle.back_committable.specs.Model.{tested_of}
use Rattle.back_order.specs.Counts.{counts_by}
use Rattle.back_order.specs.Drawn.{drawn_by}
use Rattle.back_history.specs.Model.{is_uncommitted}
use Rattle.back_behind.specs.Model.{sources}
use Rattle.output_record.specs.Sums.{len_sum, bytes_sum}
use Rattle.output_record.specs.Model.{record_of, executes, previous_of}
use Rattle.output_record.specs.Listed.{rounds_by, size_by, history_by, Listable}
use Rattle.output_record.specs.Marks.{marks_all}
use Rattle.output_record.specs.ModelState.{after_state}
use Rattle.std.specs.Prelude.{Err, Ok}
use Rattle.models.specs.Refusal.{Check, no_refusal}

-- ---- what the code is given

-- the points of a history can be read
abbrev pub Pickable : List ℕ → List ℕ → List ℕ → ℕ → ℕ → Type 0
Pickable ks cs os low high = (low ≤ high) × (high ≤ length os) × (length cs ≤ 4096) × (length cs * 8 ≤ length ks) × Inside os high (length cs)

-- the anchor and its proof stand at places, with rounds of 01 and an author of a peer's number
abbrev pub Placed : List ℕ → List ℕ → EnqueuedAnchor → Type 0
Placed ks cs e = (round_at ks e.anchor ≤ 4000000000) × (round_at ks e.proof ≤ 4000000000) × (author_at ks e.anchor < 32) × (e.anchor < length cs) × (e.proof < length cs)

-- the tables and the anchor's round, for the test of its lists
abbrev pub Listing : State → List ℕ → List ℕ → EnqueuedAnchor → Type 0
Listing s ks os e =
    (length ks ≡ length os * 8) × (s.count ≤ length os) × (length os ≤ 4096) × Inside os s.count (length os) × Sorted ks os s.count
    × (round_at ks e.anchor ≤ 4000000000) × (e.anchor < length os)

-- the anchor's lists, which end at `end`, are right, and this is the number of points that come out
abbrev pub Drawable : State → List ℕ → List ℕ → List ℕ → List ℕ → ℕ → List Bool → ℕ → EnqueuedAnchor → ℕ → Type 0
Drawable s ks cs os l end m low e n = let r = round_at ks e.anchor in Listable ks os s.count cs m l end r low × (n ≡ length (history_by ks os s.count cs m l end r low))

-- ---- mirrors

-- what refuses an anchor: its tests, 20, 24, 21
unfoldable pub number_for : Check → ℕ → Bool → ℕ → ℕ → Check
number_for c gap ok n left = or_next c (cond (eqb gap 1) (failed 20) (cond ok (cond (ltb left (99 + n * 82)) (failed 21) no_refusal) (failed 24)))

-- how many marked places the rounds of its history have
abbrev pub counts_for : State → List ℕ → List ℕ → List Bool → ℕ → ℕ → List ℕ
counts_for s ks os m low a = counts_by ks os s.count m (rounds_by (round_at ks a) low)

-- how many bytes its lists have
abbrev pub size_for : State → List ℕ → List ℕ → List Bool → ℕ → ℕ → ℕ
size_for s ks os m low a = size_by ks os s.count m (rounds_by (round_at ks a) low)

-- the anchor's record, in the order that the lists l say, with what is noted for its points, and its sums
unfoldable pub record_for : State → List ℕ → List ℕ → List ℕ → List ℕ → List Bool → ℕ → List ℕ → EnqueuedAnchor → ℕ → ℕ → List ℕ
record_for s ks by cs os m low l e len bytes =
    let r = round_at ks e.anchor in
    record_of ks by e.anchor e.proof (executes s r) (previous_of s r e.prev_proof_round) (drawn_by ks os s.count cs m (rounds_by r low) l) len bytes

-- what one anchor leaves
pub record Step : Type 0 where
  pub check : Check
  pub state : State
  pub certs : List ℕ
  pub buffer : List ℕ
  pub end : ℕ
  pub next : ℕ

abbrev pub step_of : Check → State → List ℕ → List ℕ → ℕ → ℕ → Step
step_of c s cs b end next = record { check = c; state = s; certs = cs; buffer = b; end = end; next = next }

-- the sums over the history that the tests gave
abbrev pub len_for : List ℕ → List ℕ → List ℕ → Tested → ℕ
len_for ls cs os t = len_sum ls os (is_uncommitted cs t.marks) t.low (t.high - t.low)

abbrev pub bytes_for : List ℕ → List ℕ → List ℕ → Tested → ℕ
bytes_for ls cs os t = bytes_sum ls os (is_uncommitted cs t.marks) t.low (t.high - t.low)

-- what is noted for its points
abbrev pub sources_for : State → List ℕ → List ℕ → List ℕ → List ℕ → Tested → List ℕ
sources_for s ks ls cs os t = sources s.bottom.0 ks ls cs os t.marks t.low t.high

-- of an anchor with what its tests gave, and what refuses it; its lists are those of l from `from` on
unfoldable pub one_with : State → List ℕ → List ℕ → List ℕ → List ℕ → List ℕ → ℕ → List ℕ → ℕ → EnqueuedAnchor → Tested → Check → Step
one_with s ks ls cs os l from b at e t (Ok tt) =
    step_of no_refusal (after_state s (round_at ks e.anchor) (round_at ks e.proof) (author_at ks e.anchor)) (marks_all os t.marks t.low cs t.high)
    (written b at (record_for s ks (sources_for s ks ls cs os t) cs os t.marks t.lowest.0 (drop from l) e (len_for ls cs os t) (bytes_for ls cs os t))) (at + 99 + t.count * 82) (from + size_for s ks os t.marks t.lowest.0 e.anchor)
one_with s ks ls cs os l from b at e t (Err r) = step_of (Err r) s cs b at from

-- whether its lists are right
abbrev pub listed_for : State → List ℕ → List ℕ → List ℕ → ℕ → EnqueuedAnchor → Tested → Bool
listed_for s ks os l from e t = lists_ok (counts_for s ks os t.marks t.lowest.0 e.anchor) (drop from l)

-- the same by its tests
unfoldable pub one_in : State → List ℕ → List ℕ → List ℕ → List ℕ → List ℕ → ℕ → List ℕ → ℕ → EnqueuedAnchor → Tested → Step
one_in s ks ls cs os l from b at e t = one_with s ks ls cs os l from b at e t (number_for t.check s.emit_first_after_gap (listed_for s ks os l from e t) t.count (length b - at))

unfoldable pub one_of : State → List ℕ → List ℕ → List ℕ → List ℕ → List ℕ → ℕ → List ℕ → ℕ → EnqueuedAnchor → Step
one_of s ks ls cs os l from b at e = one_in s ks ls cs os l from b at e (tested_of s ks ls cs os e.anchor)

-- ---- the steps of the code

module _ (c : Check) (gap : ℕ) (ok : Bool) (n left : ℕ) where
  -- the tests refuse it
  pub number-tested : (r : Refusal) → c ≡ Err r → Err r ≡ number_for c gap ok n left
  unfolding number_for or_next
  number-tested r e = rw e refl

  module _ (z : c ≡ no_refusal) where
    -- 20
    pub number_gap : gap ≡ 1 → failed 20 ≡ number_for c gap ok n left
    unfolding number_for or_next
    number_gap e = rw (z, eq-eqb gap 1 e) refl

    module _ (d : gap ≡ 1 → ⊥) where
      -- 24
      pub number-lists : ok ≡ false → failed 24 ≡ number_for c gap ok n left
      unfolding number_for or_next
      number-lists f = rw (z, ne_eqb gap 1 d, f) refl

      module _ (t : ok ≡ true) where
        -- 21
        pub number-room : left < 99 + n * 82 → failed 21 ≡ number_for c gap ok n left
        unfolding number_for or_next
        number-room l = rw (z, ne_eqb gap 1 d, t, lt-ltb left (99 + n * 82) l) refl

        -- none
        pub number-none : 99 + n * 82 ≤ left → no_refusal ≡ number_for c gap ok n left
        unfolding number_for or_next
        number-none l = rw (z, ne_eqb gap 1 d, t, le-ltb left (99 + n * 82) l) refl

-- an anchor that nothing refuses has right lists, and room for its record
pub number_fits : (c : Check) (gap : ℕ) (ok : Bool) (n left : ℕ) → number_for c gap ok n left ≡ no_refusal → (ok ≡ true) × (99 + n * 82 ≤ left)
unfolding number_for or_next
number_fits (Err r) gap ok n left h = absurd (not_failed r h)
number_fits (Ok tt) gap false n left h = by_test (eqb gap 1) (λ g. absurd (not_failed (Number 20) (rw g at h))) (λ g. absurd (not_failed (Number 24) (rw g at h)))
number_fits (Ok tt) gap true n left h =
    by_test (eqb gap 1)
    (λ g. absurd (not_failed (Number 20) (rw g at h)))
    (λ g. by_test (ltb left (99 + n * 82)) (λ l. absurd (not_failed (Number 21) (rw (g, l) at h))) (λ l. (refl, ltb-false _ _ l)))

-- whether its lists are right, and where they end, by the round that is read
pub listed_by : (s : State) (ks os l : List ℕ) (from : ℕ) (m : List Bool) (low : ℕ) (e : EnqueuedAnchor) (r : ℕ) → r ≡ round_at ks e.anchor → (ok : Bool) (end : ℕ)
    → (ok ≡ lists_ok (counts_by ks os s.count m (rounds_by r low)) (drop from l)) × (ok ≡ true → end ≡ from + size_by ks os s.count m (rounds_by r low))
    → (ok ≡ lists_ok (counts_for s ks os m low e.anchor) (drop from l)) × (ok ≡ true → end ≡ from + size_for s ks os m low e.anchor)
listed_by s ks os l from m low e r is ok end h = rw is at h

module _ (s : State) (ks cs os l : List ℕ) (end : ℕ) (m : List Bool) (low : ℕ) (e : EnqueuedAnchor) (r : ℕ) (is : r ≡ round_at ks e.anchor) where
  -- what writing the record asks, of the round that is read
  pub draw_by : (n : ℕ) → Drawable s ks cs os l end m low e n → Listable ks os s.count cs m l end r low × (n ≡ length (history_by ks os s.count cs m l end r low))
  draw_by n h = rw is h

  -- the record, from what is read for it
  pub record_by : (by : List ℕ) (x : Bool) (p len bytes : ℕ) → x ≡ executes s r → p ≡ previous_of s r e.prev_proof_round
      → record_of ks by e.anchor e.proof x p (history_by ks os s.count cs m l end r low) len bytes ≡ record_for s ks by cs os m low (drop (end - size_for s ks os m low e.anchor) l) e len bytes
  unfolding record_for
  record_by by x p len bytes c d = rw (d, c, is) refl

-- the state, from what is read for it
pub state_by : (s : State) (ks : List ℕ) (e : EnqueuedAnchor) (a p n : ℕ) → a ≡ round_at ks e.anchor → p ≡ round_at ks e.proof → n ≡ author_at ks e.anchor
    → after_state s a p n ≡ after_state s (round_at ks e.anchor) (round_at ks e.proof) (author_at ks e.anchor)
state_by s ks e a p n c d f = rw (c, d, f) refl

module _ (s : State) (ks ls cs os l : List ℕ) (from : ℕ) (b : List ℕ) (at : ℕ) (e : EnqueuedAnchor) (t : Tested) (is : t ≡ tested_of s ks ls cs os e.anchor)
    (ok : Bool) (listed : ok ≡ listed_for s ks os l from e t) (c : Check) (f : c ≡ number_for t.check s.emit_first_after_gap ok t.count (length b - at)) where
  -- what refuses it, by its lists
  by_lists : c ≡ number_for t.check s.emit_first_after_gap (listed_for s ks os l from e t) t.count (length b - at)
  by_lists = f ∙ ap (λ (x : Bool). number_for t.check s.emit_first_after_gap x t.count (length b - at)) listed

  -- refused
  pub one-refused : (r : Refusal) → c ≡ Err r → step_of (Err r) s cs b at from ≡ one_of s ks ls cs os l from b at e
  unfolding one_of one_in one_with
  one-refused r h = rw (← is, sym by_lists ∙ h) refl

  -- taken
  pub one-taken : c ≡ no_refusal → (s' : State) (cs' b' by : List ℕ) (end next len bytes : ℕ) → by ≡ sources_for s ks ls cs os t → (len ≡ len_for ls cs os t) × (bytes ≡ bytes_for ls cs os t)
      → s' ≡ after_state s (round_at ks e.anchor) (round_at ks e.proof) (author_at ks e.anchor) → cs' ≡ marks_all os t.marks t.low cs t.high
      → next ≡ from + size_for s ks os t.marks t.lowest.0 e.anchor → b' ≡ written b at (record_for s ks by cs os t.marks t.lowest.0 (drop (next - size_for s ks os t.marks t.lowest.0 e.anchor) l) e len bytes)
      → end ≡ at + 99 + t.count * 82 → step_of no_refusal s' cs' b' end next ≡ one_of s ks ls cs os l from b at e
  unfolding one_of one_in one_with
  one-taken z s' cs' b' by end next len bytes told (u, y) a g w d h =
      let back : next - size_for s ks os t.marks t.lowest.0 e.anchor ≡ from = omega (arith, w) in
      rw (← is, sym by_lists ∙ z, a, g, d ∙ (λ i. written b at (record_for s ks (told i) cs os t.marks t.lowest.0 (drop (back i) l) e (u i) (y i))), h, w) refl

-- the offset after the anchor's lists is within them
pub one-within : (s : State) (ks ls cs os l : List ℕ) (from : ℕ) (b : List ℕ) (at : ℕ) (e : EnqueuedAnchor) (o : Step) → o ≡ one_of s ks ls cs os l from b at e → from ≤ length l → o.next ≤ length l
unfolding one_of one_in one_with
one-within s ks ls cs os l from b at e o is h = subst (λ (x : Step). x.next ≤ length l) (sym is) (by k refl)
  where
    t : Tested
    t = tested_of s ks ls cs os e.anchor

    k : Check
    k = number_for t.check s.emit_first_after_gap (listed_for s ks os l from e t) t.count (length b - at)

    by : (c : Check) → k ≡ c → (one_with s ks ls cs os l from b at e t c).next ≤ length l
    by (Ok tt) d = omega (arith, h, lists_long _ (drop from l) (number_fits t.check s.emit_first_after_gap (listed_for s ks os l from e t) t.count (length b - at) d).0, length-drop from l)
    by (Err r) d = h
