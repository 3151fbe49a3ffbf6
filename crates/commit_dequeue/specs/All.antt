-- The anchors of a chain one after another (01: commit/mod.rs): "Then each anchor, oldest first, is tested".
use Rattle.std.specs.Prelude.{ℕ, suc, ◌+◌, ◌-◌, ◌<◌, ◌≤◌, ◌≡◌, true, false, length, get_or, drop}
use Rattle.std.proofs.Math.Path.{refl, sym, ap, subst}
use Rattle.std.proofs.Common.{◌∙◌, true≢false, arith, add-one}
use mathlib.Core.List.{List, [], ◌∷◌, ◌++◌}
use Rattle.std.proofs.Math.Option.{Option, none, some}
use Rattle.laws.specs.Test.{by_test}
use Rattle.spec.specs.Store.{Store, round_at}
use Rattle.spec.specs.Rules.{counts_as_started}
use Rattle.spec.specs.Chain as chain
use Rattle.spec.specs.Chain.{bad, good}
use Rattle.spec.specs.History.{record_bytes, test_anchor, Finished, commit_all}
use Rattle.spec.specs.Walk.{Anchored, Rising, rising_less}
use Rattle.spec.proofs.Preservation.{rising_mark}
use Rattle.spec.proofs.Extension.{commit-step}
use Rattle.commit_state.specs.declared.state.State.{State}
use Rattle.tables_test.specs.View.{view}
use Rattle.back_walk.specs.declared.EnqueuedAnchor.{EnqueuedAnchor}
use Rattle.back_walk.specs.Refines.{enqueued_of}
use Rattle.models.specs.Tables as Tables
use Rattle.models.specs.Tables.{author_at}
use Rattle.models.specs.Refusal.{refusal_of, unless_failed, not_failed}
use Rattle.std.specs.Prelude.{is_err}
use Rattle.models.specs.declared.refusal.Refusal.{Refusal}
use Rattle.back_committable.specs.declared.anchor.Tested.{Tested}
use Rattle.back_committable.specs.Model.{tested_of}
use Rattle.back_chain.specs.Chain.{no_enqueued, chain_of, chain_head, chain-none}
use Rattle.output_record.specs.Marks.{marks_all}
use Rattle.output_record.specs.ModelState.{after_state}
use Rattle.commit_dequeue.specs.Model.{number_for, listed_for, Step, one_with, one_in, one_of, one-within}
use Rattle.commit_dequeue.specs.Refines.{Says}
use Rattle.std.specs.Prelude.{Err, Ok}
use Rattle.models.specs.Refusal.{Check, no_refusal}

-- ---- mirrors

-- what the anchors of a chain leave
pub record Left : Type 0 where
  pub state : State
  pub certs : List ℕ
  pub buffer : List ℕ
  pub finished : ℕ
  pub stopped : Check

-- 01's refusal, if there is one
unfoldable pub stop_of : Check → Option chain.Refusal
stop_of (Ok tt) = none
stop_of (Err r) = some (refusal_of r)

abbrev pub left_of : Check → State → List ℕ → List ℕ → ℕ → Left
left_of c s cs b n = record { state = s; certs = cs; buffer = b; finished = n; stopped = c }

-- in 01's terms
unfoldable pub finished_of : List ℕ → List ℕ → List ℕ → Left → Finished
finished_of ks ls os l = record { store = view l.state ks ls l.certs os; buffer = l.buffer; anchors = l.finished; stopped = stop_of l.stopped }

-- the anchors one after another, their lists in l from `from` on, their records from byte at on, n finished before; the first that is
-- refused stops them
unfoldable pub all_of : List ℕ → List ℕ → List ℕ → State → List ℕ → List ℕ → ℕ → List ℕ → ℕ → ℕ → List chain.EnqueuedAnchor → Left
all_of ks ls os s cs l from b at n [] = left_of no_refusal s cs b n
all_of ks ls os s cs l from b at n (e ∷ es) =
    let o = one_of s ks ls cs os l from b at e in
    elim (is_err o.check) [ false ↦ all_of ks ls os o.state o.certs l o.next o.buffer o.end (suc n) es | true ↦ left_of o.check o.state o.certs o.buffer n ]

-- ---- one anchor more

module _ (ks ls os : List ℕ) (s : State) (cs l : List ℕ) (from : ℕ) (b : List ℕ) (at n : ℕ) (e : chain.EnqueuedAnchor) (es : List chain.EnqueuedAnchor) (o : Step) (is : o ≡ one_of s ks ls cs os l from b at e) where
  all-taken : o.check ≡ no_refusal → all_of ks ls os o.state o.certs l o.next o.buffer o.end (n + 1) es ≡ all_of ks ls os s cs l from b at n (e ∷ es)
  unfolding all_of
  all-taken =
      subst (λ (x : Step). x.check ≡ no_refusal → all_of ks ls os x.state x.certs l x.next x.buffer x.end (n + 1) es ≡ all_of ks ls os s cs l from b at n (e ∷ es)) (sym is)
      (λ z. rw (add-one n, all_of, ap is_err z) refl)

  all-refused : (r : Refusal) → o.check ≡ Err r → left_of o.check o.state o.certs o.buffer n ≡ all_of ks ls os s cs l from b at n (e ∷ es)
  unfolding all_of
  all-refused r =
      subst (λ (x : Step). x.check ≡ Err r → left_of x.check x.state x.certs x.buffer n ≡ all_of ks ls os s cs l from b at n (e ∷ es)) (sym is)
      (λ d. rw (all_of, ap is_err d) refl)

module _ (v : Store) (l b : List ℕ) (at : ℕ) (e : chain.EnqueuedAnchor) (c : Check) (v' : Store) (l' b' : List ℕ) (end : ℕ) (h : Says v l b at e c v' l' b' end) (n : ℕ) (es : List chain.EnqueuedAnchor) where
  -- 01's commit goes on after an anchor that passes
  commit-taken : c ≡ no_refusal → commit_all v' l' b' end (n + 1) es ≡ commit_all v l b at n (e ∷ es)
  unfolding unless_failed
  commit-taken z =
      let (x, u, y, w) = h.taken z in
      let passes : test_anchor v l (length b - at) (length (record_bytes v l e)) e.anchor ≡ good e.anchor = sym h.outcome ∙ ap (λ (d : Check). unless_failed d (good e.anchor)) z in
      (λ i. commit_all (x i) (u i) (y i) (w i) (add-one n i) es) ∙ sym (commit-step v l b at n e es e.anchor passes)

  -- and stops at one that is refused
  commit-refused : (r : Refusal) → c ≡ Err r → record { store = v'; buffer = b'; anchors = n; stopped = stop_of c } ≡ commit_all v l b at n (e ∷ es)
  unfolding unless_failed stop_of commit_all
  commit-refused r d =
      let (x, y) = h.stayed r d in
      let stops : test_anchor v l (length b - at) (length (record_bytes v l e)) e.anchor ≡ bad (refusal_of r) = sym h.outcome ∙ ap (λ (w : Check). unless_failed w (good e.anchor)) d in
      rw (x, y, stops, commit_all, d) refl

  -- the anchors still to come stay anchors
  rising_taken : c ≡ no_refusal → Rising v 0 (e ∷ es) → Rising v' 0 es
  rising_taken z (k, a, t) = subst (λ (y : Store). Rising y 0 es) (sym (h.taken z).0) (rising_mark v e 0 es (rising_less v 0 (suc (round_at v e.anchor)) es (omega arith) t))

-- ---- no anchor finished

-- a refused anchor leaves all as it was
one_kept : (s : State) (ks ls cs os l : List ℕ) (from : ℕ) (b : List ℕ) (at : ℕ) (e : chain.EnqueuedAnchor) → is_err (one_of s ks ls cs os l from b at e).check ≡ true → ((one_of s ks ls cs os l from b at e).state ≡ s) × ((one_of s ks ls cs os l from b at e).certs ≡ cs) × ((one_of s ks ls cs os l from b at e).buffer ≡ b)
unfolding one_of one_in one_with
one_kept s ks ls cs os l from b at e = by (number_for t.check s.emit_first_after_gap (listed_for s ks os l from e t) t.count (length b - at))
  where
    t : Tested
    t = tested_of s ks ls cs os e.anchor

    by : (c : Check) → is_err (one_with s ks ls cs os l from b at e t c).check ≡ true → ((one_with s ks ls cs os l from b at e t c).state ≡ s) × ((one_with s ks ls cs os l from b at e t c).certs ≡ cs) × ((one_with s ks ls cs os l from b at e t c).buffer ≡ b)
    by (Ok tt) d = absurd (true≢false (sym d))
    by (Err r) d = (refl, refl, refl)

-- those finished before stay finished
all_least : (ks ls os : List ℕ) (s : State) (cs l : List ℕ) (from : ℕ) (b : List ℕ) (at n : ℕ) (es : List chain.EnqueuedAnchor) → n ≤ (all_of ks ls os s cs l from b at n es).finished
unfolding all_of
all_least ks ls os s cs l from b at n [] = omega arith
all_least ks ls os s cs l from b at n (e ∷ es) =
    let o = one_of s ks ls cs os l from b at e in
    let h = all_least ks ls os o.state o.certs l o.next o.buffer o.end (suc n) es in
    by_test (is_err o.check) (λ z. rw (z, all_of) (omega arith)) (λ z. rw (z, all_of) (omega (arith, h)))

-- a chain of which no anchor is finished leaves all as it was
pub all_kept : (ks ls os : List ℕ) (s : State) (cs l : List ℕ) (from : ℕ) (b : List ℕ) (at n : ℕ) (es : List chain.EnqueuedAnchor) → (all_of ks ls os s cs l from b at n es).finished ≡ n
    → ((all_of ks ls os s cs l from b at n es).state ≡ s) × ((all_of ks ls os s cs l from b at n es).certs ≡ cs) × ((all_of ks ls os s cs l from b at n es).buffer ≡ b)
unfolding all_of
all_kept ks ls os s cs l from b at n [] h = (refl, refl, refl)
all_kept ks ls os s cs l from b at n (e ∷ es) h =
    let o = one_of s ks ls cs os l from b at e in
    by_test (is_err o.check)
    (λ z. rw (z, all_of) (one_kept s ks ls cs os l from b at e z))
    (λ z. absurd (let m = all_least ks ls os o.state o.certs l o.next o.buffer o.end (suc n) es in let w = rw (z, all_of) at h in omega (arith, m, w)))

-- ---- no anchor refused

-- the state and the certificate words after anchors that all pass: lists and buffer have no part in them
unfoldable pub words_after : List ℕ → List ℕ → List ℕ → State → List ℕ → List chain.EnqueuedAnchor → State × List ℕ
words_after ks ls os s cs [] = (s, cs)
words_after ks ls os s cs (e ∷ es) =
    let t = tested_of s ks ls cs os e.anchor in
    words_after ks ls os (after_state s (Tables.round_at ks e.anchor) (Tables.round_at ks e.proof) (author_at ks e.anchor)) (marks_all os t.marks t.low cs t.high) es

pub words_append : (ks ls os : List ℕ) (s : State) (cs : List ℕ) (es fs : List chain.EnqueuedAnchor) → words_after ks ls os s cs (es ++ fs) ≡ words_after ks ls os (words_after ks ls os s cs es).0 (words_after ks ls os s cs es).1 fs
unfolding words_after
words_append ks ls os s cs [] fs = refl
words_append ks ls os s cs (e ∷ es) fs =
    let t = tested_of s ks ls cs os e.anchor in
    words_append ks ls os (after_state s (Tables.round_at ks e.anchor) (Tables.round_at ks e.proof) (author_at ks e.anchor)) (marks_all os t.marks t.low cs t.high) es fs

pub all_words : (ks ls os : List ℕ) (s : State) (cs l : List ℕ) (from : ℕ) (b : List ℕ) (at n : ℕ) (es : List chain.EnqueuedAnchor) → (all_of ks ls os s cs l from b at n es).stopped ≡ no_refusal
    → ((all_of ks ls os s cs l from b at n es).state, (all_of ks ls os s cs l from b at n es).certs) ≡ words_after ks ls os s cs es
unfolding all_of words_after one_of one_in one_with
all_words ks ls os s cs l from b at n [] h = refl
all_words ks ls os s cs l from b at n (e ∷ es) h = by (number_for t.check s.emit_first_after_gap (listed_for s ks os l from e t) t.count (length b - at)) (λ u v i c j. all_words ks ls os u v l i c j (suc n) es) h
  where
    t : Tested
    t = tested_of s ks ls cs os e.anchor

    -- what is left, by what refuses the first anchor
    rest : Check → Left
    rest c =
        let o = one_with s ks ls cs os l from b at e t c in
        elim (is_err o.check) [ false ↦ all_of ks ls os o.state o.certs l o.next o.buffer o.end (suc n) es | true ↦ left_of o.check o.state o.certs o.buffer n ]

    by : (c : Check) → ((u : State) (v : List ℕ) (i : ℕ) (c : List ℕ) (j : ℕ) → (all_of ks ls os u v l i c j (suc n) es).stopped ≡ no_refusal → ((all_of ks ls os u v l i c j (suc n) es).state, (all_of ks ls os u v l i c j (suc n) es).certs) ≡ words_after ks ls os u v es)
        → (rest c).stopped ≡ no_refusal → ((rest c).state, (rest c).certs) ≡ words_after ks ls os s cs (e ∷ es)
    by (Ok tt) g d = g _ _ _ _ _ d
    by (Err r) g d = absurd (not_failed r d)

-- ---- the loop

-- with k anchors of the list still to come: what holds, and how the rest goes on to what the whole chain leaves; l: the place lists
pub record Going (ks ls os : List ℕ) (s₀ : State) (cs₀ l b₀ : List ℕ) (list : List EnqueuedAnchor) (count : ℕ) (s : State) (cs : List ℕ) (from : ℕ) (b : List ℕ) (at n k : ℕ) : Type 0 where
  pub started : counts_as_started (view s ks ls cs os) ≡ true
  pub rising : Rising (view s ks ls cs os) 0 (chain_of list k)
  pub listed : from ≤ length l
  pub within : at ≤ length b
  pub number : n + k ≡ count
  pub words : all_of ks ls os s cs l from b at n (chain_of list k) ≡ all_of ks ls os s₀ cs₀ l 0 b₀ 0 0 (chain_of list count)
  pub spec : commit_all (view s ks ls cs os) (drop from l) b at n (chain_of list k) ≡ commit_all (view s₀ ks ls cs₀ os) l b₀ 0 0 (chain_of list count)

module _ (ks ls os : List ℕ) (s₀ : State) (cs₀ l b₀ : List ℕ) (list : List EnqueuedAnchor) (count : ℕ) where
  -- at first
  pub going_first : counts_as_started (view s₀ ks ls cs₀ os) ≡ true → Rising (view s₀ ks ls cs₀ os) 0 (chain_of list count) → Going ks ls os s₀ cs₀ l b₀ list count s₀ cs₀ 0 b₀ 0 0 count
  going_first h r = record { started = h; rising = r; listed = omega arith; within = omega arith; number = omega arith; words = refl; spec = refl }

  -- what the contract says of an end
  abbrev Ends : Left → Type 0
  Ends x = (x ≡ all_of ks ls os s₀ cs₀ l 0 b₀ 0 0 (chain_of list count)) × (finished_of ks ls os x ≡ commit_all (view s₀ ks ls cs₀ os) l b₀ 0 0 (chain_of list count))

  module _ (s : State) (cs : List ℕ) (from : ℕ) (b : List ℕ) (at n k : ℕ) (g : Going ks ls os s₀ cs₀ l b₀ list count s cs from b at n k) where
    -- at the end
    pub going_end : k ≡ 0 → Ends (left_of no_refusal s cs b n)
    unfolding finished_of all_of commit_all stop_of
    going_end z = (
      rest (λ es. left_of no_refusal s cs b n ≡ all_of ks ls os s cs l from b at n es) refl ∙ g.words,
      rest (λ es. record { store = view s ks ls cs os; buffer = b; anchors = n; stopped = none } ≡ commit_all (view s ks ls cs os) (drop from l) b at n es) refl ∙ g.spec,
    )
      where
        rest : (P : List chain.EnqueuedAnchor → Type 0) → P [] → P (chain_of list k)
        rest P p = subst P (sym (ap (chain_of list) z ∙ chain-none list)) p

    -- the next anchor
    module _ (more : 0 < k) where
      -- the oldest one still to come
      abbrev e : chain.EnqueuedAnchor
      e = enqueued_of (get_or list (k - 1) no_enqueued)

      abbrev es : List chain.EnqueuedAnchor
      es = chain_of list (k - 1)

      head : chain_of list k ≡ e ∷ es
      head = chain_head list k more

      rises : Rising (view s ks ls cs os) 0 (e ∷ es)
      rises = subst (Rising (view s ks ls cs os) 0) head g.rising

      -- it is an anchor
      pub going_anchored : Anchored (view s ks ls cs os) (enqueued_of (get_or list (k - 1) no_enqueued))
      going_anchored = rises.1

      module _ (o : Step) (is : o ≡ one_of s ks ls cs os l from b at (enqueued_of (get_or list (k - 1) no_enqueued)))
          (h : Says (view s ks ls cs os) (drop from l) b at (enqueued_of (get_or list (k - 1) no_enqueued)) o.check (view o.state ks ls o.certs os) (drop o.next l) o.buffer o.end) where
        -- it passes
        pub going_taken : o.check ≡ no_refusal → Going ks ls os s₀ cs₀ l b₀ list count o.state o.certs o.next o.buffer o.end (n + 1) (k - 1)
        going_taken z = record {
          started = h.again;
          rising = rising_taken _ _ b at e _ _ _ _ _ h n es z rises;
          listed = one-within s ks ls cs os l from b at e o is g.listed;
          within = omega (arith, h.within, h.long);
          number = omega (arith, g.number);
          words = all-taken ks ls os s cs l from b at n e es o is z ∙ (ap (all_of ks ls os s cs l from b at n) (sym head) ∙ g.words);
          spec = commit-taken _ _ b at e _ _ _ _ _ h n es z ∙ (ap (commit_all (view s ks ls cs os) (drop from l) b at n) (sym head) ∙ g.spec);
        }

        -- it is refused
        pub going_refused : (r : Refusal) → o.check ≡ Err r → Ends (left_of (Err r) o.state o.certs o.buffer n)
        unfolding finished_of
        going_refused r d = subst (λ (y : Check). Ends (left_of y o.state o.certs o.buffer n)) d (
          all-refused ks ls os s cs l from b at n e es o is r d ∙ (ap (all_of ks ls os s cs l from b at n) (sym head) ∙ g.words),
          commit-refused _ _ b at e _ _ _ _ _ h n es r d ∙ (ap (commit_all (view s ks ls cs os) (drop from l) b at n) (sym head) ∙ g.spec),
        )
