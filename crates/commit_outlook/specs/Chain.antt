-- The outlook of a chain's anchors (01, 'Outlook'): "for each anchor a trigger would yield, its id and the number of points in its history
-- (4 bytes)"; 02, N1: "each of its records ends with how many such points each of those rounds has"; N6: each with the older ones committed.
use Rattle.std.specs.Prelude.{ℕ, zero, suc, ◌+◌, ◌-◌, ◌<◌, ◌≤◌, ◌≡◌, Bool, true, false, ltb, get_or, replicate}
use Rattle.std.proofs.Math.Path.{refl, sym, ap, subst}
use Rattle.std.proofs.Common.{◌∙◌, arith}
use mathlib.Core.List.{List, ◌∷◌, ◌++◌}
use Rattle.std.proofs.Math.ListN.{length, length-append}
use Rattle.laws.specs.Test.{by_test}
use Rattle.laws.specs.Bytes.{written, written-length, written-append}
use Rattle.spec.specs.Store.{Store, round_at}
use Rattle.spec.specs.Rules.{counts_as_started}
use Rattle.spec.specs.Chain as chain
use Rattle.spec.specs.Chain.{Out, bad, good, then, refuse}
use Rattle.spec.specs.History.{tested, dequeued, outlook_bytes, outlook_all}
use Rattle.spec.specs.Outlook.{tests, tests-first, look_size, looks}
use Rattle.spec.proofs.Outlook.{outlook-length}
use Rattle.spec.proofs.OutlookCounts.{outlook-good}
use Rattle.spec.specs.Walk.{Rising, rising_less, Tested, tested-good}
use Rattle.spec.proofs.Preservation.{rising_mark}
use Rattle.models.specs.Digest.{Fit}
use Rattle.models.specs.Tables.{Used}
use Rattle.models.specs.Refusal.{refusal_of, unless_failed, not_failed}
use Rattle.models.specs.declared.refusal.Refusal.{Refusal}
use Rattle.commit_state.specs.declared.state.State.{State}
use Rattle.tables_test.specs.View.{view}
use Rattle.back_walk.specs.declared.EnqueuedAnchor.{EnqueuedAnchor}
use Rattle.back_walk.specs.Refines.{enqueued_of}
use Rattle.back_chain.specs.Chain.{no_enqueued, chain_of, chain_head, chain-none}
use Rattle.back_history.specs.Supposing.{supposing}
use Rattle.back_committable.specs.Model.{gathered_of, tested_of}
use Rattle.commit_outlook.specs.Look.{look_long, look_bytes, look_code, Took, look_at, look-good}
use Rattle.commit_outlook.specs.Supposed.{Supposed, supposed-none, supposed_used, supposed_long, supposed-bytes, supposed-outcome, supposed-next, supposed-counts}
use Rattle.std.specs.Prelude.{Err}
use Rattle.models.specs.Refusal.{Check, no_refusal}

-- what the outlook of the chain es leaves of the buffer b: "with nothing written" if it is refused
pub record ChainLooked (v : Store) (b : List ℕ) (es : List chain.EnqueuedAnchor) (c : Check) (b' : List ℕ) : Type 0 where
  pub anchors : c ≡ no_refusal → (outlook_all v (length b) es ≡ good (looks v es)) × (b' ≡ written b 0 (looks v es))
  pub refused : (r : Refusal) → c ≡ Err r → (outlook_all v (length b) es ≡ bad (refusal_of r)) × (b' ≡ b)

-- ---- one anchor more

-- the outlook of a chain is that of its oldest anchor, then of the others, it committed
all-step : (v : Store) (left : ℕ) (e : chain.EnqueuedAnchor) (es : List chain.EnqueuedAnchor)
    → outlook_all v left (e ∷ es) ≡ then (look_at v left e.anchor) (λ x. then (outlook_all (dequeued v e) (left - look_size v e.anchor) es) (λ rest. good (outlook_bytes v e.anchor ++ rest)))
unfolding outlook_all look_at refuse
all-step v left e es = rw (outlook_all, outlook-length v e.anchor) (by (look_size v e.anchor) (tested v e.anchor) refl)
  where
    by : (n : ℕ) (o : Out ℕ) → tested v e.anchor ≡ o
        → then (tested v e.anchor) (λ a. refuse (ltb left n) 21 (then (outlook_all (dequeued v e) (left - n) es) (λ rest. good (outlook_bytes v e.anchor ++ rest))))
        ≡ then (then (tested v e.anchor) (λ x. refuse (ltb left n) 21 (good e.anchor))) (λ x. then (outlook_all (dequeued v e) (left - n) es) (λ rest. good (outlook_bytes v e.anchor ++ rest)))
    by n (bad r) d = rw d refl
    by n (good a) d = rw d (by_test (ltb left n) (λ t. rw t refl) (λ f. rw f refl))

-- it is refused, or the others follow
module _ (v : Store) (left : ℕ) (e : chain.EnqueuedAnchor) (es : List chain.EnqueuedAnchor) (c : Check) (o : unless_failed c (good e.anchor) ≡ look_at v left e.anchor) where
  all-refused : (r : Refusal) → c ≡ Err r → outlook_all v left (e ∷ es) ≡ bad (refusal_of r)
  unfolding unless_failed
  all-refused r d = all-step v left e es ∙ rw (← o, d) refl

  all-taken : c ≡ no_refusal → outlook_all v left (e ∷ es) ≡ then (outlook_all (dequeued v e) (left - look_size v e.anchor) es) (λ rest. good (outlook_bytes v e.anchor ++ rest))
  unfolding unless_failed
  all-taken z = all-step v left e es ∙ rw (← o, z) refl

  taken_pass : c ≡ no_refusal → outlook_all (dequeued v e) (left - look_size v e.anchor) es ≡ good (looks (dequeued v e) es) → outlook_all v left (e ∷ es) ≡ good (looks v (e ∷ es))
  unfolding looks
  taken_pass z p = all-taken z ∙ rw p refl

  taken-stop : c ≡ no_refusal → (y : chain.Refusal) → outlook_all (dequeued v e) (left - look_size v e.anchor) es ≡ bad y → outlook_all v left (e ∷ es) ≡ bad y
  taken-stop z y p = all-taken z ∙ rw p refl

  -- one that passes has passed its tests, with room for its bytes
  passed-good : c ≡ no_refusal → Tested v e.anchor × (look_size v e.anchor ≤ left)
  unfolding unless_failed
  passed-good z = let ((x, t), l) = look-good v left e.anchor (sym o ∙ rw z refl) in (tested-good v e.anchor x t, l)

-- ---- where a walk stands

-- with k anchors of the list still to come: the store that the taken places suppose
pub record Standing (s : State) (ks ls cs os : List ℕ) (l : List EnqueuedAnchor) (tk : List Bool) (k : ℕ) : Type 0 where
  pub store : Store
  pub supposed : Supposed s ks ls cs os tk store
  pub started : counts_as_started store ≡ true
  pub rising : Rising store 0 (chain_of l k)
  pub long : length tk ≡ 4096

module _ (s : State) (ks ls cs os : List ℕ) (l : List EnqueuedAnchor) where
  -- at first
  standing-first : counts_as_started (view s ks ls cs os) ≡ true → (k : ℕ) → Rising (view s ks ls cs os) 0 (chain_of l k) → Standing s ks ls cs os l (replicate 4096 false) k
  standing-first h k r = record { store = view s ks ls cs os; supposed = supposed-none s ks ls cs os; started = h; rising = r; long = refl }

  module _ (fk : Fit ks) (fl : Fit ls) (tk : List Bool) (k : ℕ) (w : Standing s ks ls cs os l tk k) (more : 0 < k) where
    -- the oldest anchor still to come
    abbrev e : chain.EnqueuedAnchor
    e = enqueued_of (get_or l (k - 1) no_enqueued)

    abbrev es : List chain.EnqueuedAnchor
    es = chain_of l (k - 1)

    head : chain_of l k ≡ enqueued_of (get_or l (k - 1) no_enqueued) ∷ chain_of l (k - 1)
    head = chain_head l k more

    rises : Rising w.store 0 (enqueued_of (get_or l (k - 1) no_enqueued) ∷ chain_of l (k - 1))
    rises = subst (Rising w.store 0) head w.rising

    -- it stands at a used place
    pub standing_used : Used os s.count (get_or l (k - 1) no_enqueued).anchor
    standing_used = supposed_used s ks ls cs os fk fl tk w.store w.supposed w.started e rises.1

    -- its length, its bytes, its tests
    standing_long : look_long ks (get_or l (k - 1) no_enqueued).anchor (gathered_of s ks ls (supposing tk cs) os (get_or l (k - 1) no_enqueued).anchor) ≡ look_size w.store (get_or l (k - 1) no_enqueued).anchor
    standing_long = supposed_long s ks ls cs os fk fl tk w.store w.supposed w.started e rises.1

    standing-bytes : look_bytes s.count ks os (get_or l (k - 1) no_enqueued).anchor (gathered_of s ks ls (supposing tk cs) os (get_or l (k - 1) no_enqueued).anchor) ≡ outlook_bytes w.store (get_or l (k - 1) no_enqueued).anchor
    standing-bytes = supposed-bytes s ks ls cs os fk fl tk w.store w.supposed w.started e rises.1

    standing-outcome : (left : ℕ) (c : Check) → c ≡ look_code (tested_of s ks ls (supposing tk cs) os (get_or l (k - 1) no_enqueued).anchor).check left (look_long ks (get_or l (k - 1) no_enqueued).anchor (gathered_of s ks ls (supposing tk cs) os (get_or l (k - 1) no_enqueued).anchor))
        → unless_failed c (good (get_or l (k - 1) no_enqueued).anchor) ≡ look_at w.store left (get_or l (k - 1) no_enqueued).anchor
    standing-outcome left c d = ap (λ (y : Check). unless_failed y (good e.anchor)) d ∙ supposed-outcome s ks ls cs os fk fl tk w.store w.supposed w.started e rises.1 left

    -- it has passed, and its places are taken
    standing-next : Tested w.store (get_or l (k - 1) no_enqueued).anchor → (tk' : List Bool) → Took cs os tk (gathered_of s ks ls (supposing tk cs) os (get_or l (k - 1) no_enqueued).anchor) tk' → Standing s ks ls cs os l tk' (k - 1)
    standing-next c tk' y = record {
      store = dequeued w.store e;
      supposed = supposed-next s ks ls cs os fk fl tk w.store w.supposed w.started e rises.1 tk' y;
      started = supposed-counts s ks ls cs os fk fl tk w.store w.supposed w.started e rises.1 tk' y c;
      rising = rising_mark w.store e 0 es (rising_less w.store 0 (suc (round_at w.store e.anchor)) es (omega arith) rises.2);
      long = y.1;
    }

-- ---- the tests of the anchors

-- with k anchors still to come: how the rest goes on to what the whole chain gives
pub record Looking (s : State) (ks ls cs os : List ℕ) (l : List EnqueuedAnchor) (count room : ℕ) (tk : List Bool) (left k : ℕ) : Type 0 where
  pub most : k ≤ count
  pub stands : Standing s ks ls cs os l tk k
  pub pass : outlook_all stands.store left (chain_of l k) ≡ good (looks stands.store (chain_of l k)) → outlook_all (view s ks ls cs os) room (chain_of l count) ≡ good (looks (view s ks ls cs os) (chain_of l count))
  pub stop : (r : chain.Refusal) → outlook_all stands.store left (chain_of l k) ≡ bad r → outlook_all (view s ks ls cs os) room (chain_of l count) ≡ bad r

module _ (s : State) (ks ls cs os : List ℕ) (l : List EnqueuedAnchor) (count room : ℕ) where
  abbrev v : Store
  v = view s ks ls cs os

  -- at first
  pub looking_first : counts_as_started (view s ks ls cs os) ≡ true → Rising (view s ks ls cs os) 0 (chain_of l count) → Looking s ks ls cs os l count room (replicate 4096 false) room count
  unfolding standing-first
  looking_first h r = record { most = omega arith; stands = standing-first s ks ls cs os l h count r; pass = λ p. p; stop = λ r p. p }

  module _ (fk : Fit ks) (fl : Fit ls) (tk : List Bool) (left k : ℕ) (g : Looking s ks ls cs os l count room tk left k) where
    module _ (more : 0 < k) (c : Check) (o : c ≡ look_code (tested_of s ks ls (supposing tk cs) os (get_or l (k - 1) no_enqueued).anchor).check left (look_long ks (get_or l (k - 1) no_enqueued).anchor (gathered_of s ks ls (supposing tk cs) os (get_or l (k - 1) no_enqueued).anchor))) where
      abbrev first : chain.EnqueuedAnchor
      first = enqueued_of (get_or l (k - 1) no_enqueued)

      here : chain_of l k ≡ first ∷ chain_of l (k - 1)
      here = chain_head l k more

      outcome : unless_failed c (good first.anchor) ≡ look_at g.stands.store left first.anchor
      outcome = standing-outcome s ks ls cs os l fk fl tk k g.stands more left c o

      -- the next anchor is refused: the chain stops here
      pub looking_refused : (r : Refusal) → c ≡ Err r → unless_failed (Err r) (good (looks (view s ks ls cs os) (chain_of l count))) ≡ outlook_all (view s ks ls cs os) room (chain_of l count)
      unfolding unless_failed
      looking_refused r d = sym (g.stop _ (ap (outlook_all g.stands.store left) here ∙ all-refused g.stands.store left first (chain_of l (k - 1)) c outcome r d))

      -- it passes
      module _ (z : c ≡ no_refusal) (n : ℕ) (is : n ≡ look_long ks (get_or l (k - 1) no_enqueued).anchor (gathered_of s ks ls (supposing tk cs) os (get_or l (k - 1) no_enqueued).anchor)) where
        size : n ≡ look_size g.stands.store first.anchor
        size = is ∙ standing_long s ks ls cs os l fk fl tk k g.stands more

        fine : Tested g.stands.store first.anchor × (look_size g.stands.store first.anchor ≤ left)
        fine = passed-good g.stands.store left first (chain_of l (k - 1)) c outcome z

        pub looking_room : n ≤ left
        looking_room = omega (arith, size, fine.1)

        pub looking_taken : (tk' : List Bool) → Took cs os tk (gathered_of s ks ls (supposing tk cs) os (get_or l (k - 1) no_enqueued).anchor) tk' → Looking s ks ls cs os l count room tk' (left - n) (k - 1)
        unfolding standing-next
        looking_taken tk' y = subst (λ (m : ℕ). Looking s ks ls cs os l count room tk' (left - m) (k - 1)) (sym size) (record {
          most = omega (arith, g.most);
          stands = standing-next s ks ls cs os l fk fl tk k g.stands more fine.0 tk' y;
          pass = λ p. g.pass (ap (outlook_all g.stands.store left) here ∙ (taken_pass g.stands.store left first (chain_of l (k - 1)) c outcome z p ∙ ap (λ (es : List chain.EnqueuedAnchor). good (looks g.stands.store es)) (sym here)));
          stop = λ y p. g.stop y (ap (outlook_all g.stands.store left) here ∙ taken-stop g.stands.store left first (chain_of l (k - 1)) c outcome z y p);
        })

    -- all anchors pass
    pub looking_all : k ≡ 0 → unless_failed no_refusal (good (looks (view s ks ls cs os) (chain_of l count))) ≡ outlook_all (view s ks ls cs os) room (chain_of l count)
    unfolding unless_failed outlook_all looks
    looking_all z = sym (g.pass (rw (z, chain-none l) refl))

-- ---- the bytes

-- what stands before the k anchors still to come, which pass
pub record Putting (s : State) (ks ls cs os : List ℕ) (l : List EnqueuedAnchor) (count : ℕ) (b₀ : List ℕ) (tk : List Bool) (b : List ℕ) (at k : ℕ) : Type 0 where
  pub most : k ≤ count
  pub stands : Standing s ks ls cs os l tk k
  pub fine : tests stands.store (chain_of l k) ≡ good 0
  pub place : at + length (looks stands.store (chain_of l k)) ≡ length (looks (view s ks ls cs os) (chain_of l count))
  pub same : length b ≡ length b₀
  pub rest : written b at (looks stands.store (chain_of l k)) ≡ written b₀ 0 (looks (view s ks ls cs os) (chain_of l count))

module _ (s : State) (ks ls cs os : List ℕ) (l : List EnqueuedAnchor) (count : ℕ) (b₀ : List ℕ) where
  pub putting_first : counts_as_started (view s ks ls cs os) ≡ true → Rising (view s ks ls cs os) 0 (chain_of l count) → tests (view s ks ls cs os) (chain_of l count) ≡ good 0
      → Putting s ks ls cs os l count b₀ (replicate 4096 false) b₀ 0 count
  unfolding standing-first
  putting_first h r t = record { most = omega arith; stands = standing-first s ks ls cs os l h count r; fine = t; place = omega arith; same = refl; rest = refl }

  module _ (fk : Fit ks) (fl : Fit ls) (tk : List Bool) (b : List ℕ) (at k : ℕ) (g : Putting s ks ls cs os l count b₀ tk b at k) where
    pub putting_end : k ≡ 0 → b ≡ written b₀ 0 (looks (view s ks ls cs os) (chain_of l count))
    unfolding looks chain_of written
    putting_end z = sym (ap (λ (n : ℕ). written b at (looks g.stands.store (chain_of l n))) z) ∙ g.rest

    module _ (more : 0 < k) where
      abbrev oldest : chain.EnqueuedAnchor
      oldest = enqueued_of (get_or l (k - 1) no_enqueued)

      -- its bytes, and those of the others
      abbrev one : List ℕ
      one = outlook_bytes g.stands.store oldest.anchor

      abbrev others : List ℕ
      others = looks (dequeued g.stands.store oldest) (chain_of l (k - 1))

      -- they come first
      in_front : looks g.stands.store (chain_of l k) ≡ one ++ others
      unfolding looks
      in_front = ap (looks g.stands.store) (chain_head l k more)

      -- it passes, and so do the others
      passes : Tested g.stands.store oldest.anchor × (tests (dequeued g.stands.store oldest) (chain_of l (k - 1)) ≡ good 0)
      passes = tests-first g.stands.store oldest (chain_of l (k - 1)) 0 (ap (tests g.stands.store) (sym (chain_head l k more)) ∙ g.fine)

      long_as : look_long ks (get_or l (k - 1) no_enqueued).anchor (gathered_of s ks ls (supposing tk cs) os (get_or l (k - 1) no_enqueued).anchor) ≡ length one
      long_as = standing_long s ks ls cs os l fk fl tk k g.stands more ∙ sym (outlook-length g.stands.store oldest.anchor)

      pub putting_room : length (looks (view s ks ls cs os) (chain_of l count)) ≤ length b₀
          → at + look_long ks (get_or l (k - 1) no_enqueued).anchor (gathered_of s ks ls (supposing tk cs) os (get_or l (k - 1) no_enqueued).anchor) ≤ length b
      putting_room m = omega (arith, m, g.place, g.same, ap length in_front, length-append one others, long_as)

      pub putting_more : (end : ℕ) (b' : List ℕ) (tk' : List Bool) → end ≡ at + look_long ks (get_or l (k - 1) no_enqueued).anchor (gathered_of s ks ls (supposing tk cs) os (get_or l (k - 1) no_enqueued).anchor)
          → b' ≡ written b at (look_bytes s.count ks os (get_or l (k - 1) no_enqueued).anchor (gathered_of s ks ls (supposing tk cs) os (get_or l (k - 1) no_enqueued).anchor))
          → Took cs os tk (gathered_of s ks ls (supposing tk cs) os (get_or l (k - 1) no_enqueued).anchor) tk' → Putting s ks ls cs os l count b₀ tk' b' end (k - 1)
      unfolding standing-next
      putting_more end b' tk' f w y =
          let at_end : end ≡ at + length one = f ∙ ap (λ (n : ℕ). at + n) long_as in
          let bytes : b' ≡ written b at one = w ∙ ap (written b at) (standing-bytes s ks ls cs os l fk fl tk k g.stands more) in
          record {
            most = omega (arith, g.most);
            stands = standing-next s ks ls cs os l fk fl tk k g.stands more passes.0 tk' y;
            fine = passes.1;
            place = omega (arith, g.place, at_end, ap length in_front, length-append one others);
            same = ap length bytes ∙ (written-length b at one ∙ g.same);
            rest = ap (λ (x : List ℕ). written x end others) bytes ∙ (sym (written-append b at one others end at_end) ∙ (ap (written b at) (sym in_front) ∙ g.rest));
          }

-- ---- the whole

module _ (v : Store) (b : List ℕ) (es : List chain.EnqueuedAnchor) (c : Check) (h : unless_failed c (good (looks v es)) ≡ outlook_all v (length b) es) where
  pub chain-refused : (r : Refusal) → c ≡ Err r → ChainLooked v b es (Err r) b
  unfolding unless_failed
  chain-refused r d = record { anchors = λ z. absurd (not_failed r z); refused = λ w y. (sym h ∙ rw (d ∙ y) refl, refl) }

  module _ (z : c ≡ no_refusal) where
    told : outlook_all v (length b) es ≡ good (looks v es)
    unfolding unless_failed
    told = sym h ∙ rw z refl

    -- all pass, and there is room
    pub chain_fits : (tests v es ≡ good 0) × (length (looks v es) ≤ length b)
    chain_fits = let (x, l, t) = outlook-good v (length b) es (looks v es) told in (t, l)

    pub chain-all : (b' : List ℕ) → b' ≡ written b 0 (looks v es) → ChainLooked v b es no_refusal b'
    chain-all b' e = record { anchors = λ y. (told, e); refused = λ r y. absurd (not_failed r (sym y)) }

-- as many anchors as entries
pub chain_length : (l : List EnqueuedAnchor) (n : ℕ) → length (chain_of l n) ≡ n
unfolding chain_of
chain_length l zero = refl
chain_length l (suc n) = ap suc (chain_length l n)
