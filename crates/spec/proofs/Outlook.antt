-- Theorems on the definitions of specs/Outlook.
use Prim.Native.Nat.{ℕ, suc, ◌+◌, ◌-◌, ◌≤◌, ◌<◌}
use Rattle.std.specs.Prelude.{◌≡◌, ◌⊎◌, ◌≢◌, ◌↔◌, ◌&&◌, ◌||◌, leb, ltb, length}
use Rattle.std.proofs.Math.Path.{refl, sym, ap}
use Rattle.std.proofs.Common.{◌∙◌, subst, subst₂, ap₂, inl, inr, length-append, arith, le_trans}
use Rattle.std.proofs.Math.Logic.{⊎_elim}
use Rattle.std.proofs.Math.Bool.{Bool, true, false, not}
use mathlib.Core.List.Memᴰ
use mathlib.Core.List.{List, [], ◌∷◌, ◌++◌, Memᴰ}
use Rattle.std.proofs.Math.Option.{some, some-injective}
use Rattle.std.proofs.Math.Dec.{eqb}
use Rattle.std.proofs.lemmas.List.{length-map}
use borrow.Author.Tests.{eqb-true, le-ltb, not-true}
use Rattle.laws.specs.Test.{by_test, clash, not_no, both, and_l, and_r, and-true, and_no, and_no_r, or_none, same_test}
use Rattle.laws.specs.Scan.{any, any_same, those, those_elim}
use Rattle.laws.specs.Lists.{has, has_same, Pairs, keep, keep_in, joined, weigh}
use Rattle.laws.specs.Sort.{insert, sort, sort_mem, sort_rises}
use Rattle.laws.specs.Bytes.{be, be-length, written, written-length}
use Rattle.spec.specs.Ids.{Id, id_bytes, falls}
use Rattle.spec.specs.Store.{Store, id_at, round_at, status_at, resolved, links_to}
use Rattle.spec.specs.Paths.{LinkedTo, height, certified, proved}
use Rattle.spec.specs.Chain.{Refusal, number, Out, bad, good, then, refuse, is_committable, checked_as, checked, EnqueuedAnchor, anchors_of}
use Rattle.spec.specs.History.{limit, lowest, Need, anchor, hand, needed, in_history, history, first_fault, faults, rounds_missing, any_uncertified, tested, gap_pending, linked_counts, lists_ok, rounds_of, after_lists, test_anchor, record_bytes, set_committed, dequeued, Finished, commit_all, outlook_bytes, outlook_all}
use Rattle.spec.specs.Calls.{refused, number_of, Outcome, do_outlook, perform, commit, outlook, call}
use Rattle.spec.specs.Links.{resolved-named}
use Rattle.spec.specs.HeightEquations.{Sized, inside}
use Rattle.spec.proofs.Sweep.{marked→need, needed_is}
use Rattle.spec.proofs.Changes.{mark-height}
use Rattle.spec.specs.WellFormed.{Wf}
use Rattle.spec.specs.Order.{need_named, falls-total, falls_trans}
use Rattle.spec.proofs.OrderInRound.{down_length, falling, falling_ok, falling_rest}
use Rattle.spec.specs.Records.{id-length}
use Rattle.spec.proofs.Refusals.{Sound, is_other, other_is, anchors_sound, outlook_sound}
use Rattle.spec.specs.Walk.{not_good, then-good, refuse_back, checked_at, checked_back, Anchored, Rising, Tested, tested-good}
use Rattle.spec.proofs.Preservation.{mark_kept, rising_mark, call-perform}
use Rattle.spec.proofs.Demand3Second.{commit_is}
use Rattle.spec.proofs.Extension.{fits_in, test_back, commit-step}
use Rattle.spec.specs.Outlook.{those-keep, first-keep, tests, supposed, taken, rising_in, tests-first, look_size, fours, looks, mark_sizes, same-bad, then-bad, refuse-bad, other-number, room_for, Listed, test-bad, commit-stop, still_put, stop, none-some, Holds, Lists, Shows, outlook_was, outlook_now, commit_was, commit_now, stop-bad, Never, never-late, never-conflict}

module _ {A : Type 0} (le : A → A → Bool) (total : (x y : A) → le x y ≡ false → le y x ≡ true) (trans : (x y z : A) → le x y ≡ true → le y z ≡ true → le x z ≡ true) (g : A → Bool) where
  insert-first : (x : A) (l : List A) → ((z : A) → Memᴰ z l → le x z ≡ true) → insert le x l ≡ x ∷ l
  unfolding insert
  insert-first x [] h = refl
  insert-first x (y ∷ ys) h = rw (h y (Memᴰ.head refl)) refl

  insert_kept : (x : A) → g x ≡ true → (l : List A) → Pairs (λ (y z : A). le y z ≡ true) l → keep g (insert le x l) ≡ insert le x (keep g l)
  unfolding insert keep
  insert_kept x t [] p = rw t refl
  insert_kept x t (y ∷ ys) p =
      by_test (le x y)
      (λ u. rw u (rw t (sym (insert-first x (keep g (y ∷ ys)) (λ z m. ⊎_elim (λ e. rw e u) (λ k. trans x y z u (p.0 z k)) (Memᴰ.cases_cons ((keep_in g (y ∷ ys) z).0 m).0))))))
      (λ u. rw u (by_test (g y) (λ v. rw (v, u) (ap (λ l. y ∷ l) (insert_kept x t ys p.1))) (λ v. rw v (insert_kept x t ys p.1))))

  insert-left : (x : A) → g x ≡ false → (l : List A) → keep g (insert le x l) ≡ keep g l
  unfolding insert keep
  insert-left x f [] = rw f refl
  insert-left x f (y ∷ ys) = by_test (le x y) (λ u. rw u (rw f refl)) (λ u. rw u (rw (insert-left x f ys) refl))

  sort_keep : (l : List A) → sort le (keep g l) ≡ keep g (sort le l)
  unfolding sort keep
  sort_keep [] = refl
  sort_keep (x ∷ xs) =
      by_test (g x)
      (λ t. rw t (ap (insert le x) (sort_keep xs) ∙ sym (insert_kept x t (sort le xs) (sort_rises le total trans xs))))
      (λ f. rw f (sort_keep xs ∙ sym (insert-left x f (sort le xs))))

-- ---- an older anchor's marks

module _ (s : Store) (w : Wf s) (e : EnqueuedAnchor) where
  certified-mark : (q : ℕ) → certified (dequeued s e) q ≡ certified s q
  unfolding certified
  certified-mark q = ap (ltb 0) (mark-height s w.sized e q)

  checked-mark : (q : ℕ) → checked (dequeued s e) is_committable q ≡ checked s is_committable q
  unfolding is_committable proved dequeued set_committed resolved
  checked-mark q =
      checked_at (dequeued s e) is_committable q
      ∙ (ap (λ c. elim (resolved (s.pt q)) as (λ b. Out ℕ) [ true ↦ checked_as (eqb (status_at s q) 1 || (eqb (status_at s q) 2 && not (c && (s.pt q).flags.top))) c (round_at s q) q | false ↦ bad (number 14) ]) (certified-mark q)
      ∙ sym (checked_at s is_committable q))

  first-mark : (l : List ℕ) → first_fault (dequeued s e) l ≡ first_fault s l
  unfolding first_fault
  first-mark [] = refl
  first-mark (x ∷ xs) = λ i. then (checked-mark x i) (λ y. first-mark xs i)

  link-mark : (p q : ℕ) → LinkedTo s p q → LinkedTo (dequeued s e) p q
  unfolding dequeued set_committed links_to resolved
  link-mark p q l = l

  mark-link : (p q : ℕ) → LinkedTo (dequeued s e) p q → LinkedTo s p q
  unfolding dequeued set_committed links_to resolved
  mark-link p q l = l

  -- marked is what was committed, and the history
  mark-committed : (q : ℕ) → ((dequeued s e).pt q).flags.committed ≡ (in_history s e.anchor q || (s.pt q).flags.committed)
  unfolding dequeued set_committed
  mark-committed q = refl

  mark-round : (q : ℕ) → round_at (dequeued s e) q ≡ round_at s q
  unfolding dequeued set_committed
  mark-round q = refl

  mark_places : (dequeued s e).places ≡ s.places
  unfolding dequeued
  mark_places = refl

  mark-lowest : (b : ℕ) → lowest (dequeued s e) b ≡ lowest s b
  unfolding dequeued set_committed
  mark-lowest b = refl

  -- with the marks fewer points are needed
  need_less : (b q : ℕ) → Need (dequeued s e) b q → Need s b q
  need_less b q anchor = anchor
  need_less b q (hand p x n d l) = hand p x (need_less b p n) (or_none (in_history s e.anchor p) _ (sym (mark-committed p) ∙ d)).1 (mark-link p x l)

  history_need : (q : ℕ) → in_history s e.anchor q ≡ true → Need s e.anchor q
  unfolding in_history needed
  history_need q h = marked→need s e.anchor q (and_l _ _ (and_l _ _ h))

  -- and the others were needed by the older anchor
  need_split : (b q : ℕ) → Need s b q → Need (dequeued s e) b q ⊎ Need s e.anchor q
  need_split b q anchor = inl anchor
  need_split b q (hand p x n d l) = ⊎_elim go (λ m. inr (hand p x m d l)) (need_split b p n)
    where
      go : Need (dequeued s e) b p → Need (dequeued s e) b x ⊎ Need s e.anchor x
      go m =
          by_test (in_history s e.anchor p)
          (λ t. inr (hand p x (history_need p t) d l))
          (λ f. inl (hand p x m (mark-committed p ∙ rw (f, d) refl) (link-mark p x l)))

  module _ (x : Anchored s e) (b : ℕ) (there : (s.pt b).named ≡ true) (above : round_at s e.anchor ≤ round_at s b) where
    old_named : (s.pt e.anchor).named ≡ true
    old_named = resolved-named _ x.anchor_done

    fit : lowest s b ≤ suc (round_at s b)
    fit = fits_in s w b there

    fit_mark : lowest (dequeued s e) b ≤ suc (round_at (dequeued s e) b)
    fit_mark = subst₂ (λ m n. m ≤ suc n) (sym (mark-lowest b)) (sym (mark-round b)) fit

    mark_sized : Sized (dequeued s e)
    unfolding dequeued set_committed
    mark_sized = w.sized

    lower : lowest s e.anchor ≤ lowest s b
    unfolding limit
    lower = omega (arith, above)

    needed-less : (q : ℕ) → needed (dequeued s e) b q ≡ true → needed s b q ≡ true
    needed-less q h = let (n, l) = (needed_is (dequeued s e) mark_sized b q fit_mark).0 h in
        (needed_is s w.sized b q fit).1 (need_less b q n, subst₂ ◌≤◌ (mark-lowest b) (mark-round q) l)

    -- a needed point that the marks leave out was needed by the older anchor
    left_out : (q : ℕ) → needed s b q ≡ true → needed (dequeued s e) b q ≡ false → needed s e.anchor q ≡ true
    left_out q h f = let (n, l) = (needed_is s w.sized b q fit).0 h in
        ⊎_elim
        (λ m. absurd (clash ((needed_is (dequeued s e) mark_sized b q fit_mark).1 (m, subst₂ ◌≤◌ (sym (mark-lowest b)) (sym (mark-round q)) l)) f))
        (λ m. (needed_is s w.sized e.anchor q (fits_in s w e.anchor old_named)).1 (m, le_trans lower l))
        (need_split b q n)

    -- 02, N6: "supposes that the anchors before it .. have been committed": the younger anchor's history is what it was, without the older's
    history-step : (q : ℕ) → in_history (dequeued s e) b q ≡ (in_history s b q && not (in_history s e.anchor q))
    unfolding in_history
    history-step q = same_test _ _ to from
      where
        to : in_history (dequeued s e) b q ≡ true → (in_history s b q && not (in_history s e.anchor q)) ≡ true
        to h = let (f, g) = or_none (in_history s e.anchor q) _ (sym (mark-committed q) ∙ not-true _ (and_r (needed (dequeued s e) b q) _ h)) in
            both (both (needed-less q (and_l _ _ h)) (not_no g)) (not_no f)

        from : (in_history s b q && not (in_history s e.anchor q)) ≡ true → in_history (dequeued s e) b q ≡ true
        from h =
            let n : needed s b q ≡ true = and_l _ _ (and_l _ _ h) in
            let k : not (s.pt q).flags.committed ≡ true = and_r (needed s b q) _ (and_l _ _ h) in
            let f : in_history s e.anchor q ≡ false = not-true _ (and_r (in_history s b q) _ h) in
            both
            (by_test (needed (dequeued s e) b q) (λ t. t) (λ u. absurd (clash (both (left_out q n u) k) f)))
            (not_no (mark-committed q ∙ rw (f, not-true (s.pt q).flags.committed k) refl))

    module _ (c : Tested s e.anchor) where
      checked-good : (q : ℕ) → needed s e.anchor q ≡ true → checked s is_committable q ≡ good q
      checked-good q h = let (u, v) = c.ready q (inside s w.sized q (need_named s e.anchor q old_named ((needed_is s w.sized e.anchor q (fits_in s w e.anchor old_named)).0 h).0)) h in checked_back s is_committable q u v

      mark-faults : faults (dequeued s e) b ≡ first_fault (dequeued s e) (sort (λ p q. falls (id_at s p) (id_at s q)) (those s.places (needed (dequeued s e) b)))
      unfolding faults dequeued set_committed
      mark-faults = refl

      faults-mark : faults (dequeued s e) b ≡ faults s b
      unfolding faults
      faults-mark =
          mark-faults ∙ (first-mark _
          ∙ (ap (λ l. first_fault s (sort le l)) (those-keep s.places (needed s b) g (λ q l h. needed-less q h))
          ∙ (ap (first_fault s) (sort_keep le (λ p q. falls-total (id_at s p) (id_at s q)) (λ p q r. falls_trans (id_at s p) (id_at s q) (id_at s r)) g (those s.places (needed s b)))
          ∙ first-keep s g _ (λ q m f. checked-good q (left_out q (those_elim _ _ q ((sort_mem le q _).0 m)).1 f)))))
        where
          le : ℕ → ℕ → Bool
          le p q = falls (id_at s p) (id_at s q)

          g : ℕ → Bool
          g = needed (dequeued s e) b

      -- a point of height 0 is in no history that passed
      flat_old : (q : ℕ) → q < s.places → height s q ≡ 0 → in_history s e.anchor q ≡ false
      flat_old q l z = by_test (in_history s e.anchor q) (λ t. absurd (omega (arith, c.heights_are q l t))) (λ f. f)

      flat_mark : any_uncertified (dequeued s e) b ≡ any_uncertified s b
      unfolding any_uncertified
      flat_mark = ap (λ n. any n (flat (dequeued s e))) mark_places ∙ any_same s.places (flat (dequeued s e)) (flat s) (λ q l. same_test _ _ (less q) (more q l))
        where
          flat : Store → ℕ → Bool
          flat u q = in_history u b q && eqb (height u q) 0

          less : (q : ℕ) → flat (dequeued s e) q ≡ true → flat s q ≡ true
          less q h = both (and_l (in_history s b q) _ (sym (history-step q) ∙ and_l (in_history (dequeued s e) b q) _ h)) (ap (λ n. eqb n 0) (sym (mark-height s w.sized e q)) ∙ and_r (in_history (dequeued s e) b q) _ h)

          more : (q : ℕ) → q < s.places → flat s q ≡ true → flat (dequeued s e) q ≡ true
          more q l h =
              both (history-step q ∙ both (and_l (in_history s b q) _ h) (not_no (flat_old q l (eqb-true _ _ (and_r (in_history s b q) _ h)))))
              (ap (λ n. eqb n 0) (mark-height s w.sized e q) ∙ and_r (in_history s b q) _ h)

      -- the younger anchor's tests come out as they did before the marks
      tested-mark : tested (dequeued s e) b ≡ tested s b
      unfolding tested rounds_missing dequeued set_committed
      tested-mark = λ i. refuse (leb (round_at s b) s.conf.genesis) 22 (then (faults-mark i) (λ x. refuse (rounds_missing s b) 17 (refuse (flat_mark i) 18 (good b))))

-- an anchor b after the anchors es, which passed their tests
module _ (b : EnqueuedAnchor) (fs : List EnqueuedAnchor) where
  -- 02, N6: "a point under two waiting anchors is counted under both" no more: its history is that by the marks now, without what the older
  -- ones take
  pub history-supposed : (s : Store) → Wf s → (low : ℕ) (es : List EnqueuedAnchor) → Rising s low (es ++ (b ∷ fs)) → (n : ℕ) → tests s es ≡ good n → (q : ℕ) → in_history (supposed s es) b.anchor q ≡ (in_history s b.anchor q && not (taken s es q))
  unfolding supposed taken has
  history-supposed s w low [] r n h q = sym (and-true (in_history s b.anchor q))
  history-supposed s w low (e ∷ es) (u, x, r) n h q =
      let (c, k) = tests-first s e es n h in
      history-supposed (dequeued s e) (mark_kept s w e x c) (suc (round_at s e.anchor)) es (rising_mark s e _ (es ++ (b ∷ fs)) r) n k q ∙ go
    where
      step : (f : EnqueuedAnchor) → Memᴰ f (es ++ (b ∷ fs)) → in_history (dequeued s e) f.anchor q ≡ (in_history s f.anchor q && not (in_history s e.anchor q))
      step f m = let (l, y) = rising_in s _ (es ++ (b ∷ fs)) r f m in history-step s w e x f.anchor (resolved-named _ y.anchor_done) (omega (arith, l)) q

      own : in_history (dequeued s e) b.anchor q ≡ (in_history s b.anchor q && not (in_history s e.anchor q))
      own = step b (Memᴰ.append_right es (Memᴰ.head refl))

      go : (in_history (dequeued s e) b.anchor q && not (taken (dequeued s e) es q)) ≡ (in_history s b.anchor q && not (in_history s e.anchor q || taken s es q))
      go = by_test (in_history s e.anchor q)
          (λ t. rw (own, t) (and_no (not (taken (dequeued s e) es q)) (and_no_r (in_history s b.anchor q) refl) ∙ sym (and_no_r (in_history s b.anchor q) refl)))
          (λ f. rw (own, f) (ap₂ (λ x y. x && not y) (and-true (in_history s b.anchor q))
          (has_same (λ (g : EnqueuedAnchor). in_history (dequeued s e) g.anchor q) (λ (g : EnqueuedAnchor). in_history s g.anchor q) es (λ g m. step g (Memᴰ.append_left (b ∷ fs) m) ∙ rw f (and-true (in_history s g.anchor q))))))

  -- and it is refused as by the marks now
  pub tested-supposed : (s : Store) → Wf s → (low : ℕ) (es : List EnqueuedAnchor) → Rising s low (es ++ (b ∷ fs)) → (n : ℕ) → tests s es ≡ good n → tested (supposed s es) b.anchor ≡ tested s b.anchor
  unfolding supposed
  tested-supposed s w low [] r n h = refl
  tested-supposed s w low (e ∷ es) (u, x, r) n h =
      let (c, k) = tests-first s e es n h in
      let (l, y) = rising_in s _ (es ++ (b ∷ fs)) r b (Memᴰ.append_right es (Memᴰ.head refl)) in
      tested-supposed (dequeued s e) (mark_kept s w e x c) (suc (round_at s e.anchor)) es (rising_mark s e _ (es ++ (b ∷ fs)) r) n k
      ∙ tested-mark s w e x b.anchor (resolved-named _ y.anchor_done) (omega (arith, l)) c

pub outlook-length : (s : Store) (a : ℕ) → length (outlook_bytes s a) ≡ look_size s a
unfolding outlook_bytes look_size
outlook-length s a =
    length-append (id_bytes (id_at s a)) (be 4 (length (history s a)) ++ joined (be 4) (linked_counts s a))
    ∙ rw (id-length (id_at s a), length-append (be 4 (length (history s a))) (joined (be 4) (linked_counts s a)), be-length 4 (length (history s a)), fours (linked_counts s a), rounds) (omega arith)
  where
    rounds : length (linked_counts s a) ≡ suc (round_at s a) - lowest s a
    rounds = length-map (rounds_of s a) _ ∙ down_length (round_at s a) (suc (round_at s a) - lowest s a)

-- with room for all anchors: refused as its tests say, else their bytes
pub outlook_is : (s : Store) (left : ℕ) (es : List EnqueuedAnchor) → weigh (λ (e : EnqueuedAnchor). look_size s e.anchor) es ≤ left → outlook_all s left es ≡ then (tests s es) (λ x. good (looks s es))
unfolding outlook_all tests looks weigh
outlook_is s left [] l = refl
outlook_is s left (e ∷ es) l = go (tested s e.anchor) (outlook_is (dequeued s e) (left - length (outlook_bytes s e.anchor)) es (rw (outlook-length s e.anchor, mark_sizes s e es) (omega arith)))
  where
    last : (o : Out ℕ) (all : List ℕ) → then (then o (λ x. good all)) (λ rest. good (outlook_bytes s e.anchor ++ rest)) ≡ then o (λ x. good (outlook_bytes s e.anchor ++ all))
    last (bad r) all = refl
    last (good x) all = refl

    go : (o : Out ℕ) → outlook_all (dequeued s e) (left - length (outlook_bytes s e.anchor)) es ≡ then (tests (dequeued s e) es) (λ x. good (looks (dequeued s e) es))
        → then o (λ a. refuse (ltb left (length (outlook_bytes s e.anchor))) 21 (then (outlook_all (dequeued s e) (left - length (outlook_bytes s e.anchor)) es) (λ rest. good (outlook_bytes s e.anchor ++ rest))))
        ≡ then (then o (λ x. tests (dequeued s e) es)) (λ x. good (outlook_bytes s e.anchor ++ looks (dequeued s e) es))
    go (bad r) h = refl
    go (good a) h = refuse_back _ 21 _ (le-ltb left (length (outlook_bytes s e.anchor)) (rw (outlook-length s e.anchor) (omega arith))) ∙ rw h (last (tests (dequeued s e) es) (looks (dequeued s e) es))

-- with any room: but for 21, refused as its tests say
pub outlook-bad : (s : Store) (left : ℕ) (es : List EnqueuedAnchor) (r : Refusal) → number_of r ≢ 21 → outlook_all s left es ≡ bad r → tests s es ≡ bad r
unfolding outlook_all tests
outlook-bad s left [] r n h = absurd (not_good r _ (sym h))
outlook-bad s left (e ∷ es) r n h =
    let bytes = outlook_bytes s e.anchor in
    ⊎_elim (λ u. rw u refl) (λ (a, u, k). rw u
    (⊎_elim (λ m. absurd (other-number 21 r n m)) (λ j.
    ⊎_elim (outlook-bad (dequeued s e) (left - length bytes) es r n) (λ (x, v, y). absurd (not_good r (bytes ++ x) (sym y))) (then-bad (outlook_all (dequeued s e) (left - length bytes) es) (λ rest. good (bytes ++ rest)) r j))
    (refuse-bad (ltb left (length bytes)) 21 (then (outlook_all (dequeued s e) (left - length bytes) es) (λ rest. good (bytes ++ rest))) r k)))
    (then-bad (tested s e.anchor) (λ a. refuse (ltb left (length bytes)) 21 (then (outlook_all (dequeued s e) (left - length bytes) es) (λ rest. good (bytes ++ rest)))) r h)

-- there are right lists for any anchors
unfoldable pub right_lists : Store → List EnqueuedAnchor → List ℕ
right_lists s [] = []
right_lists s (e ∷ es) = falling (linked_counts s e.anchor) ++ right_lists (dequeued s e) es

pub right_listed : (s : Store) (es : List EnqueuedAnchor) → Listed s (right_lists s es) es
unfolding right_lists after_lists
right_listed s [] = tt
right_listed s (e ∷ es) =
    let rest = right_lists (dequeued s e) es in
    (falling_ok (linked_counts s e.anchor) rest, subst (λ l. Listed (dequeued s e) l es) (sym (falling_rest (linked_counts s e.anchor) rest)) (right_listed (dequeued s e) es))

commit-ends : (s : Store) (es : List EnqueuedAnchor) → gap_pending s.progress.gap ≡ false → (ls b : List ℕ) (at n : ℕ) → Listed s ls es → at + room_for s ls es ≤ length b → (commit_all s ls b at n es).stopped ≡ stop (tests s es)
unfolding commit_all tests room_for
commit-ends s [] g ls b at n o l = refl
commit-ends s (e ∷ es) g ls b at n (o, os) l = go (tested s e.anchor) refl (commit-ends (dequeued s e) es (still_put s e g) (after_lists s e.anchor ls) (written b at (record_bytes s ls e)) (at + length (record_bytes s ls e)) (suc n) os (rw (written-length b at (record_bytes s ls e)) (omega arith)))
  where
    go : (o : Out ℕ) → tested s e.anchor ≡ o → (commit_all (dequeued s e) (after_lists s e.anchor ls) (written b at (record_bytes s ls e)) (at + length (record_bytes s ls e)) (suc n) es).stopped ≡ stop (tests (dequeued s e) es)
        → (commit_all s ls b at n (e ∷ es)).stopped ≡ stop (then o (λ x. tests (dequeued s e) es))
    go (bad r) h i = commit-stop s ls b at n e es r (test-bad s ls (length b - at) (length (record_bytes s ls e)) e.anchor r h)
    go (good a) h i = ap (λ f. f.stopped) (commit-step s ls b at n e es e.anchor (test_back s ls (length b - at) (length (record_bytes s ls e)) e.anchor (tested-good s e.anchor a h) g o (omega arith))) ∙ i

test_cases : (s : Store) (ls : List ℕ) (left size a : ℕ) (r : Refusal) → number_of r ≢ 20 → number_of r ≢ 24 → number_of r ≢ 21 → test_anchor s ls left size a ≡ bad r → tested s a ≡ bad r
unfolding test_anchor
test_cases s ls left size a r f o g h =
    ⊎_elim (λ u. u) (λ (x, u, k). ⊎_elim (λ m. absurd (other-number 20 r f m)) (λ j. ⊎_elim (λ m. absurd (other-number 24 r o m)) (λ d. ⊎_elim (λ m. absurd (other-number 21 r g m)) (λ i. absurd (not_good r a (sym i)))
    (refuse-bad (ltb left size) 21 (good a) r d)) (refuse-bad (not (lists_ok (linked_counts s a) ls)) 24 _ r j)) (refuse-bad (gap_pending s.progress.gap) 20 _ r k)) (then-bad (tested s a) _ r h)

commit_stopped : (s : Store) (es : List EnqueuedAnchor) (ls b : List ℕ) (at n : ℕ) (r : Refusal) → number_of r ≢ 20 → number_of r ≢ 24 → number_of r ≢ 21 → (commit_all s ls b at n es).stopped ≡ some r → tests s es ≡ bad r
unfolding commit_all tests
commit_stopped s [] ls b at n r f o g h = absurd (none-some r h)
commit_stopped s (e ∷ es) ls b at n r f o g h = go (test_anchor s ls (length b - at) (length (record_bytes s ls e)) e.anchor) refl h (commit_stopped (dequeued s e) es (after_lists s e.anchor ls) (written b at (record_bytes s ls e)) (at + length (record_bytes s ls e)) (suc n) r f o g)
  where
    res : Out ℕ → Finished
    res o = elim o [
      | bad m ↦ record { store = s; buffer = b; anchors = n; stopped = some m }
      | good z ↦ commit_all (dequeued s e) (after_lists s e.anchor ls) (written b at (record_bytes s ls e)) (at + length (record_bytes s ls e)) (suc n) es
    ]

    go : (o : Out ℕ) → test_anchor s ls (length b - at) (length (record_bytes s ls e)) e.anchor ≡ o → (res o).stopped ≡ some r → ((res (good 0)).stopped ≡ some r → tests (dequeued s e) es ≡ bad r)
        → then (tested s e.anchor) (λ x. tests (dequeued s e) es) ≡ bad r
    go (bad m) c k i = rw (test_cases s ls _ _ e.anchor r f o g (c ∙ ap bad (some-injective m r k))) refl
    go (good a) c k i = let (x, u, j) = then-good (tested s e.anchor) (λ x. refuse (gap_pending s.progress.gap) 20 (refuse (not (lists_ok (linked_counts s e.anchor) ls)) 24 (refuse (ltb (length b - at) (length (record_bytes s ls e))) 21 (good e.anchor)))) a (unfold test_anchor in c) in rw u (i k)

pub outlook-call : (s : Store) → Wf s → (i : Id) (b : List ℕ) → call s (outlook i b) ≡ do_outlook s i b
unfolding perform
outlook-call s w i b = call-perform s w (outlook i b)

-- an outlook refused by another number than 21: so is the commit, once the gap question is put, with right lists, into a
-- buffer that holds its records
pub outlook→commit : (s : Store) → Wf s → (i : Id) (b ls c : List ℕ) → gap_pending s.progress.gap ≡ false → Lists s i ls → Holds s i ls c → (r : Refusal) (n : ℕ) → number_of r ≢ 21
    → (call s (outlook i b)).answer ≡ refused r n → (m : ℕ) × ((call s (commit i ls c)).answer ≡ refused r m)
outlook→commit s w i b ls c g lists room r n f h =
    subst (λ (o : Outcome). (m : ℕ) × (o.answer ≡ refused r m)) (sym (commit_is s w i ls c)) (commit_now s i ls c r
    (⊎_elim inl (λ (es, u, v). inr (es, u, commit-ends s es g ls c 0 0 (lists es u) (omega (arith, room es u)) ∙ ap stop (outlook-bad s (length b) es r f v)))
    (outlook_was s i b r n (ap (λ (o : Outcome). o.answer) (sym (outlook-call s w i b)) ∙ h))))

-- a commit refused by another number than 20, 24 and 21: so is the outlook, into a buffer that holds its answer
pub commit→outlook : (s : Store) → Wf s → (i : Id) (b ls c : List ℕ) → Shows s i b → (r : Refusal) (m : ℕ) → number_of r ≢ 20 → number_of r ≢ 24 → number_of r ≢ 21
    → (call s (commit i ls c)).answer ≡ refused r m → (call s (outlook i b)).answer ≡ refused r 0
commit→outlook s w i b ls c room r m f o g h =
    ap (λ (o : Outcome). o.answer) (outlook-call s w i b) ∙ outlook_now s i b r
    (⊎_elim inl (λ (es, u, v). inr (es, u, outlook_is s (length b) es (room es u) ∙ rw (commit_stopped s es ls c 0 0 r f o g v) refl))
    (commit_was s i ls c r m (ap (λ (o : Outcome). o.answer) (sym (commit_is s w i ls c)) ∙ h)))

-- with room for both answers, right lists and the gap question put: the outlook is refused exactly as the commit is
pub outlook_exact : (s : Store) → Wf s → (i : Id) (b ls c : List ℕ) → Shows s i b → gap_pending s.progress.gap ≡ false → Lists s i ls → Holds s i ls c
    → (r : Refusal) → ((call s (outlook i b)).answer ≡ refused r 0) ↔ ((m : ℕ) × ((call s (commit i ls c)).answer ≡ refused r m))
outlook_exact s w i b ls c shows g lists holds r = (there, back)
  where
    there : (call s (outlook i b)).answer ≡ refused r 0 → (m : ℕ) × ((call s (commit i ls c)).answer ≡ refused r m)
    there h = subst (λ (o : Outcome). (m : ℕ) × (o.answer ≡ refused r m)) (sym (commit_is s w i ls c)) (commit_now s i ls c r
        (⊎_elim inl (λ (es, u, v). inr (es, u, commit-ends s es g ls c 0 0 (lists es u) (omega (arith, holds es u)) ∙ ap stop (only-tests (tests s es) _ (sym (outlook_is s (length b) es (shows es u)) ∙ v))))
        (outlook_was s i b r 0 (ap (λ (o : Outcome). o.answer) (sym (outlook-call s w i b)) ∙ h))))
      where
        only-tests : (o : Out ℕ) (l : List ℕ) → then o (λ x. good l) ≡ bad r → o ≡ bad r
        only-tests (bad q) l k = ap bad (same-bad q r k)
        only-tests (good x) l k = absurd (not_good r l (sym k))

    back : (m : ℕ) × ((call s (commit i ls c)).answer ≡ refused r m) → (call s (outlook i b)).answer ≡ refused r 0
    back (m, h) = ap (λ (o : Outcome). o.answer) (outlook-call s w i b) ∙ outlook_now s i b r
        (⊎_elim inl (λ (es, u, v). inr (es, u, outlook_is s (length b) es (shows es u) ∙ rw (stop-bad (tests s es) r (sym (commit-ends s es g ls c 0 0 (lists es u) (omega (arith, holds es u))) ∙ v)) refl))
        (commit_was s i ls c r m (ap (λ (o : Outcome). o.answer) (sym (commit_is s w i ls c)) ∙ h)))

never : (n : ℕ) → is_other n ≡ true → Never (number n)
unfolding number_of
never n o = let (a, b, c, d) = other_is n o in (b, c)

sound_bad : {A : Type 0} (o : Out A) (r : Refusal) → Sound Never o → o ≡ bad r → Never r
sound_bad o r h e = subst (Sound Never) e h

outlook-never : (s : Store) → Wf s → (i : Id) (b : List ℕ) (r : Refusal) (n : ℕ) → (call s (outlook i b)).answer ≡ refused r n → Never r
outlook-never s w i b r n h =
    ⊎_elim (sound_bad (anchors_of s i) r (anchors_sound Never never never-conflict never-late s i)) (λ (es, u, v). sound_bad (outlook_all s (length b) es) r (outlook_sound Never never never-conflict s (length b) es) v)
    (outlook_was s i b r n (ap (λ (o : Outcome). o.answer) (sym (outlook-call s w i b)) ∙ h))

-- no outlook is refused by 20
pub never_20 : (s : Store) → Wf s → (i : Id) (b : List ℕ) (r : Refusal) (n : ℕ) → (call s (outlook i b)).answer ≡ refused r n → number_of r ≢ 20
never_20 s w i b r n h = (outlook-never s w i b r n h).0

-- nor by 24
pub never_24 : (s : Store) → Wf s → (i : Id) (b : List ℕ) (r : Refusal) (n : ℕ) → (call s (outlook i b)).answer ≡ refused r n → number_of r ≢ 24
never_24 s w i b r n h = (outlook-never s w i b r n h).1
