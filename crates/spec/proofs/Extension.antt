-- Late arrivals: what rounds, names, resolutions and certificates leave as it was, and that a commit reads only that.
use Prim.Native.Nat.{ℕ, zero, suc, ◌+◌, ◌-◌, ◌≤◌, ◌<◌}
use Rattle.std.specs.Prelude.{◌≡◌, ◌⊎◌, ◌&&◌, ◌||◌, ltb, take}
use Rattle.std.proofs.Math.Path.{refl, ap, ap₂}
use Rattle.std.proofs.Common.{sym, ◌∙◌, subst, subst₂, inl, inr, eqb-true, lt-ltb, le-ltb, arith}
use Rattle.std.proofs.Math.Bool.{Bool, true, false, not, cond}
use mathlib.Core.List.Memᴰ
use mathlib.Core.List.{List, [], ◌∷◌, ◌++◌, map, reverse, Memᴰ}
use Rattle.std.proofs.Math.Option.{none, some}
use Rattle.std.proofs.Math.Dec.{eqb, leb}
use Rattle.std.proofs.Math.ListN.{length, get_or, drop}
use Rattle.laws.specs.Test.{by_test, both, and_no_r, and_l, and_r, or_l, or_r, or_cases, same_test}
use Rattle.laws.specs.Scan.{lowest_finds, those, those_elim, those-same}
use Rattle.laws.specs.Lists.{map_same, keep_same, mem_map, get_d_in, joined, joined_same, weigh, weigh_by}
use Rattle.laws.specs.Sort.{sort, sort_same}
use Rattle.laws.specs.Bytes.{be, written}
use Rattle.spec.specs.Ids.{Id, same_id, id_bytes, falls, prev}
use Rattle.spec.specs.Store.{Resolution, Point, Round, Conf, Store, id_at, round_at, status_at, resolved, links, links_to, is_named, find, previous}
use Rattle.spec.specs.Paths.{Path, here, LinkedTo, Top, height_from, height, certified, proved}
use Rattle.spec.specs.Chain.{Out, bad, good, is_committable, EnqueuedAnchor, Onward, enqueue, walk}
use Rattle.spec.specs.History.{limit, lowest, Need, anchor, hand, needed, in_history, rounds_missing, is_executable, gap_asked, is_first_executable, prev_anchor, summed, sum_bytes, links_by, linkers, behind, includes_word, witness_word, anchor_word, word_for, link_bytes, tail_bytes, record_bytes, set_committed, gap_after, use_proof, dequeued, gap_pending, linked_in, rounds_of, counts_in, linked_counts, each_once, lists_ok, round_out, drawn, in_order, after_lists, test_anchor, Finished, commit_all}
use Rattle.spec.specs.Graph.{carry}
use Rattle.spec.specs.Links.{linked, link_made, Linked, fits_elim, resolved-named, down}
use Rattle.spec.specs.HeightEquations.{inside, height_is, Sized}
use Rattle.spec.proofs.Sweep.{needed_is}
use Rattle.spec.specs.WellFormed.{Wf, Leads}
use Rattle.spec.specs.Order.{need_named, history-needed}
use Rattle.spec.proofs.Behind.{linkers_in}
use Rattle.spec.proofs.OrderInRound.{each_below, lists_head, linked_elim, drawn_elim}
use Rattle.spec.proofs.Preservation.{mark_kept, rising_mark}
use Rattle.spec.specs.Walk.{refuse_back, Found, id_same, find-some, Valid, Visited, over, used_up, ends, goes, Anchored, Rising, Tested, tested_back}
use Rattle.spec.proofs.Walk.{visit-good, visit_back, test_good}

-- p with another top mark
abbrev pub re_top : Bool → Point → Point
re_top b p = record {
  named = p.named;
  id = p.id;
  resolution = p.resolution;
  flags = record { top = b; started = p.flags.started; completed = p.flags.completed; committed = p.flags.committed };
}

-- a resolved point p, and what it is later
pub record Same (p q : Point) : Type 0 where
  pub mark_now : Bool
  pub is : q ≡ re_top mark_now p
  pub trans : p.resolution.status ≡ 2 → mark_now ≡ p.flags.top

-- a named point p, and what it is later
pub record Known (p q : Point) : Type 0 where
  pub stays : q.named ≡ true
  pub id_is : q.id ≡ p.id
  pub topped : p.flags.top ≡ true → q.flags.top ≡ true

-- t is s with late arrivals
pub record Late (s t : Store) : Type 0 where
  pub places : t.places ≡ s.places
  pub bottom : t.bottom ≡ s.bottom
  pub conf : t.conf ≡ s.conf
  pub progress : t.progress ≡ s.progress
  pub top : s.top ≤ t.top
  pub rounds : (r : ℕ) → r ≤ s.top → t.rounds r ≡ s.rounds r
  pub known : (p : ℕ) → (s.pt p).named ≡ true → Known (s.pt p) (t.pt p)
  pub same : (p : ℕ) → resolved (s.pt p) ≡ true → Same (s.pt p) (t.pt p)

-- nothing arrives
pub late_refl : (s : Store) → Late s s
late_refl s = record {
  places = refl;
  bottom = refl;
  conf = refl;
  progress = refl;
  top = omega arith;
  rounds = λ r h. refl;
  known = λ p h. record { stays = h; id_is = refl; topped = λ k. k };
  same = λ p h. record { mark_now = (s.pt p).flags.top; is = refl; trans = λ k. refl };
}

-- still resolved
pub same-resolved : (p q : Point) → Same p q → resolved p ≡ true → resolved q ≡ true
unfolding resolved
same-resolved p q k h = ap resolved k.is ∙ h

-- some arrive, then others
pub late_trans : (s t u : Store) → Late s t → Late t u → Late s u
late_trans s t u a b = record {
  places = b.places ∙ a.places;
  bottom = b.bottom ∙ a.bottom;
  conf = b.conf ∙ a.conf;
  progress = b.progress ∙ a.progress;
  top = omega (arith, a.top, b.top);
  rounds = λ r h. b.rounds r (omega (arith, a.top)) ∙ a.rounds r h;
  known = λ p h. known (a.known p h) (b.known p (a.known p h).stays);
  same = λ p h. same p (a.same p h) (b.same p (same-resolved _ _ (a.same p h) h));
}
  where
    known : {x y z : Point} → Known x y → Known y z → Known x z
    known k l = record { stays = l.stays; id_is = l.id_is ∙ k.id_is; topped = λ h. l.topped (k.topped h) }

    same : (p : ℕ) → Same (s.pt p) (t.pt p) → Same (t.pt p) (u.pt p) → Same (s.pt p) (u.pt p)
    same p k l = record {
      mark_now = l.mark_now;
      is = l.is ∙ ap (re_top l.mark_now) k.is;
      trans = λ e. l.trans (ap (λ z. z.resolution.status) k.is ∙ e) ∙ (ap (λ z. z.flags.top) k.is ∙ k.trans e);
    }

-- a top is certified: proved says top
pub proved_top : (s : Store) → Sized s → (q : ℕ) → (s.pt q).named ≡ true → proved s q ≡ (s.pt q).flags.top
unfolding proved certified
proved_top s z q n = by_test (s.pt q).flags.top (λ t. rw t (both (lt-ltb 0 (height s q) (heights_are t)) refl)) (λ f. rw f (and_no_r (certified s q) refl))
  where
    heights_are : (s.pt q).flags.top ≡ true → 0 < height s q
    heights_are t = omega (arith, (height_is s z q).bound q (both n t) here)

-- usable in a history, of a named point, by its top mark
abbrev by_top : Point → Bool
by_top p = eqb p.resolution.status 1 || (eqb p.resolution.status 2 && not p.flags.top)

usable_by_top : (s : Store) → Sized s → (q : ℕ) → (s.pt q).named ≡ true → is_committable s q ≡ by_top (s.pt q)
unfolding is_committable
usable_by_top s z q n = ap (λ b. eqb (status_at s q) 1 || (eqb (status_at s q) 2 && not b)) (proved_top s z q n)

module _ (s t : Store) (ws : Wf s) (wt : Wf t) (la : Late s t) where
  -- no link is lost
  pub link_up : (p q : ℕ) → LinkedTo s p q → LinkedTo t p q
  link_up p q e = link_made _ _ (record {
    by = l.by;
    among = subst (λ z. Memᴰ l.by (links z)) (sym k.is) l.among;
    resolved_is = same-resolved _ _ k l.resolved_is;
    named_is = n.stays;
    round = ap (λ (z : Id). z.round + l.by.dist) n.id_is ∙ (l.round ∙ sym (ap (λ z. z.id.round) k.is));
    author_is = ap (λ (z : Id). z.author) n.id_is ∙ l.author_is;
    digest_is = ap (λ (z : Id). z.digest) n.id_is ∙ l.digest_is;
  })
    where
      l : Linked (s.pt p) (s.pt q)
      l = linked _ _ e

      k : Same (s.pt p) (t.pt p)
      k = la.same p l.resolved_is

      n : Known (s.pt q) (t.pt q)
      n = la.known q l.named_is

  link_back : (p q : ℕ) → resolved (s.pt p) ≡ true → LinkedTo t p q → LinkedTo s p q
  link_back p q h e = go (ws.leads p h l.by m (omega (arith, l.round, (wt.kept q l.named_is).0, la.bottom, ap (λ z. z.id.round) k.is)))
    where
      k : Same (s.pt p) (t.pt p)
      k = la.same p h

      l : Linked (t.pt p) (t.pt q)
      l = linked _ _ e

      m : Memᴰ l.by (links (s.pt p))
      m = subst (λ z. Memᴰ l.by (links z)) k.is l.among

      go : Leads s (round_at s p) l.by → LinkedTo s p q
      go (x, o, f) = subst (LinkedTo s p) same (link_made _ _ (record { by = l.by; among = m; resolved_is = h; named_is = o; round = y.0; author_is = y.1; digest_is = y.2 }))
        where
          y : (round_at s x + l.by.dist ≡ round_at s p) × ((id_at s x).author ≡ l.by.to.peer) × ((id_at s x).digest ≡ l.by.to.digest)
          y = fits_elim (round_at s p) (id_at s x) l.by f

          n : Known (s.pt x) (t.pt x)
          n = la.known x o

          same : x ≡ q
          same = wt.apart x q n.stays l.named_is (omega (arith, ap (λ (z : Id). z.round) n.id_is, l.round, y.0, ap (λ z. z.id.round) k.is)) (ap (λ (z : Id). z.digest) n.id_is ∙ (y.2 ∙ sym l.digest_is))

  -- a named point is found at the same place
  pub find-late : (i : Id) (q : ℕ) → find s i ≡ some q → find t i ≡ some q
  unfolding find is_named
  find-late i q h = go (lowest_finds t.places (is_named t i) q (inside t wt.sized q k.stays) (both k.stays (subst (λ z. same_id (id_at t q) z ≡ true) here (id_same (id_at t q)))))
    where
      x : Found s i q
      x = find-some s i q h

      k : Known (s.pt q) (t.pt q)
      k = la.known q x.named

      here : id_at t q ≡ i
      here = k.id_is ∙ x.is

      go : (j : ℕ) × (find t i ≡ some j) → find t i ≡ some q
      go (j, e) = e ∙ ap some (wt.apart j q y.named k.stays (ap (λ (z : Id). z.round) (y.is ∙ sym here)) (ap (λ (z : Id). z.digest) (y.is ∙ sym here)))
        where
          y : Found t i j
          y = find-some t i j e

  valid-late : (i : Id) (q : ℕ) → Valid s i q → Valid t i q
  valid-late i q v = record {
    found = find-late i q v.found;
    done = same-resolved _ _ (la.same q v.done) v.done;
    is_valid = ap (λ z. z.resolution.status) (la.same q v.done).is ∙ v.is_valid;
  }

  enqueue-late : (below below' : Onward) (acc l : List EnqueuedAnchor) (p a : ℕ) → resolved (s.pt a) ≡ true
      → ((i : Id) (acc : List EnqueuedAnchor) → below i acc ≡ good l → below' i acc ≡ good l) → enqueue s below acc p a ≡ good l → enqueue t below' acc p a ≡ good l
  unfolding enqueue
  enqueue-late below below' acc l p a h i f = rw (la.same a h).is (i _ _ f)

  visit-late : (x : ℕ) (low : Bool) (below below' : Onward) (i : Id) (acc l : List EnqueuedAnchor) → x ≤ s.top
      → ((i : Id) (acc : List EnqueuedAnchor) → below i acc ≡ good l → below' i acc ≡ good l)
      → Visited s x low below i acc l → Visited t x low below' i acc l
  visit-late x low below below' i acc l b r (over m f) = over m (r i acc f)
  visit-late x low below below' i acc l b r (used_up m u f) = used_up m (ap (λ (z : Round). z.used) (la.rounds x b) ∙ u) f
  visit-late x low below below' i acc l b r (ends m u p d v h k g f) =
      ends m (ap (λ (z : Round). z.used) (la.rounds x b) ∙ u) p d (valid-late i p v) (ap (λ z. z.resolution.proof) (la.same p v.done).is ∙ h) (ap previous (la.same p v.done).is ∙ k) g f
  visit-late x low below below' i acc l b r (goes m u p d a v h k g y f) =
      goes m (ap (λ (z : Round). z.used) (la.rounds x b) ∙ u) p d a (valid-late i p v) (ap (λ z. z.resolution.proof) (la.same p v.done).is ∙ h) (ap previous (la.same p v.done).is ∙ k) g
      (subst (λ z. Valid t (record { round = prev x; author = z; digest = d }) a) (sym (ap (λ z. z.id.author) (la.same p v.done).is)) (valid-late _ a y))
      (enqueue-late below below' acc l p a y.done r f)

  -- a walk that comes out well comes out the same later
  pub walk-late : (w k : ℕ) (i : Id) (acc l : List EnqueuedAnchor) → w + k ≤ s.top → walk s w k i acc ≡ good l → walk t w k i acc ≡ good l
  unfolding walk
  walk-late w zero i acc l b h =
      visit_back t w true _ i acc l (visit-late w true _ _ i acc l (omega arith) (λ i acc e. e) (visit-good s w true (λ i acc. good acc) i acc l h))
  walk-late w (suc k) i acc l b h =
      visit_back t (w + suc k) false _ i acc l (visit-late (w + suc k) false _ _ i acc l b (λ i acc e. walk-late w k i acc l (omega arith) e) (visit-good s (w + suc k) false (walk s w k) i acc l h))

  top_up : (p : ℕ) → Top s p → Top t p
  top_up p h = both k.stays (k.topped (and_r (s.pt p).named _ h))
    where
      k : Known (s.pt p) (t.pt p)
      k = la.known p (and_l _ (s.pt p).flags.top h)

  -- no height falls
  pub height-late : (p : ℕ) → (s.pt p).named ≡ true → height s p ≤ height t p
  height-late p h = go (height_is s ws.sized p).met
    where
      rnd : (x : ℕ) → (s.pt x).named ≡ true → round_at t x ≡ round_at s x
      rnd x n = ap (λ (z : Id). z.round) (la.known x n).id_is

      go : (height s p ≡ 0) ⊎ ((x : ℕ) × Top s x × Path (LinkedTo s) x p × (height s p ≡ height_from s.conf.history_rounds (round_at s) x p)) → height s p ≤ height t p
      go (inl e) = omega arith
      go (inr (x, u, w, e)) = omega (arith, (height_is t wt.sized p).bound x (top_up x u) (carry link_up w), ap (λ (z : Conf). z.history_rounds) la.conf, rnd p h, rnd x (and_l _ (s.pt x).flags.top u))

  module _ (a : ℕ) (da : resolved (s.pt a) ≡ true) (fit : lowest s a ≤ suc (round_at s a))
      (ready : (q : ℕ) → Need s a q → lowest s a ≤ round_at s q → resolved (s.pt q) ≡ true) where
    round_a : round_at t a ≡ round_at s a
    round_a = ap (λ z. z.id.round) (la.same a da).is

    lowest-same : lowest t a ≡ lowest s a
    lowest-same = rw (la.conf, la.bottom, round_a)

    need_up : (q : ℕ) → Need s a q → lowest s a ≤ round_at s q → Need t a q
    need_up q anchor l = anchor
    need_up q (hand p x n d e) l = hand p x (need_up p n b) (ap (λ z. z.flags.committed) (la.same p (ready p n b)).is ∙ d) (link_up p x e)
      where
        b : lowest s a ≤ round_at s p
        b = omega (arith, down s p x e)

    round_need : (q : ℕ) → Need s a q → round_at t q ≡ round_at s q
    round_need q n = ap (λ (z : Id). z.round) (la.known q (need_named s a q (resolved-named _ da) n)).id_is

    need_down : (q : ℕ) → Need t a q → lowest s a ≤ round_at t q → Need s a q
    need_down q anchor l = anchor
    need_down q (hand p x n d e) l = go (need_down p n (omega (arith, down t p x e)))
      where
        go : Need s a p → Need s a x
        go m = hand p x m (sym (ap (λ z. z.flags.committed) (la.same p h).is) ∙ d) (link_back p x h e)
          where
            h : resolved (s.pt p) ≡ true
            h = ready p m (omega (arith, down t p x e, round_need p m))

    needed_up : (q : ℕ) → needed s a q ≡ true → needed t a q ≡ true
    needed_up q h = let (n, l) = (needed_is s ws.sized a q fit).0 h in
        (needed_is t wt.sized a q (subst₂ (λ x y. x ≤ suc y) (sym lowest-same) (sym round_a) fit)).1 (need_up q n l, subst₂ ◌≤◌ (sym lowest-same) (sym (round_need q n)) l)

    needed_down : (q : ℕ) → needed t a q ≡ true → needed s a q ≡ true
    needed_down q h = go ((needed_is t wt.sized a q (subst₂ (λ x y. x ≤ suc y) (sym lowest-same) (sym round_a) fit)).0 h)
      where
        go : Need t a q × (lowest t a ≤ round_at t q) → needed s a q ≡ true
        go (m, l) = (needed_is s ws.sized a q fit).1 (n, subst₂ ◌≤◌ lowest-same (round_need q n) l)
          where
            n : Need s a q
            n = need_down q m (subst (λ z. z ≤ round_at t q) lowest-same l)

    same-needed : (q : ℕ) → needed s a q ≡ true → Same (s.pt q) (t.pt q)
    same-needed q h = let (n, l) = (needed_is s ws.sized a q fit).0 h in la.same q (ready q n l)

    in_history-same : (q : ℕ) → in_history t a q ≡ in_history s a q
    unfolding in_history
    in_history-same q = same_test _ _ low_h up_h
      where
        up_h : in_history s a q ≡ true → in_history t a q ≡ true
        up_h h = both (needed_up q (and_l _ _ h)) (ap (λ z. not z.flags.committed) (same-needed q (and_l _ _ h)).is ∙ and_r (needed s a q) _ h)

        low_h : in_history t a q ≡ true → in_history s a q ≡ true
        low_h h = both n (sym (ap (λ z. not z.flags.committed) (same-needed q n).is) ∙ and_r (needed t a q) _ h)
          where
            n : needed s a q ≡ true
            n = needed_down q (and_l _ _ h)

-- a history ends no higher than just above its anchor
pub fits_in : (s : Store) → Wf s → (a : ℕ) → (s.pt a).named ≡ true → lowest s a ≤ suc (round_at s a)
unfolding limit
fits_in s w a n = omega (arith, w.low, (w.kept a n).0)

module _ (s t : Store) (ws : Wf s) (wt : Wf t) (la : Late s t) (e : EnqueuedAnchor) (x : Anchored s e) (c : Tested s e.anchor) where
  fit : lowest s e.anchor ≤ suc (round_at s e.anchor)
  fit = fits_in s ws e.anchor (resolved-named _ x.anchor_done)

  ready : (q : ℕ) → Need s e.anchor q → lowest s e.anchor ≤ round_at s q → resolved (s.pt q) ≡ true
  ready q n l = (c.ready q (inside s ws.sized q (need_named s e.anchor q (resolved-named _ x.anchor_done) n)) ((needed_is s ws.sized e.anchor q fit).1 (n, l))).0

  history_is_same : (q : ℕ) → in_history t e.anchor q ≡ in_history s e.anchor q
  history_is_same = in_history-same s t ws wt la e.anchor x.anchor_done fit ready

  anchor_is : Same (s.pt e.anchor) (t.pt e.anchor)
  anchor_is = la.same e.anchor x.anchor_done

  round_is : round_at t e.anchor ≡ round_at s e.anchor
  round_is = ap (λ z. z.id.round) anchor_is.is

  known-needed : (q : ℕ) → needed s e.anchor q ≡ true → (s.pt q).named ≡ true
  known-needed q h = need_named s e.anchor q (resolved-named _ x.anchor_done) ((needed_is s ws.sized e.anchor q fit).0 h).0

  same_at : (q : ℕ) → needed s e.anchor q ≡ true → Same (s.pt q) (t.pt q)
  same_at q h = same-needed s t ws wt la e.anchor x.anchor_done fit ready q h

  usable_late : (q : ℕ) → needed s e.anchor q ≡ true → is_committable s q ≡ true → is_committable t q ≡ true
  usable_late q h u = usable_by_top t wt.sized q (la.known q (known-needed q h)).stays ∙ (ap by_top k.is ∙ go (or_cases _ _ (sym (usable_by_top s ws.sized q (known-needed q h)) ∙ u)))
    where
      k : Same (s.pt q) (t.pt q)
      k = same_at q h

      go : (eqb (status_at s q) 1 ≡ true) ⊎ ((eqb (status_at s q) 2 && not (s.pt q).flags.top) ≡ true) → by_top (re_top k.mark_now (s.pt q)) ≡ true
      go (inl v) = or_l _ _ v
      go (inr v) = or_r (eqb (status_at s q) 1) _ (subst (λ z. (eqb (status_at s q) 2 && not z) ≡ true) (sym (k.trans (eqb-true _ _ (and_l _ (not (s.pt q).flags.top) v)))) v)

  needed_was : (q : ℕ) → needed t e.anchor q ≡ true → needed s e.anchor q ≡ true
  needed_was = needed_down s t ws wt la e.anchor x.anchor_done fit ready

  -- an anchor that passes its tests passes them later
  pub tested-late : Tested t e.anchor
  unfolding rounds_missing
  tested-late = record {
    young = omega (arith, c.young, ap (λ (z : Conf). z.genesis) la.conf, round_is);
    ready = λ q l h. let n = needed_was q h in let y = c.ready q (place q n) n in (same-resolved _ _ (same_at q n) y.0, usable_late q n y.1);
    whole = rw (la.progress, la.conf, la.bottom, round_is) c.whole;
    heights_are = λ q l h. heights_are q (sym (history_is_same q) ∙ h);
  }
    where
      place : (q : ℕ) → needed s e.anchor q ≡ true → q < s.places
      place q n = inside s ws.sized q (known-needed q n)

      heights_are : (q : ℕ) → in_history s e.anchor q ≡ true → 0 < height t q
      heights_are q h = let n = history-needed s e.anchor q h in omega (arith, c.heights_are q (place q n) h, height-late s t ws wt la q (known-needed q n))

  -- the same points in each round, and the same lists for them
  linked-late : (r : ℕ) → linked_in t e.anchor r ≡ linked_in s e.anchor r
  unfolding linked_in
  linked-late r =
      ap (sort (λ p q. leb (id_at t p).digest (id_at t q).digest))
      (ap (λ n. those n (λ q. needed t e.anchor q && eqb (round_at t q) r)) la.places ∙ those-same s.places (λ q. needed t e.anchor q && eqb (round_at t q) r) (λ q. needed s e.anchor q && eqb (round_at s q) r) (λ q l. same q))
      ∙ sort_same (λ p q. leb (id_at t p).digest (id_at t q).digest) (λ p q. leb (id_at s p).digest (id_at s q).digest) (those s.places (λ q. needed s e.anchor q && eqb (round_at s q) r))
      (λ p q m n i. leb (id_of_lem p m i).digest (id_of_lem q n i).digest)
    where
      is_id : (q : ℕ) → needed s e.anchor q ≡ true → id_at t q ≡ id_at s q
      is_id q h = ap (λ z. z.id) (same_at q h).is

      id_of_lem : (q : ℕ) → Memᴰ q (those s.places (λ q. needed s e.anchor q && eqb (round_at s q) r)) → id_at t q ≡ id_at s q
      id_of_lem q m = is_id q (and_l _ _ (those_elim s.places (λ q. needed s e.anchor q && eqb (round_at s q) r) q m).1)

      same : (q : ℕ) → (needed t e.anchor q && eqb (round_at t q) r) ≡ (needed s e.anchor q && eqb (round_at s q) r)
      same q = same_test _ _
          (λ h. let n : needed s e.anchor q ≡ true = needed_was q (and_l _ _ h) in both n (sym (ap (λ (z : Id). eqb z.round r) (is_id q n)) ∙ and_r (needed t e.anchor q) _ h))
          (λ h. let n : needed s e.anchor q ≡ true = and_l _ _ h in both (needed_up s t ws wt la e.anchor x.anchor_done fit ready q n) (ap (λ (z : Id). eqb z.round r) (is_id q n) ∙ and_r (needed s e.anchor q) _ h))

  rounds-late : rounds_of t e.anchor ≡ rounds_of s e.anchor
  rounds-late = rw (la.conf, la.bottom, round_is) refl

  counts_as_started_in_late : (rs : List ℕ) → counts_in t e.anchor rs ≡ counts_in s e.anchor rs
  counts_as_started_in_late [] = refl
  counts_as_started_in_late (r ∷ rs) = ap₂ ◌∷◌ (ap length (linked-late r)) (counts_as_started_in_late rs)

  counts_as_started-late : linked_counts t e.anchor ≡ linked_counts s e.anchor
  counts_as_started-late = ap (counts_in t e.anchor) rounds-late ∙ counts_as_started_in_late (rounds_of s e.anchor)

  after-late : (ls : List ℕ) → after_lists t e.anchor ls ≡ after_lists s e.anchor ls
  unfolding after_lists
  after-late ls = ap (λ ns. drop (weigh (λ n. n) ns) ls) counts_as_started-late

  out_late : (r : ℕ) (ls : List ℕ) → each_once (length (linked_in s e.anchor r)) ls ≡ true → round_out t (linked_in s e.anchor r) ls ≡ round_out s (linked_in s e.anchor r) ls
  unfolding round_out
  out_late r ls ok = ap reverse (keep_same (λ q. not (t.pt q).flags.committed) (λ q. not (s.pt q).flags.committed) (map (λ k. get_or (linked_in s e.anchor r) k 0) ls) (λ q m.
      let (k, n, u) = mem_map (λ k. get_or (linked_in s e.anchor r) k 0) ls q m in
      let (z, h, v) = linked_elim s e.anchor r q (Memᴰ.cast (sym u) (get_d_in (linked_in s e.anchor r) k 0 (each_below _ ls ok k n))) in
      ap (λ z. not z.flags.committed) (same_at q h).is))

  drawn-late : (rs ls : List ℕ) → lists_ok (counts_in s e.anchor rs) ls ≡ true → drawn t e.anchor rs ls ≡ drawn s e.anchor rs ls
  unfolding drawn
  drawn-late [] ls ok = refl
  drawn-late (r ∷ rs) ls ok =
      let n = length (linked_in s e.anchor r) in
      let (c, d) = lists_head n (counts_in s e.anchor rs) ls ok in
      ap (λ ps. drawn t e.anchor rs (drop (length ps) ls) ++ round_out t ps (take (length ps) ls)) (linked-late r)
      ∙ ap₂ ◌++◌ (drawn-late rs (drop n ls) d) (out_late r (take n ls) c)

  -- the same ids in the same order
  order_late : (ls : List ℕ) → lists_ok (linked_counts s e.anchor) ls ≡ true → in_order t e.anchor ls ≡ in_order s e.anchor ls
  unfolding in_order
  order_late ls ok =
      ap (λ rs. map (id_at t) (drawn t e.anchor rs ls)) rounds-late
      ∙ (ap (map (id_at t)) (drawn-late (rounds_of s e.anchor) ls ok)
      ∙ map_same (id_at t) (id_at s) (drawn s e.anchor (rounds_of s e.anchor) ls) (λ q m. ap (λ z. z.id) (same_at q (history-needed s e.anchor q (drawn_elim s e.anchor (rounds_of s e.anchor) ls ok q m).1)).is))

  -- the same points hold the same numbers
  summed-late : (f : Resolution → ℕ) → summed f t e.anchor ≡ summed f s e.anchor
  unfolding summed
  summed-late f =
      ap (λ n. weigh (λ q. f (t.pt q).resolution) (those n (in_history t e.anchor))) la.places
      ∙ (ap (weigh (λ q. f (t.pt q).resolution)) (those-same s.places (in_history t e.anchor) (in_history s e.anchor) (λ q l. history_is_same q))
      ∙ weigh_by (λ q. f (t.pt q).resolution) (λ q. f (s.pt q).resolution) (those s.places (in_history s e.anchor)) (λ q m.
      ap (λ (z : Point). f z.resolution) (same_at q (history-needed s e.anchor q (those_elim _ _ q m).1)).is))

  sums-late : sum_bytes t e.anchor ≡ sum_bytes s e.anchor
  unfolding sum_bytes
  sums-late = ap₂ (λ (m n : ℕ). be 8 m ++ be 8 n) (summed-late (λ z. z.payload_len)) (summed-late (λ z. z.payload_bytes))

  link-same : (p q : ℕ) → needed s e.anchor p ≡ true → needed s e.anchor q ≡ true → links_to (t.pt p) (t.pt q) ≡ links_to (s.pt p) (s.pt q)
  unfolding links_to resolved
  link-same p q m n = ap₂ links_to (same_at p m).is (same_at q n).is

  -- the same points link to a needed one ..
  linkers-late : (q : ℕ) → needed s e.anchor q ≡ true → linkers t e.anchor q ≡ linkers s e.anchor q
  unfolding linkers
  linkers-late q n =
      ap (sort (λ p r. falls (id_at t p) (id_at t r))) (ap (λ k. those k (there t)) la.places ∙ those-same s.places (there t) (there s) (λ p l. same p))
      ∙ sort_same (λ p r. falls (id_at t p) (id_at t r)) (λ p r. falls (id_at s p) (id_at s r)) (those s.places (there s)) (λ p r m k i. falls (id_of_lem p m i) (id_of_lem r k i))
    where
      there : Store → ℕ → Bool
      there u p = in_history u e.anchor p && links_to (u.pt p) (u.pt q)

      same : (p : ℕ) → there t p ≡ there s p
      same p = ap (λ b. b && links_to (t.pt p) (t.pt q)) (history_is_same p) ∙ by_test (in_history s e.anchor p) (λ h. ap (λ b. in_history s e.anchor p && b) (link-same p q (history-needed s e.anchor p h) n)) (λ f. rw f refl)

      id_of_lem : (p : ℕ) → Memᴰ p (those s.places (there s)) → id_at t p ≡ id_at s p
      id_of_lem p m = ap (λ (z : Point). z.id) (same_at p (history-needed s e.anchor p (and_l _ _ (those_elim s.places (there s) p m).1))).is

  -- .. so the same one is told, and it is needed
  behind-late : (q : ℕ) → needed s e.anchor q ≡ true → behind t e.anchor q ≡ behind s e.anchor q
  unfolding behind
  behind-late q n = ap (λ l. cond (eqb q e.anchor) e.anchor (get_or l 0 q)) (linkers-late q n)

  behind-needed : (q : ℕ) → needed s e.anchor q ≡ true → needed s e.anchor (behind s e.anchor q) ≡ true
  unfolding behind
  behind-needed q n = by_test (eqb q e.anchor) (λ k. rw k (subst (λ p. needed s e.anchor p ≡ true) (eqb-true q e.anchor k) n)) (λ f. rw f (go (linkers s e.anchor q) (λ p m. history-needed s e.anchor p ((linkers_in s ws.sized e.anchor q p).0 m).0)))
    where
      go : (l : List ℕ) → ((p : ℕ) → Memᴰ p l → needed s e.anchor p ≡ true) → needed s e.anchor (get_or l 0 q) ≡ true
      go [] f = n
      go (p ∷ ps) f = f p (Memᴰ.head refl)

  link-late : (q : ℕ) → needed s e.anchor q ≡ true → link_bytes t e.anchor q ≡ link_bytes s e.anchor q
  unfolding link_bytes word_for links_by
  link-late q n = ap₂ ◌++◌
      (ap (λ p. id_bytes (id_at t p)) (behind-late q n) ∙ ap (λ (z : Point). id_bytes z.id) (same_at (behind s e.anchor q) (behind-needed q n)).is)
      (ap (λ p. cond (eqb q e.anchor) anchor_word (cond (links_by 1 (t.pt p) (t.pt q)) includes_word witness_word)) (behind-late q n)
      ∙ ap₂ (λ (x y : Point). cond (eqb q e.anchor) anchor_word (cond (links_by 1 x y) includes_word witness_word)) (same_at (behind s e.anchor q) (behind-needed q n)).is (same_at q n).is)

  links-late : (ls : List ℕ) → lists_ok (linked_counts s e.anchor) ls ≡ true
      → joined (link_bytes t e.anchor) (drawn t e.anchor (rounds_of t e.anchor) ls) ≡ joined (link_bytes s e.anchor) (drawn s e.anchor (rounds_of s e.anchor) ls)
  links-late ls ok =
      ap (λ rs. joined (link_bytes t e.anchor) (drawn t e.anchor rs ls)) rounds-late
      ∙ (ap (joined (link_bytes t e.anchor)) (drawn-late (rounds_of s e.anchor) ls ok)
      ∙ joined_same (link_bytes t e.anchor) (link_bytes s e.anchor) (drawn s e.anchor (rounds_of s e.anchor) ls) (λ q m. link-late q (history-needed s e.anchor q (drawn_elim s e.anchor (rounds_of s e.anchor) ls ok q m).1)))

  tail_late : (ls : List ℕ) → lists_ok (linked_counts s e.anchor) ls ≡ true → tail_bytes t ls e.anchor ≡ tail_bytes s ls e.anchor
  unfolding tail_bytes
  tail_late ls ok = ap₂ ◌++◌ (links-late ls ok) sums-late

  executable-late : is_executable t e.anchor ≡ is_executable s e.anchor
  unfolding is_executable
  executable-late = λ i. leb (la.progress i).first_executable (round_is i)

  first-late : is_first_executable t e.anchor ≡ is_first_executable s e.anchor
  unfolding is_first_executable
  first-late = λ i. gap_asked (la.progress i).gap && executable-late i

  prev-late : prev_anchor t e ≡ prev_anchor s e
  unfolding prev_anchor
  prev-late = λ i. cond (ltb (la.conf i).genesis (prev e.prev_proof_round) && not (first-late i)) (prev e.prev_proof_round) 0

  -- its record is the same, byte for byte
  pub record_late : (ls : List ℕ) → lists_ok (linked_counts s e.anchor) ls ≡ true → record_bytes t ls e ≡ record_bytes s ls e
  unfolding record_bytes
  record_late ls ok = λ i.
      id_bytes (anchor_is.is i).id ++ (id_bytes ((la.same e.proof x.proof_done).is i).id ++ (be 1 (cond (executable-late i) 1 0) ++ (be 4 (prev-late i)
      ++ (be 4 (length (order_late ls ok i)) ++ (joined id_bytes (order_late ls ok i) ++ tail_late ls ok i)))))

  -- its commit is as late as the tables were
  pub mark-late : Late (dequeued s e) (dequeued t e)
  unfolding dequeued set_committed resolved gap_after
  mark-late = record {
    places = la.places;
    bottom = la.bottom;
    conf = la.conf;
    progress = λ i. record {
      last_proof = some (proof_is i).id.round;
      last_anchor = some (round_is i);
      full_bottom = (la.progress i).full_bottom;
      first_executable = (la.progress i).first_executable;
      gap = gap_late i;
    };
    top = la.top;
    rounds = λ r h i. cond (eqb r (proof_is i).id.round) (use_proof (la.rounds r h i) (anchor_is.is i).id.author) (la.rounds r h i);
    known = λ p h. let k = la.known p h in record { stays = k.stays; id_is = k.id_is; topped = k.topped };
    same = λ p h. let k = la.same p h in record { mark_now = k.mark_now; is = λ i. set_committed (history_is_same p i) (k.is i); trans = k.trans };
  }
    where
      proof_is : t.pt e.proof ≡ re_top (la.same e.proof x.proof_done).mark_now (s.pt e.proof)
      proof_is = (la.same e.proof x.proof_done).is

      gap_late : gap_after t e.anchor ≡ gap_after s e.anchor
      gap_late = λ i. cond (first-late i) none (la.progress i).gap

rising_late : (s t : Store) → Late s t → (b : ℕ) (es : List EnqueuedAnchor) → Rising s b es → Rising t b es
rising_late s t la b [] r = tt
rising_late s t la b (e ∷ es) (u, x, z) = (subst (λ n. b ≤ n) (sym m) u, anchored, subst (λ n. Rising t (suc n) es) (sym m) (rising_late s t la _ es z))
  where
    k : Same (s.pt e.anchor) (t.pt e.anchor)
    k = la.same e.anchor x.anchor_done

    j : Same (s.pt e.proof) (t.pt e.proof)
    j = la.same e.proof x.proof_done

    m : round_at t e.anchor ≡ round_at s e.anchor
    m = ap (λ n. n.id.round) k.is

    anchored : Anchored t e
    anchored = record {
      anchor_done = same-resolved _ _ k x.anchor_done;
      anchor_valid = ap (λ n. n.resolution.status) k.is ∙ x.anchor_valid;
      proof_done = same-resolved _ _ j x.proof_done;
      proof_valid = ap (λ n. n.resolution.status) j.is ∙ x.proof_valid;
      above = ap (λ n. n.id.round) j.is ∙ (x.above ∙ ap suc (sym m));
    }

-- an anchor that passes them, with the gap question put, right lists and room for its record
pub test_back : (s : Store) (ls : List ℕ) (left size a : ℕ) → Tested s a → gap_pending s.progress.gap ≡ false → lists_ok (linked_counts s a) ls ≡ true → size ≤ left → test_anchor s ls left size a ≡ good a
unfolding test_anchor
test_back s ls left size a c g o l = rw (tested_back s a c) (refuse_back _ 20 _ g ∙ (refuse_back _ 24 _ (ap not o) ∙ refuse_back _ 21 _ (le-ltb left size l)))

-- a commit that nothing stops goes on after its first anchor
commit-goes : (s : Store) (ls b : List ℕ) (at n : ℕ) (e : EnqueuedAnchor) (es : List EnqueuedAnchor) → (commit_all s ls b at n (e ∷ es)).stopped ≡ none → (a : ℕ) × (test_anchor s ls (length b - at) (length (record_bytes s ls e)) e.anchor ≡ good a)
unfolding commit_all
commit-goes s ls b at n e es h = go (test_anchor s ls (length b - at) (length (record_bytes s ls e)) e.anchor) refl h
  where
    res : Out ℕ → Finished
    res o = elim o [
      | bad m ↦ record { store = s; buffer = b; anchors = n; stopped = some m }
      | good z ↦ commit_all (dequeued s e) (after_lists s e.anchor ls) (written b at (record_bytes s ls e)) (at + length (record_bytes s ls e)) (suc n) es
    ]

    go : (o : Out ℕ) → test_anchor s ls (length b - at) (length (record_bytes s ls e)) e.anchor ≡ o → (res o).stopped ≡ none → (a : ℕ) × (test_anchor s ls (length b - at) (length (record_bytes s ls e)) e.anchor ≡ good a)
    go (bad m) c f = absurd (let z : ◌≡◌ {A = ℕ} 0 1 = cc in omega arith)
    go (good a) c f = (a, c)

-- the first anchor passes
pub commit-step : (s : Store) (ls b : List ℕ) (at n : ℕ) (e : EnqueuedAnchor) (es : List EnqueuedAnchor) (a : ℕ) → test_anchor s ls (length b - at) (length (record_bytes s ls e)) e.anchor ≡ good a
    → commit_all s ls b at n (e ∷ es) ≡ commit_all (dequeued s e) (after_lists s e.anchor ls) (written b at (record_bytes s ls e)) (at + length (record_bytes s ls e)) (suc n) es
unfolding commit_all
commit-step s ls b at n e es a h = rw (h, commit_all) refl

-- all anchors of a chain are committed: later too, with the same lists, and with the same bytes
pub commit-late : (s t : Store) → Wf s → Wf t → Late s t → (es : List EnqueuedAnchor) (low : ℕ) → Rising s low es → (ls b : List ℕ) (at n : ℕ) → (commit_all s ls b at n es).stopped ≡ none
    → ((commit_all t ls b at n es).stopped ≡ none) × ((commit_all t ls b at n es).buffer ≡ (commit_all s ls b at n es).buffer) × ((commit_all t ls b at n es).anchors ≡ (commit_all s ls b at n es).anchors)
unfolding commit_all
commit-late s t ws wt la [] low r ls b at n h = (refl, refl, refl)
commit-late s t ws wt la (e ∷ es) low r ls b at n h =
    let (a, u) = commit-goes s ls b at n e es h in
    let (c, g, o, l) = test_good s ls (length b - at) (length (record_bytes s ls e)) e.anchor a u in
    let k : Tested t e.anchor = tested-late s t ws wt la e r.1 c in
    let v : test_anchor t ls (length b - at) (length (record_bytes t ls e)) e.anchor ≡ good e.anchor = test_back t ls (length b - at) (length (record_bytes t ls e)) e.anchor k (rw la.progress g) (rw (counts_as_started-late s t ws wt la e r.1 c) o) (rw (record_late s t ws wt la e r.1 c ls o) l) in
    rw (commit-step s ls b at n e es a u, commit-step t ls b at n e es e.anchor v) (rw (record_late s t ws wt la e r.1 c ls o, after-late s t ws wt la e r.1 c ls)
    (commit-late (dequeued s e) (dequeued t e) (mark_kept s ws e r.1 c) (mark_kept t wt e (rising_late s t la _ (e ∷ es) r).1 k) (mark-late s t ws wt la e r.1 c) es _ (rising_mark s e _ es r.2) (after_lists s e.anchor ls) (written b at (record_bytes s ls e)) (at + length (record_bytes s ls e)) (suc n)
    (subst (λ z. z.stopped ≡ none) (commit-step s ls b at n e es a u) h)))
