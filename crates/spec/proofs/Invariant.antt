-- What every store of a list of calls satisfies, and that one anchor's commit keeps it: a history is what paths reach.
use Rattle.std.specs.Prelude.{ℕ, suc, ◌^◌, ◌≤◌, ◌<◌, max, ◌≡◌, ◌⊎◌, ◌↔◌, true, false, not, ◌&&◌, ◌||◌}
use Rattle.std.proofs.Common.{sym, ◌∙◌, subst, ap, inl, inr, arith, le_trans}
use mathlib.Core.List.Memᴰ
use mathlib.Core.List.{List, ◌++◌, Memᴰ}
use Rattle.std.proofs.lemmas.Bool.{not-true}
use Rattle.laws.specs.Test.{clash, yes_or_no, both, and_l, and_r, or_l, or_r, or_cases}
use Rattle.spec.specs.Ids.{Id}
use Rattle.spec.specs.Store.{Conf, Store, id_at, round_at, resolved, links_to}
use Rattle.spec.specs.Paths.{Path, here, step, LinkedTo}
use Rattle.spec.specs.Chain.{EnqueuedAnchor, or_zero}
use Rattle.spec.specs.History.{limit, lowest, Need, anchor, hand, needed, in_history, history, dequeued, set_committed}
use Rattle.spec.specs.Graph.{snoc, path_down}
use Rattle.spec.specs.Links.{down, resolved-named}
use Rattle.spec.proofs.Sweep.{needed_is}
use Rattle.spec.specs.WellFormed.{Wf}
use Rattle.spec.proofs.Order.{history_named, history_elim, history_intro}
use Rattle.spec.specs.Walk.{Anchored, Tested}
use Rattle.spec.proofs.Preservation.{mark_kept}

-- the lowest round in which committed points are closed under links
abbrev pub floor : Store → ℕ
floor s = max (limit s.conf (or_zero s.progress.last_anchor)) s.bottom

-- s, with the ids hs in the histories that it has handed out
pub record Inv (s : Store) (hs : List Id) : Type 0 where
  pub wf : Wf s
  -- committed points are resolved, and closed under links down to the floor
  pub firm : (p : ℕ) → (s.pt p).flags.committed ≡ true → resolved (s.pt p) ≡ true
  pub closed : (p q : ℕ) → (s.pt p).flags.committed ≡ true → LinkedTo s p q → floor s ≤ round_at s q → (s.pt q).flags.committed ≡ true
  -- a retained point is committed exactly if a history held it
  pub handed : (p : ℕ) → (s.pt p).flags.committed ≡ true → Memᴰ (id_at s p) hs
  pub held : (x : Id) → Memᴰ x hs → s.bottom ≤ x.round → (p : ℕ) × ((s.pt p).flags.committed ≡ true) × (id_at s p ≡ x)
  -- digests have 32 bytes
  pub wide : (p : ℕ) → (s.pt p).named ≡ true → (id_at s p).digest < 256 ^ 32
  -- the last proof is no lower than the last anchor
  pub order : or_zero s.progress.last_anchor ≤ or_zero s.progress.last_proof

need→path : (s : Store) (a q : ℕ) → Need s a q → Path (LinkedTo s) a q
need→path s a q anchor = here
need→path s a q (hand p x n d e) = snoc (need→path s a p n) e

-- along a path from a committed point all is committed, down to the floor
closed_path : (s : Store) (hs : List Id) → Inv s hs → (p q : ℕ) → Path (LinkedTo s) p q → (s.pt p).flags.committed ≡ true → floor s ≤ round_at s q → (s.pt q).flags.committed ≡ true
closed_path s hs i p q here d l = d
closed_path s hs i p q (step {q = y} e w) d l = closed_path s hs i y q w (i.closed p y d e (le_trans l (path_down (down s) w))) l

path→need : (s : Store) (hs : List Id) → Inv s hs → (a x q : ℕ) → Path (LinkedTo s) x q → Need s a x → (s.pt q).flags.committed ≡ false → floor s ≤ round_at s q → Need s a q
path→need s hs i a x q here n d l = n
path→need s hs i a x q (step {q = y} e w) n d l = path→need s hs i a y q w (go (yes_or_no (s.pt x).flags.committed)) d l
  where
    go : ((s.pt x).flags.committed ≡ true) ⊎ ((s.pt x).flags.committed ≡ false) → Need s a y
    go (inl t) = absurd (clash (closed_path s hs i x q (step e w) t l) d)
    go (inr f) = hand x y n f e

-- limits rise with the anchors
pub limit-rises : (c : Conf) (m n : ℕ) → m ≤ n → limit c m ≤ limit c n
unfolding limit
limit-rises c m n h = omega arith

max-left : (a b c : ℕ) → a ≤ b → max a c ≤ max b c
max-left a b c h = omega arith

floor_low : (s : Store) (a : ℕ) → or_zero s.progress.last_anchor ≤ round_at s a → floor s ≤ lowest s a
floor_low s a l = max-left _ _ s.bottom (limit-rises s.conf _ (round_at s a) l)

max-fits : (x y n : ℕ) → x ≤ n → y ≤ n → max x y ≤ suc n
max-fits x y n a b = omega arith

limit-under : (c : Conf) (r : ℕ) → c.genesis < r → limit c r ≤ r
unfolding limit
limit-under c r h = omega arith

-- an anchor above genesis and in the store: its history's lowest round is no higher
pub low_fits : (s : Store) (a : ℕ) → s.conf.genesis < round_at s a → s.bottom ≤ round_at s a → lowest s a ≤ suc (round_at s a)
low_fits s a g b = max-fits _ _ _ (limit-under s.conf (round_at s a) g) b

-- what an anchor's commit asks: it stands above the last one, above genesis, in the store
pub record Next (s : Store) (a : ℕ) : Type 0 where
  pub later : or_zero s.progress.last_anchor ≤ round_at s a
  pub young : s.conf.genesis < round_at s a
  pub in_store : s.bottom ≤ round_at s a
  pub there : (s.pt a).named ≡ true
  pub ready : (q : ℕ) → in_history s a q ≡ true → resolved (s.pt q) ≡ true

module _ (s : Store) (hs : List Id) (i : Inv s hs) (a : ℕ) (n : Next s a) where
  -- the sweep's history is what paths reach
  pub hist_paths : (q : ℕ) → (in_history s a q ≡ true) ↔ (Path (LinkedTo s) a q × (lowest s a ≤ round_at s q) × ((s.pt q).flags.committed ≡ false))
  unfolding in_history
  hist_paths q = (to, from)
    where
      is : (needed s a q ≡ true) ↔ (Need s a q × (lowest s a ≤ round_at s q))
      is = needed_is s i.wf.sized a q (low_fits s a n.young n.in_store)

      to : (needed s a q && not (s.pt q).flags.committed) ≡ true → Path (LinkedTo s) a q × (lowest s a ≤ round_at s q) × ((s.pt q).flags.committed ≡ false)
      to h = let (m, l) = is.0 (and_l _ _ h) in (need→path s a q m, l, not-true _ (and_r (needed s a q) _ h))

      from : Path (LinkedTo s) a q × (lowest s a ≤ round_at s q) × ((s.pt q).flags.committed ≡ false) → (needed s a q && not (s.pt q).flags.committed) ≡ true
      from (w, l, d) = both (is.1 (path→need s hs i a a q w anchor d (le_trans (floor_low s a n.later) l), l)) (ap not d)

  -- in the history stands exactly what a path reaches in the retained rounds from the limit up, and no earlier history held
  pub history_is : (x : Id) → Memᴰ x (history s a) ↔ ((q : ℕ) × (id_at s q ≡ x) × Path (LinkedTo s) a q × (lowest s a ≤ x.round) × (Memᴰ x hs → ⊥))
  history_is x = ((λ m. to (history_elim s i.wf a n.there x m)), from)
    where
      to : (q : ℕ) × (in_history s a q ≡ true) × (id_at s q ≡ x) → (q : ℕ) × (id_at s q ≡ x) × Path (LinkedTo s) a q × (lowest s a ≤ x.round) × (Memᴰ x hs → ⊥)
      to (q, t, e) = (q, e, h.0, subst (λ (y : Id). lowest s a ≤ y.round) e h.1, λ old. twice (i.held x old (le_trans (under h.1) (le_of e))))
        where
          h : Path (LinkedTo s) a q × (lowest s a ≤ round_at s q) × ((s.pt q).flags.committed ≡ false)
          h = (hist_paths q).0 t

          under : lowest s a ≤ round_at s q → s.bottom ≤ round_at s q
          under l = omega arith

          le_of : id_at s q ≡ x → round_at s q ≤ x.round
          le_of k = omega (arith, ap (λ (y : Id). y.round) k)

          twice : (p : ℕ) × ((s.pt p).flags.committed ≡ true) × (id_at s p ≡ x) → ⊥
          twice (p, d, f) = clash d (subst (λ z. (s.pt z).flags.committed ≡ false) (sym same) h.2)
            where
              same : p ≡ q
              same = i.wf.apart p q (resolved-named (s.pt p) (i.firm p d)) (history_named s i.wf a n.there q t) (ap (λ (y : Id). y.round) (f ∙ sym e)) (ap (λ (y : Id). y.digest) (f ∙ sym e))

      from : (q : ℕ) × (id_at s q ≡ x) × Path (LinkedTo s) a q × (lowest s a ≤ x.round) × (Memᴰ x hs → ⊥) → Memᴰ x (history s a)
      from (q, e, w, l, old) = Memᴰ.cast (sym e) (history_intro s i.wf a n.there q ((hist_paths q).1 (w, subst (λ (y : Id). lowest s a ≤ y.round) (sym e) l, fresh (yes_or_no _))))
        where
          fresh : ((s.pt q).flags.committed ≡ true) ⊎ ((s.pt q).flags.committed ≡ false) → (s.pt q).flags.committed ≡ false
          fresh (inl d) = absurd (old (Memᴰ.cast (sym e) (i.handed q d)))
          fresh (inr d) = d

-- one anchor's commit keeps what every store satisfies
module _ (s : Store) (hs : List Id) (i : Inv s hs) (e : EnqueuedAnchor) (ok : Anchored s e) (c : Tested s e.anchor) (n : Next s e.anchor) where
  abbrev a : ℕ
  a = e.anchor

  pub mark_inv : Inv (dequeued s e) (hs ++ history s e.anchor)
  unfolding dequeued set_committed links_to resolved or_zero
  mark_inv = record {
    wf = mark_kept s i.wf e ok c;
    firm = λ p d. firm p (or_cases _ _ d);
    closed = λ p q d k l. closed p q (or_cases _ _ d) k l;
    handed = λ p d. handed p (or_cases _ _ d);
    held = λ x m b. held x b (Memᴰ.append_cases hs m);
    wide = i.wide;
    order = omega (arith, ok.above);
  }
    where
      paths : (q : ℕ) → (in_history s e.anchor q ≡ true) ↔ (Path (LinkedTo s) e.anchor q × (lowest s e.anchor ≤ round_at s q) × ((s.pt q).flags.committed ≡ false))
      paths = hist_paths s hs i e.anchor n

      firm : (p : ℕ) → (in_history s e.anchor p ≡ true) ⊎ ((s.pt p).flags.committed ≡ true) → resolved (s.pt p) ≡ true
      firm p (inl h) = n.ready p h
      firm p (inr d) = i.firm p d

      closed : (p q : ℕ) → (in_history s e.anchor p ≡ true) ⊎ ((s.pt p).flags.committed ≡ true) → LinkedTo s p q → lowest s e.anchor ≤ round_at s q → (in_history s e.anchor q || (s.pt q).flags.committed) ≡ true
      closed p q (inl h) k l = go (yes_or_no (s.pt q).flags.committed)
        where
          go : ((s.pt q).flags.committed ≡ true) ⊎ ((s.pt q).flags.committed ≡ false) → (in_history s e.anchor q || (s.pt q).flags.committed) ≡ true
          go (inl d) = or_r (in_history s e.anchor q) _ d
          go (inr d) = or_l (in_history s e.anchor q) _ ((paths q).1 (snoc ((paths p).0 h).0 k, l, d))
      closed p q (inr d) k l = or_r (in_history s e.anchor q) _ (i.closed p q d k (le_trans (floor_low s e.anchor n.later) l))

      handed : (p : ℕ) → (in_history s e.anchor p ≡ true) ⊎ ((s.pt p).flags.committed ≡ true) → Memᴰ (id_at s p) (hs ++ history s e.anchor)
      handed p (inl h) = Memᴰ.append_right hs (history_intro s i.wf e.anchor n.there p h)
      handed p (inr d) = Memᴰ.append_left (history s e.anchor) (i.handed p d)

      held : (x : Id) → s.bottom ≤ x.round → Memᴰ x hs ⊎ Memᴰ x (history s e.anchor) → (p : ℕ) × ((in_history s e.anchor p || (s.pt p).flags.committed) ≡ true) × (id_at s p ≡ x)
      held x b (inl m) = let (p, d, k) = i.held x m b in (p, or_r (in_history s e.anchor p) _ d, k)
      held x b (inr m) = let (p, h, k) = history_elim s i.wf e.anchor n.there x m in (p, or_l _ _ h, k)
