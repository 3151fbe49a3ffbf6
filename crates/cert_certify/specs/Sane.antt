-- What holds after each link: the queue has room, and the height of a queued place is what place q hands on to it, by whatever path.
use Prim.Native.Nat.{ℕ, zero, suc, ◌+◌, ◌*◌, ◌-◌, ◌/◌, ◌%◌, ◌≤◌, ◌<◌}
use Rattle.std.specs.Prelude.{◌≡◌, List, get_or, length}
use Rattle.std.proofs.Math.Path.{refl, ap, subst}
use Rattle.std.proofs.Common.{sym, ◌∙◌}
use Rattle.std.proofs.Math.Logic.{⊎_elim}
use native.Mathlib.Omega.{arith}
use Rattle.std.proofs.Math.ListN.{length-set}
use Rattle.laws.specs.Test.{same_or, le_or}
use Rattle.spec.specs.Paths.{Path, here}
use Rattle.spec.specs.Graph.{Down, along, path_down, snoc}
use Rattle.models.specs.Cert.{height_of}
use Rattle.models.specs.Tables.{round_at, place_at, Inside, Used, target_at, dist}
use Rattle.tables_heights.specs.View.{height_at}
use Rattle.models.specs.Live.{reach}
use Rattle.tables_heights.specs.Refines.{Leads, Falls}
use Rattle.cert_certify.specs.Model.{Work, queued, deeper, handed, passed, visited, start, Fits, Open, Ready, deeper-none, deeper_up, deeper-same, visited-next, visited_end}
use Rattle.cert_certify.specs.Queue.{Queued, Once, Grows, queue_most, queue_room, grows_same, grows_queued, grows_twice, queued_cases, queued_last, queued_once, queued-other, queued-word, queued_grows, start_cells, start-only}

-- there are at most 4096 places, q is used, and live links of used places lead as they should
pub record Rooted (b : ℕ) (ks ls cs os : List ℕ) (n q : ℕ) : Type 0 where
  pub small : length cs ≤ 4096
  pub inside : Inside os n (length cs)
  pub falls : Falls b ks ls os n
  pub first : Used os n q

-- so for some order of used places
abbrev pub Placed : ℕ → List ℕ → List ℕ → List ℕ → ℕ → Type 0
Placed b ks ls cs q = (os : List ℕ) × (n : ℕ) × Rooted b ks ls cs os n q

-- the place fits the queue's entries
pub placed_low : (b : ℕ) (ks ls cs : List ℕ) (q : ℕ) → Placed b ks ls cs q → (q < 4096) × (length cs ≤ 4096)
placed_low b ks ls cs q (os, n, r) = let (i, l, e) = r.first in (omega (arith, r.inside i l, r.small), r.small)

-- the work w, begun at place q with the words cs: queued places are different, a path leads to each from q, and each has the height that q
-- hands on along it; the others keep their words, and all keep their flags
pub record Sane (b : ℕ) (ks ls cs os : List ℕ) (n q : ℕ) (w : Work) : Type 0 where
  pub size : length w.certs ≡ length cs
  pub cells : length w.queue ≡ 4096
  pub once : Once w
  pub path : (p : ℕ) → Queued w p → Path (Leads b ks ls os n) q p
  pub held : (p : ℕ) → Queued w p → height_at w.certs p ≡ height_at cs q - (round_at ks q - round_at ks p)
  pub old : (p : ℕ) → (Queued w p → ⊥) → get_or w.certs p 0 ≡ get_or cs p 0
  pub flags : (p : ℕ) → get_or w.certs p 0 / 4096 ≡ get_or cs p 0 / 4096

module _ (b : ℕ) (ks ls cs os : List ℕ) (n q : ℕ) (r : Rooted b ks ls cs os n q) where
  -- a live link
  abbrev LinkedTo : ℕ → ℕ → Type 0
  LinkedTo = Leads b ks ls os n

  -- the work is as it should be
  abbrev S : Work → Type 0
  S = Sane b ks ls cs os n q

  -- used places are in the tables
  low : (p : ℕ) → Used os n p → p < length cs
  low p (i, l, e) = omega (arith, r.inside i l)

  -- a live link leads to a used place, as many rounds down as it should
  lands : (p t : ℕ) → (e : LinkedTo p t) → Used os n t × (round_at ks t + dist e.which ≡ round_at ks p)
  lands p t e = r.falls p e.which t e.from e.live e.to

  -- so it leads down
  pub down : Down LinkedTo (round_at ks)
  down p t e = omega (arith, (lands p t e).1)

  -- only used places are queued
  pub used : (w : Work) → S w → (p : ℕ) → Queued w p → Used os n p
  used w s p u = along (Used os n) (λ x y e v. (lands x y e).0) (s.path p u) r.first

  -- link k of the queued place p leads to place t
  module _ (w : Work) (s : S w) (p k t : ℕ) (u : Queued w p) (live : k < reach b ks p) (to : target_at ls p k ≡ suc t) where
    -- the link
    abbrev edge : LinkedTo p t
    edge = record { from = used w s p u; which = k; live = live; to = to }

    -- its target is in the tables
    target_low : t < length w.certs
    target_low = omega (arith, s.size, low t (lands p t edge).0)

    -- what p hands on to t is what q hands on to it
    same-height : height_at w.certs p - dist k ≡ height_at cs q - (round_at ks q - round_at ks t)
    same-height = let d : round_at ks p ≤ round_at ks q = path_down down (s.path p u) in omega (arith, s.held p u, (lands p t edge).1)

    -- t is lower
    module _ (up : height_at w.certs t + dist k < height_at w.certs p) where
      -- what t rises to
      abbrev v : ℕ
      v = height_at w.certs p - dist k

      -- so it is not queued yet
      new : Queued w t → ⊥
      new x = omega (arith, s.held t x, same-height)

      -- and the queue has room
      room : w.tail < 4096
      room = omega (arith, r.small, queue_room (length cs) w s.once (λ x y. low x (used w s x y)) t (low t (lands p t edge).0) new)

      -- in the array too
      space : w.tail < length w.queue
      space = omega (arith, room, s.cells)

      -- the work goes on ..
      up_grows : Grows w (queued w t v)
      up_grows = queued_grows w t v space new target_low (omega arith) (omega arith)

      -- the word of t
      up_word : get_or (queued w t v).certs t 0 ≡ get_or w.certs t 0 / 4096 * 4096 + v
      up_word = queued-word w t v space new target_low

      -- .. and is as it should be
      up_sane : S (queued w t v)
      unfolding queued
      up_sane = record {
        size = length-set w.certs t _ ∙ s.size;
        cells = length-set w.queue w.tail t ∙ s.cells;
        once = queued_once w t v space new s.once;
        path = λ x i. ⊎_elim (λ e. rw e (snoc (s.path p u) edge)) (s.path x) (queued_cases w t v space new x i);
        held = λ x i. ⊎_elim
            (λ e. rw e (omega (arith, up_word, same-height)))
            (λ y. ap (λ (c : ℕ). c % 4096) (up_grows.words x y) ∙ s.held x y)
            (queued_cases w t v space new x i);
        old = λ x i. queued-other w t v space new x (λ e. i (rw e (queued_last w t v space new))) ∙ s.old x (λ y. i (grows_queued w (queued w t v) up_grows x y));
        flags = λ x. same_or x t
            (λ e. rw e (omega (arith, up_word, s.flags t)))
            (λ e. ap (λ (c : ℕ). c / 4096) (queued-other w t v space new x e) ∙ s.flags x);
      }

  -- the work v after link k of place p, whose height is h: it goes on from w, and the link's target has what p hands on
  abbrev After : ℕ → Work → Work → ℕ → ℕ → Type 0
  After p w v h k = S v × Grows w v × ((t : ℕ) → target_at ls p k ≡ suc t → h - dist k ≤ height_at v.certs t)

  module _ (w : Work) (s : S w) (p h k : ℕ) (u : Queued w p) (live : k < reach b ks p) (is : h ≡ height_at w.certs p) where
    -- the link's target word
    abbrev a : ℕ
    a = target_at ls p k

    -- the link is handed on
    deeper-after : After p w (deeper w a h (dist k)) h k
    unfolding queued height_of
    deeper-after =
        same_or a 0
        (λ e. subst (λ v. After p w v h k) (deeper-none w a h (dist k) e) (s, grows_same w, λ t to. absurd (omega arith)))
        (λ e. le_or h (height_at w.certs (a - 1) + dist k)
        (λ l. subst (λ v. After p w v h k) (deeper-same w a h (dist k) _ refl e l)
        (s, grows_same w, λ t to. let d : a - 1 ≡ t = omega arith in let m : h ≤ height_at w.certs t + dist k = rw d at l in omega arith))
        (λ l. subst (λ v. After p w v h k) (deeper_up w a h (dist k) _ _ refl refl e l) (raised e l)))
      where
        raised : (a ≡ 0 → ⊥) → height_at w.certs (a - 1) + dist k < h → After p w (queued w (a - 1) (h - dist k)) h k
        raised e l =
            let to : a ≡ suc (a - 1) = omega arith in
            let up : height_at w.certs (a - 1) + dist k < height_at w.certs p = rw is at l in
            rw is (
              up_sane w s p k (a - 1) u live to up,
              up_grows w s p k (a - 1) u live to up,
              λ t eq. let d : t ≡ a - 1 = omega arith in rw d (omega (arith, up_word w s p k (a - 1) u live to up)),
            )

    -- there is room for it
    deeper-fits : Fits w a h (dist k)
    deeper-fits = (
      same_or a 0 (λ e. omega arith) (λ e. omega (arith, target_low w s p k (a - 1) u live (omega arith))),
      λ l up. room w s p k (a - 1) u live (omega arith) (omega arith),
    )

  -- the links of the queued place p
  module _ (w : Work) (s : S w) (p : ℕ) (u : Queued w p) where
    -- the height of p
    abbrev h : ℕ
    h = height_at w.certs p

    -- the work after k links
    abbrev after : ℕ → Work
    after k = handed (target_at ls p) h w k

    -- link k
    one_more : (k : ℕ) → k < reach b ks p → S (after k) × Grows w (after k) → After p (after k) (after (suc k)) h k
    unfolding handed
    one_more k l (x, g) = deeper-after (after k) x p h k (grows_queued w (after k) g p u) l (sym (ap (λ (c : ℕ). c % 4096) (g.words p u)))

    -- the first k links
    handed_sane : (k : ℕ) → k ≤ reach b ks p → S (after k) × Grows w (after k)
    unfolding handed
    handed_sane zero l = (s, grows_same w)
    handed_sane (suc k) l =
        let r = handed_sane k (omega arith) in
        let y = one_more k (omega arith) r in
        (y.0, grows_twice w (after k) (after (suc k)) r.1 y.1)

    -- the target of each link has what p hands on
    pub handed_gets : (m k t : ℕ) → k < m → m ≤ reach b ks p → target_at ls p k ≡ suc t → h - dist k ≤ height_at (after m).certs t
    handed_gets zero k t l i to = absurd (omega arith)
    handed_gets (suc m) k t l i to =
        let y = one_more m (omega arith) (handed_sane m (omega arith)) in
        same_or k m
        (λ e. rw e (y.2 t (rw e at to)))
        (λ e. omega (arith, handed_gets m k t (omega arith) (omega arith) to, y.1.rises t))

    -- there is room for all
    handed_open : Open ls w p (reach b ks p)
    handed_open k l =
        let (x, g) = handed_sane k (omega arith) in
        deeper-fits (after k) x p h k (grows_queued w (after k) g p u) l (sym (ap (λ (c : ℕ). c % 4096) (g.words p u)))

  -- the work after f entries of the queue
  abbrev stage : ℕ → Work
  stage f = visited b ks ls (start cs q) f

  -- the work as it begins
  start_sane : S (start cs q)
  unfolding start
  start_sane = record {
    size = refl;
    cells = start_cells cs q;
    once = λ i j l m e. omega arith;
    path = λ p u. rw (start-only cs q p u) here;
    held = λ p u. rw (start-only cs q p u) (omega arith);
    old = λ p u. refl;
    flags = λ p. refl;
  }

  -- one entry more
  next : (f : ℕ) → S (stage f) → S (stage (suc f)) × Grows (stage f) (stage (suc f))
  unfolding passed
  next f s =
      le_or (stage f).tail f
      (λ l. rw (visited_end b ks ls (start cs q) f l) (s, grows_same (stage f)))
      (λ l. rw (visited-next b ks ls (start cs q) f l) (handed_sane (stage f) s (place_at (stage f).queue f) (f, l, refl) (reach b ks (place_at (stage f).queue f)) (omega arith)))

  -- the work is as it should be after any number of entries
  pub visited_sane : (f : ℕ) → S (stage f)
  unfolding visited
  visited_sane zero = start_sane
  visited_sane (suc f) = (next f (visited_sane f)).0

  -- and goes on from there
  pub visited_grows : (f g : ℕ) → f ≤ g → Grows (stage f) (stage g)
  visited_grows f zero l = let e : f ≡ 0 = omega arith in rw e (grows_same (stage 0))
  visited_grows f (suc g) l =
      same_or f (suc g)
      (λ e. rw e (grows_same (stage (suc g))))
      (λ e. grows_twice (stage f) (stage g) (stage (suc g)) (visited_grows f g (omega arith)) (next g (visited_sane g)).1)

  -- no more entries than places
  pub visited_most : (f : ℕ) → (stage f).tail ≤ 4096
  visited_most f = omega (arith, r.small, queue_most (length cs) (stage f) (visited_sane f).once (λ p u. low p (used (stage f) (visited_sane f) p u)))

  -- each entry can be visited
  visited_ready : Ready b ks ls (start cs q)
  visited_ready f l =
      let s = visited_sane f in
      let p = place_at (stage f).queue f in
      let u : Queued (stage f) p = (f, l, refl) in
      (visited_most f, omega (arith, s.size, low p (used (stage f) s p u)), handed_open (stage f) s p u)

-- so the code has room
pub start_ready : (b : ℕ) (ks ls cs : List ℕ) (q : ℕ) → Placed b ks ls cs q → Ready b ks ls (start cs q)
start_ready b ks ls cs q (os, n, r) = visited_ready b ks ls cs os n q r
