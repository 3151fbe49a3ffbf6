-- Demand 3, first half: paths of the links that a list's accepted resolutions gave are the paths of the stores, and the histories are
-- exact by them.
use Rattle.std.specs.Prelude.{ℕ, ◌+◌, ◌≤◌, ◌≡◌, ◌⊎◌, ◌≢◌, Bool, true, false, leb, ltb}
use Rattle.std.proofs.Math.Path.{refl}
use Rattle.std.proofs.Common.{sym, ◌∙◌, subst, ap, inl, inr, eq-eqb, arith, le_trans}
use mathlib.Core.List.Memᴰ
use mathlib.Core.List.{List, [], ◌∷◌, ◌++◌, Memᴰ}
use Rattle.std.proofs.Math.Decide.{ℕ_discrete}
use Rattle.laws.specs.Test.{clash, both, and_l}
use Rattle.spec.specs.Ids.{Id, Link, links_of}
use Rattle.spec.specs.Store.{Resolution, Point, Progress, Memory, Store, id_at, round_at, resolved, links, with_points, with_numbers}
use Rattle.spec.specs.Paths.{Path, here, step, LinkedTo}
use Rattle.spec.specs.Rules.{well_formed}
use Rattle.spec.specs.Chain.{EnqueuedAnchor}
use Rattle.spec.specs.History.{dequeued, set_committed}
use Rattle.spec.specs.Calls.{add_round, new_point, name_at, with_path_heights, resolved_as, resolve_at, set_top, certify_at, drained}
use Rattle.spec.specs.Links.{Linked, linked, link_made, fits_elim, fits_intro, resolved-named}
use Rattle.spec.proofs.Changes.{res_off, drain-stays, drain_was}
use Rattle.spec.specs.WellFormed.{Wf, Leads}
use Rattle.spec.specs.Walk.{id_path, find-some}
use Rattle.spec.proofs.Accepted.{Naming, Resolving}
use Rattle.spec.specs.Demand.{Given, Edge}
use Rattle.spec.proofs.Preservation.{name_at_lem, name_off}

-- what a resolved point was given
abbrev pub given_of : Point → Given
given_of p = record { who = p.id; links = links p; payload_len = p.resolution.payload_len; payload_bytes = p.resolution.payload_bytes }

-- what the points that pass a test hold is in a list, and all that is in it for a retained round is so held
pub record LogOf {A : Type 0} (is : Point → Bool) (what : Point → A) (round : A → ℕ) (s : Store) (G : List A) : Type 0 where
  pub all : (p : ℕ) → is (s.pt p) ≡ true → Memᴰ (what (s.pt p)) G
  pub only : (g : A) → Memᴰ g G → s.bottom ≤ round g → (p : ℕ) × (is (s.pt p) ≡ true) × (what (s.pt p) ≡ g)

-- the store holds what the resolutions gave, as far as the rounds are retained
abbrev pub Log : Store → List Given → Type 0
Log s G = LogOf resolved given_of (λ g. g.who.round) s G

-- ---- links of ids and of places

-- an edge leads down
pub edge_down : (G : List Given) (x y : Id) → Edge G x y → y.round ≤ x.round
edge_down G x y e = let (a, b, c) = fits_elim x.round y e.link e.leads in omega arith

pub path_under : (G : List Given) (x y : Id) → Path (Edge G) x y → y.round ≤ x.round
path_under G x y here = omega arith
path_under G x y (step {q = z} e w) = le_trans (path_under G z y w) (edge_down G x z e)

module _ (s : Store) (G : List Given) (w : Wf s) (g : Log s G) where
  pub edge_link : (p : ℕ) (x z : Id) → id_at s p ≡ x → (s.pt p).named ≡ true → Edge G x z → s.bottom ≤ z.round → (q : ℕ) × (id_at s q ≡ z) × LinkedTo s p q × ((s.pt q).named ≡ true)
  edge_link p x z e o d b = at (g.only d.given d.among (subst (λ (y : Id). s.bottom ≤ y.round) (sym d.whose) (le_trans b (edge_down G x z d))))
    where
      f : (z.round + d.link.dist ≡ x.round) × (z.author ≡ d.link.to.peer) × (z.digest ≡ d.link.to.digest)
      f = fits_elim x.round z d.link d.leads

      at : (p' : ℕ) × (resolved (s.pt p') ≡ true) × (given_of (s.pt p') ≡ d.given) → (q : ℕ) × (id_at s q ≡ z) × LinkedTo s p q × ((s.pt q).named ≡ true)
      at (p', h, k) = give (w.leads p done d.link mem (omega (arith, f.0, ap (λ (y : Id). y.round) e)))
        where
          who : id_at s p' ≡ id_at s p
          who = ap (λ (y : Given). y.who) k ∙ (d.whose ∙ sym e)

          same : p' ≡ p
          same = w.apart p' p (resolved-named (s.pt p') h) o (ap (λ (y : Id). y.round) who) (ap (λ (y : Id). y.digest) who)

          done : resolved (s.pt p) ≡ true
          done = subst (λ n. resolved (s.pt n) ≡ true) same h

          mem : Memᴰ d.link (links (s.pt p))
          mem = subst (λ n. Memᴰ d.link (links (s.pt n))) same (subst (λ (y : List Link). Memᴰ d.link y) (sym (ap (λ (y : Given). y.links) k)) d.of)

          give : Leads s (round_at s p) d.link → (q : ℕ) × (id_at s q ≡ z) × LinkedTo s p q × ((s.pt q).named ≡ true)
          give (q, n, t) = (q, id_path (id_at s q) z (omega (arith, u.0, f.0, ap (λ (y : Id). y.round) e)) (u.1 ∙ sym f.1) (u.2 ∙ sym f.2), link_made _ _ (record { by = d.link; among = mem; resolved_is = done; named_is = n; round = u.0; author_is = u.1; digest_is = u.2 }), n)
            where
              u : (round_at s q + d.link.dist ≡ round_at s p) × ((id_at s q).author ≡ d.link.to.peer) × ((id_at s q).digest ≡ d.link.to.digest)
              u = fits_elim (round_at s p) (id_at s q) d.link t

  pub ids→places : (x y : Id) → Path (Edge G) x y → (p : ℕ) → id_at s p ≡ x → (s.pt p).named ≡ true → s.bottom ≤ y.round → (q : ℕ) × (id_at s q ≡ y) × Path (LinkedTo s) p q
  ids→places x y here p e o b = (p, e, here)
  ids→places x y (step {q = z} d v) p e o b = go (edge_link p x z e o d (le_trans b (path_under G z y v))) (ids→places z y v)
    where
      go : (q : ℕ) × (id_at s q ≡ z) × LinkedTo s p q × ((s.pt q).named ≡ true)
          → ((p : ℕ) → id_at s p ≡ z → (s.pt p).named ≡ true → s.bottom ≤ y.round → (q : ℕ) × (id_at s q ≡ y) × Path (LinkedTo s) p q)
          → (q : ℕ) × (id_at s q ≡ y) × Path (LinkedTo s) p q
      go (q, k, l, n) i = let (t, m, u) = i q k n b in (t, m, step {q = q} l u)

  pub places→ids : (p q : ℕ) → Path (LinkedTo s) p q → Path (Edge G) (id_at s p) (id_at s q)
  places→ids p q here = here
  places→ids p q (step {q = z} e v) = step (record {
    given = given_of (s.pt p);
    among = g.all p l.resolved_is;
    whose = refl;
    link = l.by;
    of = l.among;
    leads = fits_intro _ _ _ l.round l.author_is l.digest_is;
  }) (places→ids z q v)
    where
      l : Linked (s.pt p) (s.pt z)
      l = linked _ _ e

-- ---- the calls keep the log

drain_bottom_lem : (s : Store) (b : ℕ) → (drained s b).bottom ≡ b
unfolding drained
drain_bottom_lem s b = refl

-- calls that change no point, and those that drain: of any log
module _ {A : Type 0} (is : Point → Bool) (what : Point → A) (round : A → ℕ) (G : List A) where
  pub numbers_log : (s : Store) (p : Progress) (m : Memory) → LogOf is what round s G → LogOf is what round (with_numbers s p m) G
  unfolding with_numbers
  numbers_log s p m l = record { all = l.all; only = l.only }

  pub round_log : (s : Store) (peers : ℕ) → LogOf is what round s G → LogOf is what round (add_round s peers) G
  unfolding add_round
  round_log s peers l = record { all = l.all; only = l.only }

  pub drain_log : ((p : Point) → is p ≡ true → p.named ≡ true) → ((p : Point) → round (what p) ≡ p.id.round) → (s : Store) (b : ℕ) → s.bottom ≤ b → LogOf is what round s G → LogOf is what round (drained s b) G
  drain_log named at s b up l = record {
    all = λ p h. let k = (drain_was s b p (named _ h)).0 in subst (λ (x : Point). Memᴰ (what x) G) (sym k) (l.all p (subst (λ (x : Point). is x ≡ true) k h));
    only = λ g m h. only g (subst (λ n. n ≤ round g) (drain_bottom_lem s b) h) (l.only g m (le_trans up (subst (λ n. n ≤ round g) (drain_bottom_lem s b) h)));
  }
    where
      only : (g : A) → b ≤ round g → (p : ℕ) × (is (s.pt p) ≡ true) × (what (s.pt p) ≡ g) → (p : ℕ) × (is ((drained s b).pt p) ≡ true) × (what ((drained s b).pt p) ≡ g)
      only g h (p, o, k) = (p, subst (λ (x : Point). is x ≡ true) (sym e) o, ap what e ∙ k)
        where
          e : (drained s b).pt p ≡ s.pt p
          e = drain-stays s b p (subst (λ n. b ≤ n) (at (s.pt p)) (subst (λ x. b ≤ round x) (sym k) h))

pub cert_log : (s : Store) (q : ℕ) (G : List Given) → Log s G → Log (certify_at s q) G
unfolding certify_at with_path_heights with_points set_top resolved
cert_log s q G l = record { all = l.all; only = l.only }

pub mark_log : (G : List Given) (s : Store) (e : EnqueuedAnchor) → Log s G → Log (dequeued s e) G
unfolding dequeued set_committed resolved
mark_log G s e l = record { all = l.all; only = l.only }

pub name_bottom : (s : Store) (i : Id) (q : ℕ) → (name_at s i q).bottom ≡ s.bottom
unfolding name_at with_points
name_bottom s i q = refl

new-unresolved : (i : Id) → resolved (new_point i) ≡ false
unfolding resolved new_point
new-unresolved i = refl

pub name_log : (s : Store) (i : Id) (t : Store) → Wf s → (n : Naming s i t) (G : List Given) → Log s G → Log (name_at s i n.place) G
name_log s i t w n G l = record {
  all = λ p h. all p h (ℕ_discrete p n.place);
  only = λ g m h. only g (l.only g m (subst (λ k. k ≤ g.who.round) (name_bottom s i n.place) h));
}
  where
    off : (p : ℕ) → p ≢ n.place → (name_at s i n.place).pt p ≡ s.pt p
    off = name_off s w i n.place n.inside n.unused n.id.low n.id.high n.new

    all : (p : ℕ) → resolved ((name_at s i n.place).pt p) ≡ true → Dec (p ≡ n.place) → Memᴰ (given_of ((name_at s i n.place).pt p)) G
    all p h (yes e) = absurd (clash (subst (λ x. resolved ((name_at s i n.place).pt x) ≡ true) e h) (ap resolved (name_at_lem s w i n.place n.inside n.unused n.id.low n.id.high n.new) ∙ new-unresolved i))
    all p h (no e) = subst (λ (x : Point). Memᴰ (given_of x) G) (sym (off p e)) (l.all p (subst (λ (x : Point). resolved x ≡ true) (off p e) h))

    only : (g : Given) → (p : ℕ) × (resolved (s.pt p) ≡ true) × (given_of (s.pt p) ≡ g) → (p : ℕ) × (resolved ((name_at s i n.place).pt p) ≡ true) × (given_of ((name_at s i n.place).pt p) ≡ g)
    only g (p, h, k) = (p, subst (λ (x : Point). resolved x ≡ true) (sym m) h, ap given_of m ∙ k)
      where
        m : (name_at s i n.place).pt p ≡ s.pt p
        m = off p (λ z. clash (subst (λ x. (s.pt x).named ≡ true) z (resolved-named (s.pt p) h)) n.unused)

-- ---- an accepted resolution

status_pos : (r : ℕ) (resolution : Resolution) → well_formed r resolution ≡ true → ltb 0 resolution.status ≡ true
unfolding well_formed
status_pos r resolution h = and_l _ (leb resolution.status 5) (and_l _ _ h)

-- what it gives
abbrev pub given : Id → Resolution → Given
given i resolution = record { who = i; links = links_of resolution.includes resolution.witness; payload_len = resolution.payload_len; payload_bytes = resolution.payload_bytes }

module _ (s : Store) (i : Id) (resolution : Resolution) (t : Store) (w : Wf s) (r : Resolving s i resolution t) where
  res_id : id_at s r.place ≡ i
  res_id = (find-some s i r.place r.found).is

  res_at : given_of ((resolve_at s resolution r.place).pt r.place) ≡ given i resolution
  unfolding resolve_at with_path_heights with_points resolved_as
  res_at = rw (eq-eqb r.place r.place refl) (λ k. record { who = res_id k; links = links_of resolution.includes resolution.witness; payload_len = resolution.payload_len; payload_bytes = resolution.payload_bytes })

  res_done : resolved ((resolve_at s resolution r.place).pt r.place) ≡ true
  unfolding resolve_at with_path_heights with_points resolved_as resolved
  res_done = rw (eq-eqb r.place r.place refl) (both (find-some s i r.place r.found).named (status_pos (round_at s r.place) resolution r.formed))

  res_bottom : (resolve_at s resolution r.place).bottom ≡ s.bottom
  unfolding resolve_at with_path_heights with_points
  res_bottom = refl

  pub res_log : (G : List Given) → Log s G → Log (resolve_at s resolution r.place) (G ++ (given i resolution ∷ []))
  res_log G l = record { all = λ p h. all p h (ℕ_discrete p r.place); only = λ g m h. only g (subst (λ n. n ≤ g.who.round) res_bottom h) (Memᴰ.append_cases G m) }
    where
      off : (p : ℕ) → p ≢ r.place → (resolve_at s resolution r.place).pt p ≡ s.pt p
      off = res_off s w.sized r.place resolution r.late

      all : (p : ℕ) → resolved ((resolve_at s resolution r.place).pt p) ≡ true → Dec (p ≡ r.place) → Memᴰ (given_of ((resolve_at s resolution r.place).pt p)) (G ++ (given i resolution ∷ []))
      all p h (yes e) = Memᴰ.append_right G (Memᴰ.head (ap (λ x. given_of ((resolve_at s resolution r.place).pt x)) e ∙ res_at))
      all p h (no e) = Memᴰ.append_left (given i resolution ∷ []) (subst (λ (x : Point). Memᴰ (given_of x) G) (sym (off p e)) (l.all p (subst (λ (x : Point). resolved x ≡ true) (off p e) h)))

      old : (g : Given) → (p : ℕ) × (resolved (s.pt p) ≡ true) × (given_of (s.pt p) ≡ g) → (p : ℕ) × (resolved ((resolve_at s resolution r.place).pt p) ≡ true) × (given_of ((resolve_at s resolution r.place).pt p) ≡ g)
      old g (p, h, k) = (p, subst (λ (x : Point). resolved x ≡ true) (sym m) h, ap given_of m ∙ k)
        where
          m : (resolve_at s resolution r.place).pt p ≡ s.pt p
          m = off p (λ z. clash (subst (λ x. resolved (s.pt x) ≡ true) z h) r.late)

      only : (g : Given) → s.bottom ≤ g.who.round → Memᴰ g G ⊎ Memᴰ g (given i resolution ∷ []) → (p : ℕ) × (resolved ((resolve_at s resolution r.place).pt p) ≡ true) × (given_of ((resolve_at s resolution r.place).pt p) ≡ g)
      only g b (inl m) = old g (l.only g m b)
      only g b (inr m) = (r.place, res_done, res_at ∙ sym (Memᴰ.eq_of_singleton m))

  -- it is the first for its id
  pub res_first : (G : List Given) → Log s G → (g : Given) → Memᴰ g G → g.who ≡ i → ⊥
  res_first G l g m e = at (l.only g m (subst (λ (x : Id). s.bottom ≤ x.round) (res_id ∙ sym e) (w.kept r.place there).0))
    where
      there : (s.pt r.place).named ≡ true
      there = (find-some s i r.place r.found).named

      at : (p : ℕ) × (resolved (s.pt p) ≡ true) × (given_of (s.pt p) ≡ g) → ⊥
      at (p, h, k) = clash (subst (λ x. resolved (s.pt x) ≡ true) same h) r.late
        where
          who : id_at s p ≡ id_at s r.place
          who = ap (λ (x : Given). x.who) k ∙ (e ∙ sym res_id)

          same : p ≡ r.place
          same = w.apart p r.place (resolved-named (s.pt p) h) there (ap (λ (x : Id). x.round) who) (ap (λ (x : Id). x.digest) who)
