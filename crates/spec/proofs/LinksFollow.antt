-- The link behind each point (02: N7): the proof of the statement in Demand.antt.
use Rattle.std.specs.Prelude.{ℕ, suc, ◌≤◌, ◌≡◌, refl, ◌⊎◌, ◌≢◌, true, length, take, drop}
use Rattle.std.proofs.Common.{sym, ◌∙◌, ap₂, take_at, drop_at}
use Rattle.std.proofs.Math.Path.{subst, ap}
use Rattle.std.proofs.Math.Logic.{inl, inr, ⊎_elim}
use mathlib.Core.List.Memᴰ
use mathlib.Core.List.{List, [], ◌∷◌, ◌++◌, map, append_assoc, Memᴰ}
use Rattle.laws.specs.Test.{same_or}
use Rattle.laws.specs.Lists.{joined}
use Rattle.spec.specs.Ids.{Id, id_bytes}
use Rattle.spec.specs.Store.{Store, id_at, round_at}
use Rattle.spec.specs.Paths.{LinkedTo}
use Rattle.spec.specs.History.{lowest, in_history, rounds_of, in_order, sum_bytes, behind, word_for, link_bytes, tail_bytes}
use Rattle.spec.specs.Links.{linked, fits_intro}
use Rattle.spec.proofs.Order.{history_elim, history_intro, history_named}
use Rattle.spec.proofs.OrderInRound.{drawn_elim}
use Rattle.spec.specs.Behind.{Rather, Behind, behind-own, word-own}
use Rattle.spec.proofs.Behind.{behind_is, word_is}
use Rattle.spec.proofs.Extension.{fits_in}
use Rattle.spec.specs.Demand.{read_id, History, Given, Edge, ToldLink, read_links, LinkBehind, ToldOf, AllToldOf, LinksTold, LinksFollow}
use Rattle.spec.specs.Records.{Fits, read_id_lem, as_read_lem, id-length, link-shape, drawn-ids, Event, read_as}
use Rattle.spec.proofs.Records.{word-length, link-length}
use Rattle.spec.proofs.Demand3First.{ids, Right}
use Rattle.spec.proofs.Demand3Paths.{given_of, Log, edge_link}
use Rattle.spec.proofs.Demand3.{New, ids_mem, fits-named, places_of, after-start}

-- ---- read back

-- what is told of the point at q
abbrev told_at : Store → ℕ → ℕ → ToldLink
told_at s a q = record { by = id_at s (behind s a q); word = word_for s a q }

read_one : (s : Store) (a q : ℕ) (rest : List ℕ) → Fits (id_at s (behind s a q)) → (read_id (link_bytes s a q ++ rest) ≡ id_at s (behind s a q)) × (take 8 (drop 37 (link_bytes s a q ++ rest)) ≡ word_for s a q)
read_one s a q rest f = (
  ap read_id (link-shape s a q rest) ∙ (read_id_lem (id_at s (behind s a q)) _ ∙ as_read_lem (id_at s (behind s a q)) f),
  ap (λ (l : List ℕ). take 8 (drop 37 l)) (link-shape s a q rest) ∙ (ap (take 8) (drop_at (id_bytes (id_at s (behind s a q))) _ 37 (id-length (id_at s (behind s a q)))) ∙ take_at (word_for s a q) rest 8 (word-length s a q)),
)

read_links_lem : (s : Store) (a : ℕ) (ps rest : List ℕ) → ((q : ℕ) → Memᴰ q ps → Fits (id_at s (behind s a q))) → read_links (length ps) (joined (link_bytes s a) ps ++ rest) ≡ map (told_at s a) ps
unfolding joined read_links
read_links_lem s a [] rest f = refl
read_links_lem s a (q ∷ qs) rest f =
    let (who, said) = read_one s a q (joined (link_bytes s a) qs ++ rest) (f q (Memᴰ.head refl)) in
    rw (append_assoc (link_bytes s a q) (joined (link_bytes s a) qs) rest)
    (ap₂ ◌∷◌ (λ i. record { by = who i; word = said i }) (ap (read_links (length qs)) (drop_at (link_bytes s a q) (joined (link_bytes s a) qs ++ rest) 45 (link-length s a q)) ∙ read_links_lem s a qs rest (λ p m. f p (Memᴰ.tail m))))

-- ---- one record

all_told : (G : List Given) (h : History) (s : Store) (a : ℕ) (ps : List ℕ) → ((q : ℕ) → Memᴰ q ps → ToldOf G h (id_at s q) (told_at s a q)) → AllToldOf G h (map (id_at s) ps) (map (told_at s a) ps)
all_told G h s a [] f = tt
all_told G h s a (q ∷ qs) f = (f q (Memᴰ.head refl), all_told G h s a qs (λ p m. f p (Memᴰ.tail m)))

module _ (s : Store) (hs : List Id) (e : Event) (r : Right hs e) (G L : List Given) (g : Log e.from G) (new : New G L) where
  abbrev u : Store
  u = e.from

  abbrev a : ℕ
  a = e.enq.anchor

  fit : lowest u a ≤ suc (round_at u a)
  fit = fits_in u r.inv.wf a r.next.there

  named_in : (q : ℕ) → in_history u a q ≡ true → (u.pt q).named ≡ true
  named_in = history_named u r.inv.wf a r.next.there

  -- two places with the same id are one
  one_place : (p q : ℕ) → (u.pt p).named ≡ true → (u.pt q).named ≡ true → id_at u p ≡ id_at u q → p ≡ q
  one_place p q m n k = r.inv.wf.apart p q m n (ap (λ (y : Id). y.round) k) (ap (λ (y : Id). y.digest) k)

  -- a link of the store is one that was given ..
  edge_of : (p q : ℕ) → LinkedTo u p q → Edge (G ++ L) (id_at u p) (id_at u q)
  edge_of p q l = record {
    given = given_of (u.pt p);
    among = Memᴰ.append_left L (g.all p (linked _ _ l).resolved_is);
    whose = refl;
    link = (linked _ _ l).by;
    of = (linked _ _ l).among;
    leads = fits_intro _ _ _ (linked _ _ l).round (linked _ _ l).author_is (linked _ _ l).digest_is;
  }

  -- .. and one that was given, to a point of the history, is a link of the store: later resolutions are of other points
  link_of_lem : (p q : ℕ) → in_history u a p ≡ true → in_history u a q ≡ true → (y : Id) → id_at u p ≡ y → Edge (G ++ L) y (id_at u q) → LinkedTo u p q
  link_of_lem p q h k y i d = go (Memᴰ.append_cases G d.among)
    where
      go : Memᴰ d.given G ⊎ Memᴰ d.given L → LinkedTo u p q
      go (inr m) = absurd (new d.given (given_of (u.pt p)) m (g.all p (r.next.ready p h)) (i ∙ sym d.whose))
      go (inl m) =
          let (z, v, l, n) = edge_link u G r.inv.wf g p y (id_at u q) i (named_in p h) (record { given = d.given; among = m; whose = d.whose; link = d.link; of = d.of; leads = d.leads }) (r.inv.wf.kept q (named_in q k)).0 in
          subst (λ x. LinkedTo u p x) (one_place z q n (named_in q k) v) l

  told-link : (q : ℕ) → in_history u a q ≡ true → q ≢ a → Behind u a q (behind u a q) → LinkBehind (G ++ L) (read_as s u e.list e.enq) (id_at u q) (told_at u a q)
  unfolding edge_of
  told-link q h n b = record {
    inside = (ids_mem hs e r (id_at u (behind u a q))).1 (history_intro u r.inv.wf a r.next.there (behind u a q) b.inside);
    edge = edge_of (behind u a q) q b.link;
    kind = word_is u a q n b.link;
    first = λ y m d. let (p, k, i) = history_elim u r.inv.wf a r.next.there y ((ids_mem hs e r y).0 m) in
        ⊎_elim (λ z. inl (sym i ∙ ap (id_at u) z)) (λ z. inr (subst (λ (x : Id). Rather (id_at u (behind u a q)) x) i z)) (b.first p k (link_of_lem p q k h y i d));
  }

  told_of : (q : ℕ) → in_history u a q ≡ true → ToldOf (G ++ L) (read_as s u e.list e.enq) (id_at u q) (told_at u a q)
  told_of q h = same_or q a
      (λ k. inl (ap (id_at u) k, ap (id_at u) (behind-own u a q k), word-own u a q k))
      (λ n. inr ((λ k. n (one_place q a (named_in q h) r.next.there k)), told-link q h n (behind_is u r.inv.wf a r.next.there fit q h n)))

  behind-named : (q : ℕ) → in_history u a q ≡ true → (u.pt (behind u a q)).named ≡ true
  behind-named q h = same_or q a (λ k. subst (λ x. (u.pt x).named ≡ true) (sym (behind-own u a q k)) (named_in q h)) (λ n. named_in (behind u a q) (behind_is u r.inv.wf a r.next.there fit q h n).inside)

  in_places : (q : ℕ) → Memᴰ q (places_of e) → in_history u a q ≡ true
  in_places q m = (drawn_elim u a (rounds_of u a) e.list r.listed q m).1

  read_all-links : read_links (length (ids e)) (tail_bytes u e.list a) ≡ map (told_at u a) (places_of e)
  unfolding tail_bytes
  read_all-links =
      ap (λ n. read_links n (joined (link_bytes u a) (places_of e) ++ sum_bytes u a)) (drawn-ids u e.list a)
      ∙ read_links_lem u a (places_of e) (sum_bytes u a) (λ q m. fits-named hs e r (behind u a q) (behind-named q (in_places q m)))

  event_links : LinksTold (G ++ L) (read_as s u e.list e.enq)
  unfolding in_order
  event_links = subst (AllToldOf (G ++ L) (read_as s u e.list e.enq) (ids e)) (sym read_all-links) (all_told (G ++ L) (read_as s u e.list e.enq) u a (places_of e) (λ q m. told_of q (in_places q m)))

-- ---- every record

-- 02, N7
pub links_follow : LinksFollow
links_follow = after-start LinksTold event_links
