-- What a link between two points says.
use Rattle.std.specs.Prelude.{ℕ, ◌+◌, ◌≤◌, ◌<◌, ◌≡◌, true}
use Rattle.std.proofs.Common.{ap, ⊎_elim, eqb-true, eq-eqb, arith}
use mathlib.Core.List.Memᴰ
use mathlib.Core.List.{List, map, Memᴰ}
use Rattle.laws.specs.Test.{both, and_l, and_r}
use Rattle.laws.specs.Lists.{has_elim, has_intro, mem_map}
use Rattle.spec.specs.Ids.{Id, Ref, Link, leads, links_of, fits}
use Rattle.spec.specs.Store.{Point, Store, resolved, links, links_to, round_at}
use Rattle.spec.specs.Paths.{LinkedTo}
use Rattle.spec.specs.Graph.{Down}

-- a link of p leads to q
pub record Linked (p q : Point) : Type 0 where
  pub by : Link
  pub among : Memᴰ by (links p)
  pub resolved_is : resolved p ≡ true
  pub named_is : q.named ≡ true
  pub round : q.id.round + by.dist ≡ p.id.round
  pub author_is : q.id.author ≡ by.to.peer
  pub digest_is : q.id.digest ≡ by.to.digest

-- the link by, of a point of round r, leads to i
pub fits_elim : (r : ℕ) (i : Id) (l : Link) → fits r i l ≡ true → (i.round + l.dist ≡ r) × (i.author ≡ l.to.peer) × (i.digest ≡ l.to.digest)
unfolding fits
fits_elim r i l h = (eqb-true _ _ (and_l _ _ h), eqb-true _ _ (search (and_l, and_r)), eqb-true _ _ (search (and_l, and_r)))

pub fits_intro : (r : ℕ) (i : Id) (l : Link) → i.round + l.dist ≡ r → i.author ≡ l.to.peer → i.digest ≡ l.to.digest → fits r i l ≡ true
unfolding fits
fits_intro r i l a b c = both (eq-eqb _ _ a) (both (eq-eqb _ _ b) (eq-eqb _ _ c))

pub linked : (p q : Point) → links_to p q ≡ true → Linked p q
unfolding links_to
linked p q h = go (has_elim (fits p.id.round q.id) (links p) (search (and_l, and_r)))
  where
    go : (l : Link) × Memᴰ l (links p) × (fits p.id.round q.id l ≡ true) → Linked p q
    go (l, m, k) = let (a, b, c) = fits_elim _ _ l k in record {
      by = l;
      among = m;
      resolved_is = and_l _ _ h;
      named_is = search (and_l, and_r);
      round = a;
      author_is = b;
      digest_is = c;
    }

pub link_made : (p q : Point) → Linked p q → links_to p q ≡ true
unfolding links_to
link_made p q l =
    both l.resolved_is (both l.named_is (has_intro (fits p.id.round q.id) (links p) l.by l.among (fits_intro _ _ _ l.round l.author_is l.digest_is)))

-- a resolved point is named
pub resolved-named : (p : Point) → resolved p ≡ true → p.named ≡ true
unfolding resolved
resolved-named p h = and_l _ _ h

pub source_named : (s : Store) (p q : ℕ) → LinkedTo s p q → (s.pt p).named ≡ true
source_named s p q e = resolved-named (s.pt p) (linked _ _ e).resolved_is

-- includes lead one round down, witness two
pub dist_pos : (is ws : List Ref) (l : Link) → Memᴰ l (links_of is ws) → (0 < l.dist) × (l.dist ≤ 2)
unfolding links_of
dist_pos is ws l m = ⊎_elim (λ k. at _ is (omega arith) (omega arith) k) (λ k. at _ ws (omega arith) (omega arith) k) (Memᴰ.append_cases (map (leads 1) is) m)
  where
    at : (d : ℕ) (rs : List Ref) → 0 < d → d ≤ 2 → Memᴰ l (map (leads d) rs) → (0 < l.dist) × (l.dist ≤ 2)
    at d rs a b k = let (r, n, e) = mem_map (leads d) rs l k in (omega (arith, ap (λ (x : Link). x.dist) e), omega (arith, ap (λ (x : Link). x.dist) e))

pub down : (s : Store) → Down (LinkedTo s) (round_at s)
down s p q e = let l = linked (s.pt p) (s.pt q) e in omega (arith, dist_pos _ _ l.by l.among, l.round)
