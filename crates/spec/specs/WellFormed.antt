-- The rules of the tables in words: what `counts` says, and that this is all it says.
use Rattle.std.specs.Prelude.{ℕ, suc, ◌+◌, ◌-◌, ◌≤◌, ◌<◌, ◌≡◌, Bool, false, not, ◌&&◌, eqb, leb, ltb}
use Rattle.std.proofs.Math.Path.{sym, subst}
use Rattle.std.proofs.Common.{ap}
use Rattle.std.proofs.Math.Bool.{true}
use mathlib.Core.List.{List, Memᴰ}
use borrow.Author.Tests.{eqb-true, eq-eqb, leb-true, le-leb, ltb-true, lt-ltb, not-true}
use native.Mathlib.Omega.{arith}
use Rattle.laws.specs.Test.{by_test, clash, both, and_l, and_r, only, only_elim, only_intro}
use Rattle.laws.specs.Scan.{any, any_elim, any_none, every, every_elim, every_intro}
use Rattle.laws.specs.Lists.{has, has_intro, has_elim}
use Rattle.spec.specs.Ids.{Link, fits}
use Rattle.spec.specs.Store.{Store, id_at, round_at, resolved, links, retained}
use Rattle.spec.specs.Paths.{height}
use Rattle.spec.specs.Rules.{is_peer, same_digest, versions, well_formed, dangling, used_ok, last_round, conf_ok, places_ok, rounds_ok, id_ok, links_ok, cert_ok, place_ok, is_started, counts_as_started}
use Rattle.spec.specs.Links.{resolved-named}
use Rattle.spec.specs.HeightEquations.{Sized, inside}

-- the link l of a point of round r leads to a named point
abbrev pub Leads : Store → ℕ → Link → Type 0
Leads s r l = (q : ℕ) × ((s.pt q).named ≡ true) × (fits r (id_at s q) l ≡ true)

pub record Wf (s : Store) : Type 0 where
  pub sized : Sized s
  pub begun : is_started s.phase ≡ true
  pub places_ok : places_ok s.places ≡ true
  pub conf_ok : conf_ok s.conf ≡ true
  pub low : s.conf.genesis ≤ s.bottom
  pub rounds_ok : s.bottom ≤ s.top
  pub high : s.top ≤ last_round
  pub few : s.top - s.bottom < 512
  pub used_ok : (r : ℕ) → s.bottom ≤ r → r ≤ s.top → used_ok (s.rounds r).used ≡ true
  pub kept : (q : ℕ) → (s.pt q).named ≡ true → (s.bottom ≤ round_at s q) × (round_at s q ≤ s.top)
  pub peer : (q : ℕ) → (s.pt q).named ≡ true → is_peer s (id_at s q) ≡ true
  pub apart : (p q : ℕ) → (s.pt p).named ≡ true → (s.pt q).named ≡ true → round_at s p ≡ round_at s q → (id_at s p).digest ≡ (id_at s q).digest → p ≡ q
  pub four : (q : ℕ) → (s.pt q).named ≡ true → versions s (id_at s q) ≤ 4
  pub formed : (q : ℕ) → resolved (s.pt q) ≡ true → well_formed (round_at s q) (s.pt q).resolution ≡ true
  pub leads : (q : ℕ) → resolved (s.pt q) ≡ true → (l : Link) → Memᴰ l (links (s.pt q)) → s.bottom + l.dist ≤ round_at s q → Leads s (round_at s q) l
  pub heights_are : (q : ℕ) → (s.pt q).named ≡ true → s.heights q ≡ height s q
  pub firm : (q : ℕ) → (s.pt q).named ≡ true → (s.pt q).flags.committed ≡ true → 0 < height s q

-- no wild link: each link into a retained round leads to a named point
pub tame : (s : Store) (r : ℕ) (ls : List Link) → has (dangling s r) ls ≡ false → (l : Link) → Memᴰ l ls → s.bottom + l.dist ≤ r → Leads s r l
unfolding dangling
tame s r ls h l m b =
    by_test (any s.places at)
    (λ t. let (q, k, u) = any_elim s.places at t in (q, and_l _ (fits r (id_at s q) l) u, and_r (s.pt q).named _ u))
    (λ f. absurd (clash (has_intro (dangling s r) ls l m (both (le-leb _ _ b) (ap not f))) h))
  where
    at : ℕ → Bool
    at q = (s.pt q).named && fits r (id_at s q) l

pub tame_back : (s : Store) → Sized s → (r : ℕ) (ls : List Link) → ((l : Link) → Memᴰ l ls → s.bottom + l.dist ≤ r → Leads s r l) → has (dangling s r) ls ≡ false
unfolding dangling
tame_back s z r ls f = by_test (has (dangling s r) ls) (λ t. absurd (go (has_elim (dangling s r) ls t))) (λ e. e)
  where
    go : (l : Link) × Memᴰ l ls × (dangling s r l ≡ true) → ⊥
    go (l, m, w) =
        let (q, n, k) = f l m (leb-true _ _ (and_l _ (not (any s.places (λ q. (s.pt q).named && fits r (id_at s q) l))) w)) in
        any_none s.places (λ q. (s.pt q).named && fits r (id_at s q) l) (not-true _ (and_r (leb (s.bottom + l.dist) r) _ w)) q (inside s z q n) (both n k)

module _ (s : Store) (z : Sized s) where
  place_of : counts_as_started s ≡ true → (q : ℕ) → (s.pt q).named ≡ true → place_ok s q ≡ true
  unfolding counts_as_started
  place_of h q n =
      only_elim _ _ (every_elim s.places (λ q. only (s.pt q).named (place_ok s q))
      (and_r (rounds_ok s) _ (and_r (conf_ok s.conf) _ (and_r (places_ok s.places) _ (and_r (is_started s.phase) _ h)))) q (inside s z q n)) n

  rounds_of_lem : counts_as_started s ≡ true → rounds_ok s ≡ true
  unfolding counts_as_started
  rounds_of_lem h = and_l _ _ (and_r (conf_ok s.conf) _ (and_r (places_ok s.places) _ (and_r (is_started s.phase) _ h)))

  used_of_lem : rounds_ok s ≡ true → (r : ℕ) → s.bottom ≤ r → r ≤ s.top → used_ok (s.rounds r).used ≡ true
  unfolding rounds_ok
  used_of_lem h r a b = subst (λ x. used_ok (s.rounds x).used ≡ true) (back s.bottom r a)
      (every_elim (suc (s.top - s.bottom)) (λ k. used_ok (s.rounds (s.bottom + k)).used) (and_r (ltb (s.top - s.bottom) 512) _ (and_r (leb s.top last_round) _ (and_r (leb s.bottom s.top) _ (and_r (leb s.conf.genesis s.bottom) _ h)))) (r - s.bottom) (omega arith))
    where
      back : (m r : ℕ) → m ≤ r → m + (r - m) ≡ r
      back m r l = omega arith

  -- tables that count as started keep each rule
  pub counts_as_started_elim : counts_as_started s ≡ true → Wf s
  unfolding counts_as_started rounds_ok place_ok id_ok links_ok cert_ok same_digest
  counts_as_started_elim h = record {
    sized = z;
    begun = and_l _ _ h;
    places_ok = search (and_l, and_r, h);
    conf_ok = search (and_l, and_r, h);
    low = leb-true _ _ (and_l _ _ (rounds_of_lem h));
    rounds_ok = leb-true _ _ (search (and_l, and_r, r));
    high = leb-true _ _ (search (and_l, and_r, r));
    few = ltb-true _ _ (search (and_l, and_r, r));
    used_ok = used_of_lem r;
    kept = λ q n. (leb-true _ _ (and_l _ _ (and_l _ _ (id_of_lem q n))), leb-true _ _ (and_r (leb s.bottom (round_at s q)) _ (and_l _ _ (id_of_lem q n))));
    peer = λ q n. and_l _ _ (and_r (retained s (round_at s q)) _ (id_of_lem q n));
    apart = λ p q n m e d. sym (eqb-true q p (only_elim (same_digest s (id_at s p) q) _ (every_elim s.places (λ x. only (same_digest s (id_at s p) x) (eqb x p)) (and_l _ _ (and_r (is_peer s (id_at s p)) _ (and_r (retained s (round_at s p)) _ (id_of_lem p n)))) q (inside s z q m)) (both m (both (eq-eqb _ _ (sym e)) (eq-eqb _ _ (sym d))))));
    four = λ q n. leb-true _ _ (and_r (every s.places (λ p. only (same_digest s (id_at s q) p) (eqb p q))) _ (and_r (is_peer s (id_at s q)) _ (and_r (retained s (round_at s q)) _ (id_of_lem q n))));
    formed = λ q n. and_l _ _ (links_of_lem q n);
    leads = λ q n. tame s (round_at s q) (links (s.pt q)) (not-true _ (and_r (well_formed (round_at s q) (s.pt q).resolution) _ (links_of_lem q n)));
    heights_are = λ q n. eqb-true _ _ (and_l _ _ (cert_of_lem q n));
    firm = λ q n c. subst (λ x. 0 < x) (eqb-true _ _ (and_l _ _ (cert_of_lem q n))) (ltb-true _ _ (only_elim _ _ (and_r (eqb (s.heights q) (height s q)) _ (cert_of_lem q n)) c));
  }
    where
      r : rounds_ok s ≡ true
      r = rounds_of_lem h

      id_of_lem : (q : ℕ) → (s.pt q).named ≡ true → id_ok s q ≡ true
      id_of_lem q n = and_l _ _ (place_of h q n)

      links_of_lem : (q : ℕ) → resolved (s.pt q) ≡ true → (well_formed (round_at s q) (s.pt q).resolution && not (has (dangling s (round_at s q)) (links (s.pt q)))) ≡ true
      links_of_lem q n = only_elim (resolved (s.pt q)) _ (and_l _ _ (and_r (id_ok s q) _ (place_of h q (resolved-named (s.pt q) n)))) n

      cert_of_lem : (q : ℕ) → (s.pt q).named ≡ true → cert_ok s q ≡ true
      cert_of_lem q n = and_r (links_ok s q) _ (and_r (id_ok s q) _ (place_of h q n))

  -- and tables that keep each rule count as started
  pub counts_as_started_intro : Wf s → counts_as_started s ≡ true
  unfolding counts_as_started rounds_ok place_ok id_ok links_ok cert_ok same_digest
  counts_as_started_intro w =
      both w.begun (both w.places_ok (both w.conf_ok (both
      (both (le-leb _ _ w.low) (both (le-leb _ _ w.rounds_ok) (both (le-leb _ _ w.high) (both (lt-ltb _ _ w.few) (every_intro _ _ (λ k l. w.used_ok (s.bottom + k) (omega arith) (omega (arith, w.rounds_ok))))))))
      (every_intro s.places _ (λ q l. only_intro (s.pt q).named _ (λ n. both (ids q n) (both (lnk q) (crt q n))))))))
    where
      ids : (q : ℕ) → (s.pt q).named ≡ true → id_ok s q ≡ true
      ids q n = both (both (le-leb _ _ (w.kept q n).0) (le-leb _ _ (w.kept q n).1)) (both (w.peer q n) (both
          (every_intro s.places _ (λ p l. only_intro (same_digest s (id_at s q) p) _ (λ t. eq-eqb p q (w.apart p q (and_l _ _ t) n (eqb-true _ _ (search (and_l, and_r, t))) (eqb-true _ _ (search (and_l, and_r, t)))))))
          (le-leb _ _ (w.four q n))))

      lnk : (q : ℕ) → links_ok s q ≡ true
      lnk q = only_intro (resolved (s.pt q)) _ (λ n. both (w.formed q n) (ap not (tame_back s z (round_at s q) (links (s.pt q)) (w.leads q n))))

      crt : (q : ℕ) → (s.pt q).named ≡ true → cert_ok s q ≡ true
      crt q n = both (eq-eqb _ _ (w.heights_are q n)) (only_intro (s.pt q).flags.committed _ (λ c. lt-ltb _ _ (subst (λ x. 0 < x) (sym (w.heights_are q n)) (w.firm q n c))))
