-- Theorems on the definitions of specs/Order.
use Rattle.std.specs.Prelude.{ℕ, ◌≤◌, ◌<◌, ◌≡◌, ◌⊎◌, true}
use Rattle.std.proofs.Common.{sym, ◌∙◌, ap, arith}
use Rattle.std.proofs.Math.Logic.{inl, inr}
use mathlib.Core.List.{Memᴰ}
use Rattle.laws.specs.Test.{and_l, same_or}
use Rattle.laws.specs.Scan.{those, those_elim, those_intro, those_nodup}
use Rattle.laws.specs.Lists.{NoDup, Pairs, mem_map, map_mem, map_nodup}
use Rattle.laws.specs.Sort.{sort_mem, sort_once, sort_rises}
use Rattle.spec.specs.Ids.{Id, rises}
use Rattle.spec.specs.Store.{Store, id_at}
use Rattle.spec.specs.History.{needed, in_history, history}
use Rattle.spec.specs.HeightEquations.{inside}
use Rattle.spec.proofs.Sweep.{marked→need}
use Rattle.spec.specs.WellFormed.{Wf}
use Rattle.spec.specs.Order.{Before, rises_elim, rises-total, rises_trans, strict, need_named}

module _ (s : Store) (w : Wf s) (a : ℕ) (there : (s.pt a).named ≡ true) where
  pub history_named : (q : ℕ) → in_history s a q ≡ true → (s.pt q).named ≡ true
  unfolding in_history needed
  history_named q h = need_named s a q there (marked→need s a q (and_l _ _ (and_l _ _ h)))

  -- an id in the history is that of a point in it
  pub history_elim : (x : Id) → Memᴰ x (history s a) → (q : ℕ) × (in_history s a q ≡ true) × (id_at s q ≡ x)
  unfolding history
  history_elim x m = let (q, k, e) = mem_map (id_at s) (those s.places (in_history s a)) x ((sort_mem rises x _).0 m) in (q, (those_elim _ _ q k).1, e)

  pub history_intro : (q : ℕ) → in_history s a q ≡ true → Memᴰ (id_at s q) (history s a)
  unfolding history
  history_intro q h = (sort_mem rises (id_at s q) _).1 (map_mem (id_at s) _ q (those_intro _ _ q (inside s w.sized q (history_named q h)) h))

  -- no id stands in it twice
  pub history_once : NoDup (history s a)
  unfolding history
  history_once = sort_once rises _ (map_nodup (id_at s) (those s.places (in_history s a)) (those_nodup _ _)
      (λ x y k l e. w.apart x y (history_named x (those_elim _ _ x k).1) (history_named y (those_elim _ _ y l).1) (ap (λ (i : Id). i.round) e) (ap (λ (i : Id). i.digest) e)))

  ordered : Pairs (λ (x y : Id). rises x y ≡ true) (history s a)
  unfolding history
  ordered = sort_rises rises rises-total rises_trans _

  -- the set of a history, listed by round and digest: each comes before the next
  pub history-rises : Pairs Before (history s a)
  history-rises = strict (λ (x y : Id). rises x y ≡ true) Before (history s a) ordered history_once (λ x y m n r d. go x y (history_elim x m) (history_elim y n) d (rises_elim x y r))
    where
      go : (x y : Id) → (p : ℕ) × (in_history s a p ≡ true) × (id_at s p ≡ x) → (q : ℕ) × (in_history s a q ≡ true) × (id_at s q ≡ y) → (x ≡ y → ⊥)
          → (x.round < y.round) ⊎ ((x.round ≡ y.round) × (x.digest ≤ y.digest)) → Before x y
      go x y u v d (inl l) = inl l
      go x y (p, h, e) (q, k, f) d (inr (r, l)) = inr (r, same_or x.digest y.digest (λ c. absurd (d (same c))) (λ c. omega arith))
        where
          same : x.digest ≡ y.digest → x ≡ y
          same c = sym e ∙ (ap (id_at s) (w.apart p q (history_named p h) (history_named q k) (ap (λ (i : Id). i.round) e ∙ (r ∙ sym (ap (λ (i : Id). i.round) f))) (ap (λ (i : Id). i.digest) e ∙ (c ∙ sym (ap (λ (i : Id). i.digest) f)))) ∙ f)
