-- What a remove answers of a peer, as the code has it (01: stats.rs, `MempoolPeerStats`).
use Rattle.std.specs.Prelude.{ℕ, suc, ◌+◌, ◌*◌, ◌≤◌, ◌≡◌, refl, true, false, cond, eqb}
use Rattle.std.proofs.Math.Path.{sym}
use Rattle.std.proofs.Common.{ap, subst, ◌∙◌, arith}
use Rattle.std.proofs.Math.Option.{Option, none, some}
use borrow.Author.Tests.{eq-eqb, ne_eqb}
use Rattle.laws.specs.Test.{same_or, cond_yes, cond_no}
use Rattle.spec.specs.Store.{Store}
use Rattle.spec.specs.Inspect as inspect
use Rattle.spec.specs.Inspect.{Stats, counted, merge}
use Rattle.spec.specs.Inspection.{first_shown, before, has_stats, stats_none, stats_next}
use Rattle.models.specs.declared.parts.Round.{Round}
use Rattle.stats.specs.Counters.{counters_of, no_counters, Below, Fitting, merge_of, merge_is, merge-below, sum_fits, below_more}
use Rattle.stats.specs.declared.MempoolPeerCounters.{MempoolPeerCounters}
use Rattle.stats.specs.declared.peer_stats.MempoolPeerStats.{MempoolPeerStats}

-- read as the definitions', none if no round is filled
unfoldable pub stats_of : MempoolPeerStats → Option Stats
stats_of t = cond (eqb t.filled_rounds 0) none (some (record { first = t.first_round.0; last = t.last_round.0; counters = counters_of t.cumulative }))

-- no rounds
abbrev pub no_stats : Round → MempoolPeerStats
no_stats r = record { first_round = r; last_round = record { 0 = 0 }; filled_rounds = 0; cumulative = no_counters }

-- the first round
abbrev first_of : Round → MempoolPeerCounters → MempoolPeerStats
first_of r c = record { first_round = r; last_round = r; filled_rounds = 1; cumulative = c }

-- one round more
abbrev next_of : MempoolPeerStats → Round → MempoolPeerCounters → MempoolPeerStats
next_of t r c = record { first_round = t.first_round; last_round = r; filled_rounds = t.filled_rounds + 1; cumulative = merge_of t.cumulative c }

-- with the counters c of round r
unfoldable pub added_in_order : MempoolPeerStats → Round → MempoolPeerCounters → MempoolPeerStats
added_in_order t r c = cond (eqb t.filled_rounds 0) (first_of r c) (next_of t r c)

-- after at most k rounds, each of which counts at most 128
pub record Within (k : ℕ) (t : MempoolPeerStats) : Type 0 where
  pub filled : t.filled_rounds ≤ k
  pub counters : Below (k * 128) t.cumulative

-- it holds what peer a has counted below round b, over at most k rounds
pub record Merged (s : Store) (b : ℕ) (from : Option ℕ) (a k : ℕ) (t : MempoolPeerStats) : Type 0 where
  pub is : stats_of t ≡ inspect.stats_of s b from a
  pub within : Within k t

-- ---- laws

-- from what the code computes
pub none_from : (r : Round) (c : MempoolPeerCounters) → c ≡ no_counters → record { first_round = r; last_round = record { 0 = 0 }; filled_rounds = 0; cumulative = c } ≡ no_stats r
none_from r c e = λ i. record { first_round = r; last_round = record { 0 = 0 }; filled_rounds = 0; cumulative = e i }

-- no rounds, none
pub none_stats : (r : Round) → stats_of (no_stats r) ≡ none
unfolding stats_of
none_stats r = refl

-- no rounds after any number of them
pub none_within : (r : Round) (k : ℕ) → Within k (no_stats r)
unfolding counters_of
none_within r k = record { filled = omega arith; counters = omega arith }

module _ (t : MempoolPeerStats) (r : Round) (c : MempoolPeerCounters) where
  -- what the code returns
  pub added_first : t.filled_rounds ≡ 0 → first_of r c ≡ added_in_order t r c
  unfolding added_in_order
  added_first e = sym (cond_yes _ _ _ (eq-eqb _ 0 e) refl)

  pub added_next : (x : MempoolPeerCounters) → (t.filled_rounds ≡ 0 → ⊥) → x ≡ merge_of t.cumulative c
      → record { first_round = t.first_round; last_round = r; filled_rounds = t.filled_rounds + 1; cumulative = x } ≡ added_in_order t r c
  unfolding added_in_order
  added_next x d e =
      (λ i. record { first_round = t.first_round; last_round = r; filled_rounds = t.filled_rounds + 1; cumulative = e i })
      ∙ sym (cond_no _ _ _ (ne_eqb _ 0 d) refl)

  -- it is 01's, if the sums fit
  pub added_is : Fitting t.cumulative c → stats_of (added_in_order t r c) ≡ merge (stats_of t) r.0 (counters_of c)
  unfolding stats_of added_in_order merge
  added_is h =
      same_or t.filled_rounds 0
      (λ e. rw (eq-eqb t.filled_rounds 0 e) refl)
      (λ d. rw (ne_eqb t.filled_rounds 0 d, ne_eqb (t.filled_rounds + 1) 0 (λ e. omega arith))
      (ap (λ x. some (record { first = t.first_round.0; last = r.0; counters = x })) (merge_is t.cumulative c h)))

  module _ (k : ℕ) (w : Within k t) (b : Below 128 c) where
    -- so they do for 511 rounds
    pub within-fits : k ≤ 510 → Fitting t.cumulative c
    within-fits l = sum_fits t.cumulative c (k * 128) 128 w.counters b (omega arith)

    -- one round more
    pub within_more : Within (suc k) (added_in_order t r c)
    unfolding added_in_order
    within_more =
        same_or t.filled_rounds 0
        (λ e. rw (eq-eqb t.filled_rounds 0 e) (record { filled = omega arith; counters = below_more 128 (suc k * 128) c (omega arith) b }))
        (λ d. rw (ne_eqb t.filled_rounds 0 d)
        (record { filled = omega (arith, w.filled); counters = below_more (k * 128 + 128) (suc k * 128) (merge_of t.cumulative c) (omega arith) (merge-below t.cumulative c (k * 128) 128 w.counters b) }))

-- ---- a round after the other

-- up to the first reported round there is nothing
pub merged-none : (s : Store) (b : ℕ) (from : Option ℕ) (a k : ℕ) (r : Round) → b ≤ first_shown s → Merged s b from a k (no_stats r)
merged-none s b from a k r l = record { is = none_stats r ∙ sym (stats_none s b from a l); within = none_within r k }

module _ (s : Store) (b : ℕ) (from : Option ℕ) (a k : ℕ) (t : MempoolPeerStats) (h : Merged s b from a k t) (l : first_shown s ≤ b) where
  -- a round of which the peer has counters; at most 511 of them fit
  pub merged-more : (r : Round) (c : MempoolPeerCounters) (x : MempoolPeerStats) → r.0 ≡ b → has_stats s from a b ≡ true → counters_of c ≡ counted (before s b) s b a → Below 128 c → k ≤ 510 → x ≡ added_in_order t r c
      → Merged s (suc b) from a (suc k) x
  merged-more r c x e y d f m g = subst (Merged s (suc b) from a (suc k)) (sym g) (record {
    is = added_is t r c (within-fits t r c k h.within f m) ∙ ((λ i. merge (h.is i) (e i) (d i)) ∙ sym (stats_next s b from a l ∙ cond_yes _ _ _ y refl));
    within = within_more t r c k h.within f;
  })

  -- a round of which it has none
  pub merged-same : has_stats s from a b ≡ false → Merged s (suc b) from a (suc k) t
  merged-same y = record {
    is = h.is ∙ sym (stats_next s b from a l ∙ cond_no _ _ _ y refl);
    within = record { filled = omega (arith, h.within.filled); counters = below_more (k * 128) (suc k * 128) t.cumulative (omega arith) h.within.counters };
  }
