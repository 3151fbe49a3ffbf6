-- One round more in the counters of all peers (01: stats.rs, `MempoolPeerStats`).
use Rattle.std.specs.Prelude.{ℕ, ◌+◌, ◌<◌, ◌≤◌, ◌≡◌, Bool, ◌&&◌, cond, get_or, set}
use Rattle.std.proofs.Math.Path.{refl, sym, ap}
use Rattle.std.proofs.Common.{◌∙◌, arith, length-set, get_or-set_same}
use mathlib.Core.List.{List}
use Rattle.std.proofs.Math.Bool.{true, false}
use Rattle.std.proofs.Math.ListN.{length}
use Rattle.std.proofs.Math.Seq.{get_or-set_other}
use Rattle.laws.specs.Test.{same_or, le_or, and_no, and_yes, cond_yes, cond_no}
use Rattle.laws.specs.Peers.{member}
use Rattle.models.specs.declared.parts.Round.{Round}
use Rattle.stats.specs.Counters.{no_counters}
use Rattle.stats.specs.PeerStats.{no_stats, added_in_order}
use Rattle.stats.specs.declared.MempoolPeerCounters.{MempoolPeerCounters}
use Rattle.stats.specs.declared.peer_stats.MempoolPeerStats.{MempoolPeerStats}

-- the cell of author a; none above 31
abbrev pub cell_at : List MempoolPeerStats → ℕ → MempoolPeerStats
cell_at xs a = get_or xs a (no_stats (record { 0 = 0 }))

abbrev pub counters_at : List MempoolPeerCounters → ℕ → MempoolPeerCounters
counters_at cs a = get_or cs a no_counters

-- each has fewer rounds than n
abbrev pub AllBelow : ℕ → List MempoolPeerStats → Type 0
AllBelow n xs = (a : ℕ) → a < 32 → (cell_at xs a).filled_rounds < n

-- the cell of author a with round r, if it is counted and a is one of its peers
unfoldable pub merged_cell : List MempoolPeerStats → ℕ → Bool → Round → List MempoolPeerCounters → ℕ → MempoolPeerStats
merged_cell xs peers t r cs a = cond (t && member peers a) (added_in_order (cell_at xs a) r (counters_at cs a)) (cell_at xs a)

pub record RoundMerged (xs : List MempoolPeerStats) (peers : ℕ) (t : Bool) (r : Round) (cs : List MempoolPeerCounters) (ys : List MempoolPeerStats) : Type 0 where
  pub size : length ys ≡ 32
  pub cells : (a : ℕ) → a < 32 → cell_at ys a ≡ merged_cell xs peers t r cs a

-- ---- the steps of the code

-- the cells below k have it, those from k on are as they were
pub record MergedTo (xs : List MempoolPeerStats) (peers : ℕ) (t : Bool) (r : Round) (cs : List MempoolPeerCounters) (k : ℕ) (ys : List MempoolPeerStats) : Type 0 where
  pub size : length ys ≡ 32
  pub done : (a : ℕ) → a < k → cell_at ys a ≡ merged_cell xs peers t r cs a
  pub rest : (a : ℕ) → k ≤ a → cell_at ys a ≡ cell_at xs a

module _ (xs : List MempoolPeerStats) (peers : ℕ) (t : Bool) (r : Round) (cs : List MempoolPeerCounters) where
  -- a round that isn't counted
  pub merge_not : length xs ≡ 32 → t ≡ false → RoundMerged xs peers t r cs xs
  unfolding merged_cell
  merge_not l e = record { size = l; cells = λ a h. sym (cond_no _ _ _ (and_no (member peers a) e) refl) }

  pub merge_none : length xs ≡ 32 → MergedTo xs peers t r cs 0 xs
  merge_none l = record { size = l; done = λ a h. absurd (omega arith); rest = λ a h. refl }

  pub merge_end : (k : ℕ) (ys : List MempoolPeerStats) → MergedTo xs peers t r cs k ys → 32 ≤ k → RoundMerged xs peers t r cs ys
  merge_end k ys h l = record { size = h.size; cells = λ a b. h.done a (omega arith) }

  -- there is room for one more
  pub merge-few : (k : ℕ) (ys : List MempoolPeerStats) → MergedTo xs peers t r cs k ys → (n : ℕ) → AllBelow n xs → k < 32 → (cell_at ys k).filled_rounds < n
  merge-few k ys h n b l = let e = ap (λ (z : MempoolPeerStats). z.filled_rounds) (h.rest k (omega arith)) in let m = b k l in omega (arith, e, m)

  module _ (k : ℕ) (ys : List MempoolPeerStats) (h : MergedTo xs peers t r cs k ys) (p : Bool) (is : p ≡ member peers k) where
    -- a peer of the round
    pub merge-yes : t ≡ true → p ≡ true → k < 32 → (x : MempoolPeerStats) (zs : List MempoolPeerStats) → x ≡ added_in_order (cell_at ys k) r (counters_at cs k) → zs ≡ set ys k x → MergedTo xs peers t r cs (k + 1) zs
    unfolding merged_cell
    merge-yes y e l x zs d g = record {
      size = ap length g ∙ (length-set ys k x ∙ h.size);
      done = λ a b. ap (λ (z : List MempoolPeerStats). cell_at z a) g ∙ same_or k a (same a) (λ n. get_or-set_other ys k a x _ (λ i. n (sym i)) ∙ h.done a (apart a b n));
      rest = λ a b. ap (λ (z : List MempoolPeerStats). cell_at z a) g ∙ (get_or-set_other ys k a x _ (λ i. omega arith) ∙ h.rest a (omega arith));
    }
      where
        apart : (a : ℕ) → a < k + 1 → (k ≡ a → ⊥) → a < k
        apart a b n = le_or k a (λ i. absurd (n (omega arith))) (λ i. i)

        same : (a : ℕ) → k ≡ a → cell_at (set ys k x) a ≡ cond (t && member peers a) (added_in_order (cell_at xs a) r (counters_at cs a)) (cell_at xs a)
        same a i =
            ap (cell_at (set ys k x)) (sym i)
            ∙ (get_or-set_same ys k x _ (omega (arith, l, h.size))
            ∙ (d ∙ (ap (λ (z : MempoolPeerStats). added_in_order z r (counters_at cs k)) (h.rest k (omega arith))
            ∙ (sym (cond_yes _ _ _ (and_yes y (sym is ∙ e)) refl) ∙ ap (merged_cell xs peers t r cs) i))))

    -- another
    pub merge_no : p ≡ false → (zs : List MempoolPeerStats) → zs ≡ ys → MergedTo xs peers t r cs (k + 1) zs
    unfolding merged_cell
    merge_no e zs g = record {
      size = ap length g ∙ h.size;
      done = λ a b. ap (λ (z : List MempoolPeerStats). cell_at z a) g ∙ le_or k a (λ i. same a (omega arith)) (λ i. h.done a i);
      rest = λ a b. ap (λ (z : List MempoolPeerStats). cell_at z a) g ∙ h.rest a (omega arith);
    }
      where
        no_member : (u : Bool) → (u && member peers k) ≡ false
        no_member true = sym is ∙ e
        no_member false = refl

        same : (a : ℕ) → k ≡ a → cell_at ys a ≡ cond (t && member peers a) (added_in_order (cell_at xs a) r (counters_at cs a)) (cell_at xs a)
        same a i =
            ap (cell_at ys) (sym i)
            ∙ (h.rest k (omega arith)
            ∙ (sym (cond_no _ _ _ (no_member t) refl) ∙ ap (merged_cell xs peers t r cs) i))
