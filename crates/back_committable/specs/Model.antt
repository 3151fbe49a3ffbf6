-- What the tests of one anchor give.
use Rattle.std.specs.Prelude.{ℕ, ◌+◌, ◌*◌, ◌-◌, ◌<◌, ◌≤◌, max, ◌≡◌, List, Bool, cond, leb, length}
use Rattle.std.proofs.Math.Path.{refl, sym, ap, subst}
use Rattle.std.proofs.Common.{◌∙◌, arith}
use borrow.Author.Tests.{leb-true}
use Rattle.laws.specs.Test.{and_l, and_r}
use Rattle.laws.specs.Scan.{any, those}
use Rattle.models.specs.Digest.{Fit}
use Rattle.models.specs.Tables.{round_at, place_at, Used}
use Rattle.models.specs.Refusal.{failed, or_next}
use Rattle.models.specs.declared.parts.Round.{Round}
use Rattle.tables_ids.specs.Ids.{id_holds}
use Rattle.commit_state.specs.Numbers.{rounds_hold, range_holds}
use Rattle.commit_state.specs.declared.state.State.{State}
use Rattle.tables_test.specs.Model.{shape_says, places_says, range_says}
use Rattle.tables_test.specs.Refines.{Started}
use Rattle.dag_round_points.specs.Model.{Ready}
use Rattle.dag_round_order.specs.Span.{below, below-le}
use Rattle.back_history.specs.Model.{limit_of, missing, marks, Range}
use Rattle.back_history.specs.RefinesNeeded.{lowest_of, low_high}
use Rattle.back_history.specs.Picked.{uncommitted_at, uncertified_at}
use Rattle.back_committable.specs.declared.anchor.HistorySpan.{HistorySpan}
use Rattle.back_committable.specs.declared.anchor.Gathered.{Gathered}
use Rattle.back_committable.specs.declared.anchor.Tested.{Tested}
use Rattle.back_committable.specs.ModelPoints.{found_fault, Rounds}
use Rattle.models.specs.Refusal.{Check, no_refusal}

-- the limit and the positions of the history of an anchor of round r
unfoldable pub history_span : State → List ℕ → List ℕ → ℕ → HistorySpan
history_span s ks os r = record {
  limit = record { 0 = limit_of s.genesis.0 s.commit_history_rounds r };
  lowest = record { 0 = lowest_of s r };
  low = below ks os s.count (lowest_of s r);
  high = below ks os s.count (r + 1);
}

-- 22; 13 to 15; 17; 18
unfoldable pub code_of : State → List ℕ → List ℕ → List ℕ → List Bool → HistorySpan → ℕ → Check
code_of s ks cs os m x r =
    cond (leb r s.genesis.0) (failed 22) (or_next (found_fault ks cs os m x.low x.high)
    (cond (missing s.full_history_bottom.0 x.limit.0 s.bottom.0) (failed 17) (cond (any (x.high - x.low) (uncertified_at cs os m x.low)) (failed 18) no_refusal)))

-- the history of the anchor a, which has these positions
unfoldable pub gathered_in : State → List ℕ → List ℕ → List ℕ → List ℕ → ℕ → HistorySpan → Gathered
gathered_in s ks ls cs os a x =
    let m = marks s.bottom.0 ks ls cs os x.low x.high a in
    record { span = x; count = length (those (x.high - x.low) (uncommitted_at cs os m x.low)); marks = m }

-- the history of the anchor a
unfoldable pub gathered_of : State → List ℕ → List ℕ → List ℕ → List ℕ → ℕ → Gathered
gathered_of s ks ls cs os a = gathered_in s ks ls cs os a (history_span s ks os (round_at ks a))

-- its tests
unfoldable pub tested_in : State → List ℕ → List ℕ → List ℕ → ℕ → Gathered → Tested
tested_in s ks cs os a g =
    record { check = code_of s ks cs os g.marks g.span (round_at ks a); lowest = g.span.lowest; low = g.span.low; high = g.span.high; count = g.count; marks = g.marks }

-- the tests of the anchor a
unfoldable pub tested_of : State → List ℕ → List ℕ → List ℕ → List ℕ → ℕ → Tested
tested_of s ks ls cs os a = tested_in s ks cs os a (gathered_of s ks ls cs os a)

-- ---- the steps of the code

-- the limit and the two positions
pub span_by : (s : State) (ks os : List ℕ) (r : ℕ) (x y : Round) (low high : ℕ) → x.0 ≡ limit_of s.genesis.0 s.commit_history_rounds r → y.0 ≡ max x.0 s.bottom.0
    → low ≡ below ks os s.count y.0 → high ≡ below ks os s.count (r + 1) → record { limit = x; lowest = y; low = low; high = high } ≡ history_span s ks os r
unfolding history_span
span_by s ks os r x y low high a b c d = λ i. record {
  limit = record { 0 = a i };
  lowest = record { 0 = (b ∙ ap (λ (z : ℕ). max z s.bottom.0) a) i };
  low = (c ∙ ap (below ks os s.count) (b ∙ ap (λ (z : ℕ). max z s.bottom.0) a)) i;
  high = d i;
}

-- the history
pub gathered_by : (s : State) (ks ls cs os : List ℕ) (a : ℕ) (r : ℕ) (x : HistorySpan) (m : List Bool) (c : ℕ) → r ≡ round_at ks a → x ≡ history_span s ks os r → m ≡ marks s.bottom.0 ks ls cs os x.low x.high a
    → c ≡ length (those (x.high - x.low) (uncommitted_at cs os m x.low)) → record { span = x; count = c; marks = m } ≡ gathered_of s ks ls cs os a
unfolding gathered_of gathered_in
gathered_by s ks ls cs os a r x m c o e d g =
    (λ i. record { span = x; count = g i; marks = m })
    ∙ ((λ i. record { span = x; count = length (those (x.high - x.low) (uncommitted_at cs os (d i) x.low)); marks = d i })
    ∙ ap (gathered_in s ks ls cs os a) (e ∙ ap (history_span s ks os) o))

-- its positions
pub gathered_span : (s : State) (ks ls cs os : List ℕ) (a : ℕ) (g : Gathered) → g ≡ gathered_of s ks ls cs os a → g.span ≡ history_span s ks os (round_at ks a)
unfolding gathered_of gathered_in
gathered_span s ks ls cs os a g e = ap (λ (y : Gathered). y.span) e

-- with its tests
pub tested_by : (s : State) (ks ls cs os : List ℕ) (a : ℕ) (r : ℕ) (g : Gathered) (f : Check) → r ≡ round_at ks a → g ≡ gathered_of s ks ls cs os a → f ≡ code_of s ks cs os g.marks g.span r
    → record { check = f; lowest = g.span.lowest; low = g.span.low; high = g.span.high; count = g.count; marks = g.marks } ≡ tested_of s ks ls cs os a
unfolding tested_of tested_in
tested_by s ks ls cs os a r g f o e h =
    (λ i. record { check = (h ∙ ap (code_of s ks cs os g.marks g.span) o) i; lowest = g.span.lowest; low = g.span.low; high = g.span.high; count = g.count; marks = g.marks })
    ∙ ap (tested_in s ks cs os a) e

-- ---- what started tables give the code

module _ (s : State) (ks ls cs os : List ℕ) (t : Started s ks ls cs os) where
  -- the rounds of used places are rounds of 01
  round_most : (q : ℕ) → Used os s.count q → round_at ks q ≤ 4_000_000_000
  unfolding rounds_hold id_holds
  round_most q u =
      let r = range_says _ _ _ (and_l _ _ t.rounds_ok) in
      let h : round_at ks q ≤ s.top.0 = leb-true _ _ (and_l _ _ (and_r (leb s.bottom.0 (round_at ks q)) _ (t.facts.ids q u))) in
      omega (arith, h, r.1)

  -- the order can be searched
  ready : Ready s ks os
  ready = let (a, b, c) = shape_says ks ls cs os t.shaped in (a, places_says _ t.places_ok, t.count_ok, t.facts.inside, t.facts.sorted)

  -- genesis is a round of 01
  genesis-fits : s.genesis.0 ≤ 4_000_000_000
  unfolding rounds_hold range_holds
  genesis-fits =
      let r = range_says s.genesis.0 s.bottom.0 s.top.0 (and_l _ _ t.rounds_ok) in
      let h : s.genesis.0 ≤ s.bottom.0 = leb-true _ _ (and_l _ _ (and_l _ _ t.rounds_ok)) in
      omega (arith, h, r.0, r.1)

  module _ (a : ℕ) (u : Used os s.count a) where
    -- the anchor is a place
    anchor_there : a < length os
    anchor_there = go u
      where
        go : Used os s.count a → a < length os
        go (i, l, e) = omega (arith, t.facts.inside i l)

    -- its words are there, and its round is a round of 01
    pub anchor-words : (a * 8 + 8 ≤ length ks) × (round_at ks a ≤ 4_000_000_000)
    anchor-words = let (e, f, g) = shape_says ks ls cs os t.shaped in (omega (arith, e, anchor_there), round_most a u)

    -- what the search of its positions asks for
    pub span_asked : (r : ℕ) → r ≡ round_at ks a → Ready s ks os × ((s.genesis.0 ≤ 4_000_000_000) × (r ≤ 4_000_000_000))
    span_asked r o = (ready, (genesis-fits, subst (λ x. x ≤ 4_000_000_000) (sym o) (round_most a u)))

    -- the positions of its history are scanned
    pub span_range : Fit ks → Fit ls → (r : ℕ) (x : HistorySpan) → r ≡ round_at ks a → x ≡ history_span s ks os r → Range cs os x.low x.high
    unfolding history_span
    span_range fk fl r x o e =
        let (f, g, h) = shape_says ks ls cs os t.shaped in
        let k : below ks os s.count (round_at ks a + 1) ≤ s.count = below-le ks os s.count (round_at ks a + 1) in
        subst (λ (y : HistorySpan). Range cs os y.low y.high) (sym (e ∙ ap (history_span s ks os) o))
        (low_high s ks ls cs os fk fl t a u, omega (arith, k, t.count_ok), places_says _ t.places_ok, h, λ i l. t.facts.inside i (omega (arith, k)))

    -- what the sweep asks for
    pub span_ready : Fit ks → Fit ls → (r : ℕ) (x : HistorySpan) → r ≡ round_at ks a → x ≡ history_span s ks os r
        → Range cs os x.low x.high × ((length ks ≡ length os * 8) × (length ls ≡ length os * 328) × (a < length os))
    span_ready fk fl r x o e = let (f, g, h) = shape_says ks ls cs os t.shaped in (span_range fk fl r x o e, (f, g, anchor_there))

    -- their rounds are rounds of 01
    span-rounds : (r : ℕ) (x : HistorySpan) → r ≡ round_at ks a → x ≡ history_span s ks os r → Rounds ks os x.high
    unfolding history_span
    span-rounds r x o e =
        let k : below ks os s.count (round_at ks a + 1) ≤ s.count = below-le ks os s.count (round_at ks a + 1) in
        subst (λ (y : HistorySpan). Rounds ks os y.high) (sym (e ∙ ap (history_span s ks os) o)) (λ p l. round_most (place_at os p) (p, omega (arith, k), refl))

    -- what the tests ask for
    pub code_ready : Fit ks → Fit ls → (r : ℕ) (x : HistorySpan) → r ≡ round_at ks a → x ≡ history_span s ks os r → Range cs os x.low x.high × ((length ks ≡ length os * 8) × Rounds ks os x.high)
    code_ready fk fl r x o e = (span_range fk fl r x o e, (ready.0, span-rounds r x o e))
