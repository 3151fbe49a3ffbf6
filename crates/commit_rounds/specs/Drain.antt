-- The tables that a call leaves which drains the rounds below a new bottom.
use Rattle.std.specs.Prelude.{ℕ, ◌-◌, ◌*◌, ◌≤◌, ◌≡◌, List, Bool, false, not, leb, ltb, length}
use Rattle.std.proofs.Common.{◌∙◌, ap, leb-true}
use Rattle.laws.specs.Test.{and_l, and_r}
use Rattle.spec.specs.Rules.{counts_as_started}
use Rattle.models.specs.Digest.{Fit}
use Rattle.models.specs.Tables.{Inside}
use Rattle.dag_round_keys.specs.Zero.{emptied}
use Rattle.dag_round_order.specs.Shift.{drained}
use Rattle.dag_round_keys.specs.Sorted.{Sorted}
use Rattle.commit_state.specs.declared.state.State.{State}
use Rattle.commit_state.specs.Numbers.{conf_holds, rounds_hold}
use Rattle.tables_test.specs.Model.{passed, shape_says, range_says}
use Rattle.tables_test.specs.View.{view}
use Rattle.tables_test.specs.Refines.{counted}
use Rattle.dag_round_order.specs.Span.{below}
use Rattle.commit_answer.specs.Answer.{Tables, tables}

-- how many places go with the rounds below b
abbrev pub gone : ℕ → Tables → ℕ
gone b d = below d.keys d.order d.state.count b

-- the tables without them; f: the state by the new bottom and the number of places that stay
abbrev pub drained_tables : (ℕ → ℕ → State) → ℕ → Tables → Tables
drained_tables f b d =
    let k = gone b d in
    tables (f b (d.state.count - k)) (emptied d.keys 8 d.order k) (emptied d.links 328 d.order k) (emptied d.certs 1 d.order k) (drained d.order d.state.count k)

-- the code's numbers are those of the tables
pub drained_is : (f : ℕ → ℕ → State) (b : ℕ) (d : Tables) (lowest k : ℕ) → lowest ≡ b → k ≡ below d.keys d.order d.state.count lowest → (t : State) → t ≡ f lowest (d.state.count - k) → {ks ls cs os : List ℕ}
    → ks ≡ emptied d.keys 8 d.order k → ls ≡ emptied d.links 328 d.order k → cs ≡ emptied d.certs 1 d.order k → os ≡ drained d.order d.state.count k
    → tables t ks ls cs os ≡ drained_tables f b d
drained_is f b d lowest k l g t e w x y z =
    let n : k ≡ gone b d = g ∙ ap (below d.keys d.order d.state.count) l in
    let st : t ≡ f b (d.state.count - gone b d) = e ∙ (λ j. f (l j) (d.state.count - n j)) in
    λ i. tables (st i) ((w ∙ ap (emptied d.keys 8 d.order) n) i) ((x ∙ ap (emptied d.links 328 d.order) n) i) ((y ∙ ap (emptied d.certs 1 d.order) n) i) ((z ∙ ap (drained d.order d.state.count) n) i)

-- what the code is given where the test passes
pub record Given (s : State) (ks ls cs os : List ℕ) : Type 0 where
  pub keys : length ks ≡ length os * 8
  pub links : length ls ≡ length os * 328
  pub certs : length cs ≡ length os
  pub room : s.count ≤ length os
  pub inside : Inside os s.count (length os)
  pub sorted : Sorted ks os s.count
  pub bottom : s.bottom.0 ≤ s.top.0
  pub top : s.top.0 ≤ 4_000_000_000
  pub history : s.commit_history_rounds ≤ 255
  pub deduplicate : s.deduplicate_rounds ≤ 65_535

pub given : (s : State) (ks ls cs os : List ℕ) → Fit ks → Fit ls → (c : Bool) → c ≡ counts_as_started (view s ks ls cs os) → not c ≡ false → Given s ks ls cs os
unfolding rounds_hold conf_holds
given s ks ls cs os fk fl c e h =
    let t = counted s ks ls cs os fk fl (passed _ _ e h) in
    let (k, l, m) = shape_says ks ls cs os t.shaped in
    let r = range_says s.genesis.0 s.bottom.0 s.top.0 (and_l _ _ t.rounds_ok) in
    let u = and_r (ltb 0 s.commit_history_rounds) _ t.conf_ok in
    record {
      keys = k;
      links = l;
      certs = m;
      room = t.count_ok;
      inside = t.facts.inside;
      sorted = t.facts.sorted;
      bottom = r.0;
      top = r.1;
      history = leb-true _ _ (and_l _ _ u);
      deduplicate = leb-true _ _ (and_r (leb s.commit_history_rounds 255) _ u);
    }
