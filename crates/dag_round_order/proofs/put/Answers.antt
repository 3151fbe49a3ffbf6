use Prim.Native.Nat.{ℕ, ◌≤◌}
use mathlib.Core.Path.{ap, ◌∙◌}
use Rattle.dag_round_keys.specs.Key.{key}
use Rattle.dag_round_keys.specs.Sorted.{place-le}
use Rattle.dag_round_order.specs.Shift.{inserted}
use borrow.Author.Rules.{rules}
use Rattle.dag_round_order.proofs.put.Goals as goal

-- The position is looked up before the words are written.
pub insert-requires : goal.insert-requires
insert-requires c =
    let a = c.args in
    let f = c.seek-at in
    let h : f.result ≤ a.n = rw f.ensures (place-le a.keys.now a.order.now a.n (key a.id.now 0)) in
    search rules

pub returns : goal.returns
returns c =
    let a = c.args in
    record { words = c.copy_words.ensures; order = c.insert.ensures ∙ ap (λ (at : ℕ). inserted a.order.now a.n at a.s) c.seek-at.ensures }
