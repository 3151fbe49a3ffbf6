use Rattle.std.proofs.Common.{ℕ, ◌<◌, ◌≡◌, true}
use Rattle.tables_ids.specs.Model.{fits, Tallied}
use Rattle.tables_ids.proofs.count_all.Given as goal

abbrev pub invariant-loop-place : goal.invariant-loop-place
invariant-loop-place l = ((k : ℕ) → k < l.place-index → fits l.keys l.fn.order k ≡ true) × Tallied l.keys l.fn.order l.seen l.place-index
