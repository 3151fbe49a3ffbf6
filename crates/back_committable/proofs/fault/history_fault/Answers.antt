use Rattle.back_committable.specs.ModelPoints.{round-fits, found_none, found_at}
use borrow.Author.Rules.{rules}
use Rattle.back_committable.proofs.fault.history_fault.Goals as goal

-- src/fault.rt:125:9
pub returns-then-high-p : goal.returns-then-high-p
returns-then-high-p c = found_none _ _ _ _ _ _ _ c.first_fault-p.ensures c.if-high-p.true

-- src/fault.rt:128:5
pub committable_point-requires : goal.committable_point-requires
committable_point-requires c =
    let a = c.args in
    (search rules, round-fits a.keys.now a.order.now a.high _ _ c.requires.keys_len.1 c.if-high-p.false c.place-q.ensures.value, search rules)

-- src/fault.rt:111:1
pub returns : goal.returns
returns c = found_at _ _ _ _ _ _ _ c.first_fault-p.ensures c.if-high-p.false _ c.place-q.ensures.value _ c.committable_point.ensures
