use mathlib.Core.Path.{refl}
use Rattle.inspector_inspect.specs.Inspected.{peers_none, peers_more, peers_end}
use borrow.Author.Rules.{rules}
use Rattle.inspector_inspect.proofs.inspect.counters_of.Goals as goal

pub loop-a-init : goal.loop-a-init
loop-a-init c = peers_none _ _ _ _ _ _

pub loop-a-preserved : goal.loop-a-preserved
loop-a-preserved c =
    let l = c.loop-a in
    peers_more _ _ _ _ _ l.a _ _ _ _ _ l.invariant c.loop-a-test.true c.is_leader-leader.ensures c.skipped_of-skipped.ensures c.peer_counters.ensures refl

pub returns : goal.returns
returns c = let l = c.loop-a in peers_end _ _ _ _ _ l.a _ l.invariant (search rules) c.loop-a-test.false
