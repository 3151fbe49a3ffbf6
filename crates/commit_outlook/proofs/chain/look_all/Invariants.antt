use Rattle.commit_outlook.specs.Chain.{Looking}
use Rattle.commit_outlook.proofs.chain.look_all.Given as goal

abbrev pub invariant-loop-k : goal.invariant-loop-k
invariant-loop-k l = Looking l.dag.state.now l.dag.keys.now l.dag.links.now l.dag.certs.now l.dag.order.now l.list l.count l.room l.taken l.left l.k
