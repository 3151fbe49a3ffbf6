use Rattle.commit_outlook.specs.Chain.{Putting}
use Rattle.commit_outlook.proofs.chain.put_looks.Given as goal

abbrev pub invariant-loop-k : goal.invariant-loop-k
invariant-loop-k l = Putting l.dag.state.now l.dag.keys.now l.dag.links.now l.dag.certs.now l.dag.order.now l.list l.count l.initial.b l.taken l.b l.at l.k
