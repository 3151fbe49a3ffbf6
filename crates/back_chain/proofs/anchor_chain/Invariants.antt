use Prim.Native.Nat.{◌≤◌, ◌+◌}
use mathlib.Core.Path.{◌≡◌}
use mathlib.Core.List.{[]}
use lib.ListN.{length}
use Rattle.back_chain.specs.Chain.{chain_of}
use Rattle.back_chain.specs.RefinesWalk.{walked}
use Rattle.back_chain.proofs.anchor_chain.Given as goal

abbrev pub invariant-loop-k : goal.invariant-loop-k
invariant-loop-k l =
    (l.count + l.k ≤ l.span) × (length l.list ≡ 512) × (walked l.dag.state.now l.dag.keys.now l.dag.links.now l.dag.certs.now l.dag.order.now l.low.0 l.k l.sought (chain_of l.list l.count) ≡ walked l.dag.state.now l.dag.keys.now l.dag.links.now l.dag.certs.now l.dag.order.now l.low.0 l.span l.initial.sought [])
