use Rattle.std.proofs.Common.{◌*◌, ◌-◌, ◌≡◌}
use Rattle.info_store.specs.Model.{target_of, links_put}
use Rattle.info_store.proofs.put_links.Given as goal

abbrev pub invariant-loop-j : goal.invariant-loop-j
invariant-loop-j l = l.links ≡ links_put (target_of l.s l.keys l.order l.refs l.d l.round.0) l.initial.links l.q ((l.d - 1) * 32) l.refs l.from (l.j - l.from)
