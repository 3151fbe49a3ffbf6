use mathlib.Core.Path.{◌≡◌}
use lib.ListN.{length}
use Rattle.commit_dequeue.specs.All.{Going}
use Rattle.commit_dequeue.proofs.all.commit_all.Given as goal

abbrev pub invariant-loop-k : goal.invariant-loop-k
invariant-loop-k l =
    (length l.certs ≡ length l.initial.certs) × (length l.b ≡ length l.initial.b) × Going l.keys l.links l.order l.initial.cur l.initial.certs l.lists l.initial.b l.list l.count l.cur l.certs l.from l.b l.end l.finished l.k
