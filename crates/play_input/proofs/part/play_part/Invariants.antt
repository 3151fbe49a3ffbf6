use Rattle.std.proofs.Common.{◌≡◌, ℕ, ◌+◌, ◌-◌, ◌<◌, ◌≤◌, length, sym, refl, ◌∙◌, inl, inr, arith, rules}
use Rattle.commit_answer.specs.Answer.{tables}
use Rattle.trace.specs.Head.{least_left}
use Rattle.play_calls.specs.Room.{zeros}
use Rattle.play_input.specs.Steps.{Parts, part_none, part-more, part_stays}
use Rattle.play_input.proofs.part.play_part.Given as goal

abbrev pub invariant-loop-at : goal.invariant-loop-at
invariant-loop-at l =
    (l.n ≡ length l.bytes) × (l.at ≤ l.n) × (l.code ≡ 0) × (l.least ≡ least_left l.last) × (l.size ≡ length l.out) × (l.put ≤ l.size) × (l.most ≡ length l.initial.b + 19) × (length l.initial.b ≤ 4096)
    × (length l.keys ≡ length l.initial.keys) × (length l.links ≡ length l.initial.links) × (length l.certs ≡ length l.initial.certs) × (length l.order ≡ length l.initial.order) × (length l.b ≡ length l.initial.b) × (length l.out ≡ length l.initial.out)
    × Parts l.bench (zeros (length l.initial.b)) l.bytes (tables l.initial.now l.initial.keys l.initial.links l.initial.certs l.initial.order) l.at (tables l.now l.keys l.links l.certs l.order) l.initial.out l.put l.out

abbrev pub decreases-loop-at : goal.decreases-loop-at
decreases-loop-at l = l.n - l.at
