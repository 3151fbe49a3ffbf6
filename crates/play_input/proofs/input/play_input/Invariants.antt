use Rattle.std.proofs.Common.{◌≡◌, ◌≤◌, [], length, take}
use Rattle.commit_state.specs.Back.{unstarted_state}
use Rattle.commit_answer.specs.Answer.{tables}
use Rattle.play_calls.specs.Room.{zeros}
use Rattle.play_input.specs.Fed.{Fed}
use Rattle.play_input.proofs.input.play_input.Given as goal

abbrev pub invariant-loop : goal.invariant-loop
invariant-loop l =
    (l.held ≤ length l.input) × (length l.initial.answer ≤ 4096)
    × (length l.keys ≡ length l.initial.keys) × (length l.links ≡ length l.initial.links) × (length l.certs ≡ length l.initial.certs) × (length l.order ≡ length l.initial.order) × (length l.answer ≡ length l.initial.answer) × (length l.input ≡ length l.initial.input) × (length l.out ≡ length l.initial.out)
    × Fed l.bench (zeros (length l.initial.answer)) (length l.initial.input) [] 0 (tables unstarted_state l.initial.keys l.initial.links l.initial.certs l.initial.order) (tables l.now l.keys l.links l.certs l.order) l.base l.code l.more (take l.held l.input)
