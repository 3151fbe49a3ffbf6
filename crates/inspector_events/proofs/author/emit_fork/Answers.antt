use mathlib.Core.Path.{refl}
use native.Mathlib.Omega.{arith}
use Rattle.inspector_events.specs.Author.{digests-count, fork_none, fork_count, fork_kind, fork_author, fork_round, fork_number, fork_digests, fork_told}
use borrow.Author.Rules.{rules}
use Rattle.inspector_events.proofs.author.emit_fork.Goals as goal

pub emit_number-a1-requires : goal.emit_number-a1-requires
emit_number-a1-requires c =
    let p = c.requires in
    (fork_kind _ _ _ _ _ _ _ (digests-count _ _ _ _ _ _ _ p.found_value) c.if-found-gt1.true p.ready, omega arith)

pub emit_number-a2-requires : goal.emit_number-a2-requires
emit_number-a2-requires c =
    let p = c.requires in
    (fork_author _ _ _ _ _ _ _ (digests-count _ _ _ _ _ _ _ p.found_value) c.if-found-gt1.true p.ready _ _ c.emit_number-a1.ensures, omega arith)

pub emit_number-a3-requires : goal.emit_number-a3-requires
emit_number-a3-requires c =
    let p = c.requires in
    (fork_round _ _ _ _ _ _ _ (digests-count _ _ _ _ _ _ _ p.found_value) c.if-found-gt1.true p.ready _ _ c.emit_number-a1.ensures _ _ c.emit_number-a2.ensures, omega arith)

pub emit_number-a4-requires : goal.emit_number-a4-requires
emit_number-a4-requires c =
    let p = c.requires in
    (fork_number _ _ _ _ _ _ _ (digests-count _ _ _ _ _ _ _ p.found_value) c.if-found-gt1.true p.ready _ _ c.emit_number-a1.ensures _ _ c.emit_number-a2.ensures _ _ c.emit_number-a3.ensures, omega arith)

pub emit_digests-digests-requires : goal.emit_digests-digests-requires
emit_digests-digests-requires c =
    let p = c.requires in
    record { range = p.range; ready = fork_digests _ _ _ _ _ _ _ (digests-count _ _ _ _ _ _ _ p.found_value) c.if-found-gt1.true p.ready _ _ c.emit_number-a1.ensures _ _ c.emit_number-a2.ensures _ _ c.emit_number-a3.ensures _ _ c.emit_number-a4.ensures _ refl refl (search rules) }

pub overflow_add-result : goal.overflow_add-result
overflow_add-result c =
    let p = c.requires in
    let l = fork_count _ _ _ _ _ _ _ (digests-count _ _ _ _ _ _ _ p.found_value) c.if-found-gt1.true p.ready in
    omega (arith, l)

pub returns-then-found-gt1 : goal.returns-then-found-gt1
returns-then-found-gt1 c =
    let p = c.requires in
    fork_told _ _ _ _ _ _ _ (digests-count _ _ _ _ _ _ _ p.found_value) c.if-found-gt1.true p.ready _ _ c.emit_number-a1.ensures _ _ c.emit_number-a2.ensures _ _ c.emit_number-a3.ensures _ _ c.emit_number-a4.ensures _ _ _ _ refl c.emit_digests-digests.ensures refl refl

pub returns : goal.returns
returns c = let p = c.requires in fork_none _ _ _ _ _ _ _ (digests-count _ _ _ _ _ _ _ p.found_value) c.if-found-gt1.false
