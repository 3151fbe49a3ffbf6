use mathlib.Core.Path.{refl}
use native.Mathlib.Omega.{arith}
use Rattle.inspector_events.specs.Told.{ready_one}
use Rattle.inspector_events.specs.Author.{single-first, single_rest, single-told}
use Rattle.inspector_events.proofs.author.emit_single.Goals as goal

pub emit_number-id-requires : goal.emit_number-id-requires
emit_number-id-requires c = (single-first _ _ _ _ _ c.requires.0, omega arith)

pub emit_id-at-requires : goal.emit_id-at-requires
emit_id-at-requires c =
    (single_rest _ _ _ _ _ _ _ c.emit_number-id.ensures c.requires.0, c.requires.1)

pub overflow_add-result : goal.overflow_add-result
overflow_add-result c = let l = (ready_one _ _ _ _ _ c.requires.0).1 in omega (arith, l)

pub returns : goal.returns
returns c =
    single-told _ _ _ _ _ _ _ _ _ c.emit_number-id.ensures c.emit_id-at.ensures refl
