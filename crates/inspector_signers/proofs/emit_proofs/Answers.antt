use mathlib.Core.Path.{refl}
use native.Mathlib.Omega.{arith}
use Rattle.inspector_signers.specs.Signers.{count_ready, list_number, list_ready, list_sent}
use Rattle.inspector_signers.proofs.emit_proofs.Goals as goal

pub emit_rows-counted-requires : goal.emit_rows-counted-requires
emit_rows-counted-requires c = let p = c.requires in record { n_in_bounds = p.n_in_bounds; ready = count_ready _ _ _ _ p.fact _ refl refl }

pub emit_number-from-requires : goal.emit_number-from-requires
emit_number-from-requires c = (list_number _ _ _ _ c.requires.fact _ _ _ refl c.emit_rows-counted.ensures, omega arith)

pub emit_rows-end-requires : goal.emit_rows-end-requires
emit_rows-end-requires c =
    let p = c.requires in
    record { n_in_bounds = p.n_in_bounds; ready = list_ready _ _ _ _ p.fact _ _ _ refl c.emit_rows-counted.ensures _ _ c.emit_number-from.ensures _ refl refl }

pub returns : goal.returns
returns c =
    list_sent _ _ _ _ c.requires.fact _ _ _ refl c.emit_rows-counted.ensures _ _ c.emit_number-from.ensures _ _ _ refl c.emit_rows-end.ensures
