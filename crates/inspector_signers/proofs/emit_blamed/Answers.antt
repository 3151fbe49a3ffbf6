use mathlib.Core.Path.{refl}
use mathlib.Core.Bool.{false}
use native.Mathlib.Omega.{arith}
use Rattle.inspector_signers.specs.Signers.{row_ids, both_first, both-next, both-number, both-then, both_last, both_sent}
use Rattle.inspector_signers.proofs.emit_blamed.Goals as goal

pub emit_rows-then-requires : goal.emit_rows-then-requires
emit_rows-then-requires c = let p = c.requires in let a = c.args in record { n_in_bounds = p.n_in_bounds; ready = both_first _ _ _ (row_ids a.rows.now a.sets.now a.n a.last.0 a.signer false) _ p.fact _ refl refl }

pub emit_points-both-requires : goal.emit_points-both-requires
emit_points-both-requires c =
    let p = c.requires in
    let a = c.args in
    record { m_in_bounds = p.m_in_bounds; ready = both-next _ _ _ (row_ids a.rows.now a.sets.now a.n a.last.0 a.signer false) _ p.fact _ refl refl _ _ c.emit_rows-then.ensures }

pub emit_number-from-requires : goal.emit_number-from-requires
emit_number-from-requires c =
    (both-number _ _ _ _ _ c.requires.fact _ refl refl _ _ c.emit_rows-then.ensures _ _ c.emit_points-both.ensures, omega arith)

pub emit_rows-next-requires : goal.emit_rows-next-requires
emit_rows-next-requires c =
    let p = c.requires in
    let a = c.args in
    record { n_in_bounds = p.n_in_bounds; ready = both-then _ _ _ (row_ids a.rows.now a.sets.now a.n a.last.0 a.signer false) _ p.fact _ refl refl _ _ c.emit_rows-then.ensures _ _ c.emit_points-both.ensures _ _ c.emit_number-from.ensures _ refl refl }

pub emit_points-end-requires : goal.emit_points-end-requires
emit_points-end-requires c =
    let p = c.requires in
    let a = c.args in
    record { m_in_bounds = p.m_in_bounds; ready = both_last _ _ _ (row_ids a.rows.now a.sets.now a.n a.last.0 a.signer false) _ p.fact _ refl refl _ _ c.emit_rows-then.ensures _ _ c.emit_points-both.ensures _ _ c.emit_number-from.ensures _ refl refl _ _ c.emit_rows-next.ensures }

pub returns : goal.returns
returns c =
    both_sent _ _ _ _ _ c.requires.fact _ refl refl _ _ c.emit_rows-then.ensures _ _ c.emit_points-both.ensures _ _ c.emit_number-from.ensures _ refl refl _ _ c.emit_rows-next.ensures _ _ c.emit_points-end.ensures
