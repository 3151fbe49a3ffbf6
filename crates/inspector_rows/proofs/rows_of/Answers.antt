use Rattle.std.proofs.Common.{◌<◌, length-take-le, arith}
use Rattle.std.proofs.lemmas.List.{get_or-take}
use Rattle.inspector_rows.specs.Rows.{stacked-none, stacked-more, stacked_end}
use borrow.Author.Rules.{rules}
use Rattle.inspector_rows.proofs.rows_of.Goals as goal

pub loop-k-init : goal.loop-k-init
loop-k-init c = stacked-none _ _

pub loop-k-preserved : goal.loop-k-preserved
loop-k-preserved c =
    let l = c.loop-k in
    let x = c.entry_row-row in
    let z = c.copy_words.ensures in
    let lt : l.k < c.args.memory.count = omega (arith, length-take-le c.args.memory.count c.args.memory.entries (search rules)) in
    stacked-more _ _ l.k l.rows _ x.result l.invariant (rw get_or-take at x.ensures) z

pub returns : goal.returns
returns c = let l = c.loop-k in let e = length-take-le c.args.memory.count c.args.memory.entries (search rules) in stacked_end _ _ l.k _ _ l.invariant (omega arith) (omega arith)
