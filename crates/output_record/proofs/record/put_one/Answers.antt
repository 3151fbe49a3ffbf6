use Prim.Native.Nat.{◌-◌}
use mathlib.Core.Path.{ap}
use native.Mathlib.Omega.{arith}
use lib.ListN.{length}
use borrow.Author.Rules.{rules}
use Rattle.output_record.specs.Model.{wrote_is}
use Rattle.output_record.specs.Listed.{span_run, counted, counted_list, counted_out}
use Rattle.output_record.proofs.record.put_one.Goals as goal

pub span_at-span-requires : goal.span_at-span-requires
span_at-span-requires c = let h = c.requires.round_listed.0 in record { keys_len = search rules; sorted = search rules }

pub count_linked-count-requires : goal.count_linked-count-requires
count_linked-count-requires c = span_run _ _ _ _ _ _ _ _ c.requires.round_listed.0 _ c.span_at-span.ensures

pub overflow_sub-from : goal.overflow_sub-from
overflow_sub-from c =
    let a = c.args in
    let h = c.requires.round_listed.0 in
    omega (arith, counted a.keys.now a.order.now a.n a.certs.now a.marks.now a.lists.now a.end a.round.0 h _ c.span_at-span.ensures _ c.count_linked-count.ensures, h.long)

pub put_round-points-requires : goal.put_round-points-requires
put_round-points-requires c =
    let a = c.args in
    let p = c.requires in
    let h = p.round_listed.0 in
    let is = c.span_at-span.ensures in
    let e = c.count_linked-count.ensures in
    let k = counted a.keys.now a.order.now a.n a.certs.now a.marks.now a.lists.now a.end a.round.0 h _ is _ e in
    let out = ap length (counted_out a.keys.now a.order.now a.n a.certs.now a.marks.now a.lists.now a.end a.round.0 h _ is _ e) in record { n_in_bounds = (omega (arith, k, h.long, h.within), counted_list _ _ _ _ _ _ _ _ h _ is _ e, omega (arith, h.tables.words, h.tables.keys), h.tables.words, h.tables.places, p.round_listed.1); run = (span_run _ _ _ _ _ _ _ _ h _ is, e); room = (omega (arith, out, p.room.0), omega (arith, out, p.room.1)) }

pub returns : goal.returns
returns c =
    let a = c.args in
    let h = c.requires.round_listed.0 in
    let is = c.span_at-span.ensures in
    let e = c.count_linked-count.ensures in
    (ap (λ x. a.end - x) (counted _ _ _ _ _ _ _ _ h _ is _ e), wrote_is _ _ _ _ _ _ _ _ _ _ (counted_out _ _ _ _ _ _ _ _ h _ is _ e) c.put_round-points.ensures)
