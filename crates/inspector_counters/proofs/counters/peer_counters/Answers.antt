use Rattle.inspector_counters.specs.Counters.{assembled_is}
use Rattle.inspector_counters.proofs.counters.peer_counters.Goals as goal

pub returns : goal.returns
returns c =
    let fits = c.ranges.references.fits in
    assembled_is _ _ _ _ _ _ _ _ fits c.one_if.ensures c.one_if-2.ensures c.one_if-3.ensures c.less_one.ensures c.add_references_skipped.ensures
