use Rattle.trace.specs.PeerStats.{counters_are}
use Rattle.trace.proofs.peer_stats.counters_of.Goals as goal

pub returns : goal.returns
returns c =
    counters_are _ _ _
    c.short_of.ensures
    c.short_of-2.ensures
    c.short_of-3.ensures
    c.short_of-4.ensures
    c.short_of-5.ensures
    c.short_of-6.ensures
    c.short_of-7.ensures
    c.short_of-8.ensures
    c.short_of-9.ensures
