use mathlib.Core.Path.{refl, sym, subst}
use lib.ListN.{length}
use Rattle.back_behind.specs.Model.{Sourced, note_links, note_more, links_sourced}
use Rattle.back_behind.proofs.note_links.Goals as goal

pub loop-k-init : goal.loop-k-init
unfolding note_links
loop-k-init c = refl

pub note_link-requires : goal.note_link-requires
note_link-requires c =
    let p = c.requires.q_bound in
    (p.0, p.1, subst (Sourced (length c.args.keys.now)) (sym c.loop-k.invariant) (links_sourced _ _ _ p.1 _ _ _ p.2))

pub loop-k-preserved : goal.loop-k-preserved
loop-k-preserved c = note_more _ _ _ _ _ _ _ _ c.loop-k.invariant c.target.ensures c.note_link.ensures
