use mathlib.Core.Path.{refl}
use Rattle.trace.specs.Links.{links_are}
use Rattle.play_calls.specs.Calls.{resolve_made, refs_count, refs_taken}
use borrow.Author.Rules.{rules}
use Rattle.play_calls.proofs.points.play_resolve.Goals as goal

pub overflow_add-n : goal.overflow_add-n
overflow_add-n c = search (rules, links_are _ _ c.info_of-info.ensures)

pub overflow_mul-refs : goal.overflow_mul-refs
overflow_mul-refs c = search (rules, links_are _ _ c.info_of-info.ensures)

pub slice_bounds-refs-end : goal.slice_bounds-refs-end
slice_bounds-refs-end c = search (rules, links_are _ _ c.info_of-info.ensures)

pub slice_bounds-resolve-end : goal.slice_bounds-resolve-end
slice_bounds-resolve-end c = refs_count _ _ _ _ c.refs_of.ensures refl c.info_of-info.ensures c.requires.f_bound

pub returns : goal.returns
returns c = resolve_made _ _ _ _ _ c.id_of-id.ensures _ _ c.info_of-info.ensures (refs_taken _ _ _ _ c.refs_of.ensures refl c.info_of-info.ensures c.requires.f_bound) c.resolve.ensures
