use mathlib.Core.Path.{◌∙◌, ap}
use Rattle.tables_links.specs.Links.{links_right, live_dist}
use borrow.Author.Rules.{rules}
use Rattle.tables_links.proofs.live_right.Goals as goal

pub links_right-requires : goal.links_right-requires
links_right-requires c = record { places_in_bounds = search rules; by_index = live_dist _ _ _ _ c.live_links-m.ensures.value }

pub returns : goal.returns
returns c = c.links_right.ensures ∙ ap (links_right _ _ _ _ _) c.live_links-m.ensures.value
