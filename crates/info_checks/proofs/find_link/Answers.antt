use Rattle.models.specs.Tables.{inside_keys}
use Rattle.info_checks.specs.Dangling.{found_by_lem}
use borrow.Author.Rules.{rules}
use Rattle.info_checks.proofs.find_link.Goals as goal

pub find_point-requires : goal.find_point-requires
find_point-requires c =
    record { n_in_bounds = (search rules, (search rules, inside_keys c.args.keys.now c.args.order.now c.args.s.now.count c.requires.ready.0 c.requires.ready.3)); sorted = c.requires.ready.4 }

pub returns : goal.returns
returns c = found_by_lem _ _ _ _ _ _ _ _ _ c.peer.ensures c.id_at-words.ensures c.find_point.ensures
