use Rattle.tables_heights.specs.Model.{blank, hold_by}
use borrow.Author.Rules.{rules}
use Rattle.tables_heights.proofs.heights_hold.Goals as goal

-- `tables_heights::heights_hold` meets its contract.
pub push_all-requires : goal.push_all-requires
push_all-requires c = record { order_len_bound = search rules; inside = c.requires.inside }

pub agree-requires : goal.agree-requires
agree-requires c = record { order_in_bounds = search rules; inside = c.requires.inside }

pub returns : goal.returns
unfolding blank
returns c = hold_by _ _ _ _ _ _ _ _ _ c.push_all.ensures c.agree.ensures
