use Rattle.tables_heights.specs.Model.{one_more}
use Rattle.tables_heights.proofs.push_one.Goals as goal

pub returns : goal.returns
returns c = one_more _ _ _ _ _ _ _ _ _ _ c.raise.ensures c.own.ensures c.push.ensures c.height.ensures
