use Rattle.tables_links.specs.Links.{blank}
use Rattle.tables_test.specs.Model.{used_by}
use Rattle.tables_test.proofs.used_ok.Goals as goal

pub returns : goal.returns
unfolding blank
returns c = used_by _ _ _ _ _ _ _ c.mark.ensures c.each_ok.ensures
