use Rattle.info_checks.specs.Dangling.{dangling-below, dangling_by}
use Rattle.info_checks.proofs.is_dangling.Goals as goal

pub returns-then-round-bottom : goal.returns-then-round-bottom
returns-then-round-bottom c = dangling-below _ _ _ _ _ _ _ c.if-round-bottom.true

pub returns : goal.returns
returns c = dangling_by _ _ _ _ _ _ _ _ c.if-round-bottom.false c.find_link-at.ensures
