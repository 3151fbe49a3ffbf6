use Rattle.back_walk.specs.Model.{used_end, used_other}
use Rattle.back_walk.proofs.at_used.Goals as goal

pub returns-then-used-author : goal.returns-then-used-author
returns-then-used-author c = used_end _ _ c.if-used-author.true

pub returns : goal.returns
returns c = used_other _ _ c.if-used-author.false
