use Rattle.info_store.specs.Model.{target_below, target_none, target_found}
use Rattle.info_store.proofs.target_word.Goals as goal

pub returns-then-round-bottom : goal.returns-then-round-bottom
returns-then-round-bottom c = target_below _ _ _ _ _ _ _ c.if-round-bottom.true

pub returns-then-n-at : goal.returns-then-n-at
returns-then-n-at c = target_none _ _ _ _ _ _ _ _ c.if-round-bottom.false c.find_link-at.ensures c.if-n-at.true

pub returns : goal.returns
returns c = target_found _ _ _ _ _ _ _ _ _ c.if-round-bottom.false c.find_link-at.ensures c.if-n-at.false c.place-q.ensures.value
