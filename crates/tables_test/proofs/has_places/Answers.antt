use Rattle.tables_test.specs.Model.{product_no, product-yes}
use Rattle.tables_test.proofs.has_places.Goals as goal

-- `tables_test::has_places` meets its contract.
pub returns-then-words-width-ne0 : goal.returns-then-words-width-ne0
returns-then-words-width-ne0 c = product_no _ _ _ c.if-words-width-ne0.true

pub returns : goal.returns
returns c = product-yes _ _ _ c.requires c.if-words-width-ne0.false
