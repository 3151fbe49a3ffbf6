use Rattle.inspector_rows.specs.Must.{point_by}
use Rattle.inspector_rows.proofs.point_row.Goals as goal

pub returns : goal.returns
returns c =
    point_by _ _ _ _ _ _ _ _ _ _
    c.author-author.ensures
    c.slot-a.ensures
    c.four_words-digest.ensures
    c.target-previous.ensures
    c.four_words-signed.ensures
    c.head_word-evidence.ensures
    c.row_of.ensures
