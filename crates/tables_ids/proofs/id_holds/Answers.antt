use Rattle.tables_ids.specs.Ids.{id_below, id_above, id-author, id-peer}
use Rattle.tables_ids.proofs.id_holds.Goals as goal

pub returns-then-round-bottom : goal.returns-then-round-bottom
returns-then-round-bottom c = search id_below

pub returns-then-top-round : goal.returns-then-top-round
returns-then-top-round c = search id_above

pub returns-then-author-gt-PEER_LAST_WORD : goal.returns-then-author-gt-PEER_LAST_WORD
returns-then-author-gt-PEER_LAST_WORD c = search id-author

pub returns : goal.returns
returns c = search id-peer
