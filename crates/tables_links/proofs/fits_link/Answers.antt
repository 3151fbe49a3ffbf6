use Rattle.tables_links.specs.Links.{fits-round, fits-author, fits_digest}
use Rattle.tables_links.proofs.fits_link.Goals as goal

pub returns-then-round_word-d : goal.returns-then-round_word-d
returns-then-round_word-d c = fits-round _ _ _ _ _ _ _ c.round_word.ensures c.round_word-2.ensures c.if-round_word-d.true

pub returns-then-author-peer : goal.returns-then-author-peer
returns-then-author-peer c = fits-author _ _ _ _ _ _ _ c.round_word.ensures c.round_word-2.ensures c.if-round_word-d.false _ c.author.ensures c.if-author-peer.true

pub returns : goal.returns
returns c = fits_digest _ _ _ _ _ _ _ c.round_word.ensures c.round_word-2.ensures c.if-round_word-d.false _ c.author.ensures c.if-author-peer.false _ c.same_digest.ensures
