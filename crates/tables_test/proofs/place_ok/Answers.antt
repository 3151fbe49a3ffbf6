use Rattle.tables_test.specs.Model.{place_ok, chain_no, chain-yes, id_by}
use Rattle.tables_test.proofs.place_ok.Goals as goal

pub returns-then-not-id_holds : goal.returns-then-not-id_holds
unfolding place_ok
returns-then-not-id_holds c = chain_no _ _ _ (id_by _ _ _ _ _ _ _ _ c.round_word-round.ensures c.author-author.ensures c.id_holds.ensures) c.if-not-id_holds.true-raw

pub returns-then-not-live_right : goal.returns-then-not-live_right
unfolding place_ok
returns-then-not-live_right c = chain-yes _ _ _ _ (id_by _ _ _ _ _ _ _ _ c.round_word-round.ensures c.author-author.ensures c.id_holds.ensures) c.if-not-id_holds.false-raw (chain_no _ _ _ c.live_right.ensures c.if-not-live_right.true-raw)

pub returns-then-not-bare_one : goal.returns-then-not-bare_one
unfolding place_ok
returns-then-not-bare_one c = chain-yes _ _ _ _ (id_by _ _ _ _ _ _ _ _ c.round_word-round.ensures c.author-author.ensures c.id_holds.ensures) c.if-not-id_holds.false-raw (chain-yes _ _ _ _ c.live_right.ensures c.if-not-live_right.false-raw (chain_no _ _ _ c.bare_one.ensures c.if-not-bare_one.true-raw))

pub returns : goal.returns
unfolding place_ok
returns c = chain-yes _ _ _ _ (id_by _ _ _ _ _ _ _ _ c.round_word-round.ensures c.author-author.ensures c.id_holds.ensures) c.if-not-id_holds.false-raw (chain-yes _ _ _ _ c.live_right.ensures c.if-not-live_right.false-raw (chain-yes _ _ _ _ c.bare_one.ensures c.if-not-bare_one.false-raw c.words_one.ensures))
