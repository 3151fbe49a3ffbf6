use Rattle.commit_start.specs.Start.{begins-conf, begins-genesis, begins_bottom, begins-below, begins_used, begins_places}
use Rattle.commit_start.proofs.begins.Goals as goal

pub returns-then-not-conf_holds : goal.returns-then-not-conf_holds
returns-then-not-conf_holds c = begins-conf _ _ _ c.conf_holds.ensures c.if-not-conf_holds.true-raw

pub returns-then-genesis-gt-ROUND_MAX : goal.returns-then-genesis-gt-ROUND_MAX
returns-then-genesis-gt-ROUND_MAX c = begins-genesis _ _ _ c.conf_holds.ensures c.if-not-conf_holds.false-raw c.if-genesis-gt-ROUND_MAX.true

pub returns-then-bottom-gt-ROUND_MAX : goal.returns-then-bottom-gt-ROUND_MAX
returns-then-bottom-gt-ROUND_MAX c = begins_bottom _ _ _ c.conf_holds.ensures c.if-not-conf_holds.false-raw c.if-genesis-gt-ROUND_MAX.false c.if-bottom-gt-ROUND_MAX.true

pub returns-then-bottom-genesis : goal.returns-then-bottom-genesis
returns-then-bottom-genesis c = begins-below _ _ _ c.conf_holds.ensures c.if-not-conf_holds.false-raw c.if-genesis-gt-ROUND_MAX.false c.if-bottom-gt-ROUND_MAX.false c.if-bottom-genesis.true

pub returns-then-not-used_ok : goal.returns-then-not-used_ok
returns-then-not-used_ok c = begins_used _ _ _ c.conf_holds.ensures c.if-not-conf_holds.false-raw c.if-genesis-gt-ROUND_MAX.false c.if-bottom-gt-ROUND_MAX.false c.if-bottom-genesis.false _ c.used_ok.ensures c.if-not-used_ok.true-raw

pub returns : goal.returns
returns c = begins_places _ _ _ c.conf_holds.ensures c.if-not-conf_holds.false-raw c.if-genesis-gt-ROUND_MAX.false c.if-bottom-gt-ROUND_MAX.false c.if-bottom-genesis.false _ c.used_ok.ensures c.if-not-used_ok.false-raw _ c.places_hold.ensures
