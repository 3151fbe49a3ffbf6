use Rattle.commit_rounds.specs.Round.{round-beyond, round_last, round_old, round_full, round-new}
use Rattle.commit_rounds.proofs.check_round.Goals as goal

pub returns-then-top-round : goal.returns-then-top-round
returns-then-top-round c = search round-beyond

pub returns-then-round-gt-ROUND_MAX : goal.returns-then-round-gt-ROUND_MAX
returns-then-round-gt-ROUND_MAX c = search round_last

pub returns-then-round-top : goal.returns-then-round-top
returns-then-round-top c = search round_old

pub returns-then-top-bottom-ge-ROUND_SLOTS : goal.returns-then-top-bottom-ge-ROUND_SLOTS
returns-then-top-bottom-ge-ROUND_SLOTS c = search round_full

pub returns : goal.returns
returns c = search round-new
