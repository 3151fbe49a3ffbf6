use mathlib.Core.Path.{refl, ap}
use Rattle.trace.specs.Kinds as kind
use Rattle.trace.specs.Kinds.{kind_of}
use Rattle.trace.specs.Fields.{call_by}
use Rattle.play_calls.specs.Calls.{model_by}
use Rattle.play.specs.Plays.{makes_call, still_yes}
use Rattle.play.specs.Sized.{outlook_long}
use borrow.Author.Rules.{rules}
use Rattle.play.proofs.one.play_known.Goals as goal

pub play_outlook-requires : goal.play_outlook-requires
play_outlook-requires c = outlook_long _ _ c.requires c.if-kind-eq-OUTLOOK.true

pub returns-then-kind-eq-OUTLOOK : goal.returns-then-kind-eq-OUTLOOK
unfolding call_by model_by kind_of
returns-then-kind-eq-OUTLOOK c = record { makes = makes_call _ kind.Outlook _ _ _ _ _ (ap kind_of c.if-kind-eq-OUTLOOK.true) _ _ _ _ refl c.play_outlook.ensures; still = still_yes _ kind.Outlook _ _ (ap kind_of c.if-kind-eq-OUTLOOK.true) refl }
