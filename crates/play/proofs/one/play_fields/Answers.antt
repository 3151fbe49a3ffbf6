use mathlib.Core.Path.{refl, ap}
use Rattle.trace.specs.Kinds as kind
use Rattle.trace.specs.Kinds.{kind_of, kind-none}
use Rattle.trace.specs.Fields.{call_by}
use Rattle.play_calls.specs.Calls.{model_by}
use Rattle.play.specs.Plays.{makes_call, makes_none, still_yes}
use Rattle.play.specs.Sized.{start_long, round_long, name_long, resolve_long, resolve-few, certify_long, commit_long, remove_long, drop_long}
use borrow.Author.Rules.{rules}
use Rattle.play.proofs.one.play_fields.Goals as goal

pub play_start-requires : goal.play_start-requires
play_start-requires c = start_long _ _ c.requires.0 c.in-1.is

pub play_round-requires : goal.play_round-requires
play_round-requires c = round_long _ _ c.requires.0 c.in-2.is

pub play_name-requires : goal.play_name-requires
play_name-requires c = name_long _ _ c.requires.0 c.in-3.is

pub play_resolve-requires : goal.play_resolve-requires
play_resolve-requires c = record { f_in_bounds = resolve_long _ _ c.requires.0 c.in-4.is; f_bound = resolve-few _ _ c.requires.0 c.in-4.is }

pub play_certify-requires : goal.play_certify-requires
play_certify-requires c = certify_long _ _ c.requires.0 c.in-5.is

pub play_commit-requires : goal.play_commit-requires
play_commit-requires c = commit_long _ _ c.requires.0 c.in-6.is

pub play_remove-requires : goal.play_remove-requires
play_remove-requires c = remove_long _ _ c.requires.0 c.in-7.is

pub play_drop-requires : goal.play_drop-requires
play_drop-requires c = drop_long _ _ c.requires.0 c.in-8.is

pub returns-in-1 : goal.returns-in-1
unfolding call_by model_by kind_of
returns-in-1 c = record { makes = makes_call _ kind.Start _ _ _ _ _ (ap kind_of c.in-1.is) _ _ _ _ refl c.play_start.ensures; still = (λ _. refl) }

pub returns-in-2 : goal.returns-in-2
unfolding call_by model_by kind_of
returns-in-2 c = record { makes = makes_call _ kind.Round _ _ _ _ _ (ap kind_of c.in-2.is) _ _ _ _ refl c.play_round.ensures; still = (λ _. refl) }

pub returns-in-3 : goal.returns-in-3
unfolding call_by model_by kind_of
returns-in-3 c = record { makes = makes_call _ kind.Name _ _ _ _ _ (ap kind_of c.in-3.is) _ _ _ _ refl c.play_name.ensures; still = (λ _. refl) }

pub returns-in-4 : goal.returns-in-4
unfolding call_by model_by kind_of
returns-in-4 c = record { makes = makes_call _ kind.Resolve _ _ _ _ _ (ap kind_of c.in-4.is) _ _ _ _ refl c.play_resolve.ensures; still = (λ _. refl) }

pub returns-in-5 : goal.returns-in-5
unfolding call_by model_by kind_of
returns-in-5 c = record { makes = makes_call _ kind.Certify _ _ _ _ _ (ap kind_of c.in-5.is) _ _ _ _ refl c.play_certify.ensures; still = (λ _. refl) }

pub returns-in-6 : goal.returns-in-6
unfolding call_by model_by kind_of
returns-in-6 c = record { makes = makes_call _ kind.Commit _ _ _ _ _ (ap kind_of c.in-6.is) _ _ _ _ refl c.play_commit.ensures; still = still_yes _ kind.Commit _ _ (ap kind_of c.in-6.is) refl }

pub returns-in-7 : goal.returns-in-7
unfolding call_by model_by kind_of
returns-in-7 c = record { makes = makes_call _ kind.Remove _ _ _ _ _ (ap kind_of c.in-7.is) _ _ _ _ refl c.play_remove.ensures; still = still_yes _ kind.Remove _ _ (ap kind_of c.in-7.is) refl }

pub returns-in-8 : goal.returns-in-8
unfolding call_by model_by kind_of
returns-in-8 c = record { makes = makes_call _ kind.Drop _ _ _ _ _ (ap kind_of c.in-8.is) _ _ _ _ refl c.play_drop.ensures; still = (λ _. refl) }

pub returns-in-9 : goal.returns-in-9
unfolding call_by model_by kind_of
returns-in-9 c = record { makes = makes_call _ kind.Gap _ _ _ _ _ (ap kind_of c.in-9.is) _ _ _ _ refl c.is_once_after_gap.ensures; still = (λ _. refl) }

pub returns-in-10 : goal.returns-in-10
unfolding call_by model_by kind_of
returns-in-10 c = record { makes = makes_call _ kind.Reset _ _ _ _ _ (ap kind_of c.in-10.is) _ _ _ _ refl c.reset.ensures; still = (λ _. refl) }

pub returns-in_default : goal.returns-in_default
returns-in_default c = record { makes = makes_none _ kind.Broken _ _ _ _ _ (kind-none _ c.in_default.in_default-own.rest.0.0.0.0.0.0.0.0.0.1 c.in_default.in_default-own.rest.0.0.0.0.0.0.0.0.1 c.in_default.in_default-own.rest.0.0.0.0.0.0.0.1 c.in_default.in_default-own.rest.0.0.0.0.0.0.1 c.in_default.in_default-own.rest.0.0.0.0.0.1 c.in_default.in_default-own.rest.0.0.0.0.1 c.in_default.in_default-own.rest.0.0.0.1 c.in_default.in_default-own.rest.0.0.1 c.in_default.in_default-own.rest.0.1 c.in_default.in_default-own.rest.1 c.requires.1) refl c.unmade.ensures; still = λ _. refl }
