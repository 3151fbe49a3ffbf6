use mathlib.Core.Path.{refl}
use Rattle.inspector_counters.specs.Tests.{inspect_by, inspect_by_lem}
use Rattle.inspector_counters.proofs.tests.Version.inspect.Goals as goal

pub returns-in-Resolved : goal.returns-in-Resolved
unfolding inspect_by
returns-in-Resolved c = inspect_by_lem c.args.self _ _ refl c.in-Resolved.is _ c.inspect_case.ensures

pub returns-in-Named : goal.returns-in-Named
unfolding inspect_by
returns-in-Named c = inspect_by_lem c.args.self _ _ refl c.in-Named.is _ c.new.ensures

pub returns-in-Never : goal.returns-in-Never
unfolding inspect_by
returns-in-Never c = inspect_by_lem c.args.self _ _ refl c.in-Never.is _ c.new-in-Never.ensures
