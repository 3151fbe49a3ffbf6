use Rattle.std.proofs.Common.{rules}
use Rattle.dag_round_keys.proofs.Parts.{part_inside}
use Rattle.dag_round_keys.proofs.inside.Goals as goal

pub returns : goal.returns
returns c = part_inside c.args.order.now c.args.n c.args.places c.all.result c.requires (search rules)
