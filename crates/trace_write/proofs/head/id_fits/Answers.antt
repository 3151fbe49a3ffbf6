use Rattle.trace_write.specs.Ids.{id_fit}
use Rattle.trace_write.proofs.head.id_fits.Goals as goal

pub returns : goal.returns
returns c = id_fit c.args.id _ c.well_formed.0
