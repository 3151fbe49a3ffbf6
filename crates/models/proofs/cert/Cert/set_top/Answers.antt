use Rattle.models.specs.Cert.{with_top}
use Rattle.models.proofs.cert.Cert.set_top.Goals as goal

-- src/cert.rt:43:5
pub returns : goal.returns
returns c = with_top c.args.self.0 c.requires
