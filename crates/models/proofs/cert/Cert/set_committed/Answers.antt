use Rattle.models.specs.Cert.{with_committed}
use Rattle.models.proofs.cert.Cert.set_committed.Goals as goal

-- src/cert.rt:58:5
pub returns : goal.returns
returns c = with_committed c.args.self.0 c.requires
