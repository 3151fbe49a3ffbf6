use Rattle.models.specs.Cert.{with_deps}
use Rattle.models.proofs.cert.Cert.set_deps.Goals as goal

-- src/cert.rt:51:5
pub returns : goal.returns
returns c = with_deps c.args.self.0 c.requires
