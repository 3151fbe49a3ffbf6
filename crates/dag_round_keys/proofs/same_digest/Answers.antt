use Rattle.dag_round_keys.proofs.Parts.{part_same}
use Rattle.dag_round_keys.proofs.same_digest.Goals as goal

pub returns : goal.returns
returns c =
    let a = c.args in
    part_same a.a.now a.b.now a.i a.j c.requires.0 c.requires.1 (λ p. (c.type_inv.a p).fits) (λ p. (c.type_inv.b p).fits) c.eq.result c.eq.ensures
