use Rattle.dag_round_keys.proofs.Parts.{part_before}
use Rattle.dag_round_keys.proofs.digest_less.Goals as goal

pub returns : goal.returns
returns c =
    let a = c.args in
    part_before a.a.now a.b.now a.i a.j c.requires.0 c.requires.1 (λ p. (c.type_inv.a p).fits) (λ p. (c.type_inv.b p).fits) c.lt.result c.lt.ensures
