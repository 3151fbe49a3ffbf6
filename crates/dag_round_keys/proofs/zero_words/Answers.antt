use Rattle.std.proofs.Common.{arith}
use Rattle.std.proofs.lemmas.List.{places}
use Rattle.dag_round_keys.proofs.Parts.{part_filled}
use Rattle.dag_round_keys.proofs.zero_words.Goals as goal

pub returns : goal.returns
returns c =
    let a = c.args in
    part_filled a.t.now c.fill.new.self a.from a.n _ c.requires (omega arith) (grind (arith, places)) _ (λ i l. grind (arith, places))
