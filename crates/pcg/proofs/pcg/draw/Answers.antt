use Rattle.std.proofs.Common.{ap, ◌∙◌, rules}
use Rattle.spec.specs.Pcg.{Generator, draw_of, output}
use Rattle.pcg.proofs.pcg.draw.Goals as goal

pub step-next-requires : goal.step-next-requires
step-next-requires c = search rules

pub output-requires : goal.output-requires
output-requires c = search rules

pub returns : goal.returns
unfolding draw_of
returns c = (c.output.ensures ∙ ap (λ (g : Generator). output g.state) c.step-next.ensures, c.step-next.ensures)
