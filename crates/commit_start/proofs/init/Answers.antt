use mathlib.Core.Path.{refl, sym, ap, ◌∙◌}
use Rattle.commit_state.specs.Back.{begun_state}
use Rattle.commit_answer.specs.Answer.{left-same, left-refused, left-done}
use Rattle.commit_start.specs.Start.{start_did, start_ranges}
use Rattle.commit_start.proofs.init.Goals as goal

pub returns-in-Err : goal.returns-in-Err
returns-in-Err c = start_did _ _ _ (left-refused _ _ _ _ (sym c.check_start-check.ensures ∙ c.in-Err.is) _ c.refused.ensures)

pub init_state-next-requires : goal.init_state-next-requires
init_state-next-requires c = start_ranges _ _ _ _ _ _ (sym c.check_start-check.ensures ∙ c.in_default.is)

pub returns : goal.returns
returns c =
    let a = c.args in
    let k = c.clear.ensures in
    start_did _ _ _ (left-done _ _ _ (sym c.check_start-check.ensures ∙ c.in_default.is) _ (left-same refl (c.init_state-next.ensures ∙ ap (λ m. begun_state m a.with) c.kept_memory-memory.ensures) k.keys k.links k.certs k.order refl))
