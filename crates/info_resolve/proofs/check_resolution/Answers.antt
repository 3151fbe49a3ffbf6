use mathlib.Core.Path.{refl, sym, ap, ◌∙◌}
use Rattle.models.specs.Refusal.{numbered}
use native.Mathlib.Omega.{arith}
use Rattle.info_resolve.specs.Model.{info_resolved, info_unformed, info_links, info_shaped, first-dangling, next-dangling, none-dangling}
use Rattle.info_resolve.proofs.check_resolution.Goals as goal

pub returns-then-word-ne0 : goal.returns-then-word-ne0
unfolding numbered
returns-then-word-ne0 c =
    let a = c.args in
    ap numbered (info_resolved a.s.now a.keys.now a.order.now a.q a.info a.refs.now (λ e. c.if-word-ne0.true (c.status-word.ensures ∙ e)))

pub returns-then-not-well_formed : goal.returns-then-not-well_formed
unfolding numbered
returns-then-not-well_formed c =
    let a = c.args in
    ap numbered (info_unformed a.s.now a.keys.now a.order.now a.q a.info a.refs.now _ c.requires.q_in_bounds.1 (sym c.status-word.ensures ∙ c.if-word-ne0.false) _ c.well_formed-2.ensures c.if-not-well_formed.true-raw)

pub any_dangling-requires : goal.any_dangling-requires
any_dangling-requires c =
    let a = c.args in
    let (i, w, e) = info_shaped a.s.now a.keys.now a.order.now a.q a.info a.refs.now _ c.requires.q_in_bounds.1 (sym c.status-word.ensures ∙ c.if-word-ne0.false) _ c.well_formed-2.ensures c.if-not-well_formed.false-raw in
    record { ready = c.requires.ready; m_in_bounds = (omega arith, omega arith) }

pub returns-then-any_dangling : goal.returns-then-any_dangling
unfolding numbered
returns-then-any_dangling c =
    let a = c.args in
    ap numbered (first-dangling _ _ c.if-any_dangling.true ∙ info_links a.s.now a.keys.now a.order.now a.q a.info a.refs.now _ c.requires.q_in_bounds.1 (sym c.status-word.ensures ∙ c.if-word-ne0.false) _ c.well_formed-2.ensures c.if-not-well_formed.false-raw _ _ c.any_dangling.ensures refl)

pub any_dangling-requires-2 : goal.any_dangling-requires-2
any_dangling-requires-2 c =
    let a = c.args in
    let (i, w, e) = info_shaped a.s.now a.keys.now a.order.now a.q a.info a.refs.now _ c.requires.q_in_bounds.1 (sym c.status-word.ensures ∙ c.if-word-ne0.false) _ c.well_formed-2.ensures c.if-not-well_formed.false-raw in
    record { ready = c.requires.ready; m_in_bounds = (omega arith, omega arith) }

pub returns-then-any_dangling-2 : goal.returns-then-any_dangling-2
unfolding numbered
returns-then-any_dangling-2 c =
    let a = c.args in
    ap numbered (next-dangling _ _ c.if-any_dangling.false c.if-any_dangling-2.true ∙ info_links a.s.now a.keys.now a.order.now a.q a.info a.refs.now _ c.requires.q_in_bounds.1 (sym c.status-word.ensures ∙ c.if-word-ne0.false) _ c.well_formed-2.ensures c.if-not-well_formed.false-raw _ _ c.any_dangling.ensures c.any_dangling-2.ensures)

pub returns : goal.returns
unfolding numbered
returns c =
    let a = c.args in
    ap numbered (none-dangling _ _ c.if-any_dangling.false c.if-any_dangling-2.false ∙ info_links a.s.now a.keys.now a.order.now a.q a.info a.refs.now _ c.requires.q_in_bounds.1 (sym c.status-word.ensures ∙ c.if-word-ne0.false) _ c.well_formed-2.ensures c.if-not-well_formed.false-raw _ _ c.any_dangling.ensures c.any_dangling-2.ensures)
