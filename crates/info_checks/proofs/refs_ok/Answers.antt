use mathlib.Core.Path.{sym, ◌∙◌}
use borrow.Author.Tests.{not-true, not-false}
use Rattle.info_checks.specs.Form.{kind-falls, kind-near, kind_far}
use Rattle.info_checks.proofs.refs_ok.Goals as goal

pub returns-then-not-rises : goal.returns-then-not-rises
returns-then-not-rises c = kind-falls _ _ _ _ _ c.requires.m_bound (sym c.rises.ensures ∙ not-true _ c.if-not-rises.true-raw)

pub returns-then-d-round : goal.returns-then-d-round
returns-then-d-round c = kind-near _ _ _ _ _ c.requires.m_bound (sym c.rises.ensures ∙ not-false _ c.if-not-rises.false-raw) c.if-d-round.true

pub returns : goal.returns
returns c = kind_far _ _ _ _ _ c.requires.m_bound (sym c.rises.ensures ∙ not-false _ c.if-not-rises.false-raw) c.if-d-round.false
