use mathlib.Core.Path.{sym, ◌∙◌}
use Rattle.back_committable.specs.Scan.{sooner-first, sooner-same, sooner_kept}
use Rattle.back_committable.specs.ModelPoints.{round_of_lem}
use Rattle.back_committable.proofs.fault.sooner.Goals as goal

pub returns-then-found-none : goal.returns-then-found-none
returns-then-found-none c = sooner-first _ _ _ _ c.if-found-none.true

pub returns-then-u-v : goal.returns-then-u-v
returns-then-u-v c = sooner-same _ _ _ _ c.if-found-none.false (sym (round_of_lem _ _ _ _ c.place-i.ensures.value) ∙ (sym c.round_word-u.ensures ∙ (c.if-u-v.true ∙ (c.round_word-v.ensures ∙ round_of_lem _ _ _ _ c.place-j.ensures.value))))

pub returns : goal.returns
returns c = sooner_kept _ _ _ _ c.if-found-none.false (λ e. c.if-u-v.false (c.round_word-u.ensures ∙ (round_of_lem _ _ _ _ c.place-i.ensures.value ∙ (e ∙ (sym (round_of_lem _ _ _ _ c.place-j.ensures.value) ∙ sym c.round_word-v.ensures)))))
