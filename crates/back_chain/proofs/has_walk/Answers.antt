use Prim.Native.Nat.{ℕ, ◌/◌, ◌%◌}
use mathlib.Core.Path.{sym, ap, ◌∙◌}
use Rattle.back_chain.specs.Model.{walks_invalid, walks_unmarked, walks-genesis, walks_by}
use Rattle.back_chain.proofs.has_walk.Goals as goal

pub returns-then-not-is_valid : goal.returns-then-not-is_valid
returns-then-not-is_valid c = walks_invalid _ _ _ _ _ _ c.look_place-look.ensures _ c.is_valid.ensures c.if-not-is_valid.true-raw

pub returns-then-marks-ne1 : goal.returns-then-marks-ne1
returns-then-marks-ne1 c = walks_unmarked _ _ _ _ _ _ c.look_place-look.ensures _ c.is_valid.ensures c.if-not-is_valid.false-raw (λ e. c.if-marks-ne1.true (ap (λ (x : ℕ). x / 2 % 2) c.marks_at-marks.ensures ∙ e))

pub returns-then-round-genesis : goal.returns-then-round-genesis
returns-then-round-genesis c = walks-genesis _ _ _ _ _ _ c.look_place-look.ensures _ c.is_valid.ensures c.if-not-is_valid.false-raw (ap (λ (x : ℕ). x / 2 % 2) (sym c.marks_at-marks.ensures) ∙ c.if-marks-ne1.false) c.if-round-genesis.true

pub returns : goal.returns
returns c = walks_by _ _ _ _ _ _ c.look_place-look.ensures _ c.is_valid.ensures c.if-not-is_valid.false-raw (ap (λ (x : ℕ). x / 2 % 2) (sym c.marks_at-marks.ensures) ∙ c.if-marks-ne1.false) c.if-round-genesis.false
