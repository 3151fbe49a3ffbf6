use Rattle.std.proofs.Common.{◌≡◌, ℕ, ◌+◌, ◌≤◌, sym, ◌∙◌, arith, rules}
use Rattle.play_input.specs.Steps.{step-holds, step_bench, step_lines}
use Rattle.play_input.proofs.step.play_step.Goals as goal

-- room for lines, as the buffers' lengths stay
room-less : (a b l : ℕ) → a + b + 19 ≤ l → a ≤ l
room-less a b l h = omega arith

same-room : (a b c l : ℕ) → c ≡ b → a + b + 19 ≤ l → a + c + 19 ≤ l
same-room a b c l e h = omega arith

put-less : (a b c l m r : ℕ) → c ≡ b → m ≡ l → a + b + 19 ≤ l → r ≤ a + c + 19 → r ≤ m
put-less a b c l m r e f h g = omega arith

pub returns-then-bench : goal.returns-then-bench
returns-then-bench c = let e = c.play_one-played.ensures in let p = c.requires in record { code = e.code.0; end = (e.end.1, e.end.2 p.0, λ z. e.moves (sym e.code.0 ∙ z), room-less _ _ _ p.2); steps = step_bench _ _ _ _ _ _ _ _ _ _ _ e.plays e.end.0 c.if-bench.true }

pub put_lines-next-requires : goal.put_lines-next-requires
put_lines-next-requires c = let e = c.play_one-played.ensures in let p = c.requires in let k = c.play_one-played.auto in (same-room _ _ _ _ k.b p.2, λ h. step-holds _ _ _ _ _ _ _ _ _ e.plays e.code.1 p.1 h)

pub returns : goal.returns
returns c = let e = c.play_one-played.ensures in let p = c.requires in let k = c.play_one-played.auto in let l = c.put_lines-next.ensures in record { code = e.code.0; end = (e.end.1, e.end.2 p.0, λ z. e.moves (sym e.code.0 ∙ z), put-less _ _ _ _ _ _ k.b c.put_lines-next.auto.out p.2 l.1); steps = step_lines _ _ _ _ _ _ _ _ _ _ _ e.plays e.end.0 _ _ _ c.if-bench.false e.code.1 l.0 }
