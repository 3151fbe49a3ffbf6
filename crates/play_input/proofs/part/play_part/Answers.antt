use Rattle.std.proofs.Common.{◌≡◌, ℕ, ◌+◌, ◌-◌, ◌<◌, ◌≤◌, length, sym, refl, ◌∙◌, inl, inr, arith, rules}
use Rattle.commit_answer.specs.Answer.{tables}
use Rattle.trace.specs.Head.{least_left}
use Rattle.play_calls.specs.Room.{zeros}
use Rattle.play_input.specs.Steps.{Parts, part_none, part-more, part_stays}
use Rattle.play_input.proofs.part.play_part.Goals as goal

-- offsets, by either name of a length
inside : (a n l : ℕ) → n ≡ l → a ≤ n → a ≤ l
inside a n l e h = omega arith

within : (a n l : ℕ) → n ≡ l → a ≤ l → a ≤ n
within a n l e h = omega arith

few : (m l : ℕ) → m ≡ l → l ≤ 4096 → m ≤ 4096
few m l e h = omega arith

-- fewer bytes are left
fewer : (a b n l : ℕ) → n ≡ l → a < b → b ≤ l → n - b < n - a
fewer a b n l e k m = omega arith

left-few : (a k n l m : ℕ) → n ≡ l → k ≡ m → n - a < k → l - a < m
left-few a k n l m e f h = omega arith

enough-left : (a k n l m : ℕ) → n ≡ l → k ≡ m → k ≤ n - a → m ≤ l - a
enough-left a k n l m e f h = omega arith

-- room for the lines of a call
roomy : (put b b2 size out most : ℕ) → most ≡ b + 19 → b2 ≡ b → size ≡ out → put ≤ size → most ≤ size - put → put + b2 + 19 ≤ out
roomy put b b2 size out most f e g k h = omega arith

out-full : (put b size out most : ℕ) → size ≡ out → most ≡ b + 19 → size - put < most → out - put < b + 19
out-full put b size out most e f h = omega arith

put_in : (put size out out2 : ℕ) → size ≡ out → out2 ≡ out → put ≤ out2 → put ≤ size
put_in put size out out2 e f h = omega arith

put-out : (put size out : ℕ) → size ≡ out → put ≤ size → put ≤ out
put-out put size out e h = omega arith

pub overflow_add-most : goal.overflow_add-most
overflow_add-most c = search rules

pub least_left-least-requires : goal.least_left-least-requires
least_left-least-requires c = search rules

pub loop-at-init : goal.loop-at-init
loop-at-init c = (refl, omega arith, refl, c.least_left-least.ensures, refl, omega arith, refl, c.requires, refl, refl, refl, refl, refl, refl, part_none _ _ _ _ _)

pub overflow_sub-n : goal.overflow_sub-n
overflow_sub-n c = c.loop-at.invariant.1

pub overflow_sub-size : goal.overflow_sub-size
overflow_sub-size c = c.loop-at.invariant.5

pub play_step-step-requires : goal.play_step-step-requires
play_step-step-requires c = let i = c.loop-at.invariant in (inside _ _ _ i.0 i.1, few _ _ i.12 i.7, roomy _ _ _ _ _ _ i.6 i.12 i.4 i.5 c.if-size-put.false)

pub loop-at-smaller : goal.loop-at-smaller
loop-at-smaller c = let i = c.loop-at.invariant in let e = c.play_step-step.ensures in let k = c.play_step-step.auto in fewer _ _ _ _ i.0 (e.end.2 c.if-code-ne0.false) e.end.1

pub loop-at-preserved : goal.loop-at-preserved
loop-at-preserved c = let i = c.loop-at.invariant in let e = c.play_step-step.ensures in let k = c.play_step-step.auto in (i.0, within _ _ _ i.0 e.end.1, c.if-code-ne0.false, i.3, i.4 ∙ sym k.out, put_in _ _ _ _ i.4 k.out e.end.3, i.6, i.7, k.keys ∙ i.8, k.links ∙ i.9, k.certs ∙ i.10, k.order ∙ i.11, k.b ∙ i.12, k.out ∙ i.13, part-more _ _ _ i.12 _ _ _ _ _ _ _ _ _ _ _ _ i.14 e.steps e.code c.if-code-ne0.false)

pub returns-after-loop-at : goal.returns-after-loop-at
returns-after-loop-at c = let i = c.loop-at.invariant in record { runs = i.14; ends = (put-out _ _ _ i.4 i.5, (inside _ _ _ i.0 i.1, λ _. inl (left-few _ _ _ _ _ i.0 i.3 c.loop-at-test.false), λ n. absurd (n i.2))) }

pub returns-then-size-put : goal.returns-then-size-put
returns-then-size-put c = let i = c.loop-at.invariant in record { runs = i.14; ends = (put-out _ _ _ i.4 i.5, (inside _ _ _ i.0 i.1, λ _. inr (out-full _ _ _ _ _ i.4 i.6 c.if-size-put.true), λ n. absurd (n i.2))) }

pub returns-then-code-ne0 : goal.returns-then-code-ne0
returns-then-code-ne0 c = let i = c.loop-at.invariant in let e = c.play_step-step.ensures in let k = c.play_step-step.auto in record { runs = part_stays _ _ _ i.12 _ _ _ _ _ _ _ _ _ _ _ _ i.14 e.steps e.code c.if-code-ne0.true; ends = (e.end.3, (inside _ _ _ i.0 i.1, λ z. absurd (c.if-code-ne0.true z), λ _. (enough-left _ _ _ _ _ i.0 i.3 c.loop-at-test.true, e.code))) }
