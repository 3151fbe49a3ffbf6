use Rattle.std.proofs.Common.{◌≡◌, ℕ, ◌≤◌, length, refl, ◌∙◌, arith, rules}
use Rattle.play_input.specs.Fed.{fed_none, fed_more}
use Rattle.play_input.proofs.input.play_input.Goals as goal

few : (m l : ℕ) → m ≡ l → l ≤ 4096 → m ≤ 4096
few m l e h = omega arith

pub unstarted-now-requires : goal.unstarted-now-requires
unstarted-now-requires c = search rules

pub loop-init : goal.loop-init
loop-init c = (omega arith, c.requires, refl, refl, refl, refl, refl, refl, refl, fed_none _ _ _ _ _ _ _ _ _ _ c.unstarted-now.ensures refl)

pub play_some-turn-requires : goal.play_some-turn-requires
play_some-turn-requires c = let i = c.loop.invariant in (i.0, few _ _ i.6 i.1)

pub loop-preserved : goal.loop-preserved
loop-preserved c = let i = c.loop.invariant in let e = c.play_some-turn.ensures in let k = c.play_some-turn.auto in (e.0, i.1, k.keys ∙ i.2, k.links ∙ i.3, k.certs ∙ i.4, k.order ∙ i.5, k.answer ∙ i.6, k.input ∙ i.7, k.out ∙ i.8, fed_more _ _ _ _ _ i.6 i.7 _ _ _ _ _ _ _ _ _ _ _ i.9 e.1)

pub returns-after-loop : goal.returns-after-loop
returns-after-loop c = c.loop.invariant.9

pub returns-then-not-more : goal.returns-then-not-more
returns-then-not-more c = let i = c.loop.invariant in let e = c.play_some-turn.ensures in fed_more _ _ _ _ _ i.6 i.7 _ _ _ _ _ _ _ _ _ _ _ i.9 e.1
