use Prim.Native.Nat.{ℕ, ◌+◌, ◌-◌, ◌<◌}
use mathlib.Core.List.{List}
use mathlib.Core.Path.{◌≡◌}
use native.Mathlib.Omega.{arith}
use Rattle.std.proofs.Math.Path.{subst}
use Rattle.lines.specs.Said.{Putting, putting_start, putting_head, putting_room, putting_fits, putting_step, putting_end}
use Rattle.lines.proofs.said.put_anchors.Goals as goal

-- a record is left
left : (k n : ℕ) → k < n → 0 < n - k
left k n h = omega arith

-- the number left, by another name
as_many : (v : List ℕ) (n : ℕ) (b₀ : List ℕ) (at i j from next : ℕ) (b : List ℕ) → i ≡ j → Putting v n b₀ at i from next b → Putting v n b₀ at j from next b
as_many v n b₀ at i j from next b e = subst (λ k. Putting v n b₀ at k from next b) e

pub loop-init : goal.loop-init
loop-init c = as_many _ _ _ _ c.args.n (c.args.n - 0) _ _ _ (omega arith) (putting_start _ _ _ _ c.requires.1)

pub number_of-round-requires : goal.number_of-round-requires
number_of-round-requires c = omega (arith, putting_head _ _ _ _ _ _ _ _ (left _ _ c.loop-test.true) c.loop.invariant)

pub byte_of-author-requires : goal.byte_of-author-requires
byte_of-author-requires c = omega (arith, putting_head _ _ _ _ _ _ _ _ (left _ _ c.loop-test.true) c.loop.invariant)

pub number_of-points-requires : goal.number_of-points-requires
number_of-points-requires c = omega (arith, putting_head _ _ _ _ _ _ _ _ (left _ _ c.loop-test.true) c.loop.invariant)

pub put_anchor-next-requires : goal.put_anchor-next-requires
put_anchor-next-requires c = (putting_room _ _ _ _ _ _ _ _ (left _ _ c.loop-test.true) c.loop.invariant c.requires.0, c.byte_of-author.ensures.1)

pub loop-preserved : goal.loop-preserved
loop-preserved c =
    as_many _ _ _ _ (c.args.n - c.loop.counter - 1) (c.args.n - (c.loop.counter + 1)) _ _ _ (omega arith)
    (putting_step _ _ _ _ _ _ _ _ (left _ _ c.loop-test.true) c.loop.invariant _ _ _ c.number_of-round.ensures c.byte_of-author.ensures.0 c.number_of-points.ensures _ _ (omega arith) c.put_anchor-next.ensures)

pub returns : goal.returns
returns c = putting_end _ _ _ _ _ _ _ _ (omega arith) c.loop.invariant
