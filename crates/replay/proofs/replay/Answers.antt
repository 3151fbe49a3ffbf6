use Prim.Native.Nat.{ℕ, ◌≤◌}
use mathlib.Core.Path.{◌≡◌, sym}
use native.Mathlib.Omega.{arith}
use lib.ListN.{length, length-replicate, take, replicate}
use lib.Seq.{length-take-le}
use borrow.Author.Rules.{rules}
use Rattle.replay.proofs.replay.Goals as goal

-- the first k of m equal words
firsts : (k m z : ℕ) → k ≤ m → k ≡ length (take k (replicate m z))
firsts k m z l = sym (length-take-le k (replicate m z) (omega (arith, l, length-replicate m z)))

pub slice_bounds-play_on-end : goal.slice_bounds-play_on-end
slice_bounds-play_on-end c = firsts _ 2048 0 (omega (arith, c.requires))

pub slice_bounds-play_on-end-2 : goal.slice_bounds-play_on-end-2
slice_bounds-play_on-end-2 c = firsts _ 83968 0 (omega (arith, c.requires))

pub slice_bounds-play_on-end-3 : goal.slice_bounds-play_on-end-3
slice_bounds-play_on-end-3 c = firsts _ 256 0 c.requires

pub slice_bounds-play_on-end-4 : goal.slice_bounds-play_on-end-4
slice_bounds-play_on-end-4 c = firsts _ 256 0 c.requires
