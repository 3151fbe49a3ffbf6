use Prim.Native.Nat.{ℕ, ◌≤◌}
use mathlib.Core.Path.{◌≡◌, sym}
use native.Mathlib.Omega.{arith}
use lib.Seq.{length-take-le}
use borrow.Author.Rules.{rules}
use Rattle.player.proofs.main.Goals as goal

-- the last lines stand within the buffer, whose length stays
fits : (n l a b : ℕ) → n ≤ 48 → l ≡ a → a ≡ b → 65536 ≡ b → n ≤ l
fits n l a b h e f g = omega arith

pub slice_bounds-write_all-end : goal.slice_bounds-write_all-end
slice_bounds-write_all-end c = sym (length-take-le _ _ (fits _ _ _ _ c.put_end-n.ensures.1 c.put_end-n.auto.out c.play_input-turn.auto.out c.large_buffer-out.ensures))
