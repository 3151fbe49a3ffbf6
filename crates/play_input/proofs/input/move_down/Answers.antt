use Rattle.std.proofs.Common.{◌≡◌, ℕ, List, ◌-◌, ◌≤◌, length, take, drop, sym, ap, ◌∙◌, zero-add, length-drop, arith}
use Rattle.std.proofs.Math.Seq.{paste}
use Rattle.std.proofs.lemmas.List.Edits.{take-paste}
use Rattle.play_input.proofs.input.move_down.Goals as goal

-- what stands at the front after the copy
front : (b d : List ℕ) (from n : ℕ) → n ≤ length b → d ≡ paste b 0 (drop from b) (n - from) → take (n - from) d ≡ take (n - from) (drop from b)
front b d from n l e =
    ap (take (n - from)) e
    ∙ (ap (λ (k : ℕ). take k (paste b 0 (drop from b) (n - from))) (sym (zero-add (n - from)))
    ∙ take-paste b 0 (drop from b) (n - from) (omega arith) (omega (arith, length-drop from b)))

pub returns : goal.returns
returns c = front _ _ _ _ c.requires.1 c.copy_within.ensures.after
