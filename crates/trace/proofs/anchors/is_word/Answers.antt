use Rattle.std.specs.Cmp.Lexicographic.{pointwise}
use Rattle.std.proofs.Common.{ℕ, List, Bool, ◌≡◌, ◌+◌, ◌-◌, ◌<◌, ◌≤◌, ◌++◌, ◌∙◌, sym, ap, length, get_or, take, drop, arith, eq-eqb, eqb-true}
use Rattle.std.proofs.Math.Dec.{eqb}
use Rattle.std.proofs.lemmas.Bool.Decides.{Decides-eqb}
use Rattle.std.proofs.lemmas.Grind.{same_number_lists}
use Rattle.std.proofs.lemmas.List.{get_or_append_left, get_or-drop, get_or-take, length-drop, length-take, length-take-le, take-append-drop}
use Rattle.std.proofs.lemmas.Slice.Eq.{starts_is}
use Rattle.laws.specs.Test.{same_test}
use Rattle.laws.specs.Scan.{every_elim, every_intro}
use Rattle.trace.specs.Anchors.{stands_at}
use Rattle.trace.proofs.anchors.is_word.Goals as goal

-- bytes that start with the eight of a word
starts : (b w s : List ℕ) (p : ℕ) (r : Bool) → length w ≡ 8 → 8 ≤ length s → ((i : ℕ) → i < 8 → get_or s i 0 ≡ get_or b (p + i) 0)
    → r ≡ pointwise eqb w (take (length w) s) → r ≡ stands_at b p w
unfolding stands_at
starts b w s p r l m h e =
    let t = starts_is Decides-eqb s w r e in
    same_test _ _
    (λ y. every_intro 8 _ (λ i k. eq-eqb _ _ (sym (h i k) ∙ (ap (λ (x : List ℕ). get_or x i 0) (t.0 y) ∙ get_or_append_left w _ 0 i (omega arith)))))
    (λ y. t.1 (drop 8 s) (sym (take-append-drop 8 s) ∙ ap (λ (x : List ℕ). x ++ drop 8 s)
    (same_number_lists (take 8 s) w (length-take-le 8 s m ∙ sym l)
    (λ i k. get_or-take 8 s i 0 (omega (arith, length-take-le 8 s m)) ∙ (h i (omega (arith, length-take-le 8 s m)) ∙ eqb-true _ _ (every_elim 8 _ y i (omega (arith, length-take-le 8 s m))))))))

pub returns : goal.returns
returns c =
    let b = c.args.b.now in
    let p = c.args.at in
    starts b _ (take (length b - p) (drop p b)) p _ c.told-word
    (omega (arith, length-take (length b - p) (drop p b), length-drop p b))
    (λ i l. get_or-take (length b - p) (drop p b) i 0 (omega arith) ∙ get_or-drop p b i 0)
    c.starts_with.ensures.value
