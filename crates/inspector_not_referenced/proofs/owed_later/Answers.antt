use Rattle.std.proofs.Common.{◌≡◌, ◌∙◌, ◌+◌, ◌-◌, ◌≤◌, ℕ, Bool, true, false, bit_or, refl, sym, ap, arith}
use Rattle.inspector_references.specs.Sets.{union_of, union_none, union_yes, union_no, union_end}
use Rattle.inspector_references.specs.Referring.{row_peers}
use Rattle.inspector_not_referenced.specs.Later.{same_previous, owed_later}
use Rattle.inspector_not_referenced.proofs.owed_later.Goals as goal
use Rattle.inspector_not_referenced.proofs.owed_later.Goals.{then-same_previous, else-same_previous}

-- the union of the sets from a up to j: one number more
module _ (f : ℕ → Bool) (s : ℕ → ℕ) (a j g r : ℕ) (l : a ≤ j) (e : g ≡ union_of (λ i. f (a + i)) (λ i. s (a + i)) (j - a)) (b : Bool) (is : b ≡ f j) where
  here : a + (j - a) ≡ j
  here = omega arith

  next : j - a + 1 ≡ j + 1 - a
  next = omega arith

  from_yes : (x : ℕ) → b ≡ true → x ≡ s j → r ≡ bit_or g x → r ≡ union_of (λ i. f (a + i)) (λ i. s (a + i)) (j + 1 - a)
  from_yes x t d h = rw next at (union_yes (λ i. f (a + i)) (λ i. s (a + i)) (j - a) g r e b (is ∙ ap f (sym here)) x t (d ∙ ap s (sym here)) h)

  from_no : b ≡ false → r ≡ g → r ≡ union_of (λ i. f (a + i)) (λ i. s (a + i)) (j + 1 - a)
  from_no t h = rw next at (union_no (λ i. f (a + i)) (λ i. s (a + i)) (j - a) g r e b (is ∙ ap f (sym here)) t h)

pub loop-j-init : goal.loop-j-init
loop-j-init c = let z : c.args.k + 1 - (c.args.k + 1) ≡ 0 = omega arith in rw z (union_none _ _)

pub loop-j-preserved : goal.loop-j-preserved
loop-j-preserved c =
    let l = c.loop-j in
    let is = c.same_previous.ensures in
    let f : ℕ → Bool = same_previous c.args.rows.now c.args.k in
    let s : ℕ → ℕ = row_peers c.args.rows.now in
    elim c.if-same_previous.branch [ then-same_previous w ↦ from_yes f s _ l.j l.peers _ l.auto.j l.invariant _ is _ w.if-same_previous.true refl w.peers-is | else-same_previous w ↦ from_no f s _ l.j l.peers _ l.auto.j l.invariant _ is w.if-same_previous.false w.peers-is ]

pub returns : goal.returns
unfolding owed_later
returns c = let l = c.loop-j in union_end _ _ (l.j - (c.args.k + 1)) _ _ l.invariant (omega arith) (omega arith)
