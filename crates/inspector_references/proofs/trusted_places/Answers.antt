use Rattle.std.proofs.Common.{◌≡◌, ◌∙◌, ◌+◌, ◌-◌, ◌<◌, ℕ, List, get_or, take, drop, arith}
use Rattle.std.proofs.lemmas.List.{get_or-take, get_or-drop}
use Rattle.models.specs.Tables.{place_at}
use Rattle.inspector_references.specs.Trusted.{listed_none, listed_yes, listed_no, listed_end}
use borrow.Author.Rules.{rules}
use Rattle.inspector_references.proofs.trusted_places.Goals as goal
use Rattle.inspector_references.proofs.trusted_places.Goals.{then-passed, else-passed}

-- the elements of a part of a list
item : (os : List ℕ) (low n j : ℕ) → j < n → get_or (take n (drop low os)) j 0 ≡ get_or os (low + j) 0
item os low n j l = get_or-take n (drop low os) j 0 l ∙ get_or-drop low os j 0

pub loop-point-init : goal.loop-point-init
loop-point-init c = (search rules, listed_none _ _ _ _)

pub loop-point-preserved : goal.loop-point-preserved
loop-point-preserved c =
    let l = c.loop-point in
    let at : c.slot-q.result ≡ place_at c.args.dag.now.order.now (c.args.low + l.point-index) = c.slot-q.ensures ∙ item _ c.args.low (c.args.high - c.args.low) l.point-index (omega arith) in
    let is = c.version_at-version.ensures in
    let by = c.inspect-passed.ensures in
    elim c.if-passed.branch [ then-passed w ↦ (search rules, listed_yes _ _ _ _ l.point-index _ l.count l.places at l.invariant.1 _ _ is by _ _ w.if-passed.true (omega arith) w.places-is w.count-is) | else-passed w ↦ (search rules, listed_no _ _ _ _ l.point-index _ l.count l.places at l.invariant.1 _ _ is by _ _ w.if-passed.false w.places-is w.count-is) ]

pub returns : goal.returns
returns c = let l = c.loop-point in listed_end _ _ _ _ l.point-index _ _ _ l.invariant.1 (omega arith) (omega arith)
