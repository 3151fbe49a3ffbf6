use Rattle.std.proofs.Common.{ℕ, ◌<◌, ◌≤◌, ◌≡◌, List, Bool, true, false, length, take, get_or, sym, arith, rules}
use borrow.Author.Tests.{tests}
use Rattle.std.specs.Bool.{MatchBool}
use Rattle.std.specs.List.{AllWithin, HoldsAt}
use Rattle.std.proofs.lemmas.List.{get_or_default, get_or-take, length-take-le}
use Rattle.std.proofs.lemmas.Iterator.{cases_from_all, YieldsList-from_slice}
use Rattle.std.proofs.lemmas.Iterator.Adapters.{serves_from_places}
use Rattle.laws.specs.Scan.{every, every_intro, every_not}
use Rattle.models.specs.Cert.{height_of}
use Rattle.tables_heights.specs.Model.{agrees, agrees_at}
use Rattle.tables_heights.proofs.agree.Goals as goal

-- the cells of the first n, one by one
every_cell : (f : ℕ → Bool) (o : List ℕ) (n : ℕ) (r : Bool) → n ≤ length o → MatchBool r (AllWithin (λ x. f x ≡ true) (take n o) 0 (length (take n o))) ((k : ℕ) × (k < length (take n o)) × HoldsAt (λ x. f x ≡ false) (take n o) k) → r ≡ every n (λ i. f (get_or o i 0))
every_cell f o n true l h =
    let e = length-take-le n o l in
    sym (every_intro n (λ i. f (get_or o i 0)) (λ k m. rw (get_or-take n o k 0 m) at (h k 0 (omega arith) (omega arith))))
every_cell f o n false l (k, m, h) =
    let e = length-take-le n o l in
    let i : k < n = omega arith in
    sym (every_not n (λ i. f (get_or o i 0)) k i (rw (get_or-take n o k 0 i) at (h 0)))

pub all-requires-clause-callable : goal.all-requires-clause-callable
all-requires-clause-callable c =
    let a = c.args in
    let n = c.requires.order_in_bounds.2 in
    serves_from_places (YieldsList-from_slice (take a.n a.order.now) cc) (λ x q k. search (rules, tests))
    (λ x k l e.
    let i : k < a.n = omega (arith, length-take-le a.n a.order.now n) in
    let b : x.now < length a.order.now = omega (arith, e, get_or-take a.n a.order.now k x.now i, get_or_default a.order.now k x.now 0 (omega (arith, n)), c.requires.inside k i) in
    search (rules, b))

pub returns : goal.returns
unfolding agrees height_of
returns c =
    let a = c.args in
    let f = agrees_at a.cells.now a.certs.now in
    every_cell f a.order.now a.n c.all.result c.requires.order_in_bounds.2
    (cases_from_all _ _ c.all.result (λ x. f x ≡ true) (λ x. f x ≡ false) c.all.ensures.ran (YieldsList-from_slice (take a.n a.order.now) cc) (λ x q k. search (rules, tests)) (λ x q k. search (rules, tests)))
