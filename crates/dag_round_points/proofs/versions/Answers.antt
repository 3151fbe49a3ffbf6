use Rattle.std.proofs.Common.{ℕ, zero, suc, ◌+◌, ◌*◌, ◌<◌, ◌≤◌, ◌≡◌, ◌∙◌, List, Bool, length, take, get_or, refl, add-one, arith, rules}
use borrow.Author.Tests.{tests}
use Rattle.std.specs.List.{filter}
use Rattle.std.proofs.lemmas.List.{get_or_default, get_or-take, length-take-le}
use Rattle.std.proofs.lemmas.List.Sums.{length-filter, count_by_more_yes, count_by_more_no}
use Rattle.std.proofs.lemmas.Iterator.{YieldsList-from_slice}
use Rattle.std.proofs.lemmas.Iterator.Adapters.{serves_from_places}
use Rattle.std.proofs.lemmas.Iterator.Consumers.{count_from_yields_List, YieldsList-from_filter}
use Rattle.laws.specs.Test.{by_test}
use Rattle.laws.specs.Scan.{those, those-yes, those_no}
use Rattle.dag_round_points.specs.Model.{is_version}
use Rattle.dag_round_points.proofs.versions.Goals as goal

-- the cells of the first n that pass are as many as their positions
as_many : (o : List ℕ) (p : ℕ → Bool) (n : ℕ) → n ≤ length o → length (filter p (take n o)) ≡ length (those n (λ i. p (get_or o i 0)))
unfolding those
as_many o p zero l = refl
as_many o p (suc n) l =
    let h = as_many o p n (omega arith) in
    let a = length-filter p (take (suc n) o) in
    let b = length-filter p (take n o) in
    by_test (p (get_or o n 0))
    (λ t. let e = rw (add-one n) at (count_by_more_yes p o n 0 l t) in omega (arith, h, a, b, e, those-yes n (λ i. p (get_or o i 0)) t))
    (λ t. let e = rw (add-one n) at (count_by_more_no p o n 0 l t) in omega (arith, h, a, b, e, those_no n (λ i. p (get_or o i 0)) t))

pub count-requires-clause-can : goal.count-requires-clause-can
count-requires-clause-can c =
    let a = c.args in (
      tt,
      tt,
      serves_from_places (YieldsList-from_slice (take a.n a.order.now) cc) (λ x q k. search (rules, tests)) (λ x k l e.
          let i : k < a.n = omega (arith, length-take-le a.n a.order.now c.requires.keys_len.1) in
          let b : x.now < length a.order.now = omega (arith, e, get_or-take a.n a.order.now k x.now i, get_or_default a.order.now k x.now 0 (omega (arith, c.requires.keys_len)), c.requires.inside k i) in
          let w : x.now * 8 + 8 ≤ length a.keys.now = omega (arith, c.requires.keys_len) in
          search (rules, w)),
    )

pub returns : goal.returns
returns c =
    let a = c.args in
    let p = is_version a.keys.now a.round.0 a.author in
    count_from_yields_List c.filter.result c.count.result c.count.ensures.ran (YieldsList-from_filter _ p (YieldsList-from_slice (take a.n a.order.now) cc) c.filter.ensures.closure (λ x r q k. search (rules, tests)))
    ∙ as_many a.order.now p a.n c.requires.keys_len.1
