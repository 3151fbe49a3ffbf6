use Rattle.std.proofs.Common.{◌≡◌, ◌∙◌, ◌≤◌, ℕ, zero, suc, List, length, get_or, take, Bool, refl, sym, ap, add-one, arith, rules}
use Rattle.std.specs.Prelude.{count_by}
use Rattle.std.proofs.lemmas.List.Sums.{count_by_more_yes, count_by_more_no}
use Rattle.laws.specs.Test.{by_test}
use Rattle.laws.specs.Scan.{those, those-yes, those_no}
use Rattle.laws.specs.Peers.{member}
use Rattle.inspector_not_referenced.specs.Signers.{skipped_by}
use Rattle.inspector_not_referenced.proofs.references_skipped.Goals as goal

-- as many of the first n elements pass as numbers below n
count_those : (p : ℕ → Bool) (l : List ℕ) (n : ℕ) → n ≤ length l → count_by p (take n l) ≡ length (those n (λ k. p (get_or l k 0)))
unfolding those
count_those p l zero h = refl
count_those p l (suc n) h =
    let r : count_by p (take n l) ≡ length (those n (λ k. p (get_or l k 0))) = count_those p l n (omega arith) in
    by_test (p (get_or l n 0))
    (λ t. rw (add-one n) at (count_by_more_yes p l n 0 (omega arith) t) ∙ (add-one _ ∙ (ap suc r ∙ sym (those-yes n (λ k. p (get_or l k 0)) t))))
    (λ t. rw (add-one n) at (count_by_more_no p l n 0 (omega arith) t) ∙ (r ∙ sym (those_no n (λ k. p (get_or l k 0)) t)))

pub returns : goal.returns
unfolding skipped_by member
returns c =
    let e : c.count-found.result ≡ count_by (λ x. member x c.args.a) (take c.args.n c.args.sets.now) = search rules in
    e ∙ count_those (λ x. member x c.args.a) c.args.sets.now c.args.n c.requires.0
