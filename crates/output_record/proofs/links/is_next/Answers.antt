use Rattle.std.specs.Prelude.{ℕ, ◌+◌, ◌-◌, ◌≤◌, ◌≡◌, eqb, Option, None, Some}
use Rattle.std.specs.Option.{SomeIff, option_eq}
use Rattle.std.proofs.Common.{arith, sym, ◌∙◌, eq-eqb, ne_eqb, eqb-true}
use Rattle.std.proofs.lemmas.Bool.{eqb-false}
use Rattle.laws.specs.Test.{by_test}
use Rattle.output_record.proofs.links.is_next.Goals as goal

-- the difference is 1, if there is one, where the other round is the next
next : (here up : ℕ) (r : Option ℕ) → SomeIff r (here ≤ up) (up - here) → option_eq eqb r (Some 1) ≡ eqb (here + 1) up
next here up None h = sym (ne_eqb (here + 1) up (λ e. h (omega (arith, e))))
next here up (Some x) (l, e) =
    by_test (eqb (here + 1) up)
    (λ t. rw t (eq-eqb x 1 (omega (arith, e, eqb-true (here + 1) up t))))
    (λ f. rw f (ne_eqb x 1 (λ d. eqb-false (here + 1) up f (omega (arith, l, e, d)))))

pub returns : goal.returns
returns c = c.eq.ensures ∙ (next _ _ _ c.checked_sub.ensures ∙ (λ i. eqb (c.round_word-here.ensures i + 1) (c.round_word-up.ensures i)))
