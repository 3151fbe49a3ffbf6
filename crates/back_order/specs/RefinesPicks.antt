-- The next marked position of a round holds the needed point that is picked next (02: N4).
use Rattle.std.specs.Prelude.{ℕ, ◌+◌, ◌-◌, ◌<◌, ◌≤◌, ◌≡◌, List, ◌∷◌, ◌++◌, Bool, ◌↔◌, length, get_or, take}
use Rattle.std.proofs.Common.{sym, ap, ◌∙◌, append-nil, arith, length-append, take_all}
use Rattle.std.proofs.Math.Option.{none, some, some-ne-none}
use Rattle.std.proofs.lemmas.List.{get_or_at}
use Rattle.laws.specs.Test.{same_or}
use Rattle.spec.specs.Store.{Store}
use Rattle.spec.specs.History.{linked_in}
use Rattle.spec.specs.Picks as spec
use Rattle.spec.proofs.Picks as picks
use Rattle.spec.specs.Picks.{pick}
use Rattle.models.specs.Digest.{Fit}
use Rattle.models.specs.Tables.{round_at, place_at, Used}
use Rattle.commit_state.specs.declared.state.State.{State}
use Rattle.tables_test.specs.View.{view}
use Rattle.tables_test.specs.Refines.{Started}
use Rattle.dag_round_order.specs.Span.{below}
use Rattle.back_history.specs.RefinesNeeded.{lowest_of, marks_of, used_named}
use Rattle.back_history.specs.Refines.{well}
use Rattle.back_order.specs.Linked.{linked_by}
use Rattle.back_order.specs.Picks.{pick_from, left_by, linked_split, pick_most, pick_next, pick_end}
use Rattle.back_order.specs.Refines.{linked_is}

module _ (s : State) (ks ls cs os : List ℕ) (fk : Fit ks) (fl : Fit ls) (t : Started s ks ls cs os) (a : ℕ) (used : Used os s.count a) (r : ℕ) (lo : lowest_of s (round_at ks a) ≤ r) (hi : r ≤ round_at ks a) where
  -- the store
  abbrev v : Store
  v = view s ks ls cs os

  -- the marks
  abbrev m : List Bool
  m = marks_of s ks ls cs os a

  -- the first position of the round
  abbrev low : ℕ
  low = below ks os s.count r

  -- the first above it
  abbrev high : ℕ
  high = below ks os s.count (r + 1)

  -- its needed points
  abbrev all : List ℕ
  all = linked_in v a r

  -- at position p, with k marked positions below
  module _ (p k : ℕ) (from : low ≤ p) (to : p ≤ high) (counted : k ≡ length (linked_by os m low (p - low))) where
    -- those picked
    abbrev done : List ℕ
    done = linked_by os m low (p - low)

    -- the next pick
    abbrev next : ℕ
    next = pick_from os m p high

    -- the others stand from p on
    parts : all ≡ done ++ left_by os m high p
    parts = linked_is s ks ls cs os fk fl t a used r lo hi ∙ (ap (linked_by os m low) sum ∙ (linked_split os m low (p - low) (high - p) ∙ ap (λ x. done ++ linked_by os m x (high - p)) back))
      where
        sum : high - low ≡ p - low + (high - p)
        sum = omega (arith, from, to)

        back : low + (p - low) ≡ p
        back = omega (arith, from)

    -- one is left
    pick-found : next < high → pick v a r (take k all) ≡ some (place_at os next)
    pick-found h = picks.pick_next v (well s ks ls cs os fk fl t) a (used_named s ks ls cs os fk fl t a used) r k more ∙ ap some is
      where
        rest : List ℕ
        rest = left_by os m high (next + 1)

        split : all ≡ done ++ (place_at os next ∷ rest)
        split = parts ∙ ap (λ x. done ++ x) (pick_next os m high p to h)

        more : k < length all
        more = omega (arith, counted, ap length split, length-append done (place_at os next ∷ rest))

        is : get_or all k 0 ≡ place_at os next
        is = ap (λ x. get_or x k 0) split ∙ get_or_at done (place_at os next) rest 0 k (sym counted)

    -- none is
    pick-ended : next ≡ high → pick v a r (take k all) ≡ none
    pick-ended e = ap (pick v a r) (take_all k all few) ∙ picks.pick_end v a r
      where
        few : length all ≤ k
        few = omega (arith, counted, ap length (parts ∙ (ap (λ x. done ++ x) ((pick_end os m high p to).0 e) ∙ append-nil done)))

    -- "Each pick is the needed point of least digest not yet picked, none exactly when all are"
    pub pick_is : ((next ≡ high) ↔ (pick v a r (take k all) ≡ none)) × (next < high → pick v a r (take k all) ≡ some (place_at os next))
    pick_is = (
      (pick-ended, λ e. same_or next high (λ d. d) (λ d. absurd (some-ne-none (place_at os next) (sym (pick-found (omega (arith, d, pick_most os m high p to))) ∙ e)))),
      pick-found,
    )
