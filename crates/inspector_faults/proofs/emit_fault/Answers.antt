use mathlib.Core.Path.{◌≡◌}
use Rattle.inspector_faults.specs.Faults.{fork_counts, singles_ready, singles-told, forks_ready, forks_told, none_told}
use Rattle.inspector_faults.specs.declared.Fault.TheVariants as fault
use borrow.Author.Rules.{rules}
use Rattle.inspector_faults.proofs.emit_fault.Goals as goal

pub returns-then-n-eq0 : goal.returns-then-n-eq0
returns-then-n-eq0 c = none_told _ _ _ _ _ _ _ _ _ _ _ _ c.requires.n_value c.if-n-eq0.true

pub emit_fork-requires : goal.emit_fork-requires
emit_fork-requires c =
    let p = c.requires in
    let is = c.in-Equivocated.is in
    record { range = p.range; found_value = fork_counts _ _ _ _ _ _ _ _ is p.n_value; ready = forks_ready _ _ _ _ _ _ _ _ _ _ _ is p.ready }

pub emit_singles-requires : goal.emit_singles-requires
emit_singles-requires c =
    let p = c.requires in
    record { range = p.range; ready = singles_ready _ _ _ _ _ _ _ _ _ _ _ (λ (e : c.args.fault ≡ fault.Equivocated). search rules) _ _ c.kind-kind.ensures c.test-test.ensures p.ready }

pub returns-in-Equivocated : goal.returns-in-Equivocated
returns-in-Equivocated c = forks_told _ _ _ _ _ _ _ _ _ _ _ _ _ c.in-Equivocated.is c.emit_fork.ensures

pub returns-in_default : goal.returns-in_default
returns-in_default c =
    singles-told _ _ _ _ _ _ _ _ _ _ _ (λ (e : c.args.fault ≡ fault.Equivocated). search rules) _ _ c.kind-kind.ensures c.test-test.ensures _ _ c.emit_singles.ensures
