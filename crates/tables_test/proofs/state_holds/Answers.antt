use mathlib.Core.Path.{sym}
use borrow.Author.Tests.{eq-eqb, ne_eqb, le-leb, lt-leb}
use Rattle.laws.specs.Test.{and_no, and_yes}
use Rattle.tables_test.specs.Model.{state_holds, chain_no, chain-yes, test-yes}
use Rattle.tables_test.proofs.state_holds.Goals as goal

-- `tables_test::state_holds` meets its contract.
pub returns-then-s-ne1 : goal.returns-then-s-ne1
unfolding state_holds
returns-then-s-ne1 c = sym (and_no _ (ne_eqb _ _ c.if-s-ne1.true))

pub returns-then-not-places_hold : goal.returns-then-not-places_hold
unfolding state_holds
returns-then-not-places_hold c = test-yes _ _ _ (eq-eqb _ _ c.if-s-ne1.false) (chain_no _ _ _ c.places_hold.ensures c.if-not-places_hold.true-raw)

pub returns-then-not-conf_holds : goal.returns-then-not-conf_holds
unfolding state_holds
returns-then-not-conf_holds c = test-yes _ _ _ (eq-eqb _ _ c.if-s-ne1.false) (chain-yes _ _ _ _ c.places_hold.ensures c.if-not-places_hold.false-raw (chain_no _ _ _ c.conf_holds.ensures c.if-not-conf_holds.true-raw))

pub returns-then-not-rounds_hold : goal.returns-then-not-rounds_hold
unfolding state_holds
returns-then-not-rounds_hold c = test-yes _ _ _ (eq-eqb _ _ c.if-s-ne1.false) (chain-yes _ _ _ _ c.places_hold.ensures c.if-not-places_hold.false-raw (chain-yes _ _ _ _ c.conf_holds.ensures c.if-not-conf_holds.false-raw (chain_no _ _ _ c.rounds_hold.ensures c.if-not-rounds_hold.true-raw)))

pub returns-then-places-s : goal.returns-then-places-s
unfolding state_holds
returns-then-places-s c = test-yes _ _ _ (eq-eqb _ _ c.if-s-ne1.false) (chain-yes _ _ _ _ c.places_hold.ensures c.if-not-places_hold.false-raw (chain-yes _ _ _ _ c.conf_holds.ensures c.if-not-conf_holds.false-raw (chain-yes _ _ _ _ c.rounds_hold.ensures c.if-not-rounds_hold.false-raw (sym (and_no _ (lt-leb _ _ c.if-places-s.true))))))

pub returns : goal.returns
unfolding state_holds
returns c = test-yes _ _ _ (eq-eqb _ _ c.if-s-ne1.false) (chain-yes _ _ _ _ c.places_hold.ensures c.if-not-places_hold.false-raw (chain-yes _ _ _ _ c.conf_holds.ensures c.if-not-conf_holds.false-raw (chain-yes _ _ _ _ c.rounds_hold.ensures c.if-not-rounds_hold.false-raw (sym (and_yes (le-leb _ _ c.if-places-s.false) (sym c.memory_holds.ensures))))))
