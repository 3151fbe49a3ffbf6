use mathlib.Core.Path.{sym, ◌∙◌, ap}
use borrow.Author.Tests.{lt-ltb, le-ltb}
use Rattle.laws.specs.Test.{and_no}
use Rattle.tables_test.specs.Model.{chain_no, chain-yes, test-yes}
use Rattle.info_checks.specs.Form.{status_ok, tests_are}
use Rattle.info_checks.proofs.given_ok.Goals as goal

pub returns-then-not-refs_ok : goal.returns-then-not-refs_ok
returns-then-not-refs_ok c = chain_no _ _ _ c.refs_ok.ensures c.if-not-refs_ok.true-raw ∙ tests_are _ _ _ c.requires

pub returns-then-not-refs_ok-2 : goal.returns-then-not-refs_ok-2
returns-then-not-refs_ok-2 c =
    chain-yes _ _ _ _ c.refs_ok.ensures c.if-not-refs_ok.false-raw (chain_no _ _ _ c.refs_ok-2.ensures c.if-not-refs_ok-2.true-raw)
    ∙ tests_are _ _ _ c.requires

pub returns-then-top-ge-PEER_SLOTS : goal.returns-then-top-ge-PEER_SLOTS
returns-then-top-ge-PEER_SLOTS c =
    chain-yes _ _ _ _ c.refs_ok.ensures c.if-not-refs_ok.false-raw (chain-yes _ _ _ _ c.refs_ok-2.ensures c.if-not-refs_ok-2.false-raw (sym (and_no _ (le-ltb _ _ c.if-top-ge-PEER_SLOTS.true))))
    ∙ tests_are _ _ _ c.requires

pub returns : goal.returns
returns c =
    chain-yes _ _ _ _ c.refs_ok.ensures c.if-not-refs_ok.false-raw (chain-yes _ _ _ _ c.refs_ok-2.ensures c.if-not-refs_ok-2.false-raw (test-yes _ _ _ (lt-ltb _ _ c.if-top-ge-PEER_SLOTS.false) (c.status_ok.ensures ∙ ap (status_ok c.args.info.status) c.is_bare-bare.ensures)))
    ∙ tests_are _ _ _ c.requires
