use Rattle.info_store.specs.Model.{room_by}
use native.Mathlib.Omega.{arith}
use Rattle.info_checks.specs.Form.{formed, rise_below}
use Rattle.info_store.specs.Model.{resolution_by}
use borrow.Author.Rules.{rules}
use Rattle.info_store.proofs.store_links.Goals as goal

pub put_links-requires : goal.put_links-requires
put_links-requires c =
    let f = formed c.args.info c.args.refs.now _ c.requires.q_value.1 in
    record { ready = c.requires.ready; q_in_bounds = (search rules, omega (arith, f.shaped.2), omega arith, omega arith); peers = rise_below c.args.refs.now 0 c.args.info.includes f.includes }

pub put_links-requires-2 : goal.put_links-requires-2
put_links-requires-2 c =
    let f = formed c.args.info c.args.refs.now _ c.requires.q_value.1 in
    let e = room_by _ _ _ _ _ _ _ _ _ _ _ c.zero_words.ensures c.copy_words.ensures c.put_links.ensures in
    record { ready = c.requires.ready; q_in_bounds = (omega (arith, e, c.requires.links_len), omega (arith, f.shaped.2), omega arith, omega arith); peers = rise_below c.args.refs.now c.args.info.includes c.args.info.witness f.witness }

pub returns : goal.returns
returns c = resolution_by _ _ _ _ _ _ _ _ _ _ _ _ _ c.requires.q_value.0 c.head_words-head.ensures c.zero_words.ensures c.copy_words.ensures c.put_links.ensures c.put_links-2.ensures
