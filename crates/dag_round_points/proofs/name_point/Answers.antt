use lib.ListN.{length}
use mathlib.Core.Path.{ap, ◌∙◌}
use native.Mathlib.Omega.{arith}
use Rattle.models.specs.Tables.{inside_keys}
use Rattle.dag_round_points.specs.Model.{words_eight, named_keys_lem, named_certs_lem, named_order_lem}
use Rattle.dag_round_points.specs.Used.{has-place}
use Rattle.dag_round_points.proofs.name_point.Goals as goal

pub put-requires : goal.put-requires
put-requires c =
    let h = has-place c.args.s c.args.keys.now c.args.order.now c.args.id c.requires.ready c.requires.certs_len.1 in record {
      s_in_bounds = (
        omega (arith, c.requires.certs_len.2, h.0, c.requires.ready.0),
        omega (arith, ap length c.id_words-words.ensures ∙ words_eight c.args.id),
        h.1,
        inside_keys c.args.keys.now c.args.order.now c.args.s.count c.requires.ready.0 c.requires.ready.3,
      );
      sorted = c.requires.ready.4;
    }

pub offset_bounds-certs-q : goal.offset_bounds-certs-q
offset_bounds-certs-q c =
    let h = has-place c.args.s c.args.keys.now c.args.order.now c.args.id c.requires.ready c.requires.certs_len.1 in
    omega (arith, c.requires.certs_len.2, h.0, c.requires.ready.1, c.requires.certs_len.0)

pub bounds-certs-q : goal.bounds-certs-q
bounds-certs-q c =
    let h = has-place c.args.s c.args.keys.now c.args.order.now c.args.id c.requires.ready c.requires.certs_len.1 in
    omega (arith, c.requires.certs_len.2, h.0, c.requires.ready.1, c.requires.certs_len.0)

pub named-requires : goal.named-requires
named-requires c =
    let h = has-place c.args.s c.args.keys.now c.args.order.now c.args.id c.requires.ready c.requires.certs_len.1 in
    omega (arith, h.1, c.requires.ready.1)

pub returns : goal.returns
returns c =
    let a = c.args in
    let w = c.id_words-words.ensures in
    let q = c.requires.certs_len.2 in
    let p = c.put.ensures in record { state = c.named.ensures; keys = named_keys_lem a.s a.keys.now a.certs.now a.order.now a.id _ a.q w q _ p.words; certs = named_certs_lem a.s a.keys.now a.certs.now a.order.now a.id _ a.q w q; order = named_order_lem a.s a.keys.now a.certs.now a.order.now a.id _ a.q w q _ p.order }
