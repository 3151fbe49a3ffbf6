use mathlib.Core.Path.{ap₂}
use Rattle.dag_round_points.specs.Model.{id_words, sought, table_same_digest, table_fifth, table_free, table_full}
use Rattle.dag_round_points.specs.Codes.{found, found_number}
use Rattle.dag_round_points.specs.Point.{searched}
use Rattle.dag_round_points.proofs.check_table.Goals as goal

pub find-at-requires : goal.find-at-requires
find-at-requires c =
    let told = searched c.args.keys.now c.args.order.now c.args.n c.args.id _ c.requires.keys_len.0 c.requires.keys_len.2 c.requires.inside c.requires.sorted c.id_words-words.ensures in record { n_in_bounds = told.0; sorted = told.1 }

pub returns-then-at-n : goal.returns-then-at-n
returns-then-at-n c =
    let a = c.args in
    let e = sought a.keys.now a.order.now a.n (id_words a.id) _ _ c.id_words-words.ensures c.find-at.ensures in
    found_number 6 _ _ (table_same_digest _ _ _ _ _ e c.if-at-n.true)

pub returns-then-count-ge-VERSIONS_MAX : goal.returns-then-count-ge-VERSIONS_MAX
unfolding id_words
returns-then-count-ge-VERSIONS_MAX c =
    let a = c.args in
    let e = sought a.keys.now a.order.now a.n (id_words a.id) _ _ c.id_words-words.ensures c.find-at.ensures in
    found_number 7 _ _ (table_fifth _ _ _ _ _ _ e c.if-at-n.false c.versions-count.ensures c.if-count-ge-VERSIONS_MAX.true)

pub returns-then-q-places : goal.returns-then-q-places
unfolding id_words found
returns-then-q-places c =
    let a = c.args in
    let e = sought a.keys.now a.order.now a.n (id_words a.id) _ _ c.id_words-words.ensures c.find-at.ensures in
    ap₂ found (table_free _ _ _ _ _ _ _ e c.if-at-n.false c.versions-count.ensures c.if-count-ge-VERSIONS_MAX.false c.free_place-q.ensures c.if-q-places.true) c.free_place-q.ensures

pub returns : goal.returns
unfolding id_words
returns c =
    let a = c.args in
    let e = sought a.keys.now a.order.now a.n (id_words a.id) _ _ c.id_words-words.ensures c.find-at.ensures in
    found_number 3 _ _ (table_full _ _ _ _ _ _ _ e c.if-at-n.false c.versions-count.ensures c.if-count-ge-VERSIONS_MAX.false c.free_place-q.ensures c.if-q-places.false)
