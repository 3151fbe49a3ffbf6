use mathlib.Core.Path.{refl}
use Rattle.inspector_rows.specs.Must.{must_by, point_ready}
use Rattle.inspector_rows.proofs.must_row.Goals as goal

pub point_row-row-requires : goal.point_row-row-requires
point_row-row-requires c = c.requires.n_in_bounds.1

pub unreferenced_by-peers-requires : goal.unreferenced_by-peers-requires
unreferenced_by-peers-requires c =
    let p = c.requires in
    let h = point_ready _ _ _ _ c.point_row-row.ensures p.n_in_bounds.1.2 in
    record { n_in_bounds = (p.n_in_bounds.0, h.0, h.1); by_index = p.by_index }

pub returns : goal.returns
returns c = must_by _ _ _ _ _ _ _ _ _ c.point_row-row.ensures c.unreferenced_by-peers.ensures refl
