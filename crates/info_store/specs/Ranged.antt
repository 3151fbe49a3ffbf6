-- The numbers of a resolution that a function is given have 32 bits.
use Rattle.std.specs.Prelude.{◌<◌, List}
use mir.Val.{Val}
use denote.Laws.{Is}
use denote.Struct.Declared.{row}
use Rattle.models.specs.contracts.info.PointInfo.{the_type}
use Rattle.models.specs.declared.info.PointInfo.{PointInfo}

-- its evidence, its top proof's round, and `payload_bytes`
abbrev pub Ranged : PointInfo → Type 0
Ranged info = (info.evidence < 4_294_967_296) × (info.top_proof.round.0 < 4_294_967_296) × (info.payload_bytes < 4_294_967_296)

-- from what owning it tells
pub info_ranged : (info : PointInfo) (vs : List Val) → Is (row the_type) info vs → Ranged info
info_ranged info vs g = (g.1.1.1.1.1.1.1.0.1, g.1.1.1.1.1.1.0.1.1.0.1.1.0.1, g.1.1.1.1.1.1.1.1.1.1.1.0.1)
