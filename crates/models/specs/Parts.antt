-- Ids of the code as the definitions' ids.
use Rattle.models.specs.declared.parts.PointId.{PointId}
use Rattle.spec.specs.Ids.{Id}
use Rattle.models.specs.Digest.{digest_at}

abbrev pub id_of : PointId → Id
id_of i = record { round = i.round.0; author = i.author; digest = digest_at i.digest.0 0 }
