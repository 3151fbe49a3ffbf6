-- What a resolution gives, as the definitions' record (01: info.rs).
use Rattle.std.specs.Prelude.{ℕ, zero, suc, ◌+◌, ◌*◌, List, [], ◌∷◌, cond, eqb, length, get_or}
use Rattle.spec.specs.Ids.{Ref}
use Rattle.spec.specs.Store.{Resolution, unresolved}
use Rattle.models.specs.declared.info.PointInfo.{PointInfo}
use Rattle.models.specs.Digest.{digest_at}
use Rattle.models.specs.Parts.{id_of}

-- link j of the lent links: its peer, and its digest in the next four words
abbrev pub ref_at : List ℕ → ℕ → Ref
ref_at rs j = record { peer = get_or rs (j * 5 + 0) 0; digest = digest_at rs (j * 5 + 1) }

-- m links, from link j on
unfoldable pub refs_of : List ℕ → ℕ → ℕ → List Ref
refs_of rs j zero = []
refs_of rs j (suc m) = ref_at rs j ∷ refs_of rs (j + 1) m

-- links of another number than the one given are no resolution: status 0, which 11 refuses
unfoldable pub info_of : PointInfo → List ℕ → Resolution
info_of i rs = cond (eqb (length rs) ((i.includes + i.witness) * 5)) (record {
  status = i.status;
  proof = i.proof;
  trigger = i.trigger;
  cause = i.cause;
  top_proof = id_of i.top_proof;
  evidence = i.evidence;
  includes = refs_of rs 0 i.includes;
  witness = refs_of rs i.includes i.witness;
  payload_len = i.payload_len;
  payload_bytes = i.payload_bytes;
}) unresolved
