use native.Mathlib.Omega.{arith}
use Rattle.trace.specs.Fields.{payload-fits, info_is}
use Rattle.trace.proofs.fields.info_of.Goals as goal

pub number_of-payload_len-requires : goal.number_of-payload_len-requires
number_of-payload_len-requires c = omega (arith, payload-fits _ _ _ c.byte_of-includes.ensures.0 c.byte_of-witness.ensures.0 c.requires)

pub number_of-payload_bytes-requires : goal.number_of-payload_bytes-requires
number_of-payload_bytes-requires c =
    omega (arith, payload-fits _ _ _ c.byte_of-includes.ensures.0 c.byte_of-witness.ensures.0 c.requires)

pub returns : goal.returns
returns c =
    info_is _ _ _ _ _ _ _ _ _
    c.byte_of-status.ensures.0
    c.byte_of-marks.ensures.0
    c.id_of-top_proof.ensures
    c.number_of-evidence.ensures
    c.byte_of-includes.ensures.0
    c.byte_of-witness.ensures.0
    c.number_of-payload_len.ensures
    c.number_of-payload_bytes.ensures
