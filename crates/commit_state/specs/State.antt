-- The state's parts that no call has written.
use Rattle.std.specs.Prelude.{replicate}
use Rattle.models.specs.declared.parts.Digest.{Digest}
use Rattle.commit_state.specs.declared.state.Entry.{Entry}
use Rattle.commit_state.specs.declared.state.Memory.{Memory}
use Rattle.commit_state.specs.declared.state.RoundRecord.{RoundRecord}

abbrev pub no_digest : Digest
no_digest = record { 0 = replicate 4 0 }

abbrev pub no_entry : Entry
no_entry = record { author = 0; digest = no_digest; has_previous = 0; previous = no_digest; unreferenced_by = 0 }

abbrev pub no_memory : Memory
no_memory = record { last = record { 0 = 0 }; count = 0; entries = replicate 128 no_entry }

abbrev pub no_record : RoundRecord
no_record = record { peers = 0; used_anchor_proof = 0 }
