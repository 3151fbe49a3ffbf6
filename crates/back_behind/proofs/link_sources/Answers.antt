use Rattle.back_behind.specs.Model.{none_sourced, sources_by}
use Rattle.back_behind.proofs.link_sources.Goals as goal

pub note_down-requires : goal.note_down-requires
note_down-requires c = record { range = c.requires.range; keys_len = (c.requires.keys_len.0, c.requires.keys_len.1, none_sourced _) }

pub returns : goal.returns
returns c = (sources_by _ _ _ _ _ _ _ _ _ c.note_down.ensures.0, c.note_down.ensures.1)
