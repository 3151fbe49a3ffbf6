use Rattle.std.proofs.Common.{rules}
use Rattle.pcg.specs.Digest.{digest_fit}
use Rattle.pcg.specs.Seed.{seeds}
use Rattle.pcg.proofs.pcg.seed.Goals as goal

pub bounds-words-1 : goal.bounds-words-1
bounds-words-1 c = search rules

pub swap_bytes-requires : goal.swap_bytes-requires
swap_bytes-requires c = search rules

pub bounds-words-0 : goal.bounds-words-0
bounds-words-0 c = search rules

pub swap_bytes-requires-2 : goal.swap_bytes-requires-2
swap_bytes-requires-2 c = search rules

pub bounds-words-3 : goal.bounds-words-3
bounds-words-3 c = search rules

pub swap_bytes-requires-3 : goal.swap_bytes-requires-3
swap_bytes-requires-3 c = search rules

pub bounds-words-2 : goal.bounds-words-2
bounds-words-2 c = search rules

pub swap_bytes-requires-4 : goal.swap_bytes-requires-4
swap_bytes-requires-4 c = search rules

pub wrapping_sum-first-requires : goal.wrapping_sum-first-requires
wrapping_sum-first-requires c = search rules

pub step-requires : goal.step-requires
step-requires c = search rules

pub returns : goal.returns
returns c =
    seeds c.args.digest.0 _ _ _ _ _ _ (digest_fit c.args.digest _ c.well_formed.0) c.swap_bytes.ensures c.swap_bytes-2.ensures
    c.swap_bytes-3.ensures c.swap_bytes-4.ensures c.wrapping_sum-first.ensures c.step.ensures
