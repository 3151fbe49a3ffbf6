use native.Mathlib.Omega.{arith}
use Rattle.commit_state.specs.Back.{full_bound, begun_is}
use Rattle.commit_state.proofs.back.init_state.Goals as goal

-- src/back.rt:85:9
pub first_executable-first-requires : goal.first_executable-first-requires
first_executable-first-requires c =
    let b = c.args.with in
    omega (arith, c.full_bottom-full.ensures, full_bound b.genesis.0 b.commit_history_rounds b.bottom.0, c.requires)

-- src/back.rt:75:1
pub returns : goal.returns
returns c =
    begun_is c.args.memory c.args.with _ _ _ _ c.used_word-word.ensures c.full_bottom-full.ensures c.first_executable-first.ensures c.armed-gap.ensures
