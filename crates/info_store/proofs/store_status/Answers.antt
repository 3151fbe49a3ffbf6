use Prim.Native.Nat.{◌+◌, ◌*◌}
use mathlib.Core.Path.{ap}
use native.Mathlib.Omega.{arith}
use lib.ListN.{set, length-set}
use Rattle.info_store.specs.Model.{stored_keys}
use Rattle.info_store.proofs.store_status.Goals as goal

pub bounds-keys-q-2 : goal.bounds-keys-q-2
bounds-keys-q-2 c =
    omega (arith, c.requires, length-set c.args.keys.now (c.args.q * 8 + 6) c.args.info.status)

pub returns : goal.returns
unfolding stored_keys
returns c =
    let a = c.args in
    ap (set (set a.keys.now (a.q * 8 + 6) a.info.status) (a.q * 8 + 7)) c.marks-word.ensures
