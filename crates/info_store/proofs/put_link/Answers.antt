use Prim.Native.Nat.{◌+◌, ◌*◌}
use native.Mathlib.Omega.{arith}
use lib.ListN.{length-set}
use Rattle.info_store.specs.Model.{link_put}
use Rattle.info_store.proofs.put_link.Goals as goal

pub copy_words-requires : goal.copy_words-requires
copy_words-requires c =
    (omega (arith, c.requires.0, c.requires.1, length-set c.args.links.now (c.args.q * 328 + 8 + c.args.k) c.args.target), omega (arith, c.requires.2))

pub returns : goal.returns
unfolding link_put
returns c = c.copy_words.ensures
