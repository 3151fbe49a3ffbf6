use native.Mathlib.Omega.{arith}
use lib.ListN.{length-set}
use Rattle.trace.specs.Links.{link_put_lem}
use Rattle.trace.proofs.fields.put_link.Goals as goal

pub bounds-refs-to-2 : goal.bounds-refs-to-2
bounds-refs-to-2 c = simp length-set (omega (arith, c.requires))

pub bounds-refs-to-3 : goal.bounds-refs-to-3
bounds-refs-to-3 c = simp length-set (omega (arith, c.requires))

pub bounds-refs-to-4 : goal.bounds-refs-to-4
bounds-refs-to-4 c = simp length-set (omega (arith, c.requires))

pub bounds-refs-to-5 : goal.bounds-refs-to-5
bounds-refs-to-5 c = simp length-set (omega (arith, c.requires))

pub returns : goal.returns
returns c = link_put_lem _ _ _ _ _ _ c.byte_of-peer.ensures.0 c.digest_words-d.ensures
