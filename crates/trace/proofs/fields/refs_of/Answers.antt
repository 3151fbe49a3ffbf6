use mathlib.Core.Path.{refl}
use Rattle.laws.specs.Bytes.{written}
use Rattle.trace.specs.Links.{links_words, link_fits, links-more, links_end}
use Rattle.trace.proofs.fields.refs_of.Goals as goal

pub loop-k-init : goal.loop-k-init
unfolding links_words written
loop-k-init c = refl

pub put_link-requires : goal.put_link-requires
put_link-requires c = link_fits _ _ _ _ _ _ c.byte_of-includes.ensures.0 c.byte_of-witness.ensures.0 c.loop-k.invariant c.requires.f_in_bounds c.requires.f_in_bounds_2 c.loop-k-test.true

pub loop-k-preserved : goal.loop-k-preserved
loop-k-preserved c = links-more _ _ _ _ _ c.loop-k.invariant c.put_link.ensures

pub returns : goal.returns
returns c = links_end _ _ _ _ _ _ c.byte_of-includes.ensures.0 c.byte_of-witness.ensures.0 c.loop-k.invariant c.loop-k.auto.k-end c.loop-k-test.false
