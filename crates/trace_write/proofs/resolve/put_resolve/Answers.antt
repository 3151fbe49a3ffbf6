use native.Mathlib.Omega.{arith}
use mathlib.Core.Path.{sym, ◌∙◌}
use borrow.Author.Tests.{not-true, not-false}
use Rattle.trace_write.proofs.Puts.{put_refused, put-done}
use Rattle.trace_write.proofs.Puts.{head_room}
use Rattle.trace_write.specs.Resolve.{told_small, info_small}
use Rattle.trace_write.proofs.ResolveSaid.{resolve_said, resolve-lent, resolve_untold, resolve-put}
use Rattle.trace_write.proofs.resolve.put_resolve.Goals as goal

pub returns-then-not-links_told : goal.returns-then-not-links_told
returns-then-not-links_told c = resolve_untold _ _ _ _ (sym c.links_told.ensures ∙ not-true _ c.if-not-links_told.true-raw) (info_small c.args.info _ c.well_formed.1.1.0)

pub overflow_add-n : goal.overflow_add-n
overflow_add-n c = let h = told_small _ _ _ (sym c.links_told.ensures ∙ not-false _ c.if-not-links_told.false-raw) in omega (arith, h.0, h.1)

pub resolve_fits-fits-requires : goal.resolve_fits-fits-requires
resolve_fits-fits-requires c = let h = told_small _ _ _ (sym c.links_told.ensures ∙ not-false _ c.if-not-links_told.false-raw) in omega (arith, h.2)

pub overflow_mul-n : goal.overflow_mul-n
overflow_mul-n c = let h = told_small _ _ _ (sym c.links_told.ensures ∙ not-false _ c.if-not-links_told.false-raw) in omega (arith, h.0, h.1)

pub overflow_add-n-2 : goal.overflow_add-n-2
overflow_add-n-2 c = let h = told_small _ _ _ (sym c.links_told.ensures ∙ not-false _ c.if-not-links_told.false-raw) in omega (arith, h.0, h.1)

pub returns-then-refused-ne0 : goal.returns-then-refused-ne0
returns-then-refused-ne0 c = resolve-lent _ _ _ _ _ _ _ (sym c.links_told.ensures ∙ not-false _ c.if-not-links_told.false-raw) (put_refused (resolve_said _ _ _ _ (sym c.links_told.ensures ∙ not-false _ c.if-not-links_told.false-raw) c.resolve_fits-fits.ensures (info_small c.args.info _ c.well_formed.1.1.0)) _ _ _ c.put_head-refused.ensures c.if-refused-ne0.true)

pub put_info-links-requires : goal.put_info-links-requires
put_info-links-requires c = omega (arith, head_room _ _ _ _ _ _ c.put_head-refused.ensures c.if-refused-ne0.false)

pub put_links-payload-requires : goal.put_links-payload-requires
put_links-payload-requires c = let h = told_small _ _ _ (sym c.links_told.ensures ∙ not-false _ c.if-not-links_told.false-raw) in (omega (arith, head_room _ _ _ _ _ _ c.put_head-refused.ensures c.if-refused-ne0.false, c.put_info-links.ensures.0), omega (arith, h.2))

pub put_payload-length-requires : goal.put_payload-length-requires
put_payload-length-requires c = omega (arith, head_room _ _ _ _ _ _ c.put_head-refused.ensures c.if-refused-ne0.false, c.put_links-payload.ensures.0, c.put_info-links.ensures.0)

pub returns : goal.returns
returns c = resolve-lent _ _ _ _ _ _ _ (sym c.links_told.ensures ∙ not-false _ c.if-not-links_told.false-raw) (put-done (resolve_said _ _ _ _ (sym c.links_told.ensures ∙ not-false _ c.if-not-links_told.false-raw) c.resolve_fits-fits.ensures (info_small c.args.info _ c.well_formed.1.1.0)) _ _ _ c.put_head-refused.ensures _ _ c.if-refused-ne0.false (omega (arith, c.put_payload-length.ensures.0, c.put_links-payload.ensures.0, c.put_info-links.ensures.0)) (resolve-put _ _ _ _ _ _ _ _ _ _ c.put_info-links.ensures.1 c.put_info-links.ensures.0 c.put_links-payload.ensures.1 c.put_links-payload.ensures.0 c.put_payload-length.ensures.1))
