use borrow.Author.Tests.{not-true, not-false}
use Rattle.trace_write.specs.Resolve.{fits_id_lem, fits_top, fits-status, fits_links_lem}
use Rattle.trace_write.proofs.resolve.resolve_fits.Goals as goal

pub returns-then-not-id_fits : goal.returns-then-not-id_fits
returns-then-not-id_fits c = fits_id_lem _ _ _ _ _ c.id_fits.ensures (not-true _ c.if-not-id_fits.true-raw)

pub returns-then-not-id_fits-2 : goal.returns-then-not-id_fits-2
returns-then-not-id_fits-2 c = fits_top _ _ _ _ _ c.id_fits-2.ensures (not-true _ c.if-not-id_fits-2.true-raw)

pub returns-then-info-gt-BYTE_MAX : goal.returns-then-info-gt-BYTE_MAX
returns-then-info-gt-BYTE_MAX c = fits-status _ _ _ _ c.if-info-gt-BYTE_MAX.true

pub returns : goal.returns
returns c = fits_links_lem _ _ _ _ _ _ _ c.id_fits.ensures (not-false _ c.if-not-id_fits.false-raw) c.id_fits-2.ensures (not-false _ c.if-not-id_fits-2.false-raw) c.if-info-gt-BYTE_MAX.false c.peers_fit.ensures
