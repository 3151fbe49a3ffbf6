use Rattle.tables_links.specs.Links.{link-none, link_far, link-free, link_used}
use Rattle.tables_links.proofs.link_right.Goals as goal

pub returns-then-a-eq0 : goal.returns-then-a-eq0
returns-then-a-eq0 c = link-none _ _ _ _ _ _ _ c.target-a.ensures c.if-a-eq0.true

pub returns-then-places-p : goal.returns-then-places-p
returns-then-places-p c = link_far _ _ _ _ _ _ _ _ c.target-a.ensures c.if-a-eq0.false c.slot-p.ensures c.if-places-p.true

pub returns-then-not-marks-p : goal.returns-then-not-marks-p
returns-then-not-marks-p c = link-free _ _ _ _ _ _ _ _ c.target-a.ensures c.if-a-eq0.false c.slot-p.ensures c.if-places-p.false c.if-not-marks-p.true-raw

pub returns : goal.returns
returns c = link_used _ _ _ _ _ _ _ _ c.target-a.ensures c.if-a-eq0.false c.slot-p.ensures c.if-places-p.false c.if-not-marks-p.false-raw _ c.fits_link.ensures
