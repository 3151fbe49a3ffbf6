use Rattle.trace.specs.Head.{resolve_short, resolve_long}
use Rattle.trace.proofs.codes.resolve_fits.Goals as goal

pub returns-then-n-lt-INFO_BYTES : goal.returns-then-n-lt-INFO_BYTES
returns-then-n-lt-INFO_BYTES c = resolve_short c.args.f.now c.if-n-lt-INFO_BYTES.true

pub returns : goal.returns
returns c = resolve_long c.args.f.now _ _ c.byte_of-includes.ensures.0 c.byte_of-witness.ensures.0
