use mathlib.Core.Bool.{true, false}
use Rattle.trace.proofs.CodeAt.{code_version, code_fields}
use Rattle.trace.proofs.codes.whole_code.Goals as goal

pub returns-then-version-ne1 : goal.returns-then-version-ne1
returns-then-version-ne1 c = code_version _ _ _ _ c.byte_of-version.ensures.0 c.requires.at_value c.if-version-ne1.true

pub returns-then-bench : goal.returns-then-bench
returns-then-bench c = code_fields _ _ _ true _ _ _ _ c.if-bench.true c.byte_of-version.ensures.0 c.byte_of-kind.ensures.0 c.requires.rest_value.0 c.requires.at_value c.if-version-ne1.false c.bench_code.ensures

pub returns : goal.returns
returns c = code_fields _ _ _ false _ _ _ _ c.if-bench.false c.byte_of-version.ensures.0 c.byte_of-kind.ensures.0 c.requires.rest_value.0 c.requires.at_value c.if-version-ne1.false c.fields_code.ensures
