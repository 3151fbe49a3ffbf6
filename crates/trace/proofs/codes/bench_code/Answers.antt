use mathlib.Core.Bool.{true}
use Rattle.trace.specs.Kinds.{kind_of, kind_known}
use Rattle.trace.specs.Head.{size_of, fits, fields_fit, kind_code}
use Rattle.trace.proofs.CodeAt.{kind_code_lem, bench_other}
use Rattle.trace.proofs.codes.bench_code.Goals as goal

pub returns-then-kind-eq-OUTLOOK : goal.returns-then-kind-eq-OUTLOOK
unfolding kind_code kind_known fields_fit fits size_of kind_of
returns-then-kind-eq-OUTLOOK c = kind_code_lem true 11 _ _ c.args.f.now c.if-kind-eq-OUTLOOK.true c.length_code.ensures

pub returns : goal.returns
returns c = bench_other _ _ c.args.f.now c.if-kind-eq-OUTLOOK.false c.fields_code.ensures
