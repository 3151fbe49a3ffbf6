use borrow.Author.Rules.{rules}
use mathlib.Core.Path.{ap, ◌∙◌}
use mathlib.Core.Bool.{Bool, false, cond}
use Rattle.trace.specs.Kinds.{kind_of, kind_ok, kind_known}
use Rattle.trace.specs.Head.{size_of, fits, fields_fit, kind_code, commit-size}
use Rattle.trace.proofs.CodeAt.{kind_code_lem, code_none}
use Rattle.trace.proofs.codes.fields_code.Goals as goal

-- src/codes.rt:24:14
pub length_code-requires : goal.length_code-requires
length_code-requires c = search rules

-- src/codes.rt:25:14
pub length_code-requires-in-2 : goal.length_code-requires-in-2
length_code-requires-in-2 c = search rules

-- src/codes.rt:26:14
pub length_code-requires-in-3 : goal.length_code-requires-in-3
length_code-requires-in-3 c = search rules

-- src/codes.rt:27:26
pub resolve_fits-requires : goal.resolve_fits-requires
resolve_fits-requires c = search rules

-- src/codes.rt:27:14
pub length_code-requires-in-4 : goal.length_code-requires-in-4
length_code-requires-in-4 c = search rules

-- src/codes.rt:28:14
pub length_code-requires-in-5 : goal.length_code-requires-in-5
length_code-requires-in-5 c = search rules

-- src/codes.rt:29:14
pub length_code-requires-in-6 : goal.length_code-requires-in-6
length_code-requires-in-6 c = search rules

-- src/codes.rt:30:14
pub length_code-requires-in-7 : goal.length_code-requires-in-7
length_code-requires-in-7 c = search rules

-- src/codes.rt:31:14
pub length_code-requires-in-8 : goal.length_code-requires-in-8
length_code-requires-in-8 c = search rules

-- src/codes.rt:32:14
pub length_code-requires-in-9 : goal.length_code-requires-in-9
length_code-requires-in-9 c = search rules

-- src/codes.rt:33:15
pub length_code-requires-in-10 : goal.length_code-requires-in-10
length_code-requires-in-10 c = search rules

-- src/codes.rt:19:1
pub returns-in-1 : goal.returns-in-1
unfolding kind_code kind_known kind_ok fields_fit fits size_of kind_of
returns-in-1 c = kind_code_lem false 1 _ _ c.args.f.now c.in-1.is c.length_code.ensures

-- src/codes.rt:19:1
pub returns-in-2 : goal.returns-in-2
unfolding kind_code kind_known kind_ok fields_fit fits size_of kind_of
returns-in-2 c = kind_code_lem false 2 _ _ c.args.f.now c.in-2.is c.length_code-in-2.ensures

-- src/codes.rt:19:1
pub returns-in-3 : goal.returns-in-3
unfolding kind_code kind_known kind_ok fields_fit fits size_of kind_of
returns-in-3 c = kind_code_lem false 3 _ _ c.args.f.now c.in-3.is c.length_code-in-3.ensures

-- src/codes.rt:19:1
pub returns-in-4 : goal.returns-in-4
unfolding kind_code kind_known kind_ok fields_fit fits size_of kind_of
returns-in-4 c = kind_code_lem false 4 _ _ c.args.f.now c.in-4.is ((c.length_code-in-4.ensures ∙ ap (λ (y : Bool). cond y 0 26) c.resolve_fits.ensures))

-- src/codes.rt:19:1
pub returns-in-5 : goal.returns-in-5
unfolding kind_code kind_known kind_ok fields_fit fits size_of kind_of
returns-in-5 c = kind_code_lem false 5 _ _ c.args.f.now c.in-5.is c.length_code-in-5.ensures

-- src/codes.rt:19:1
pub returns-in-6 : goal.returns-in-6
unfolding kind_code kind_known kind_ok fields_fit fits size_of kind_of
returns-in-6 c = kind_code_lem false 6 _ _ c.args.f.now c.in-6.is ((c.length_code-in-6.ensures ∙ ap (λ (y : Bool). cond y 0 26) (commit-size c.args.f.now)))

-- src/codes.rt:19:1
pub returns-in-7 : goal.returns-in-7
unfolding kind_code kind_known kind_ok fields_fit fits size_of kind_of
returns-in-7 c = kind_code_lem false 7 _ _ c.args.f.now c.in-7.is c.length_code-in-7.ensures

-- src/codes.rt:19:1
pub returns-in-8 : goal.returns-in-8
unfolding kind_code kind_known kind_ok fields_fit fits size_of kind_of
returns-in-8 c = kind_code_lem false 8 _ _ c.args.f.now c.in-8.is c.length_code-in-8.ensures

-- src/codes.rt:19:1
pub returns-in-9 : goal.returns-in-9
unfolding kind_code kind_known kind_ok fields_fit fits size_of kind_of
returns-in-9 c = kind_code_lem false 9 _ _ c.args.f.now c.in-9.is c.length_code-in-9.ensures

-- src/codes.rt:19:1
pub returns-in-10 : goal.returns-in-10
unfolding kind_code kind_known kind_ok fields_fit fits size_of kind_of
returns-in-10 c = kind_code_lem false 10 _ _ c.args.f.now c.in-10.is c.length_code-in-10.ensures

-- src/codes.rt:19:1
pub returns-in_default : goal.returns-in_default
returns-in_default c = code_none _ c.args.f.now c.in_default.in_default-own.rest.0.0.0.0.0.0.0.0.0.1 c.in_default.in_default-own.rest.0.0.0.0.0.0.0.0.1 c.in_default.in_default-own.rest.0.0.0.0.0.0.0.1 c.in_default.in_default-own.rest.0.0.0.0.0.0.1 c.in_default.in_default-own.rest.0.0.0.0.0.1 c.in_default.in_default-own.rest.0.0.0.0.1 c.in_default.in_default-own.rest.0.0.0.1 c.in_default.in_default-own.rest.0.0.1 c.in_default.in_default-own.rest.0.1 c.in_default.in_default-own.rest.1
