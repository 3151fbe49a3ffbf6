-- The lines of a trace that is played are those of its calls made directly (02: N5).
use Rattle.std.specs.Prelude.{ℕ, ◌+◌, ◌≡◌, refl, Bool, true, false, cond, List, [], ◌∷◌, ◌++◌, eqb, get_or}
use Rattle.std.proofs.Common.{sym, ◌∙◌, ap, ap₂, append_assoc, append-nil, ne_eqb}
use Rattle.laws.specs.Lists.{joined}
use Rattle.laws.specs.Test.{same_or}
use Rattle.spec.specs.Store.{Store}
use Rattle.spec.specs.Calls as calls
use Rattle.spec.specs.Calls.{Call, call}
use Rattle.spec.specs.Demand.{after}
use Rattle.commit_answer.specs.Answer.{Tables, view_of, outcome_of, answer_of}
use Rattle.trace.specs.Kinds.{Start, Round, Name, Resolve, Certify, Remove, Drop, Gap, Reset, Outlook, Broken, kind_of}
use Rattle.trace.specs.Head.{fields_at}
use Rattle.trace.specs.Fields.{call_by}
use Rattle.trace.specs.Codes.{Trace, trace_in}
use Rattle.lines.specs.Lines.{Line, lines_of, last_line, end_lines, lines_from, text, text-append, lines_at, said_anchors, said_lines, said_text}
use Rattle.lines.specs.Held.{is_commit, said_is}
use Rattle.play_calls.specs.Calls.{takes_buffer}
use Rattle.play.specs.Runs.{Runs, none_yet, one_more}
use Rattle.demand.specs.Code.{Made, outcome, calls_of}
use Rattle.demand.specs.Recorded.{made_in, made_by, code_known}
use Rattle.demand.specs.Played.{Ended}

-- the whole output of a trace whose calls are made directly: "one line per anchor record .., for each refusal, after its call's anchors, a line ..,
-- and at the end `rounds `"; a record refused with 26 or 27 ends it, "`rounds ` still following"
unfoldable pub output : Store → Trace → List Line
output s t = lines_from s t.calls ++ (end_lines t.ended ++ (last_line (after s t.calls) ∷ []))

-- its bytes
unfoldable pub output_text : Store → Trace → List ℕ
output_text s t = text (output s t)
