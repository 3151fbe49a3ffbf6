-- What `player` has played (02: N5): of the contract of its loop over an input of any length.
use Rattle.std.specs.Prelude.{ℕ, ◌-◌, ◌<◌, ◌≤◌, ◌≡◌, refl, Bool, true, false, List, [], ◌∷◌, ◌++◌, length}
use Rattle.std.proofs.Common.{sym, ap, subst, ◌∙◌, append-nil, inl, inr, arith, zero-add, length-append}
use Rattle.spec.specs.Demand.{after}
use Rattle.commit_answer.specs.Answer.{Tables, view_of}
use Rattle.trace.specs.Head.{code_at, least_left, by_zero}
use Rattle.trace.specs.Codes.{Trace, trace_in}
use Rattle.trace.specs.Within.{code_far}
use Rattle.lines.specs.Lines.{last_line, end_lines, text}
use Rattle.play.specs.Runs.{Runs, none_yet, runs_on}
use Rattle.play_input.specs.Fed.{Fed}
use Rattle.demand.specs.Played.{Ended}
use Rattle.demand.specs.Lines.{output_text}

-- nothing stands in the input behind all that was read, if the input ended with it
abbrev pub NothingBehind : Bool → List ℕ → Type 0
NothingBehind last es = last ≡ true → es ≡ []

-- Of the bytes bs of an input: they are a trace that ended as the program says; the store is the one after its calls, "made directly"; and the bytes of
-- the lines, with those at the end, are the whole output of that trace
pub record Played (room bs : List ℕ) (b c : Tables) (said : List ℕ) (code : ℕ) : Type 0 where
  pub ended : (trace_in room bs).ended ≡ code
  pub store : view_of c ≡ after (view_of b) (trace_in room bs).calls
  pub output : said ++ text (end_lines code ++ (last_line (view_of c) ∷ [])) ≡ output_text (view_of b) (trace_in room bs)
