-- Theorems on the definitions of specs/Whole.
use Rattle.std.specs.Prelude.{ℕ, ◌-◌, ◌<◌, ◌≤◌, ◌≡◌, refl, Bool, true, false, List, [], ◌∷◌, ◌++◌, length}
use Rattle.std.proofs.Common.{sym, ap, subst, ◌∙◌, append-nil, inl, inr, arith, zero-add, length-append}
use Rattle.spec.specs.Demand.{after}
use Rattle.commit_answer.specs.Answer.{Tables, view_of}
use Rattle.trace.specs.Head.{code_at, least_left, by_zero}
use Rattle.trace.specs.Codes.{Trace, trace_in}
use Rattle.trace.specs.Within.{code_far}
use Rattle.lines.specs.Lines.{last_line, end_lines, text}
use Rattle.play.specs.Runs.{Runs, none_yet, runs_on}
use Rattle.play_input.specs.Fed.{Fed}
use Rattle.demand.specs.Played.{Ended}
use Rattle.demand.proofs.PlayedLaws.{whole_read, run_after}
use Rattle.demand.specs.Lines.{output_text}
use Rattle.demand.proofs.LinesLaws.{whole_text}
use Rattle.demand.specs.Whole.{Played, NothingBehind}

-- The play has ended; es: what stands in the input behind all that was read, nothing if the input ended with it
module _ (room : List ℕ) (size : ℕ) (b c : Tables) (base code : ℕ) (rest : List ℕ) (f : Fed false room size [] 0 b c base code false rest) (es : List ℕ) (none : NothingBehind f.last es) where
  abbrev whole : List ℕ
  whole = f.read ++ es

  runs : Runs false room whole b f.at f.said c
  runs = subst (λ (p : ℕ). Runs false room whole b p f.said c) (zero-add f.at) (runs_on false room [] f.read es b b c f.at [] f.said f.runs none_yet)

  -- if it has ended, there is no more than was read
  no_more : f.last ≡ true → f.read ≡ whole
  no_more t = sym (ap (λ (l : List ℕ). f.read ++ l) (none t) ∙ append-nil f.read)

  -- a record that is refused is so whatever stands behind it
  refused_there : (code ≡ 0 → ⊥) → (t : Bool) → f.last ≡ t → (f.at < length whole) × (code ≡ code_at false whole f.at)
  refused_there n true e =
      let (l, k) = f.refused n in
      (subst (λ (bs : List ℕ). f.at < length bs) (no_more e) (omega (arith, subst (λ (u : Bool). least_left u ≤ length f.read - f.at) e l)), k ∙ ap (λ (bs : List ℕ). code_at false bs f.at) (no_more e))
  refused_there n false e =
      let (l, k) = f.refused n in
      let m : 4100 ≤ length f.read - f.at = subst (λ (u : Bool). least_left u ≤ length f.read - f.at) e l in
      (omega (arith, m, length-append f.read es), k ∙ sym (code_far f.read es f.at false (omega (arith, m))))

  end : Ended whole f.at code
  end = by_zero code (λ z. let (t, e) = f.ended refl z in inl (z, e ∙ ap length (no_more t))) (λ n. let (l, k) = refused_there n f.last refl in inr (n, l, k))

  pub played : Played room whole b c f.said code
  played = record {
    ended = ap (λ (t : Trace). t.ended) (whole_read runs code end);
    store = run_after runs ∙ ap (λ (t : Trace). after (view_of b) t.calls) (sym (whole_read runs code end));
    output = whole_text runs code end;
  }
