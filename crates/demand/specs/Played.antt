-- What is played equals the same calls made directly (02: N5): the calls of a run are those that the bytes are read as, one after another, and
-- demand 3 (01: 'Demand 3') of a trace of any length.
use Rattle.std.specs.Prelude.{ℕ, zero, suc, ◌+◌, ◌-◌, ◌<◌, ◌≤◌, ◌≡◌, refl, Bool, true, false, not, ◌&&◌, cond, ◌⊎◌, eqb, length, get_or}
use Rattle.std.proofs.Common.{sym, ◌∙◌, subst, ap, inl, inr, arith, zero-add, length-append, le-leb}
use mathlib.Core.List.{List, [], ◌∷◌, ◌++◌, Memᴰ}
use Rattle.std.proofs.lemmas.Bool.{lt-leb}
use Rattle.laws.specs.Lists.{NoDup, joined}
use Rattle.laws.specs.Test.{le_or}
use Rattle.spec.specs.Store.{Store, retained}
use Rattle.spec.specs.Chain.{Out, bad, good, refuse}
use Rattle.spec.specs.Calls.{Call, StartArgs, start, call, done}
use Rattle.spec.specs.Demand.{AllInList, after, History, histories, resolutions, Given, AllExact, AllAsSaid, Summed, LinksTold}
use Rattle.spec.proofs.Demand3.{demand_3, sums_follow}
use Rattle.spec.proofs.LinksFollow.{links_follow}
use Rattle.commit_answer.specs.Answer.{Tables, view_of}
use Rattle.trace.specs.Kinds.{kind_of, kind_ok, kind_known}
use Rattle.trace.specs.Head.{fields_fit, whole_at, rest_at, fields_at, version_ok, kind_code, code_at, by_zero, code_whole, whole_elim}
use Rattle.trace.specs.Fields.{call_by}
use Rattle.trace.specs.Codes.{Found, read_at, Trace, more, go_on, trace_from, trace_in}
use Rattle.trace.proofs.CodeAt.{code_of, code_is}
use Rattle.trace.proofs.ReadBack.{trace_more, trace_end}
use Rattle.trace.proofs.WriteBack.{AllBytes, bytes-part}
use Rattle.play.specs.Runs.{Runs, none_yet, one_more}
use Rattle.demand.specs.Code.{Made, outcome, calls_of}
use Rattle.demand.specs.Recorded.{made_in, NoReset, AllFit}

-- ---- one record

-- the call of the record at p, lent the buffer room
abbrev pub call_at : List ℕ → List ℕ → ℕ → Call
call_at room bs p = call_by (kind_of (get_or bs (p + 5) 0)) (fields_at bs p) room

-- calls before a trace
unfoldable pub prepend : List Call → Trace → Trace
prepend [] t = t
prepend (c ∷ cs) t = more c (prepend cs t)

-- the play of bs has come to its end at p: no byte is left, or the record there is refused with code ("both end the play")
abbrev pub Ended : List ℕ → ℕ → ℕ → Type 0
Ended bs p code = ((code ≡ 0) × (p ≡ length bs)) ⊎ ((code ≡ 0 → ⊥) × (p < length bs) × (code ≡ code_at false bs p))

-- and what each record in it says
abbrev pub EachTraced : (List Given → History → Type 0) → Type 0
EachTraced P = (room bs : List ℕ) → AllBytes bs → (s : Store) (xs ys zs : List Call) (a : StartArgs) → (trace_in room bs).calls ≡ xs ++ (start a ∷ (ys ++ zs)) → (call (after s xs) (start a)).answer ≡ done → NoReset ys
    → let t = (call (after s xs) (start a)).store in (x : History) → Memᴰ x (histories t ys) → P (resolutions t ys) x
