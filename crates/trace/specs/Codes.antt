-- Records of a trace read as calls, or refused with 26 or 27 (02: N5).
use Rattle.std.specs.Prelude.{ℕ, zero, suc, ◌+◌, List, [], ◌∷◌, Bool, true, false, not, ◌&&◌, leb, length, get_or}
use Rattle.spec.specs.Chain.{Out, bad, good, refuse}
use Rattle.spec.specs.Calls.{Call, number_of}
use Rattle.trace.specs.Kinds.{kind_of, kind_ok}
use Rattle.trace.specs.Head.{fields_fit, rest_at, whole_at, fields_at, version_ok}
use Rattle.trace.specs.Fields.{call_by}

-- a record that was read: its call, and where the next one begins
pub record Found : Type 0 where
  pub what : Call
  pub end : ℕ

-- "It refuses with 26 a record cut short, with a rest under 2 or above 4,096 bytes, or of wrong length for its kind, and with 27, before that
-- last test, an unknown version or kind"; room: the answer buffer that its call is lent, if it takes one
unfoldable pub read_at : List ℕ → List ℕ → ℕ → Out Found
read_at room bs p =
    let v = get_or bs (p + 4) 0 in
    let k = get_or bs (p + 5) 0 in
    refuse (not (whole_at bs p)) 26 (refuse (not (version_ok v k && kind_ok k)) 27 (
    refuse (not (fields_fit k (fields_at bs p))) 26 (good (record { what = call_by (kind_of k) (fields_at bs p) room; end = p + 4 + rest_at bs p }))
    ))

-- "A trace is a run of records": the calls of at most n of them from p on, and the number of the refusal that ended it, 0 for none
pub record Trace : Type 0 where
  pub calls : List Call
  pub ended : ℕ

abbrev ends_by : ℕ → Trace
ends_by n = record { calls = []; ended = n }

unfoldable pub more : Call → Trace → Trace
more c t = record { calls = c ∷ t.calls; ended = t.ended }

-- nothing is left, a record is refused ("both end the play"), or its call is the next
unfoldable pub go_on : Bool → Out Found → (Found → Trace) → Trace
go_on true o next = ends_by 0
go_on false (bad r) next = ends_by (number_of r)
go_on false (good f) next = next f

unfoldable pub trace_from : ℕ → List ℕ → List ℕ → ℕ → Trace
trace_from zero room bs p = ends_by 0
trace_from (suc n) room bs p = go_on (leb (length bs) p) (read_at room bs p) (λ f. more f.what (trace_from n room bs f.end))

-- each record has bytes, so that there are no more records than bytes
unfoldable pub trace_in : List ℕ → List ℕ → Trace
trace_in room bs = trace_from (length bs) room bs 0
