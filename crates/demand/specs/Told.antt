-- The outlook's counts are the commit's (02: N6), of the code: of calls that were made, with answers, tables and bytes as their contracts say.
use Rattle.std.specs.Prelude.{ℕ, ◌≡◌, ◌↔◌, true, List, map, length}
use Rattle.std.proofs.Common.{sym, ◌∙◌, ap}
use Rattle.laws.specs.Lists.{joined}
use Rattle.spec.specs.Ids.{Id}
use Rattle.spec.specs.Rules.{counts_as_started}
use Rattle.spec.specs.Chain.{Refusal}
use Rattle.spec.specs.History.{lists_ok}
use Rattle.spec.specs.Calls as calls
use Rattle.spec.specs.Calls.{Call, outlook, commit, call, anchors, refused, number_of}
use Rattle.spec.specs.Demand.{History, read_records, Told, read_told}
use Rattle.spec.specs.HeightEquations.{Sized}
use Rattle.spec.specs.WellFormed.{Wf, counts_as_started_elim}
use Rattle.spec.proofs.Demand3First.{outlook_store}
use Rattle.spec.specs.Outlook.{Lists}
use Rattle.spec.proofs.Outlook.{outlook-call}
use Rattle.spec.proofs.OutlookCounts.{counts-agree, lists-told, commit-told}
use Rattle.models.specs.Digest.{Fit}
use Rattle.tables_test.specs.Whole.{sized}
use Rattle.tables_test.specs.Refines.{counted}
use Rattle.commit_answer.specs.Answer.{Tables, view_of, answer_of}
use Rattle.demand.specs.Code.{Made}

-- of any tables that count as started, of 64-bit words, a statement about their store
abbrev pub OnTables : (Tables → Type 0) → Type 0
OnTables P = (d : Tables) → Fit d.keys → Fit d.links → counts_as_started (view_of d) ≡ true → P d

-- "If no call lies between and the commit isn't refused, the commit's counts are the outlook's. The linked counts from N1 suppose the same.":
-- a commit made on the tables that the outlook left. The same anchors, each with as many points, as read from the bytes that both left, and
-- the lists that the commit was lent are right by the linked counts of all anchors
abbrev pub CountsAgree : Type 0
CountsAgree = OnTables (λ d. (i : Id) (c l b : List ℕ) (m n : ℕ) (o k : Made)
    → o.before ≡ d → o.what ≡ outlook i c → answer_of o.left.answer ≡ anchors m
    → k.before ≡ o.left.tables → k.what ≡ commit i l b → answer_of k.left.answer ≡ anchors n
    → let told = read_told (view_of d) m o.left.buffer in
    let records = read_records (view_of d) n k.left.buffer in
    (m ≡ n) × (map (λ (h : History). h.anchor) records ≡ map (λ (t : Told). t.anchor) told) × (map (λ (h : History). length h.ids) records ≡ map (λ (t : Told). t.points) told)
    × (lists_ok (joined (λ (t : Told). t.linked) told) l ≡ true))

-- so a host can make the lists of all anchors: those right by the told counts are those that a commit of the trigger asks for
abbrev pub ListsTold : Type 0
ListsTold = OnTables (λ d. (i : Id) (c : List ℕ) (m : ℕ) (o : Made) → o.before ≡ d → o.what ≡ outlook i c → answer_of o.left.answer ≡ anchors m
    → (l : List ℕ) → (lists_ok (joined (λ (t : Told). t.linked) (read_told (view_of d) m o.left.buffer)) l ≡ true) ↔ Lists (view_of d) i l)

-- a trigger whose commit isn't refused has an outlook that is refused by 21 at most
abbrev pub NoRoomAtMost : Type 0
NoRoomAtMost = OnTables (λ d. (i : Id) (c l b : List ℕ) (n : ℕ) (o k : Made) → o.before ≡ d → o.what ≡ outlook i c → k.before ≡ d → k.what ≡ commit i l b → answer_of k.left.answer ≡ anchors n
    → (r : Refusal) (f : ℕ) → answer_of o.left.answer ≡ refused r f → number_of r ≡ 21)
