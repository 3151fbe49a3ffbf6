-- Demand 3 (01: 'Demand 3'), the sums (02: N2) and the links behind the points (02: N7) of the code: whatever list of calls is made, one after
-- another on the tables that the one before left, with answers, tables and bytes as their contracts say.
use Rattle.std.specs.Prelude.{ℕ, suc, ◌≡◌, refl, true, eqb}
use Rattle.std.proofs.Common.{sym, ◌∙◌, subst, ap, ap₂}
use mathlib.Core.List.{List, [], ◌∷◌, ◌++◌, map, Memᴰ}
use Rattle.laws.specs.Lists.{NoDup, joined}
use Rattle.spec.specs.Ids.{Id}
use Rattle.spec.specs.Store.{Store, retained}
use Rattle.spec.specs.Rules.{counts_as_started}
use Rattle.spec.specs.Calls as calls
use Rattle.spec.specs.Calls.{Call, StartArgs, start, commit, call, done, flag, anchors, refused}
use Rattle.spec.specs.Demand.{AllInList, after, History, wrote, histories, Given, gave, resolutions, AllExact, AsSaid, AllAsSaid, AllArrive, Summed, LinksTold}
use Rattle.spec.specs.HeightEquations.{Sized}
use Rattle.spec.proofs.Demand3.{demand_3, sums_follow}
use Rattle.spec.proofs.LinksFollow.{links_follow}
use Rattle.models.specs.Digest.{Fit}
use Rattle.tables_test.specs.Whole.{sized}
use Rattle.tables_test.specs.Refines.{counted}
use Rattle.models.specs.declared.refusal.Refusal.{Refusal}
use Rattle.commit_answer.specs.declared.answer.Answer.{Answer}
use Rattle.commit_answer.specs.declared.answer.Answer.TheVariants.{Done, Flag, Anchors, Refused}
use Rattle.models.specs.Refusal.{refusal_from, refusal_from_of}
use Rattle.commit_answer.specs.Answer.{Tables, view_of, Left, outcome_of, answer_of, Did}

-- one call that was made: 01's call that it is, the tables before it, what it left, and that it has done what its contract says
pub record Made : Type 0 where
  pub what : Call
  pub before : Tables
  pub left : Left
  pub model : Tables → Left
  pub did : Did what model before left

-- what it left, in 01's terms
abbrev pub outcome : Made → calls.Outcome
outcome m = outcome_of m.left

-- "each call gets the whole store .. as the one before left it"
abbrev pub Chained : Tables → List Made → Type 0
Chained d [] = Unit {0}
Chained d (m ∷ ms) = (m.before ≡ d) × Chained m.left.tables ms

-- the tables after them, and 01's calls that they are
unfoldable pub last_tables : Tables → List Made → Tables
last_tables d [] = d
last_tables d (m ∷ ms) = last_tables m.left.tables ms

abbrev pub calls_of : List Made → List Call
calls_of ms = map (λ (m : Made). m.what) ms

-- the histories, read from the bytes that its commits left, and the links and numbers that its accepted resolutions gave
unfoldable pub histories_in : List Made → List History
histories_in [] = []
histories_in (m ∷ ms) = wrote (view_of m.before) m.what (outcome m) ++ histories_in ms

unfoldable pub resolutions_in : List Made → List Given
resolutions_in [] = []
resolutions_in (m ∷ ms) = gave m.what (answer_of m.left.answer) ++ resolutions_in ms

-- what each call writes, that a start inside is refused, and which rounds are retained
abbrev pub AllSaid : List Made → Type 0
AllSaid [] = Unit {0}
AllSaid (m ∷ ms) = AsSaid (view_of m.before) m.what (outcome m) × AllSaid ms

-- "no point stands in two histories or twice in one, and each history holds exactly the points .. that any path from the anchor reaches and
-- no earlier history held": after a start of the code that answers done. Each call does as said, and the start adds its bottom, no other round
abbrev pub FirstHalf : Type 0
FirstHalf = (s : Made) (b : StartArgs) (ms : List Made) → s.what ≡ start b → answer_of s.left.answer ≡ done → Chained s.left.tables ms → AllInList (calls_of ms)
    → NoDup (joined (λ (h : History). h.ids) (histories_in ms)) × AllExact (resolutions_in ms) [] (histories_in ms) × AllSaid ms × ((r : ℕ) → retained (view_of s.left.tables) r ≡ eqb r b.bottom)

-- "The second list begins at any tables that count as started", of 64-bit words. "The commit after it is compared with the same one made
-- there at once: the whole answer, every byte of the buffer." 02, N1: "when the lists are the same too"
abbrev pub SecondHalf : Type 0
SecondHalf = (d : Tables) → Fit d.keys → Fit d.links → counts_as_started (view_of d) ≡ true → (i : Id) (ls b : List ℕ) (n : ℕ) (m l : Made) (ms : List Made)
    → m.before ≡ d → m.what ≡ commit i ls b → answer_of m.left.answer ≡ anchors (suc n)
    → Chained d ms → AllArrive (view_of d) (calls_of ms)
    → l.before ≡ last_tables d ms → l.what ≡ commit i ls b
    → (l.left.answer ≡ m.left.answer) × (l.left.buffer ≡ m.left.buffer)

-- what each record, as read from the bytes that its commits left, says by the accepted resolutions of the list
abbrev pub EachRecord : (List Given → History → Type 0) → Type 0
EachRecord P = (s : Made) (b : StartArgs) (ms : List Made) → s.what ≡ start b → answer_of s.left.answer ≡ done → Chained s.left.tables ms → AllInList (calls_of ms)
    → (h : History) → Memᴰ h (histories_in ms) → P (resolutions_in ms) h

-- 02, N2: "Sums follow from the ids in the record and from what was resolved."
abbrev pub SumsFollow : Type 0
SumsFollow = EachRecord Summed

-- 02, N7: "for each point in the same order, the id of a point of the same history that links to it and the word .. The anchor stands with
-- itself .. Any other point without such a link is in no history."
abbrev pub LinksFollow : Type 0
LinksFollow = EachRecord LinksTold
