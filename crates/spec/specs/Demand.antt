-- Demand 3, the statement (01: 'Demand 3'). Its proof is in Demand3.antt.
use Rattle.std.specs.Prelude.{ℕ, zero, suc, ◌+◌, ◌-◌, ◌*◌, ◌^◌, ◌<◌, ◌≤◌, max, ◌≡◌, ◌⊎◌, ◌≢◌, ◌↔◌, Bool, true, false, not, ◌&&◌, ◌||◌, eqb, ltb, length, take, drop}
use mathlib.Core.List.{List, [], ◌∷◌, ◌++◌, map, Memᴰ}
use Rattle.std.proofs.Math.Option.{some}
use Rattle.laws.specs.Lists.{NoDup, joined, weigh}
use Rattle.laws.specs.Bytes.{value, be}
use Rattle.spec.specs.Ids.{Id, Link, same_id, links_of, fits}
use Rattle.spec.specs.Store.{Resolution, Store, id_at, find, status_at, retained}
use Rattle.spec.specs.Paths.{Path}
use Rattle.spec.specs.Rules.{counts_as_started}
use Rattle.spec.specs.Chain.{Refusal, number, Out, bad, good, EnqueuedAnchor, anchors_of}
use Rattle.spec.specs.History.{limit, lists_ok, after_lists, includes_word, witness_word, anchor_word, record_bytes, test_anchor, dequeued}
use Rattle.spec.specs.Calls.{Answer, done, flag, anchors, refused, Outcome, without_buffer, StartArgs, Call, start, reset_all, round, name, resolve, certify, gap_question, commit, outlook, remove, drop as drop_to, call}
use Rattle.spec.specs.HeightEquations.{Sized}

-- ---- lists of calls

-- "The list holds no reset"; a digest has 32 bytes
abbrev pub InList : Call → Type 0
InList c = elim c [ start b ↦ Unit {0} | reset_all ↦ ⊥ | round r peers ↦ Unit {0} | name i ↦ i.digest < 256 ^ 32 | resolve i t ↦ Unit {0} | certify i ↦ Unit {0} | gap_question ↦ Unit {0} | commit i l b ↦ Unit {0} | outlook i b ↦ Unit {0} | remove r from b ↦ Unit {0} | drop_to r ↦ Unit {0} ]

abbrev pub AllInList : List Call → Type 0
AllInList [] = Unit {0}
AllInList (c ∷ cs) = InList c × AllInList cs

-- "each call gets the whole store .. as the one before left it"
unfoldable pub after : Store → List Call → Store
after s [] = s
after s (c ∷ cs) = after (call s c).store cs

-- ---- histories

-- an id read from its 37 bytes
unfoldable pub read_id : List ℕ → Id
read_id bs = record { round = value 0 (take 4 bs); author = value 0 (take 1 (drop 4 bs)); digest = value 0 (take 32 (drop 5 bs)) }

unfoldable pub read_ids : ℕ → List ℕ → List Id
read_ids zero bs = []
read_ids (suc n) bs = read_id bs ∷ read_ids n (drop 37 bs)

-- a history as it was written: the store at its commit, the anchor, the ids and what follows them
pub record History : Type 0 where
  pub at : Store
  pub anchor : Id
  pub ids : List Id
  pub tail : List ℕ

-- the bytes that follow the ids of a record of n points; 02, N7: an id and a word of 8 bytes for each point; N2: "an anchor record ends with
-- their two 64-bit sums"
abbrev pub tail_size : ℕ → ℕ
tail_size n = n * 45 + 16

-- "Its histories are the ids that follow the number of points, as many as it says, in each anchor record that its commits wrote, in the
-- order written". The number stands after two ids, the executable byte and the previous anchor round: at byte 79.
unfoldable pub read_records : Store → ℕ → List ℕ → List History
read_records s zero bs = []
read_records s (suc n) bs =
    let points = value 0 (take 4 (drop 79 bs)) in
    record { at = s; anchor = read_id bs; ids = read_ids points (drop 83 bs); tail = take (tail_size points) (drop (83 + points * 37) bs) }
    ∷ read_records s n (drop (83 + points * 37 + tail_size points) bs)

-- "records before a refused anchor too": as many as the answer's finished anchors
unfoldable pub finished : Answer → ℕ
finished a = elim a [ done ↦ 0 | flag b ↦ 0 | anchors n ↦ n | refused r n ↦ n ]

unfoldable pub wrote : Store → Call → Outcome → List History
wrote s c o = elim c [ start b ↦ [] | reset_all ↦ [] | round r peers ↦ [] | name i ↦ [] | resolve i t ↦ [] | certify i ↦ [] | gap_question ↦ [] | commit i l b ↦ read_records s (finished o.answer) o.buffer | outlook i b ↦ [] | remove r from b ↦ [] | drop_to r ↦ [] ]

unfoldable pub histories : Store → List Call → List History
histories s [] = []
histories s (c ∷ cs) = wrote s c (call s c) ++ histories (call s c).store cs

-- ---- paths

-- an accepted resolution: the id, the links and the two numbers (02, N2: "Resolving takes both") that it gave
pub record Given : Type 0 where
  pub who : Id
  pub links : List Link
  pub payload_len : ℕ
  pub payload_bytes : ℕ

unfoldable pub accepted : Id → Resolution → Answer → List Given
accepted i t a = elim a [ done ↦ record { who = i; links = links_of t.includes t.witness; payload_len = t.payload_len; payload_bytes = t.payload_bytes } ∷ [] | flag b ↦ [] | anchors n ↦ [] | refused r n ↦ [] ]

unfoldable pub gave : Call → Answer → List Given
gave c a = elim c [ start b ↦ [] | reset_all ↦ [] | round r peers ↦ [] | name i ↦ [] | resolve i t ↦ accepted i t a | certify i ↦ [] | gap_question ↦ [] | commit i l b ↦ [] | outlook i b ↦ [] | remove r from b ↦ [] | drop_to r ↦ [] ]

unfoldable pub resolutions : Store → List Call → List Given
resolutions s [] = []
resolutions s (c ∷ cs) = gave c (call s c).answer ++ resolutions (call s c).store cs

-- "links as accepted resolutions gave them, each leading one or two rounds down to the point with that peer and digest"
pub record Edge (G : List Given) (x y : Id) : Type 0 where
  pub given : Given
  pub among : Memᴰ given G
  pub whose : given.who ≡ x
  pub link : Link
  pub of : Memᴰ link given.links
  pub leads : fits x.round y link ≡ true

-- ---- what each call of the list does

-- "each anchor, oldest first, is tested for 22, for 13 to 15 over its history downwards, then 17, 18, 20, 21 .. Finished anchors keep their
-- records and marks", 24 "after 20 and before 21" (02, N1): the tests of the anchor e, on the store, with the lists and with the bytes of the
-- buffer that the anchors before it leave
unfoldable pub test_after : Store → List ℕ → ℕ → List EnqueuedAnchor → EnqueuedAnchor → Out ℕ
test_after s l left [] e = test_anchor s l left (length (record_bytes s l e)) e.anchor
test_after s l left (x ∷ before) e = test_after (dequeued s x) (after_lists s x.anchor l) (left - length (record_bytes s l x)) before e

-- "stopping before one that the tests above refuse", with just that refusal; where none is refused, all anchors of the chain are finished
abbrev pub Stops : Store → List ℕ → ℕ → List EnqueuedAnchor → List EnqueuedAnchor → Answer → Type 0
Stops s l left first [] a = a ≡ anchors (length first)
Stops s l left first (e ∷ more) a = (r : Refusal) × (test_after s l left first e ≡ bad r) × (a ≡ refused r (length first))

-- "one for each anchor of its chain, oldest first": the records in the buffer are those of the chain's first anchors, and these pass the tests
pub record OneForEach (s : Store) (l b : List ℕ) (chain : List EnqueuedAnchor) (o : Outcome) : Type 0 where
  pub first : List EnqueuedAnchor
  pub others : List EnqueuedAnchor
  pub oldest : chain ≡ first ++ others
  pub one : map (λ (h : History). h.anchor) (read_records s (finished o.answer) o.buffer) ≡ map (λ (e : EnqueuedAnchor). id_at s e.anchor) first
  pub pass : (before more : List EnqueuedAnchor) (e : EnqueuedAnchor) → first ≡ before ++ (e ∷ more) → (n : ℕ) × (test_after s l (length b) before e ≡ good n)
  pub stop : Stops s l (length b) first others o.answer

-- "A commit turned away, or refused by the end of its walk, writes none; any other writes one for each anchor of its chain, oldest first,
-- stopping before one that the tests above refuse."
abbrev pub Writes : Store → List ℕ → List ℕ → Out (List EnqueuedAnchor) → Outcome → Type 0
Writes s l b (good []) o = o ≡ record { answer = anchors 0; store = s; buffer = b }
Writes s l b (bad r) o = o ≡ record { answer = refused r 0; store = s; buffer = b }
Writes s l b (good (e ∷ es)) o = OneForEach s l b (e ∷ es) o

-- "a start inside it is refused": by 1, or by 2 as "start twice"
abbrev pub StartRefused : Store → Outcome → Type 0
StartRefused s o = (o ≡ without_buffer s (refused (number 1) 0)) ⊎ (o ≡ without_buffer s (refused (number 2) 0))

unfoldable pub is_done : Answer → Bool
is_done a = elim a [ done ↦ true | flag b ↦ false | anchors n ↦ false | refused r n ↦ false ]

-- the call adds the round r: "Adding a round at or below the top does nothing."
unfoldable pub adds : Store → Call → Answer → ℕ → Bool
adds s c a r = elim c [ start b ↦ false | reset_all ↦ false | round x peers ↦ is_done a && (eqb r x && ltb s.top x) | name i ↦ false | resolve i t ↦ false | certify i ↦ false | gap_question ↦ false | commit i l b ↦ false | outlook i b ↦ false | remove x from b ↦ false | drop_to x ↦ false ]

-- the call drains the round r: a drop what is below its round, a remove, unless refused, what is more than H below its own; never the top
unfoldable pub drains : Store → Call → Answer → ℕ → Bool
drains s c a r = elim c [ start b ↦ false | reset_all ↦ false | round x peers ↦ false | name i ↦ false | resolve i t ↦ false | certify i ↦ false | gap_question ↦ false | commit i l b ↦ false | outlook i b ↦ false | remove x from b ↦ is_done a && (ltb r (x - s.conf.history_rounds) && ltb r s.top) | drop_to x ↦ ltb r x && ltb r s.top ]

-- "A round is retained from the start or call that adds it until a drop or remove drains it"
abbrev pub Retains : Store → Call → Outcome → Type 0
Retains s c o = (r : ℕ) → retained o.store r ≡ ((retained s r || adds s c o.answer r) && not (drains s c o.answer r))

-- a call that finds the store s and leaves o
abbrev pub AsSaid : Store → Call → Outcome → Type 0
AsSaid s c o = ((i : Id) (l b : List ℕ) → c ≡ commit i l b → Writes s l b (anchors_of s i) o) × ((b : StartArgs) → c ≡ start b → StartRefused s o) × Retains s c o

abbrev pub AllAsSaid : Store → List Call → Type 0
AllAsSaid s [] = Unit {0}
AllAsSaid s (c ∷ cs) = AsSaid s c (call s c) × AllAsSaid (call s c).store cs

-- ---- the first half

-- Ours, of the demand: each history holds exactly the points of the retained rounds, from limit to anchor, that any path from the anchor
-- reaches and that no earlier history held. 01: "each history goes by the rounds retained at its commit". The links G are those of all
-- accepted resolutions of the list, later ones too: 01's path knows no time, and a resolution after the commit adds no path to its history,
-- since every point on a path within it was resolved then.
abbrev pub Exact : List Given → List Id → History → Type 0
Exact G earlier h = (x : Id) → Memᴰ x h.ids
    ↔ ((retained h.at x.round ≡ true) × (limit h.at.conf h.anchor.round ≤ x.round) × (x.round ≤ h.anchor.round) × Path (Edge G) h.anchor x × (Memᴰ x earlier → ⊥))

abbrev pub AllExact : List Given → List Id → List History → Type 0
AllExact G earlier [] = Unit {0}
AllExact G earlier (h ∷ hs) = Exact G earlier h × AllExact G (earlier ++ h.ids) hs

-- Ours, of the demand: after a start that isn't refused, for any list of the ten calls, no point stands in two histories or twice in one,
-- and each is exact; each call does as 01 says, and the start adds its bottom, no other round
abbrev pub FirstHalf : Type 0
FirstHalf = (s : Store) (b : StartArgs) (cs : List Call) → (call s (start b)).answer ≡ done → AllInList cs
    → let t = (call s (start b)).store in NoDup (joined (λ (h : History). h.ids) (histories t cs)) × AllExact (resolutions t cs) [] (histories t cs) × AllAsSaid t cs × ((r : ℕ) → retained t r ≡ eqb r b.bottom)

-- ---- the second half

-- Ours, of the demand: late rounds, names, resolutions and certificates. 01: "No certificate in this list names a point that has status 2
-- at that call."
abbrev pub Arrives : Store → Call → Type 0
Arrives s c = elim c [ start b ↦ ⊥ | reset_all ↦ ⊥ | round r peers ↦ Unit {0} | name i ↦ Unit {0} | resolve i t ↦ Unit {0} | certify i ↦ (q : ℕ) → find s i ≡ some q → status_at s q ≢ 2 | gap_question ↦ ⊥ | commit i l b ↦ ⊥ | outlook i b ↦ ⊥ | remove r from b ↦ ⊥ | drop_to r ↦ ⊥ ]

abbrev pub AllArrive : Store → List Call → Type 0
AllArrive s [] = Unit {0}
AllArrive s (c ∷ cs) = Arrives s c × AllArrive (call s c).store cs

-- "The second list begins at any tables that count as started. The commit after it is compared with the same one made there at once: the
-- whole answer, every byte of the buffer." 02, N1: "late arrivals change no answer when the lists are the same too". The trigger yields an
-- anchor and no refusal.
abbrev pub SecondHalf : Type 0
SecondHalf = (s : Store) → Sized s → counts_as_started s ≡ true → (i : Id) (l b : List ℕ) (n : ℕ) → (call s (commit i l b)).answer ≡ anchors (suc n)
    → (cs : List Call) → AllArrive s cs
    → ((call (after s cs) (commit i l b)).answer ≡ (call s (commit i l b)).answer) × ((call (after s cs) (commit i l b)).buffer ≡ (call s (commit i l b)).buffer)

-- "This is a single claim about the whole list, not one for each call."
abbrev pub Demand3 : Type 0
Demand3 = FirstHalf × SecondHalf

-- ---- the sums (02: N2)

-- "what was resolved": what the accepted resolution of x gave, 0 if there is none
unfoldable pub paid : (Given → ℕ) → List Given → Id → ℕ
paid f [] x = 0
paid f (g ∷ gs) x = elim (same_id g.who x) [ true ↦ f g | false ↦ paid f gs x ]

-- "Sums follow from the ids in the record and from what was resolved."
abbrev pub Summed : List Given → History → Type 0
Summed G h = drop (length h.ids * 45) h.tail ≡ be 8 (weigh (paid (λ g. g.payload_len) G) h.ids) ++ be 8 (weigh (paid (λ g. g.payload_bytes) G) h.ids)

-- so it is of every record, for any list of the ten calls after a start that isn't refused
abbrev pub SumsFollow : Type 0
SumsFollow = (s : Store) (b : StartArgs) (cs : List Call) → (call s (start b)).answer ≡ done → AllInList cs
    → let t = (call s (start b)).store in (h : History) → Memᴰ h (histories t cs) → Summed (resolutions t cs) h

-- ---- the links behind the points (02: N7)

-- what follows the ids: of each point the id that is told and a word of 8 bytes
pub record ToldLink : Type 0 where
  pub by : Id
  pub word : List ℕ

unfoldable pub read_links : ℕ → List ℕ → List ToldLink
read_links zero bs = []
read_links (suc n) bs = record { by = read_id bs; word = take 8 (drop 37 bs) } ∷ read_links n (drop 45 bs)

-- what is told of a point x of the history h that isn't its anchor
pub record LinkBehind (G : List Given) (h : History) (x : Id) (t : ToldLink) : Type 0 where
  -- "the id of a point of the same history that links to it", by a link as an accepted resolution gave it
  pub inside : Memᴰ t.by h.ids
  pub edge : Edge G t.by x
  -- "and the word `includes` or `witness`"; 01: "Includes lead one round down, witness two."
  pub kind : ((edge.link.dist ≡ 1) × (t.word ≡ includes_word)) ⊎ ((edge.link.dist ≡ 2) × (t.word ≡ witness_word))
  -- "Among several it is the one in the highest round, then with the lowest digest."
  pub first : (y : Id) → Memᴰ y h.ids → Edge G y x → (y ≡ t.by) ⊎ ((y.round < t.by.round) ⊎ ((y.round ≡ t.by.round) × (t.by.digest < y.digest)))

-- "The anchor stands with itself and the word `anchor`. Any other point without such a link is in no history."
abbrev pub ToldOf : List Given → History → Id → ToldLink → Type 0
ToldOf G h x t = ((x ≡ h.anchor) × (t.by ≡ x) × (t.word ≡ anchor_word)) ⊎ ((x ≢ h.anchor) × LinkBehind G h x t)

-- "for each point in the same order"
abbrev pub AllToldOf : List Given → History → List Id → List ToldLink → Type 0
AllToldOf G h [] [] = Unit {0}
AllToldOf G h [] (t ∷ ts) = ⊥
AllToldOf G h (x ∷ xs) [] = ⊥
AllToldOf G h (x ∷ xs) (t ∷ ts) = ToldOf G h x t × AllToldOf G h xs ts

abbrev pub LinksTold : List Given → History → Type 0
LinksTold G h = AllToldOf G h h.ids (read_links (length h.ids) h.tail)

-- so it is of every record, for any list of the ten calls after a start that isn't refused
abbrev pub LinksFollow : Type 0
LinksFollow = (s : Store) (b : StartArgs) (cs : List Call) → (call s (start b)).answer ≡ done → AllInList cs
    → let t = (call s (start b)).store in (h : History) → Memᴰ h (histories t cs) → LinksTold (resolutions t cs) h

-- ---- the outlook's counts (02: N6)

-- what an outlook tells of an anchor: its id, the number of its points, and how many points are linked in each of its rounds
pub record Told : Type 0 where
  pub anchor : Id
  pub points : ℕ
  pub linked : List ℕ

-- numbers of 4 bytes
unfoldable pub read_counts : ℕ → List ℕ → List ℕ
read_counts zero bs = []
read_counts (suc k) bs = value 0 (take 4 bs) ∷ read_counts k (drop 4 bs)

-- the records of an outlook; 02, N1: a count for "each round from the anchor's down to the limit or the store's bottom"
unfoldable pub read_told : Store → ℕ → List ℕ → List Told
read_told s zero bs = []
read_told s (suc n) bs =
    let who = read_id bs in
    let rounds = suc who.round - max (limit s.conf who.round) s.bottom in
    record { anchor = who; points = value 0 (take 4 (drop 37 bs)); linked = read_counts rounds (drop 41 bs) } ∷ read_told s n (drop (41 + rounds * 4) bs)

-- "If no call lies between and the commit isn't refused, the commit's counts are the outlook's. The linked counts from N1 suppose the same."
-- Of any tables that count as started: the same anchors, each with as many points, and the lists that the commit was lent are right by the
-- linked counts of all anchors.
abbrev pub CountsAgree : Type 0
CountsAgree = (s : Store) → Sized s → counts_as_started s ≡ true → (i : Id) (c l b : List ℕ) (m n : ℕ) → (call s (outlook i c)).answer ≡ anchors m → (call s (commit i l b)).answer ≡ anchors n
    → let told = read_told s m (call s (outlook i c)).buffer in
    let records = read_records s n (call s (commit i l b)).buffer in
    (m ≡ n) × (map (λ (h : History). h.anchor) records ≡ map (λ (t : Told). t.anchor) told) × (map (λ (h : History). length h.ids) records ≡ map (λ (t : Told). t.points) told)
    × (lists_ok (joined (λ (t : Told). t.linked) told) l ≡ true)
