-- The bytes of a remove's answer, part by part (01: "Remove's answer").
use Rattle.std.specs.Prelude.{ℕ, ◌+◌, ◌*◌, ◌≤◌, ◌<◌, ◌≡◌, refl, Bool, false, length, take}
use Rattle.std.proofs.Math.Path.{sym, subst}
use Rattle.std.proofs.Common.{ap, ap₂, ◌∙◌, arith, length-append}
use mathlib.Core.List.{List, [], ◌∷◌, ◌++◌, append_assoc}
use Rattle.std.proofs.Math.Bool.{true}
use Rattle.std.proofs.lemmas.Bool.{false≢true}
use Rattle.std.proofs.Math.Option.{Option, none, some}
use Rattle.std.proofs.Math.ListN.{length-map, length-take}
use borrow.Author.Tests.{leb-true}
use Rattle.laws.specs.Test.{and_l}
use Rattle.laws.specs.Bytes.{be, be-length, written}
use Rattle.laws.specs.Lists.{joined, joined-append, up_to}
use Rattle.laws.specs.Scan.{those, those-same}
use Rattle.spec.specs.Store.{Store}
use Rattle.spec.specs.Rules.{counts_as_started}
use Rattle.spec.specs.Inspect.{Counters, Stats, counter_list, score, shown, Event, no_inclusions, over, events, stats_bytes, event_bytes, is_some, stats_of, remove_bytes}
use Rattle.models.specs.Digest.{Fit}
use Rattle.commit_state.specs.Memory.{memory_holds}
use Rattle.commit_state.specs.View.{memory_of, entry_of}
use Rattle.commit_state.specs.declared.state.State.{State}
use Rattle.tables_test.specs.View.{view}
use Rattle.tables_test.specs.Refines.{Started, counted}
use Rattle.back_history.specs.Refines.{well}
use Rattle.answer_bytes.specs.Sent.{kept, Room, Sent, sent_then, sent_length}
use Rattle.inspector_events.specs.declared.emitted.Emitted.{Emitted}
use Rattle.inspector_events.specs.Told.{Told, Open, Ready, open_left, open_rest, open_all, ready_first, ready_rest, told-then}
use Rattle.inspector_events.specs.Passing.{upto_same, upto_few}
use Rattle.inspector_faults.specs.Sizes.{Short, events_short}
use Rattle.inspector_faults.specs.declared.Fault.TheVariants as fault
use Rattle.inspector_answer.specs.AllFaults.{fault_events, all_faults}
use Rattle.inspector_answer.specs.Answered.{Answered}
use Rattle.inspector_answer.specs.Peers.{peers_bytes}

-- the stats of the peers, and the number of events
unfoldable pub head_bytes : (ℕ → Option Stats) → ℕ → List ℕ
head_bytes f n = peers_bytes f ++ be 4 n

-- the events of missing references
abbrev pub owed_events : Store → ℕ → List Event
owed_events v b = over (no_inclusions v) (shown v b)

-- their size and number
abbrev pub OwedSizes : Store → ℕ → Emitted → Type 0
OwedSizes v low e = (e.at ≡ length (joined event_bytes (owed_events v low))) × (e.count ≡ length (owed_events v low))

-- those of all events
pub record EventsCounted (v : Store) (low : ℕ) (e : Emitted) : Type 0 where
  pub size : e.at ≡ length (joined event_bytes (events v low))
  pub number : e.count ≡ length (events v low)
  pub few : (e.at ≤ 167_182_848) × (e.count ≤ 228_928)

-- ---- all of it

-- the faults, then the missing references
pub events_split : (v : Store) (b : ℕ) → all_faults v b ++ owed_events v b ≡ events v b
unfolding all_faults fault_events events
events_split v b = split (fault_events fault.TransInvalid v b) (fault_events fault.Invalid v b) (fault_events fault.IllFormed v b) (fault_events fault.Equivocated v b) (owed_events v b)
  where
    split : (x₁ x₂ x₃ x₄ o : List Event) → (x₁ ++ (x₂ ++ (x₃ ++ x₄))) ++ o ≡ x₁ ++ (x₂ ++ (x₃ ++ (x₄ ++ o)))
    split x₁ x₂ x₃ x₄ o = append_assoc x₁ (x₂ ++ (x₃ ++ x₄)) o ∙ ap (λ z. x₁ ++ z) (append_assoc x₂ (x₃ ++ x₄) o ∙ ap (λ z. x₂ ++ z) (append_assoc x₃ x₄ o))

-- the stats matter only below 32
peers_same : (f g : ℕ → Option Stats) → ((a : ℕ) → a < 32 → f a ≡ g a) → peers_bytes f ≡ peers_bytes g
unfolding peers_bytes
peers_same f g h =
    ap₂ ◌++◌ (ap (λ l. be 1 (length l)) (those-same 32 (λ a. is_some (f a)) (λ a. is_some (g a)) (λ a l. ap is_some (h a l))))
    (upto_same 32 (λ a. stats_bytes a (f a)) (λ a. stats_bytes a (g a)) (λ a l. ap (stats_bytes a) (h a l)))

-- the answer's bytes, from what the code has
module _ (v : Store) (low : ℕ) (since : Option ℕ) (f : ℕ → Option Stats) (n : ℕ) (same : (a : ℕ) → a < 32 → f a ≡ stats_of v low since a) (is : n ≡ length (events v low)) where
  answer_is : remove_bytes v low since ≡ head_bytes f n ++ joined event_bytes (events v low)
  unfolding remove_bytes head_bytes peers_bytes
  answer_is =
      sym
      (ap₂ (λ x m. (x ++ be 4 m) ++ joined event_bytes (events v low)) (peers_same f (stats_of v low since) same) is
      ∙ (append_assoc (peers_bytes (stats_of v low since)) (be 4 (length (events v low))) (joined event_bytes (events v low)) ∙ parts))
    where
      parts : peers_bytes (stats_of v low since) ++ (be 4 (length (events v low)) ++ joined event_bytes (events v low)) ≡ be 1 (length (those 32 (λ a. is_some (stats_of v low since a)))) ++ (up_to 32 (λ a. stats_bytes a (stats_of v low since a)) ++ (be 4 (length (events v low)) ++ joined event_bytes (events v low)))
      parts = append_assoc (be 1 _) (up_to 32 (λ a. stats_bytes a (stats_of v low since a))) _

-- ---- sizes

-- counters, two bytes each
numbers-length : (xs : List ℕ) → length (joined (be 2) xs) ≡ length xs * 2
unfolding joined
numbers-length [] = refl
numbers-length (x ∷ xs) =
    let r = numbers-length xs in
    omega (arith, r, be-length 2 x, length-append (be 2 x) (joined (be 2) xs))

nine : (c : Counters) → length (counter_list c) ≡ 9
unfolding counter_list
nine c = refl

-- 31 bytes a peer
some-length : (a : ℕ) (t : Stats) → length (stats_bytes a (some t)) ≡ 1 + (4 + (4 + (length (counter_list t.counters) * 2 + 4)))
unfolding stats_bytes
some-length a t =
    length-append (be 1 a) _
    ∙ ap₂ ◌+◌ (be-length 1 a) (length-append (be 4 t.first) _
    ∙ ap₂ ◌+◌ (be-length 4 t.first) (length-append (be 4 t.last) _
    ∙ ap₂ ◌+◌ (be-length 4 t.last) (length-append (joined (be 2) (counter_list t.counters)) _ ∙ ap₂ ◌+◌ (numbers-length (counter_list t.counters)) (be-length 4 (score t.counters)))))

peer-length : (a : ℕ) (o : Option Stats) → length (stats_bytes a o) ≤ 31
unfolding stats_bytes
peer-length a none = omega arith
peer-length a (some t) = omega (arith, some-length a t, nine t.counters)

pub head_length : (f : ℕ → Option Stats) (n : ℕ) → length (head_bytes f n) ≤ 997
unfolding head_bytes peers_bytes
head_length f n =
    let l = upto_few 31 32 (λ a. stats_bytes a (f a)) (λ a m. peer-length a (f a)) in
    let p = length-append (be 1 (length (those 32 (λ a. is_some (f a))))) (up_to 32 (λ a. stats_bytes a (f a))) in
    omega (arith, l, p, be-length 1 (length (those 32 (λ a. is_some (f a)))), be-length 4 n, length-append (peers_bytes f) (be 4 n))

-- ---- the head

module _ (w : Bool) (b : List ℕ) (f : ℕ → Option Stats) (n : ℕ) where
  module _ (o : Open w b 0 (head_bytes f n)) where
    pub head_peers : Open w b 0 (peers_bytes f)
    unfolding head_bytes
    head_peers = open_left w b 0 (peers_bytes f) (be 4 n) o

    module _ (e : ℕ) (b₁ : List ℕ) (s : Sent w b 0 (peers_bytes f) e b₁) where
      pub head_number : Room w b₁ e 4 × (e ≤ 1_099_511_627_776)
      unfolding head_bytes
      head_number = open_all w b₁ e (be 4 n) 4 (be-length 4 n) (open_rest w b 0 (peers_bytes f) (be 4 n) e b₁ s o)

      pub head_sent : (r : ℕ) (b₂ : List ℕ) → Sent w b₁ e (be 4 n) r b₂ → Sent w b 0 (head_bytes f n) r b₂
      unfolding head_bytes
      head_sent r b₂ = sent_then w b 0 (peers_bytes f) (be 4 n) e r b₁ b₂ s

-- it is counted
pub head_counts : (b : List ℕ) (f : ℕ → Option Stats) (n : ℕ) → Open false b 0 (head_bytes f n)
head_counts b f n = record { room = λ k. absurd (false≢true k); near = omega (arith, head_length f n) }

-- it has room where it has with what follows
pub head_fits : (b : List ℕ) (f : ℕ → Option Stats) (n : ℕ) (xs : List ℕ) → length (head_bytes f n ++ xs) ≤ length b → Open true b 0 (head_bytes f n)
head_fits b f n xs l = record { room = λ k. omega (arith, l, length-append (head_bytes f n) xs); near = omega (arith, head_length f n) }

-- ---- the events

module _ (s : State) (ks ls cs os : List ℕ) (fk : Fit ks) (fl : Fit ls) (h : counts_as_started (view s ks ls cs os) ≡ true) (low : ℕ) (l : low ≤ s.top.0) where
  -- the store
  abbrev v : Store
  v = view s ks ls cs os

  abbrev t : Started s ks ls cs os
  t = counted s ks ls cs os fk fl h

  memory_few : length v.memory.entries ≤ 128
  unfolding view memory_of memory_holds
  memory_few = let few = leb-true s.memory.count 128 (and_l _ _ t.memory_ok) in omega (arith, few, length-map (take s.memory.count s.memory.entries) entry_of, length-take s.memory.count s.memory.entries)

  all_short : Short event_bytes 167_182_848 228_928 (events v low)
  unfolding view
  all_short = events_short v (well s ks ls cs os fk fl t) memory_few low l

  -- the parts' sizes are those of all
  bytes_split : length (joined event_bytes (events v low)) ≡ length (joined event_bytes (all_faults v low)) + length (joined event_bytes (owed_events v low))
  bytes_split = ap (λ xs. length (joined event_bytes xs)) (sym (events_split v low)) ∙ (ap length (joined-append event_bytes (all_faults v low) (owed_events v low)) ∙ length-append (joined event_bytes (all_faults v low)) (joined event_bytes (owed_events v low)))

  number_split : length (events v low) ≡ length (all_faults v low) + length (owed_events v low)
  number_split = ap length (sym (events_split v low)) ∙ length-append (all_faults v low) (owed_events v low)

  -- the faults are counted
  pub count_ready : (b : List ℕ) (e : Emitted) → e.at ≡ 0 → e.count ≡ 0 → Ready event_bytes false b e (all_faults v low)
  count_ready b e i j =
      let x = all_short.bytes in
      let y = all_short.few in record {
        bytes = record { room = λ k. absurd (false≢true k); near = omega (arith, i, x, bytes_split) };
        few = omega (arith, j, y, number_split);
      }

  -- and the missing references
  module _ (b : List ℕ) (e r : Emitted) (b' : List ℕ) (i : e.at ≡ 0) (j : e.count ≡ 0) (d : Told event_bytes false b e (all_faults v low) r b') (owed : Emitted) (q : OwedSizes v low owed) where
    all_at : r.at + owed.at ≡ length (joined event_bytes (events v low))
    all_at = let n = d.sent.next in omega (arith, n, i, q.0, bytes_split)

    all-number : r.count + owed.count ≡ length (events v low)
    all-number = let n = d.number in omega (arith, n, j, q.1, number_split)

    pub sums_fit : (r.at + owed.at ≤ 167_182_848) × (r.count + owed.count ≤ 228_928)
    sums_fit =
        let x = all_short.bytes in
        let y = all_short.few in (omega (arith, x, all_at), omega (arith, y, all-number))

    pub events-counted : (x : Emitted) → x.at ≡ r.at + owed.at → x.count ≡ r.count + owed.count → EventsCounted v low x × (b' ≡ b)
    unfolding kept
    events-counted x f g = (record { size = f ∙ all_at; number = g ∙ all-number; few = let y = sums_fit in (omega (arith, f, y.0), omega (arith, g, y.1)) }, d.sent.left)

  -- the head is written, and all events have room
  module _ (b head : List ℕ) (short : length head ≤ 997) (room : length (head ++ joined event_bytes (events v low)) ≤ length b) (at : ℕ) (b₁ : List ℕ) (d : Sent true b 0 head at b₁) (e : Emitted) (i : e.at ≡ at) (j : e.count ≡ 0) where
    all_ready : Ready event_bytes true b₁ e (all_faults v low ++ owed_events v low)
    all_ready =
        let x = all_short.bytes in
        let y = all_short.few in
        let n = d.next in
        let c = sent_length true b 0 head at b₁ d in
        let m = length-append head (joined event_bytes (events v low)) in
        subst (Ready event_bytes true b₁ e) (sym (events_split v low)) (record {
          bytes = record { room = λ k. omega (arith, i, n, c, m, room); near = omega (arith, i, n, x, short) };
          few = omega (arith, j, y);
        })

    pub answer-faults : Ready event_bytes true b₁ e (all_faults v low)
    answer-faults = ready_first event_bytes true b₁ e (all_faults v low) (owed_events v low) all_ready

    module _ (m : Emitted) (b₂ : List ℕ) (x : Told event_bytes true b₁ e (all_faults v low) m b₂) where
      pub answer_owed : Ready event_bytes true b₂ m (owed_events v low)
      answer_owed = ready_rest event_bytes true b₁ e (all_faults v low) (owed_events v low) m b₂ x all_ready

      pub answer-written : (r : Emitted) (b₃ : List ℕ) → Told event_bytes true b₂ m (owed_events v low) r b₃ → b₃ ≡ written b 0 (head ++ joined event_bytes (events v low))
      unfolding kept
      answer-written r b₃ y =
          let z = subst (λ xs. Told event_bytes true b₁ e xs r b₃) (events_split v low) (told-then event_bytes true b₁ e (all_faults v low) (owed_events v low) m r b₂ b₃ x y) in
          (sent_then true b 0 head (joined event_bytes (events v low)) at r.at b₁ b₃ d (subst (λ k. Sent true b₁ k (joined event_bytes (events v low)) r.at b₃) i z.sent)).left

-- ---- the answer

-- b is as it was when the head is counted: at bytes; the events are k bytes
module _ (v : Store) (low : ℕ) (since : Option ℕ) (f : ℕ → Option Stats) (same : (a : ℕ) → a < 32 → f a ≡ stats_of v low since a) (e : Emitted) (c : EventsCounted v low e)
    (b b₁ b₂ b₃ : List ℕ) (c₁ : b₁ ≡ b) (c₂ : b₂ ≡ b₁) (at : ℕ) (d : Sent false b₂ 0 (head_bytes f e.count) at b₃) where
  bytes_are : remove_bytes v low since ≡ head_bytes f e.count ++ joined event_bytes (events v low)
  bytes_are = answer_is v low since f e.count same c.number

  unchanged : b₃ ≡ b
  unfolding kept
  unchanged = d.left ∙ (c₂ ∙ c₁)

  size_is : at + e.at ≡ length (head_bytes f e.count ++ joined event_bytes (events v low))
  size_is = let n = d.next in let k = c.size in omega (arith, n, k, length-append (head_bytes f e.count) (joined event_bytes (events v low)))

  pub sum_fits : at + e.at ≤ 167_183_845
  sum_fits = let n = d.next in let k = c.few.0 in omega (arith, n, k, head_length f e.count)

  pub answer_short : length b₃ < at + e.at → Answered v low since b false b₃
  answer_short l = record {
    whole = λ k. absurd (false≢true k);
    short = λ k. (subst (λ x. length b < length x) (sym bytes_are) (omega (arith, l, size_is, ap length unchanged)), unchanged);
  }

  module _ (l : at + e.at ≤ length b₃) where
    pub answer-room : length (head_bytes f e.count ++ joined event_bytes (events v low)) ≤ length b₃
    answer-room = omega (arith, l, size_is)

    pub answer_whole : (b₄ : List ℕ) → b₄ ≡ written b₃ 0 (head_bytes f e.count ++ joined event_bytes (events v low)) → Answered v low since b true b₄
    answer_whole b₄ w = record {
      whole = λ k. (subst (λ x. length x ≤ length b) (sym bytes_are) (omega (arith, answer-room, ap length unchanged)), w ∙ ap₂ (λ x y. written x 0 y) unchanged (sym bytes_are));
      short = λ k. absurd (false≢true (sym k));
    }
