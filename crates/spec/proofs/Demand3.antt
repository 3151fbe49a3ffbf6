-- Demand 3 and the sums (02: N2): the proofs of the statements in Demand.antt.
use Rattle.std.specs.Prelude.{ℕ, ◌+◌, ◌-◌, ◌*◌, ◌≤◌, ◌<◌, max, ◌≡◌, refl, ◌⊎◌, ◌↔◌, true, false, eqb, length, take}
use Rattle.std.proofs.Common.{sym, ◌∙◌, subst, ap, ap₂, inl, inr, ⊎_elim, drop_at, leb-true, le-leb, ltb-true, arith, le_trans, zero-add}
use Rattle.std.proofs.lemmas.Bool.{false≢true}
use mathlib.Core.List.Memᴰ
use mathlib.Core.List.{List, [], ◌∷◌, ◌++◌, map, append_assoc, append-nil, Memᴰ}
use Rattle.std.proofs.Math.Option.{Option, none, some}
use Rattle.std.proofs.Math.Nat.{sub-zero}
use Rattle.laws.specs.Test.{by_test, clash, yes_or_no, both, and_l}
use Rattle.laws.specs.Lists.{NoDup, nodup_append, mem_map, joined, weigh}
use Rattle.laws.specs.Bytes.{be}
use Rattle.spec.specs.Ids.{Id, same_id}
use Rattle.spec.specs.Store.{Resolution, Memory, Store, id_at, round_at, resolved, retained}
use Rattle.spec.specs.Paths.{Path, here, step, LinkedTo}
use Rattle.spec.specs.Rules.{is_peer}
use Rattle.spec.specs.Chain.{Refusal, Out, bad, good, EnqueuedAnchor, or_zero, anchors_of}
use Rattle.spec.specs.History.{limit, lowest, in_history, history, rounds_of, drawn, summed, sum_bytes, link_bytes, tail_bytes, dequeued, Finished, commit_all}
use Rattle.spec.specs.Calls.{done, Outcome, finish, StartArgs, start_ok, memory_kept, begun, do_resolve, commit_end, do_commit, Call, start, reset_all, round, name, resolve, certify, gap_question, commit, outlook, remove, drop as drop_to, perform, call}
use Rattle.spec.specs.Graph.{snoc, path_down}
use Rattle.spec.specs.Links.{down, linked, resolved-named}
use Rattle.spec.specs.WellFormed.{Wf}
use Rattle.spec.specs.Order.{history-few}
use Rattle.spec.proofs.Order.{history_elim, history_named}
use Rattle.spec.proofs.OrderInRound.{order_mem, order_once, order_length, order_sum}
use Rattle.spec.specs.Walk.{same_id_lem, id_same}
use Rattle.spec.proofs.Accepted.{finish_store, name_way, resolve_way, certify_way}
use Rattle.spec.specs.Demand.{InList, AllInList, History, read_records, finished, wrote, histories, Given, accepted, gave, resolutions, Edge, Exact, AllExact, Writes, StartRefused, AsSaid, AllAsSaid, FirstHalf, Demand3, paid, Summed, SumsFollow}
use Rattle.spec.proofs.Demand3Second.{commit_is, second_half}
use Rattle.spec.specs.Records.{Fits, drawn-ids, Event, passed, bytes_of, every-commit, Readable, read_as}
use Rattle.spec.proofs.Records.{links-length, commit_buffer, read_all}
use Rattle.spec.proofs.Preservation.{begun_kept, call-perform, start-begun}
use Rattle.spec.proofs.Invariant.{Inv, hist_paths, history_is}
use Rattle.spec.proofs.Demand3First.{ids, all_ids, Right, AllRight, split_max, finishes_by, commit_by, finishes, events_of, Keeps, call-keeps}
use Rattle.spec.proofs.Demand3Calls.{Frame, frame_mark, changes_point, steady, anchor_id, commit_writes, start-refused, perform_retains, begun_retains}
use Rattle.spec.proofs.Demand3Paths.{given_of, given, Log, edge_down, path_under, edge_link, ids→places, places→ids, numbers_log, round_log, cert_log, mark_log, drain_log, name_log, res_log, res_first}

-- ---- one history

-- each of L is for an id for which G has nothing
abbrev pub New : List Given → List Given → Type 0
New G L = (g h : Given) → Memᴰ g L → Memᴰ h G → h.who ≡ g.who → ⊥

edge_more : (G L : List Given) (x y : Id) → Edge G x y → Edge (G ++ L) x y
edge_more G L x y d = record { given = d.given; among = Memᴰ.append_left L d.among; whose = d.whose; link = d.link; of = d.of; leads = d.leads }

path_more : (G L : List Given) (x y : Id) → Path (Edge G) x y → Path (Edge (G ++ L)) x y
path_more G L x y here = here
path_more G L x y (step {q = z} d w) = step (edge_more G L x z d) (path_more G L z y w)

-- a path of the whole list's links is one of the links before, as far as all points on it were resolved
path_less : (s : Store) (G L : List Given) → Wf s → Log s G → New G L → (a b : ℕ) → s.bottom ≤ b → ((q : ℕ) → Path (LinkedTo s) a q → b ≤ round_at s q → resolved (s.pt q) ≡ true)
    → (x y : Id) → Path (Edge (G ++ L)) x y → (p : ℕ) → id_at s p ≡ x → (s.pt p).named ≡ true → Path (LinkedTo s) a p → b ≤ y.round → Path (Edge G) x y
path_less s G L w g n a b low_b solid x y here p e o v l = here
path_less s G L w g n a b low_b solid x y (step {q = z} d u) p e o v l = go (Memᴰ.append_cases G d.among) (path_less s G L w g n a b low_b solid z y u)
  where
    under : b ≤ z.round
    under = le_trans l (path_under (G ++ L) z y u)

    above : b ≤ round_at s p
    above = le_trans under (subst (λ (i : Id). z.round ≤ i.round) (sym e) (edge_down (G ++ L) x z d))

    go : Memᴰ d.given G ⊎ Memᴰ d.given L → ((p : ℕ) → id_at s p ≡ z → (s.pt p).named ≡ true → Path (LinkedTo s) a p → b ≤ y.round → Path (Edge G) z y) → Path (Edge G) x y
    go (inr m) i = absurd (n d.given (given_of (s.pt p)) m (g.all p (solid p v above)) (e ∙ sym d.whose))
    go (inl m) i = on (edge_link s G w g p x z e o old (le_trans low_b under))
      where
        old : Edge G x z
        old = record { given = d.given; among = m; whose = d.whose; link = d.link; of = d.of; leads = d.leads }

        on : (q : ℕ) × (id_at s q ≡ z) × LinkedTo s p q × ((s.pt q).named ≡ true) → Path (Edge G) x y
        on (q, k, t, h) = step old (i q k h (snoc v t) l)

max-below : (x y n : ℕ) → x ≤ n → y ≤ n → max x y ≤ n
max-below x y n a b = omega arith

author_small : (s : Store) (i : Id) → is_peer s i ≡ true → i.author < 32
unfolding is_peer
author_small s i h = ltb-true _ _ (and_l _ _ h)

-- the ids of a finished anchor's record are those of its history
pub ids_mem : (hs : List Id) (e : Event) → Right hs e → (x : Id) → Memᴰ x (ids e) ↔ Memᴰ x (history e.from e.enq.anchor)
ids_mem hs e r x = order_mem e.from r.inv.wf e.enq.anchor r.next.there e.list r.listed x

-- they are exactly what paths of links reach, down to the lowest round, and no history before held
ids_are : (hs : List Id) (e : Event) → Right hs e → (x : Id)
    → Memᴰ x (ids e) ↔ ((q : ℕ) × (id_at e.from q ≡ x) × Path (LinkedTo e.from) e.enq.anchor q × (lowest e.from e.enq.anchor ≤ x.round) × (Memᴰ x hs → ⊥))
ids_are hs e r x =
    let m = ids_mem hs e r x in
    let h = history_is e.from hs r.inv e.enq.anchor r.next x in
    ((λ k. h.0 (m.0 k)), λ k. m.1 (h.1 k))

-- an id of the store fits its bytes
pub fits-named : (hs : List Id) (e : Event) → Right hs e → (q : ℕ) → (e.from.pt q).named ≡ true → Fits (id_at e.from q)
fits-named hs e r q n = (omega (arith, r.inv.wf.kept q n, r.inv.wf.high), omega (arith, author_small e.from (id_at e.from q) (r.inv.wf.peer q n)), r.inv.wide q n)

module _ (s : Store) (hs : List Id) (e : Event) (r : Right hs e) (f : Frame s e.from) where
  -- what a path reaches down to the limit is resolved
  solid : (q : ℕ) → Path (LinkedTo e.from) e.enq.anchor q → lowest e.from e.enq.anchor ≤ round_at e.from q → resolved (e.from.pt q) ≡ true
  solid q w l = go (yes_or_no (e.from.pt q).flags.committed)
    where
      go : ((e.from.pt q).flags.committed ≡ true) ⊎ ((e.from.pt q).flags.committed ≡ false) → resolved (e.from.pt q) ≡ true
      go (inl d) = r.inv.firm q d
      go (inr d) = r.next.ready q ((hist_paths e.from hs r.inv e.enq.anchor r.next q).1 (w, l, d))

  -- the end of a path is named
  ends_named : (p q : ℕ) → Path (LinkedTo e.from) p q → (e.from.pt p).named ≡ true → (e.from.pt q).named ≡ true
  ends_named p q here n = n
  ends_named p q (step {q = x} k w) n = ends_named x q w (linked _ _ k).named_is

  pub event_exact : (G L : List Given) → Log e.from G → New G L → Exact (G ++ L) hs (read_as s e.from e.list e.enq)
  event_exact G L g n x = ((λ m. to (is.0 m)), λ (k, l, h, w, o). is.1 (back k l w o))
    where
      is : Memᴰ x (ids e) ↔ ((q : ℕ) × (id_at e.from q ≡ x) × Path (LinkedTo e.from) e.enq.anchor q × (lowest e.from e.enq.anchor ≤ x.round) × (Memᴰ x hs → ⊥))
      is = ids_are hs e r x

      same-limit : limit s.conf (round_at e.from e.enq.anchor) ≡ limit e.from.conf (round_at e.from e.enq.anchor)
      same-limit = ap (λ c. limit c (round_at e.from e.enq.anchor)) (sym f.2)

      to : (q : ℕ) × (id_at e.from q ≡ x) × Path (LinkedTo e.from) e.enq.anchor q × (lowest e.from e.enq.anchor ≤ x.round) × (Memᴰ x hs → ⊥)
          → (retained s x.round ≡ true) × (limit s.conf (round_at e.from e.enq.anchor) ≤ x.round) × (x.round ≤ round_at e.from e.enq.anchor) × Path (Edge (G ++ L)) (id_at e.from e.enq.anchor) x × (Memᴰ x hs → ⊥)
      to (q, i, w, l, o) = (
        both (le-leb _ _ (subst (λ k. k ≤ x.round) f.0 p.1)) (le-leb _ _ (subst (λ k. x.round ≤ k) f.1 (subst (λ (y : Id). y.round ≤ e.from.top) i (r.inv.wf.kept q (ends_named _ q w r.next.there)).1))),
        subst (λ k. k ≤ x.round) (sym same-limit) p.0,
        subst (λ (y : Id). y.round ≤ round_at e.from e.enq.anchor) i (path_down (down e.from) w),
        path_more G L _ x (subst (Path (Edge G) (id_at e.from e.enq.anchor)) i (places→ids e.from G r.inv.wf g _ q w)),
        o,
      )
        where
          p : (limit e.from.conf (round_at e.from e.enq.anchor) ≤ x.round) × (e.from.bottom ≤ x.round)
          p = split_max _ _ _ l

      back : retained s x.round ≡ true → limit s.conf (round_at e.from e.enq.anchor) ≤ x.round → Path (Edge (G ++ L)) (id_at e.from e.enq.anchor) x → (Memᴰ x hs → ⊥)
          → (q : ℕ) × (id_at e.from q ≡ x) × Path (LinkedTo e.from) e.enq.anchor q × (lowest e.from e.enq.anchor ≤ x.round) × (Memᴰ x hs → ⊥)
      back k l w o = let (q, i, v) = ids→places e.from G r.inv.wf g _ x (path_less e.from G L r.inv.wf g n e.enq.anchor (lowest e.from e.enq.anchor) (right_max _ e.from.bottom) solid _ x w e.enq.anchor refl r.next.there here low) e.enq.anchor refl r.next.there bot in (q, i, v, low, o)
        where
          right_max : (x y : ℕ) → y ≤ max x y
          right_max x y = omega arith

          bot : e.from.bottom ≤ x.round
          bot = subst (λ m. m ≤ x.round) (sym f.0) (leb-true _ _ (and_l _ _ k))

          low : lowest e.from e.enq.anchor ≤ x.round
          low = max-below _ _ _ (subst (λ m. m ≤ x.round) same-limit l) bot

  -- its record can be read back
  pub event_readable : Readable e
  event_readable = record {
    anchor = fits-named hs e r e.enq.anchor r.next.there;
    points = λ x m. let (q, h, i) = history_elim e.from r.inv.wf e.enq.anchor r.next.there x ((ids_mem hs e r x).0 m) in subst Fits i (fits-named hs e r q (history_named e.from r.inv.wf e.enq.anchor r.next.there q h));
    few = omega (arith, order_length e.from r.inv.wf e.enq.anchor r.next.there e.list r.listed, history-few e.from r.inv.wf e.enq.anchor);
  }

-- the places of a finished anchor's history, in the order of its record
abbrev pub places_of : Event → List ℕ
places_of e = drawn e.from e.enq.anchor (rounds_of e.from e.enq.anchor) e.list

-- ---- the sums of one record

-- what was given for an id of which G has no other
paid-first : (f : Given → ℕ) (G L : List Given) (g : Given) → Memᴰ g G → ((h : Given) → Memᴰ h G → h.who ≡ g.who → h ≡ g) → paid f (G ++ L) g.who ≡ f g
unfolding paid
paid-first f [] L g m one = absurd (Memᴰ.not-nil m)
paid-first f (h ∷ hs) L g m one =
    by_test (same_id h.who g.who)
    (λ t. rw (t, paid) (ap f (one h (Memᴰ.head refl) (same_id_lem _ _ t))))
    (λ u. rw (u, paid) (⊎_elim (λ e. absurd (clash (subst (λ (z : Given). same_id z.who g.who ≡ true) e (id_same g.who)) u)) (λ k. paid-first f hs L g k (λ z n. one z (Memᴰ.tail n))) (Memᴰ.cases_cons m)))

-- the points of a history were resolved by then, and each once: later resolutions change no sum
event_summed : (s : Store) (hs : List Id) (e : Event) → Right hs e → (G L : List Given) → Log e.from G → New G L → Summed (G ++ L) (read_as s e.from e.list e.enq)
unfolding tail_bytes sum_bytes
event_summed s hs e r G L g new =
    drop_at (joined (link_bytes e.from e.enq.anchor) (places_of e)) _ _ (links-length e.from e.enq.anchor (places_of e) ∙ ap (λ n. n * 45) (sym (drawn-ids e.from e.list e.enq.anchor)))
    ∙ sym (ap₂ (λ (m n : ℕ). be 8 m ++ be 8 n) (sum (λ t. t.payload_len) (λ x. x.payload_len) (gave_it (λ x. x.payload_len))) (sum (λ t. t.payload_bytes) (λ x. x.payload_bytes) (gave_it (λ x. x.payload_bytes))))
  where
    sum : (f : Resolution → ℕ) (p : Given → ℕ) → ((q : ℕ) → in_history e.from e.enq.anchor q ≡ true → paid p (G ++ L) (id_at e.from q) ≡ f (e.from.pt q).resolution) → weigh (paid p (G ++ L)) (ids e) ≡ summed f e.from e.enq.anchor
    sum f p = order_sum e.from r.inv.wf e.enq.anchor r.next.there e.list r.listed f (paid p (G ++ L))

    gave_it : (f : Given → ℕ) (q : ℕ) → in_history e.from e.enq.anchor q ≡ true → paid f (G ++ L) (id_at e.from q) ≡ f (given_of (e.from.pt q))
    gave_it f q h = paid-first f G L (given_of (e.from.pt q)) (g.all q (r.next.ready q h)) (λ x m k. one x k (g.only x m (subst (λ (y : Id). e.from.bottom ≤ y.round) (sym k) (r.inv.wf.kept q named).0)))
      where
        named : (e.from.pt q).named ≡ true
        named = resolved-named (e.from.pt q) (r.next.ready q h)

        one : (x : Given) → x.who ≡ id_at e.from q → (p : ℕ) × (resolved (e.from.pt p) ≡ true) × (given_of (e.from.pt p) ≡ x) → x ≡ given_of (e.from.pt q)
        one x k (p, o, i) = sym i ∙ ap (λ n. given_of (e.from.pt n)) (r.inv.wf.apart p q (resolved-named (e.from.pt p) o) named (ap (λ (y : Id). y.round) who) (ap (λ (y : Id). y.digest) who))
          where
            who : id_at e.from p ≡ id_at e.from q
            who = ap (λ (y : Given). y.who) i ∙ k

-- ---- the histories of one call

-- what every commit mark keeps holds of each store from which an anchor was committed
passed_from : (P : Store → Type 0) → ((s : Store) (e : EnqueuedAnchor) → P s → P (dequeued s e)) → (s : Store) (ls b : List ℕ) (es : List EnqueuedAnchor) → P s → (e : Event) → Memᴰ e (passed s ls (length b) es) → P e.from
passed_from P k s ls b es h e m =
    every-commit (λ s ls b at n es f evs. P s → (e : Event) → Memᴰ e evs → P e.from) (λ s ls b at n h e m. absurd (Memᴰ.not-nil m)) (λ s ls b at n x xs r t h e m. absurd (Memᴰ.not-nil m))
    (λ s ls b at n x xs a f evs t i h e m. ⊎_elim (λ d. subst (λ (y : Event). P y.from) (sym d) h) (λ j. i (k s x h) e j) (Memᴰ.cases_cons m)) s ls b 0 0 es h e (subst (λ j. Memᴰ e (passed s ls j es)) (sym (sub-zero (length b))) m)

events_from : (P : Store → Type 0) → ((s : Store) (e : EnqueuedAnchor) → P s → P (dequeued s e)) → (s : Store) (c : Call) → P s → (e : Event) → Memᴰ e (events_of s c) → P e.from
unfolding events_of finishes
events_from P k s (start b) h e m = absurd (Memᴰ.not-nil m)
events_from P k s reset_all h e m = absurd (Memᴰ.not-nil m)
events_from P k s (round r peers) h e m = absurd (Memᴰ.not-nil m)
events_from P k s (name i) h e m = absurd (Memᴰ.not-nil m)
events_from P k s (resolve i t) h e m = absurd (Memᴰ.not-nil m)
events_from P k s (certify i) h e m = absurd (Memᴰ.not-nil m)
events_from P k s gap_question h e m = absurd (Memᴰ.not-nil m)
events_from P k s (commit i ls b) h e m = go (anchors_of s i) m
  where
    evs : Out (List EnqueuedAnchor) → List Event
    evs = finishes_by s ls b

    go : (o : Out (List EnqueuedAnchor)) → Memᴰ e (evs o) → P e.from
    go (bad r) n = absurd (Memᴰ.not-nil n)
    go (good es) n = passed_from P k s ls b es h e n
events_from P k s (outlook i b) h e m = absurd (Memᴰ.not-nil m)
events_from P k s (remove r from b) h e m = absurd (Memᴰ.not-nil m)
events_from P k s (drop_to r) h e m = absurd (Memᴰ.not-nil m)

-- each event of a list that is right all through
right_in : (hs : List Id) (es : List Event) → AllRight hs es → (e : Event) → Memᴰ e es → (hs' : List Id) × Right hs' e
right_in hs [] r e m = absurd (Memᴰ.not-nil m)
right_in hs (x ∷ xs) (a, b) e m = ⊎_elim (λ d. (hs, subst (Right hs) (sym d) a)) (λ n. right_in (hs ++ ids x) xs b e n) (Memᴰ.cases_cons m)

-- the events as histories
abbrev pub as_histories : Store → List Event → List History
as_histories s es = map (λ (e : Event). read_as s e.from e.list e.enq) es

end_finished : (s : Store) (b : List ℕ) (n : ℕ) (o : Option Refusal) → finished (commit_end (record { store = s; buffer = b; anchors = n; stopped = o })).answer ≡ n
unfolding commit_end finished
end_finished s b n none = refl
end_finished s b n (some r) = refl

none_read : (s : Store) (b : List ℕ) → read_records s 0 b ≡ []
unfolding read_records
none_read s b = refl

-- the records of a chain's finished anchors
read_commit : (s : Store) (hs : List Id) (ls b : List ℕ) (es : List EnqueuedAnchor) → AllRight hs (passed s ls (length b) es)
    → read_records s (finished (commit_end (commit_all s ls b 0 0 es)).answer) (commit_end (commit_all s ls b 0 0 es)).buffer ≡ as_histories s (passed s ls (length b) es)
unfolding commit_end
read_commit s hs ls b es a =
    ap₂ (read_records s) (end_finished f.store f.buffer f.anchors f.stopped ∙ (c.2 ∙ (zero-add (length (passed s ls (length b - 0) es)) ∙ ap (λ n. length (passed s ls n es)) (sub-zero (length b)))))
    (c.1 ∙ ap (λ n. joined bytes_of (passed s ls n es) ++ c.0) (sub-zero (length b)))
    ∙ read_all s (passed s ls (length b) es) c.0 (λ e m. let (h, r) = right_in hs _ a e m in event_readable s h e r (passed_from (Frame s) (frame_mark s) s ls b es (refl, refl, refl) e m))
  where
    f : Finished
    f = commit_all s ls b 0 0 es

    c : (rest : List ℕ) × ((commit_all s ls b 0 0 es).buffer ≡ take 0 b ++ (joined bytes_of (passed s ls (length b - 0) es) ++ rest)) × ((commit_all s ls b 0 0 es).anchors ≡ 0 + length (passed s ls (length b - 0) es))
    c = commit_buffer s ls b 0 0 es (omega arith)

-- what a commit's buffer says is what it finished
wrote-commit : (s : Store) (hs : List Id) (i : Id) (ls b : List ℕ) → AllRight hs (finishes s i ls b) → read_records s (finished (do_commit s i ls b).answer) (do_commit s i ls b).buffer ≡ as_histories s (finishes s i ls b)
unfolding do_commit finishes finished
wrote-commit s hs i ls b r = go (anchors_of s i) r
  where
    evs : Out (List EnqueuedAnchor) → List Event
    evs = finishes_by s ls b

    out : Out (List EnqueuedAnchor) → Outcome
    out = commit_by s ls b

    go : (o : Out (List EnqueuedAnchor)) → AllRight hs (evs o) → read_records s (finished (out o).answer) (out o).buffer ≡ as_histories s (evs o)
    go (bad r) a = none_read s b
    go (good es) a = read_commit s hs ls b es a

-- every call writes the histories of the anchors that it finishes
wrote_is : (s : Store) (c : Call) (hs : List Id) → AllRight hs (events_of s c) → wrote s c (perform s c) ≡ as_histories s (events_of s c)
unfolding wrote events_of perform
wrote_is s (start b) hs r = refl
wrote_is s reset_all hs r = refl
wrote_is s (round x peers) hs r = refl
wrote_is s (name i) hs r = refl
wrote_is s (resolve i t) hs r = refl
wrote_is s (certify i) hs r = refl
wrote_is s gap_question hs r = refl
wrote_is s (commit i ls b) hs r = wrote-commit s hs i ls b r
wrote_is s (outlook i b) hs r = refl
wrote_is s (remove x from b) hs r = refl
wrote_is s (drop_to x) hs r = refl

-- ---- one commit, by paths

-- the history of a finished anchor holds exactly what paths of links reach, down to the lowest round, and no history before it held
abbrev pub ByPaths : List Id → Event → Type 0
ByPaths hs e = (x : Id) → Memᴰ x (ids e) ↔ ((q : ℕ) × (id_at e.from q ≡ x) × Path (LinkedTo e.from) e.enq.anchor q × (lowest e.from e.enq.anchor ≤ x.round) × (Memᴰ x hs → ⊥))

abbrev pub AllByPaths : List Id → List Event → Type 0
AllByPaths hs [] = Unit {0}
AllByPaths hs (e ∷ es) = ByPaths hs e × AllByPaths (hs ++ ids e) es

right_paths : (hs : List Id) (es : List Event) → AllRight hs es → AllByPaths hs es
right_paths hs [] r = tt
right_paths hs (e ∷ es) (x, r) = (ids_are hs e x, right_paths (hs ++ ids e) es r)

-- the ids read from the records that a commit wrote are so, and the store after it meets the invariant again
pub commit_paths : (s : Store) (hs : List Id) (i : Id) (ls b : List ℕ) → Inv s hs
    → (read_records s (finished (call s (commit i ls b)).answer) (call s (commit i ls b)).buffer ≡ as_histories s (finishes s i ls b)) × AllByPaths hs (finishes s i ls b) × Inv (call s (commit i ls b)).store (hs ++ all_ids (finishes s i ls b))
unfolding events_of perform
commit_paths s hs i ls b v =
    let k = call-keeps s (commit i ls b) hs v tt in
    rw (commit_is s v.wf i ls b) (wrote-commit s hs i ls b k.right, right_paths hs (finishes s i ls b) k.right, k.inv)

-- ---- the log of one call

-- a call that gives nothing
nothing : (s : Store) (G : List Given) → Log s G → Log s (G ++ [])
nothing s G l = subst (Log s) (sym (append-nil G)) l

resolve_log : (s : Store) (G : List Given) (i : Id) (t : Resolution) → Wf s → Log s G → Log (finish s (do_resolve s i t)).store (G ++ accepted i t (finish s (do_resolve s i t)).answer)
unfolding finish accepted
resolve_log s G i t w l = go (do_resolve s i t) refl
  where
    go : (o : Out Store) → do_resolve s i t ≡ o → Log (finish s o).store (G ++ accepted i t (finish s o).answer)
    go (bad r) e = nothing s G l
    go (good x) e = let r = resolve_way s i t x e in subst (λ y. Log y (G ++ (given i t ∷ []))) r.is (res_log s i t x w r G l)

steady_log : (s : Store) (c : Call) (G : List Given) → Wf s → InList c → changes_point c ≡ false → Log s G → Log (perform s c).store (G ++ [])
steady_log s c G w h k l = nothing _ G (steady (λ t. Log t G) (numbers_log resolved given_of _ G) (round_log resolved given_of _ G) (mark_log G) (drain_log resolved given_of _ G resolved-named (λ p. refl)) s w c h k l)

pub call_log : (s : Store) (c : Call) (G : List Given) → Wf s → InList c → Log s G → Log (perform s c).store (G ++ gave c (perform s c).answer)
unfolding perform gave changes_point
call_log s (start b) G w h l = steady_log s (start b) G w h refl l
call_log s reset_all G w h l = absurd h
call_log s (round r peers) G w h l = steady_log s (round r peers) G w h refl l
call_log s (name i) G w h l = nothing _ G (finish_store (λ t. Log t G) s _ l (λ t k. let n = name_way s i t k in subst (λ x. Log x G) n.is (name_log s i t w n G l)))
call_log s (resolve i t) G w h l = resolve_log s G i t w l
call_log s (certify i) G w h l = nothing _ G (finish_store (λ t. Log t G) s _ l (λ t k. let c = certify_way s i t k in subst (λ x. Log x G) c.is (cert_log s c.place G l)))
call_log s gap_question G w h l = steady_log s gap_question G w h refl l
call_log s (commit i ls b) G w h l = steady_log s (commit i ls b) G w h refl l
call_log s (outlook i b) G w h l = steady_log s (outlook i b) G w h refl l
call_log s (remove r from b) G w h l = steady_log s (remove r from b) G w h refl l
call_log s (drop_to r) G w h l = steady_log s (drop_to r) G w h refl l

-- ---- accepted resolutions are new

resolve-new : (s : Store) (i : Id) (t : Resolution) (G : List Given) → Wf s → Log s G → New G (accepted i t (finish s (do_resolve s i t)).answer)
unfolding finish accepted
resolve-new s i t G w l g h m k e = go (do_resolve s i t) refl m
  where
    go : (o : Out Store) → do_resolve s i t ≡ o → Memᴰ g (accepted i t (finish s o).answer) → ⊥
    go (bad r) d n = Memᴰ.not-nil n
    go (good x) d n = res_first s i t x w (resolve_way s i t x d) G l h k (e ∙ ap (λ (y : Given). y.who) (Memᴰ.eq_of_singleton n))

gave-new : (s : Store) (c : Call) (G : List Given) → Wf s → Log s G → New G (gave c (perform s c).answer)
unfolding gave perform
gave-new s (start b) G w l g h m k e = Memᴰ.not-nil m
gave-new s reset_all G w l g h m k e = Memᴰ.not-nil m
gave-new s (round r peers) G w l g h m k e = Memᴰ.not-nil m
gave-new s (name i) G w l g h m k e = Memᴰ.not-nil m
gave-new s (resolve i t) G w l g h m k e = resolve-new s i t G w l g h m k e
gave-new s (certify i) G w l g h m k e = Memᴰ.not-nil m
gave-new s gap_question G w l g h m k e = Memᴰ.not-nil m
gave-new s (commit i ls b) G w l g h m k e = Memᴰ.not-nil m
gave-new s (outlook i b) G w l g h m k e = Memᴰ.not-nil m
gave-new s (remove r from b) G w l g h m k e = Memᴰ.not-nil m
gave-new s (drop_to r) G w l g h m k e = Memᴰ.not-nil m

later_new : (s : Store) (cs : List Call) (hs : List Id) (G : List Given) → Inv s hs → Log s G → AllInList cs → New G (resolutions s cs)
unfolding resolutions
later_new s [] hs G v l a g h m k e = Memᴰ.not-nil m
later_new s (c ∷ cs) hs G v l (a, rest) g h m k e = go (call s c) (call-perform s v.wf c) m (λ n. later_new (perform s c).store cs _ _ (call-keeps s c hs v a).inv (call_log s c G v.wf a l) rest g h n (Memᴰ.append_left (gave c (perform s c).answer) k) e)
  where
    go : (o : Outcome) → o ≡ perform s c → Memᴰ g (gave c o.answer ++ resolutions o.store cs) → (Memᴰ g (resolutions (perform s c).store cs) → ⊥) → ⊥
    go o d n i = ⊎_elim (λ x. gave-new s c G v.wf l g h x k e) i (Memᴰ.append_cases (gave c (perform s c).answer) (subst (λ (y : Outcome). Memᴰ g (gave c y.answer ++ resolutions y.store cs)) d n))

-- ---- the whole list

all_exact : (s : Store) (hs : List Id) (G L : List Given) (es : List Event) → New G L → AllRight hs es → ((e : Event) → Memᴰ e es → Log e.from G × Frame s e.from) → AllExact (G ++ L) hs (as_histories s es)
all_exact s hs G L [] n r f = tt
all_exact s hs G L (e ∷ es) n (x, r) f = let (g, k) = f e (Memᴰ.head refl) in (event_exact s hs e x k G L g n, all_exact s (hs ++ ids e) G L es n r (λ y m. f y (Memᴰ.tail m)))

join_exact : (s : Store) (G : List Given) (hs : List Id) (es : List Event) (fs : List History) → AllExact G hs (as_histories s es) → AllExact G (hs ++ all_ids es) fs → AllExact G hs (as_histories s es ++ fs)
join_exact s G hs [] fs a b = subst (λ h. AllExact G h fs) (append-nil hs) b
join_exact s G hs (e ∷ es) fs (x, a) b = (x, join_exact s G (hs ++ ids e) es fs a (subst (λ h. AllExact G h fs) (sym (append_assoc hs (ids e) (all_ids es))) b))

-- a call and those after it resolve nothing that was resolved
all_new : (s : Store) (c : Call) (cs : List Call) (hs : List Id) (G : List Given) → Inv s hs → Log s G → InList c → AllInList cs → New G (gave c (perform s c).answer ++ resolutions (perform s c).store cs)
all_new s c cs hs G v l a rest g h m n e =
    ⊎_elim (λ x. gave-new s c G v.wf l g h x n e) (λ x. later_new (perform s c).store cs _ _ (call-keeps s c hs v a).inv (call_log s c G v.wf a l) rest g h x (Memᴰ.append_left (gave c (perform s c).answer) n) e)
    (Memᴰ.append_cases (gave c (perform s c).answer) m)

run_exact : (s : Store) (cs : List Call) (hs : List Id) (G : List Given) → Inv s hs → Log s G → AllInList cs → AllExact (G ++ resolutions s cs) hs (histories s cs)
unfolding histories resolutions
run_exact s [] hs G v l a = tt
run_exact s (c ∷ cs) hs G v l (a, rest) = go (call s c) (call-perform s v.wf c) (run_exact (perform s c).store cs _ _ k.inv (call_log s c G v.wf a l) rest)
  where
    k : Keeps hs s c
    k = call-keeps s c hs v a

    M : List Given
    M = gave c (perform s c).answer

    L : List Given
    L = resolutions (perform s c).store cs

    here_exact : AllExact (G ++ (M ++ L)) hs (wrote s c (perform s c))
    here_exact = subst (AllExact (G ++ (M ++ L)) hs) (sym (wrote_is s c hs k.right))
        (all_exact s hs G (M ++ L) (events_of s c) (all_new s c cs hs G v l a rest) k.right (λ e m. (events_from (λ u. Log u G) (λ u x. mark_log G u x) s c l e m, events_from (Frame s) (frame_mark s) s c (refl, refl, refl) e m)))

    on : AllExact ((G ++ M) ++ L) (hs ++ all_ids (events_of s c)) (histories (perform s c).store cs) → AllExact (G ++ (M ++ L)) hs (wrote s c (perform s c) ++ histories (perform s c).store cs)
    on r = subst (λ w. AllExact (G ++ (M ++ L)) hs (w ++ histories (perform s c).store cs)) (sym (wrote_is s c hs k.right))
        (join_exact s (G ++ (M ++ L)) hs (events_of s c) (histories (perform s c).store cs) (subst (AllExact (G ++ (M ++ L)) hs) (wrote_is s c hs k.right) here_exact)
        (subst (λ g. AllExact g (hs ++ all_ids (events_of s c)) (histories (perform s c).store cs)) (append_assoc G M L) r))

    go : (o : Outcome) → o ≡ perform s c → AllExact ((G ++ M) ++ L) (hs ++ all_ids (events_of s c)) (histories (perform s c).store cs)
        → AllExact (G ++ (gave c o.answer ++ resolutions o.store cs)) hs (wrote s c o ++ histories o.store cs)
    go o d r = subst (λ (y : Outcome). AllExact (G ++ (gave c y.answer ++ resolutions y.store cs)) hs (wrote s c y ++ histories y.store cs)) (sym d) (on r)

-- what holds of each record by the resolutions before it and others after it, as New has them, holds of every record of a list
module _ (P : List Given → History → Type 0) (one : (s : Store) (hs : List Id) (e : Event) → Right hs e → (G L : List Given) → Log e.from G → New G L → P (G ++ L) (read_as s e.from e.list e.enq)) where
  run_each : (s : Store) (cs : List Call) (hs : List Id) (G : List Given) → Inv s hs → Log s G → AllInList cs → (h : History) → Memᴰ h (histories s cs) → P (G ++ resolutions s cs) h
  unfolding histories resolutions
  run_each s [] hs G v l a h m = absurd (Memᴰ.not-nil m)
  run_each s (c ∷ cs) hs G v l (a, rest) h m = go (call s c) (call-perform s v.wf c) m (run_each (perform s c).store cs _ _ k.inv (call_log s c G v.wf a l) rest h)
    where
      k : Keeps hs s c
      k = call-keeps s c hs v a

      M : List Given
      M = gave c (perform s c).answer

      L : List Given
      L = resolutions (perform s c).store cs

      here-each : Memᴰ h (wrote s c (perform s c)) → P (G ++ (M ++ L)) h
      here-each n =
          let (e, i, x) = mem_map (λ (e : Event). read_as s e.from e.list e.enq) (events_of s c) h (subst (Memᴰ h) (wrote_is s c hs k.right) n) in
          let (hs', r) = right_in hs _ k.right e i in
          subst (P (G ++ (M ++ L))) x (one s hs' e r G (M ++ L) (events_from (λ u. Log u G) (λ u x. mark_log G u x) s c l e i) (all_new s c cs hs G v l a rest))

      go : (o : Outcome) → o ≡ perform s c → Memᴰ h (wrote s c o ++ histories o.store cs) → (Memᴰ h (histories (perform s c).store cs) → P ((G ++ M) ++ L) h) → P (G ++ (gave c o.answer ++ resolutions o.store cs)) h
      go o d n i = subst (λ (y : Outcome). P (G ++ (gave c y.answer ++ resolutions y.store cs)) h) (sym d)
          (⊎_elim here-each (λ x. subst (λ g. P g h) (append_assoc G M L) (i x)) (Memᴰ.append_cases (wrote s c (perform s c)) (subst (λ (y : Outcome). Memᴰ h (wrote s c y ++ histories y.store cs)) d n)))

-- no id stands twice in a history of the list
abbrev AllOnce : List History → Type 0
AllOnce [] = Unit {0}
AllOnce (h ∷ hs) = NoDup h.ids × AllOnce hs

append_once : (xs ys : List History) → AllOnce xs → AllOnce ys → AllOnce (xs ++ ys)
append_once [] ys a b = b
append_once (x ∷ xs) ys (p, a) b = (p, append_once xs ys a b)

events_once : (s : Store) (hs : List Id) (es : List Event) → AllRight hs es → AllOnce (as_histories s es)
events_once s hs [] r = tt
events_once s hs (e ∷ es) (x, r) = (order_once e.from x.inv.wf e.enq.anchor x.next.there e.list x.listed, events_once s (hs ++ ids e) es r)

run_once : (s : Store) (cs : List Call) (hs : List Id) → Inv s hs → AllInList cs → AllOnce (histories s cs)
unfolding histories
run_once s [] hs v a = tt
run_once s (c ∷ cs) hs v (a, rest) = subst (λ (y : Outcome). AllOnce (wrote s c y ++ histories y.store cs)) (sym (call-perform s v.wf c))
    (append_once (wrote s c (perform s c)) _ (subst AllOnce (sym (wrote_is s c hs k.right)) (events_once s hs (events_of s c) k.right)) (run_once (perform s c).store cs _ k.inv rest))
  where
    k : Keeps hs s c
    k = call-keeps s c hs v a

-- exact histories, none with an id twice, share no id
apart : (G : List Given) (earlier : List Id) (hs : List History) → AllExact G earlier hs → AllOnce hs
    → NoDup (joined (λ (h : History). h.ids) hs) × ((x : Id) → Memᴰ x earlier → Memᴰ x (joined (λ (h : History). h.ids) hs) → ⊥)
unfolding joined
apart G earlier [] a o = (tt, λ x m k. Memᴰ.not-nil k)
apart G earlier (h ∷ hs) (e, a) (o, os) = go (apart G (earlier ++ h.ids) hs a os)
  where
    go : NoDup (joined (λ (h : History). h.ids) hs) × ((x : Id) → Memᴰ x (earlier ++ h.ids) → Memᴰ x (joined (λ (h : History). h.ids) hs) → ⊥)
        → NoDup (h.ids ++ joined (λ (h : History). h.ids) hs) × ((x : Id) → Memᴰ x earlier → Memᴰ x (h.ids ++ joined (λ (h : History). h.ids) hs) → ⊥)
    go (n, d) = (nodup_append h.ids _ o n (λ x m k. d x (Memᴰ.append_right earlier m) k), λ x m k. ⊎_elim (λ y. ((e x).0 y).4 m) (λ y. d x (Memᴰ.append_left h.ids m) y) (Memᴰ.append_cases h.ids k))

-- ---- each call as said

written-anchors : (s : Store) (es : List Event) → map (λ (h : History). h.anchor) (as_histories s es) ≡ map anchor_id es
written-anchors s [] = refl
written-anchors s (e ∷ es) = ap (λ l. anchor_id e ∷ l) (written-anchors s es)

perform_said : (s : Store) (c : Call) (hs : List Id) → Wf s → InList c → AllRight hs (events_of s c) → AsSaid s c (perform s c)
unfolding perform events_of wrote
perform_said s c hs w a r = (
  λ i ls b e. subst (λ x. Writes s ls b (anchors_of s i) (perform s x)) (sym e) (commit_writes s i ls b (ap (map (λ (h : History). h.anchor)) (wrote-commit s hs i ls b (subst (λ x. AllRight hs (events_of s x)) e r)) ∙ written-anchors s (finishes s i ls b))),
  λ b e. subst (λ x. StartRefused s (perform s x)) (sym e) (start-refused s w b),
  perform_retains s w c a,
)

run_said : (s : Store) (cs : List Call) (hs : List Id) → Inv s hs → AllInList cs → AllAsSaid s cs
run_said s [] hs v a = tt
run_said s (c ∷ cs) hs v (a, rest) =
    let k = call-keeps s c hs v a in
    subst (λ (o : Outcome). AsSaid s c o × AllAsSaid o.store cs) (sym (call-perform s v.wf c)) (perform_said s c hs v.wf a k.right, run_said (perform s c).store cs _ k.inv rest)

-- ---- after a start

begun_inv : (n : ℕ) (m : Memory) (b : StartArgs) → start_ok n b ≡ true → Inv (begun n m b) []
unfolding begun or_zero
begun_inv n m b h = record {
  wf = begun_kept n m b h;
  firm = λ p k. absurd (false≢true k);
  closed = λ p q k. absurd (false≢true k);
  handed = λ p k. absurd (false≢true k);
  held = λ x k. absurd (Memᴰ.not-nil k);
  wide = λ p k. absurd (false≢true k);
  order = omega arith;
}

begun_log : (n : ℕ) (m : Memory) (b : StartArgs) → Log (begun n m b) []
unfolding begun resolved
begun_log n m b = record { all = λ p k. absurd (false≢true k); only = λ g k. absurd (Memᴰ.not-nil k) }

-- from the store that a start leaves
whole : (n : ℕ) (m : Memory) (b : StartArgs) (cs : List Call) → start_ok n b ≡ true → AllInList cs
    → NoDup (joined (λ (h : History). h.ids) (histories (begun n m b) cs)) × AllExact (resolutions (begun n m b) cs) [] (histories (begun n m b) cs)
    × AllAsSaid (begun n m b) cs × ((r : ℕ) → retained (begun n m b) r ≡ eqb r b.bottom)
whole n m b cs ok a = ((apart _ [] (histories (begun n m b) cs) x (run_once (begun n m b) cs [] v a)).0, x, run_said (begun n m b) cs [] v a, begun_retains n m b)
  where
    v : Inv (begun n m b) []
    v = begun_inv n m b ok

    x : AllExact (resolutions (begun n m b) cs) [] (histories (begun n m b) cs)
    x = run_exact (begun n m b) cs [] [] v (begun_log n m b) a

pub first_half : FirstHalf
first_half s b cs h a = let (ok, e) = start-begun s b h in
    subst (λ t. NoDup (joined (λ (h : History). h.ids) (histories t cs)) × AllExact (resolutions t cs) [] (histories t cs) × AllAsSaid t cs × ((r : ℕ) → retained t r ≡ eqb r b.bottom)) (sym e) (whole s.places (memory_kept s) b cs ok a)

-- DEMAND 3
pub demand_3 : Demand3
demand_3 = (first_half, second_half)

-- so it is of every record after a start
pub after-start : (P : List Given → History → Type 0) → ((s : Store) (hs : List Id) (e : Event) → Right hs e → (G L : List Given) → Log e.from G → New G L → P (G ++ L) (read_as s e.from e.list e.enq))
    → (s : Store) (b : StartArgs) (cs : List Call) → (call s (start b)).answer ≡ done → AllInList cs
    → let t = (call s (start b)).store in (h : History) → Memᴰ h (histories t cs) → P (resolutions t cs) h
after-start P one s b cs h a =
    let (ok, e) = start-begun s b h in
    subst (λ t. (x : History) → Memᴰ x (histories t cs) → P (resolutions t cs) x) (sym e) (run_each P one _ cs [] [] (begun_inv s.places (memory_kept s) b ok) (begun_log s.places (memory_kept s) b) a)

-- 02, N2: "Sums follow from the ids in the record and from what was resolved."
pub sums_follow : SumsFollow
sums_follow = after-start Summed event_summed
