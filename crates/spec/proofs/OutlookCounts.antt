-- The outlook's counts are the commit's (02: N6): the proof of the statement in Demand.antt.
use Rattle.std.specs.Prelude.{ℕ, suc, ◌+◌, ◌-◌, ◌*◌, ◌^◌, ◌≤◌, ◌<◌, max, ◌≡◌, refl, ◌≢◌, ◌↔◌, true, ltb, length, take, drop}
use Rattle.std.proofs.Common.{sym, ◌∙◌, subst, ap₂, ⊎_elim, length-append, take_at, drop_at, drop-drop, ltb-false, arith, zero-add}
use Rattle.std.proofs.Math.Path.{ap}
use mathlib.Core.List.Memᴰ
use mathlib.Core.List.{List, [], ◌∷◌, ◌++◌, map, map-map, append_assoc, Memᴰ}
use Rattle.std.proofs.Math.Option.{none}
use Rattle.std.proofs.lemmas.List.{length-map}
use Rattle.std.proofs.Math.Decide.{ℕ_discrete}
use Rattle.laws.specs.Test.{both, and_l, and_r}
use Rattle.laws.specs.Lists.{mem_map, map_same, joined}
use Rattle.laws.specs.Bytes.{be, be-length, value, value-be-fits, written, written_is}
use Rattle.spec.specs.Ids.{Id, id_bytes}
use Rattle.spec.specs.Store.{Store, id_at, round_at}
use Rattle.spec.specs.Chain.{Refusal, Out, bad, good, then, refuse, EnqueuedAnchor, lowest_walked, anchors_of}
use Rattle.spec.specs.History.{limit, lowest, history, linked_in, rounds_of, linked_counts, lists_ok, in_order, after_lists, record_bytes, tested, dequeued, commit_all, outlook_bytes, outlook_all}
use Rattle.spec.specs.Calls.{anchors, refused, number_of, Outcome, do_outlook, commit, outlook, call}
use Rattle.spec.specs.Links.{resolved-named}
use Rattle.spec.specs.WellFormed.{Wf, counts_as_started_elim}
use Rattle.spec.specs.Order.{history-few}
use Rattle.spec.proofs.OrderInRound.{down_length, lists-append, linked-few, order_length}
use Rattle.spec.specs.Walk.{not_good, then-good, refuse-good, Rising, tested_back}
use Rattle.spec.proofs.Walk.{test_good}
use Rattle.spec.proofs.Preservation.{mark_kept, rising_mark, anchors_rising}
use Rattle.spec.specs.Demand.{read_id, History, read_records, Told, read_counts, read_told, CountsAgree}
use Rattle.spec.proofs.Demand3Second.{good-same, not_handed, same-handed, handed-anchors, commit_is, commit-answer}
use Rattle.spec.specs.Records.{skip, as_read, read_id_lem, id-length, Event, passed, every-commit, read_bytes}
use Rattle.spec.proofs.Records.{commit_buffer, read_bytes_lem}
use Rattle.spec.specs.Outlook.{tests, tests-first, fours, looks, none-some, Listed, Lists, outlook_was}
use Rattle.spec.proofs.Outlook.{outlook-bad, outlook-call}

-- ---- an outlook's records read back

read_counts_lem : (ns : List ℕ) → ((n : ℕ) → Memᴰ n ns → n < 256 ^ 4) → (rest : List ℕ) → read_counts (length ns) (joined (be 4) ns ++ rest) ≡ ns
unfolding joined read_counts
read_counts_lem [] f rest = refl
read_counts_lem (n ∷ ns) f rest =
    rw (append_assoc (be 4 n) (joined (be 4) ns) rest)
    (ap₂ ◌∷◌ (ap (value 0) (take_at (be 4 n) (joined (be 4) ns ++ rest) 4 (be-length 4 n)) ∙ value-be-fits 4 n (f n (Memᴰ.head refl)))
    (ap (read_counts (length ns)) (drop_at (be 4 n) (joined (be 4) ns ++ rest) 4 (be-length 4 n)) ∙ read_counts_lem ns (λ m k. f m (Memᴰ.tail k)) rest))

-- what an outlook tells of an anchor that is counted from s
abbrev told_of : Store → ℕ → Told
told_of s a = record { anchor = as_read (id_at s a); points = length (history s a); linked = linked_counts s a }

module _ (at s : Store) (w : Wf s) (conf_is : at.conf ≡ s.conf) (bottom_is : at.bottom ≡ s.bottom) (a : ℕ) (there : (s.pt a).named ≡ true) (n : ℕ) (rest : List ℕ) where
  abbrev bs : List ℕ
  bs = outlook_bytes s a ++ rest

  -- how many rounds an anchor of round r has
  abbrev rounds_from : ℕ → ℕ
  rounds_from r = suc r - max (limit at.conf r) at.bottom

  shape : outlook_bytes s a ++ rest ≡ id_bytes (id_at s a) ++ (be 4 (length (history s a)) ++ (joined (be 4) (linked_counts s a) ++ rest))
  unfolding outlook_bytes
  shape = append_assoc (id_bytes (id_at s a)) _ rest ∙ ap (λ (l : List ℕ). id_bytes (id_at s a) ++ l) (append_assoc (be 4 (length (history s a))) _ rest)

  who : read_id (outlook_bytes s a ++ rest) ≡ as_read (id_at s a)
  who = ap read_id shape ∙ read_id_lem (id_at s a) _

  number : value 0 (take 4 (drop 37 (outlook_bytes s a ++ rest))) ≡ length (history s a)
  number =
      ap (λ (l : List ℕ). value 0 (take 4 l)) (ap (drop 37) shape ∙ drop_at (id_bytes (id_at s a)) _ 37 (id-length (id_at s a)))
      ∙ (ap (value 0) (take_at (be 4 (length (history s a))) _ 4 (be-length 4 (length (history s a)))) ∙ value-be-fits 4 _ (omega (arith, history-few s w a)))

  rounds : rounds_from (read_id (outlook_bytes s a ++ rest)).round ≡ length (linked_counts s a)
  rounds =
      ap (λ (i : Id). rounds_from i.round) who
      ∙ (ap rounds_from (value-be-fits 4 (round_at s a) (omega (arith, w.kept a there, w.high)))
      ∙ ((λ i. suc (round_at s a) - max (limit (conf_is i) (round_at s a)) (bottom_is i))
      ∙ sym (length-map (rounds_of s a) _ ∙ down_length (round_at s a) (suc (round_at s a) - lowest s a))))

  small : (k : ℕ) → Memᴰ k (linked_counts s a) → k < 256 ^ 4
  small k m = let (r, x, e) = mem_map (λ r. length (linked_in s a r)) (rounds_of s a) k m in omega (arith, e, linked-few s w a there r)

  at41 : drop 41 (outlook_bytes s a ++ rest) ≡ joined (be 4) (linked_counts s a) ++ rest
  at41 = skip 37 4 (id_bytes (id_at s a)) (be 4 (length (history s a))) _ _ (id-length (id_at s a)) (be-length 4 (length (history s a))) shape

  linked : read_counts (rounds_from (read_id (outlook_bytes s a ++ rest)).round) (drop 41 (outlook_bytes s a ++ rest)) ≡ linked_counts s a
  linked = ap₂ read_counts rounds at41 ∙ read_counts_lem (linked_counts s a) small rest

  end : drop (41 + rounds_from (read_id (outlook_bytes s a ++ rest)).round * 4) (outlook_bytes s a ++ rest) ≡ rest
  end =
      ap (λ k. drop (41 + k * 4) (outlook_bytes s a ++ rest)) rounds
      ∙ (sym (drop-drop (length (linked_counts s a) * 4) 41 (outlook_bytes s a ++ rest)) ∙ (ap (drop (length (linked_counts s a) * 4)) at41 ∙ drop_at (joined (be 4) (linked_counts s a)) rest _ (fours (linked_counts s a))))

  read_one : read_told at (suc n) (outlook_bytes s a ++ rest) ≡ told_of s a ∷ read_told at n rest
  unfolding read_told
  read_one = λ i. record { anchor = who i; points = number i; linked = linked i } ∷ read_told at n (end i)

-- of all anchors of a chain, the older ones committed
unfoldable told_all : Store → List EnqueuedAnchor → List Told
told_all s [] = []
told_all s (e ∷ es) = told_of s e.anchor ∷ told_all (dequeued s e) es

mark-conf : (s : Store) (e : EnqueuedAnchor) → ((dequeued s e).conf ≡ s.conf) × ((dequeued s e).bottom ≡ s.bottom)
unfolding dequeued
mark-conf s e = (refl, refl)

read_told_lem : (at s : Store) → Wf s → at.conf ≡ s.conf → at.bottom ≡ s.bottom → (low : ℕ) (es : List EnqueuedAnchor) → Rising s low es → (n : ℕ) → tests s es ≡ good n → (rest : List ℕ) → read_told at (length es) (looks s es ++ rest) ≡ told_all s es
unfolding looks told_all read_told
read_told_lem at s w c o low [] r n h rest = refl
read_told_lem at s w c o low (e ∷ es) (u, x, r) n h rest =
    let (t, k) = tests-first s e es n h in
    let (p, q) = mark-conf s e in
    ap (read_told at (suc (length es))) (append_assoc (outlook_bytes s e.anchor) (looks (dequeued s e) es) rest)
    ∙ (read_one at s w c o e.anchor (resolved-named _ x.anchor_done) (length es) (looks (dequeued s e) es ++ rest)
    ∙ ap (λ (l : List Told). told_of s e.anchor ∷ l) (read_told_lem at (dequeued s e) (mark_kept s w e x t) (c ∙ sym p) (o ∙ sym q) _ es (rising_mark s e _ es r) n k rest))

-- ---- the outlook

-- bytes that are told are those of all anchors, they pass their tests, and there is room
pub outlook-good : (s : Store) (left : ℕ) (es : List EnqueuedAnchor) (bytes : List ℕ) → outlook_all s left es ≡ good bytes → (bytes ≡ looks s es) × (length bytes ≤ left) × (tests s es ≡ good 0)
unfolding outlook_all looks tests
outlook-good s left [] bytes h = let e : [] ≡ bytes = good-same [] bytes h in (sym e, subst (λ (l : List ℕ). length l ≤ left) e (omega arith), refl)
outlook-good s left (e ∷ es) bytes h =
    let one = outlook_bytes s e.anchor in
    let (a, t, k) = then-good (tested s e.anchor) (λ a. refuse (ltb left (length one)) 21 (then (outlook_all (dequeued s e) (left - length one) es) (λ rest. good (one ++ rest)))) bytes h in
    let (f, j) = refuse-good (ltb left (length one)) 21 (then (outlook_all (dequeued s e) (left - length one) es) (λ rest. good (one ++ rest))) bytes k in
    let (rest, u, v) = then-good (outlook_all (dequeued s e) (left - length one) es) (λ rest. good (one ++ rest)) bytes j in
    let (x, y, z) = outlook-good (dequeued s e) (left - length one) es rest u in
    let d : one ++ rest ≡ bytes = good-same (one ++ rest) bytes v in
    (sym d ∙ ap (λ l. one ++ l) x, omega (arith, sym (ap length d) ∙ length-append one rest, y, ltb-false left (length one) f), rw t z)

-- an outlook that isn't refused
told-anchors : (s : Store) (i : Id) (c : List ℕ) (m : ℕ) → (do_outlook s i c).answer ≡ anchors m
    → (es : List EnqueuedAnchor) × (anchors_of s i ≡ good es) × (m ≡ length es) × (tests s es ≡ good 0) × ((rest : List ℕ) × ((do_outlook s i c).buffer ≡ looks s es ++ rest))
unfolding do_outlook
told-anchors s i c m h = go (anchors_of s i) refl h
  where
    shown : List EnqueuedAnchor → Out (List ℕ) → Outcome
    shown es o = elim o [ bad q ↦ record { answer = refused q 0; store = s; buffer = c } | good bytes ↦ record { answer = anchors (length es); store = s; buffer = written c 0 bytes } ]

    does : Out (List EnqueuedAnchor) → Outcome
    does o = elim o [ bad q ↦ record { answer = refused q 0; store = s; buffer = c } | good es ↦ shown es (outlook_all s (length c) es) ]

    on : (es : List EnqueuedAnchor) → anchors_of s i ≡ good es → (o : Out (List ℕ)) → outlook_all s (length c) es ≡ o → (shown es o).answer ≡ anchors m
        → (es' : List EnqueuedAnchor) × (anchors_of s i ≡ good es') × (m ≡ length es') × (tests s es' ≡ good 0) × ((rest : List ℕ) × ((shown es o).buffer ≡ looks s es' ++ rest))
    on es u (bad q) v k = absurd (not_handed q 0 m k)
    on es u (good bytes) v k =
        let (x, y, z) = outlook-good s (length c) es bytes v in
        (es, u, sym (same-handed (length es) m k), z, (drop (0 + length bytes) c, written_is c 0 bytes (omega (arith, y)) ∙ ap (λ (l : List ℕ). l ++ drop (0 + length bytes) c) x))

    go : (o : Out (List EnqueuedAnchor)) → anchors_of s i ≡ o → (does o).answer ≡ anchors m
        → (es : List EnqueuedAnchor) × (anchors_of s i ≡ good es) × (m ≡ length es) × (tests s es ≡ good 0) × ((rest : List ℕ) × ((does o).buffer ≡ looks s es ++ rest))
    go (bad q) u k = absurd (not_handed q 0 m k)
    go (good es) u k = on es u (outlook_all s (length c) es) refl k

-- ---- the commit

-- a commit of these anchors that isn't stopped: all pass, with right lists, and its records have the counts of the outlook
record Agrees (s : Store) (ls : List ℕ) (es : List EnqueuedAnchor) (evs : List Event) : Type 0 where
  pass : tests s es ≡ good 0
  count : length evs ≡ length es
  listed : Listed s ls es
  few : (e : Event) → Memᴰ e evs → length (in_order e.from e.enq.anchor e.list) < 256 ^ 4
  who : map (λ (e : Event). as_read (id_at e.from e.enq.anchor)) evs ≡ map (λ (t : Told). t.anchor) (told_all s es)
  points : map (λ (e : Event). length (in_order e.from e.enq.anchor e.list)) evs ≡ map (λ (t : Told). t.points) (told_all s es)

commit-agrees : (s : Store) (ls b : List ℕ) (at n : ℕ) (es : List EnqueuedAnchor) → (commit_all s ls b at n es).stopped ≡ none → Wf s → (low : ℕ) → Rising s low es → Agrees s ls es (passed s ls (length b - at) es)
unfolding tests told_all
commit-agrees = every-commit (λ s ls b at n es f evs. f.stopped ≡ none → Wf s → (low : ℕ) → Rising s low es → Agrees s ls es evs)
    (λ s ls b at n h w low r. record { pass = refl; count = refl; listed = tt; few = λ e m. absurd (Memᴰ.not-nil m); who = refl; points = refl })
    (λ s ls b at n e es r t h. absurd (none-some r (sym h)))
    (λ s ls b at n e es a f evs t i h w low (u, x, r).
    let (c, g, o, l) = test_good s ls (length b - at) (length (record_bytes s ls e)) e.anchor a t in
    let z = i h (mark_kept s w e x c) (suc (round_at s e.anchor)) (rising_mark s e _ es r) in
    let k = order_length s w e.anchor (resolved-named _ x.anchor_done) ls o in
    record {
      pass = rw (tested_back s e.anchor c) z.pass;
      count = ap suc z.count;
      listed = (o, z.listed);
      few = λ y m. ⊎_elim (λ d. subst (λ (y : Event). length (in_order y.from y.enq.anchor y.list) < 256 ^ 4) (sym d) (omega (arith, k, history-few s w e.anchor))) (z.few y) (Memᴰ.cases_cons m);
      who = ap (λ l. as_read (id_at s e.anchor) ∷ l) z.who;
      points = ap₂ ◌∷◌ k z.points;
    })

-- ---- the lists

-- lists are right for all anchors exactly if they are by the linked counts that are told
listed_told : (s : Store) (ls : List ℕ) (es : List EnqueuedAnchor) → (lists_ok (joined (λ (t : Told). t.linked) (told_all s es)) ls ≡ true) ↔ Listed s ls es
unfolding joined told_all lists_ok after_lists
listed_told s ls [] = ((λ h. tt), λ h. refl)
listed_told s ls (e ∷ es) =
    let k = lists-append (linked_counts s e.anchor) (joined (λ (t : Told). t.linked) (told_all (dequeued s e) es)) ls in
    let i = listed_told (dequeued s e) (after_lists s e.anchor ls) es in
    ((λ h. let o = sym k ∙ h in (and_l _ _ o, i.0 (and_r (lists_ok (linked_counts s e.anchor) ls) _ o))), λ (o, h). k ∙ both o (i.1 h))

-- ---- both calls

module _ (s : Store) (w : Wf s) (i : Id) (c : List ℕ) (m : ℕ) (h : (call s (outlook i c)).answer ≡ anchors m) where
  -- what an outlook that isn't refused tells
  told_is : (es : List EnqueuedAnchor) × (anchors_of s i ≡ good es) × (m ≡ length es) × (read_told s m (call s (outlook i c)).buffer ≡ told_all s es)
  told_is =
      let (es, u, k, t, (rest, b)) = told-anchors s i c m (ap (λ (o : Outcome). o.answer) (sym (outlook-call s w i c)) ∙ h) in
      (es, u, k, ap₂ (read_told s) k (ap (λ (o : Outcome). o.buffer) (outlook-call s w i c) ∙ b) ∙ read_told_lem s s w refl refl (lowest_walked s) es (anchors_rising s w i es u) 0 t rest)

  -- so a host can make the lists of all anchors: right by the counts that an outlook tells are the lists that a commit asks for
  pub lists-told : (l : List ℕ) → (lists_ok (joined (λ (t : Told). t.linked) (read_told s m (call s (outlook i c)).buffer)) l ≡ true) ↔ Lists s i l
  lists-told l =
      let (es, u, k, t) = told_is in
      let same : (fs : List EnqueuedAnchor) → anchors_of s i ≡ good fs → es ≡ fs = λ fs v. good-same es fs (sym u ∙ v) in (
        (λ o fs v. subst (Listed s l) (same fs v) ((listed_told s l es).0 (ap (λ (x : List Told). lists_ok (joined (λ (t : Told). t.linked) x) l) (sym t) ∙ o))),
        λ g. ap (λ (x : List Told). lists_ok (joined (λ (t : Told). t.linked) x) l) t ∙ (listed_told s l es).1 (g es u),
      )

-- what a commit that isn't refused wrote
wrote-told : (s : Store) → Wf s → (i : Id) (l b : List ℕ) (n : ℕ) → (call s (commit i l b)).answer ≡ anchors n
    → (es : List EnqueuedAnchor) × (evs : List Event) × (anchors_of s i ≡ good es) × (length evs ≡ n) × Agrees s l es evs × (read_records s n (call s (commit i l b)).buffer ≡ map (λ (e : Event). read_bytes s e.from e.list e.enq) evs)
wrote-told s w i l b n k =
    let (es, u, stopped, count) = handed-anchors s i l b n (ap (λ (o : Outcome). o.answer) (sym (commit_is s w i l b)) ∙ k) in
    let (rest, buffer, all) = commit_buffer s l b 0 0 es (omega arith) in
    let a : Agrees s l es (passed s l (length b - 0) es) = commit-agrees s l b 0 0 es stopped w (lowest_walked s) (anchors_rising s w i es u) in
    let size : length (passed s l (length b - 0) es) ≡ n = sym (zero-add (length (passed s l (length b - 0) es))) ∙ (sym all ∙ count) in
    (es, passed s l (length b - 0) es, u, size, a, ap₂ (read_records s) (sym size) ((commit-answer s w i l b es u stopped).1 ∙ buffer) ∙ read_bytes_lem s (passed s l (length b - 0) es) rest a.few)

-- 02, N6
pub counts-agree : CountsAgree
counts-agree s z st i c l b m n h k =
    let w : Wf s = counts_as_started_elim s z st in
    let (es, u, x, t) = told_is s w i c m h in
    let (fs, evs, v, size, a, read) = wrote-told s w i l b n k in
    let same : fs ≡ es = good-same fs es (sym v ∙ u) in
    let told : read_told s m (call s (outlook i c)).buffer ≡ told_all s fs = t ∙ ap (told_all s) (sym same) in (
      x ∙ (ap length (sym same) ∙ (sym a.count ∙ size)),
      ap (map (λ (h : History). h.anchor)) read ∙ (map-map (λ (h : History). h.anchor) _ evs ∙ (a.who ∙ ap (map (λ (t : Told). t.anchor)) (sym told))),
      ap (map (λ (h : History). length h.ids)) read ∙ (map-map (λ (h : History). length h.ids) _ evs ∙ (map_same _ _ evs (λ e e_in. length-map (in_order e.from e.enq.anchor e.list) as_read) ∙ (a.points ∙ ap (map (λ (t : Told). t.points)) (sym told)))),
      ap (λ (x : List Told). lists_ok (joined (λ (t : Told). t.linked) x) l) told ∙ (listed_told s l fs).1 a.listed,
    )

-- a trigger whose commit isn't refused has an outlook that is refused by 21 at most
pub commit-told : (s : Store) → Wf s → (i : Id) (c l b : List ℕ) (n : ℕ) → (call s (commit i l b)).answer ≡ anchors n → (r : Refusal) (k : ℕ) → (call s (outlook i c)).answer ≡ refused r k → number_of r ≡ 21
commit-told s w i c l b n h r k g =
    let (es, evs, u, size, a, read) = wrote-told s w i l b n h in
    ⊎_elim (λ v. absurd (not_good r es (sym v ∙ u))) (λ (fs, v, o). go (ℕ_discrete (number_of r) 21) (λ f. not_good r 0 (sym (outlook-bad s (length c) fs r f o) ∙ (ap (tests s) (good-same fs es (sym v ∙ u)) ∙ a.pass))))
    (outlook_was s i c r k (ap (λ (o : Outcome). o.answer) (sym (outlook-call s w i c)) ∙ g))
  where
    go : Dec (number_of r ≡ 21) → (number_of r ≢ 21 → ⊥) → number_of r ≡ 21
    go (yes e) f = e
    go (no e) f = absurd (f e)
