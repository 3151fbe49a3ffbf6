-- A commit that isn't refused: all anchors of its chain pass, each on the store and with the lists that those before it left.
use Rattle.std.specs.Prelude.{ℕ, suc, ◌-◌, ◌^◌, ◌<◌, ◌≡◌, refl, length}
use Rattle.std.proofs.Common.{sym, ◌∙◌, subst, ap, ap₂, ⊎_elim, arith, zero-add}
use mathlib.Core.List.Memᴰ
use mathlib.Core.List.{List, [], ◌∷◌, ◌++◌, map, Memᴰ}
use Rattle.std.proofs.Math.Option.{none}
use Rattle.laws.specs.Lists.{joined}
use Rattle.spec.specs.Ids.{Id}
use Rattle.spec.specs.Store.{Store, round_at}
use Rattle.spec.specs.Chain.{good, EnqueuedAnchor, lowest_walked, anchors_of}
use Rattle.spec.specs.History.{history, in_order, after_lists, record_bytes, dequeued, Finished, commit_all}
use Rattle.spec.specs.Calls.{anchors, Outcome, commit_end, do_commit, commit, call}
use Rattle.spec.specs.Links.{resolved-named}
use Rattle.spec.specs.WellFormed.{Wf}
use Rattle.spec.specs.Order.{history-few}
use Rattle.spec.proofs.OrderInRound.{order_length}
use Rattle.spec.specs.Walk.{Rising, tested_back}
use Rattle.spec.proofs.Walk.{test_good}
use Rattle.spec.proofs.Preservation.{mark_kept, rising_mark, anchors_rising}
use Rattle.spec.proofs.Demand3Second.{handed-anchors, commit_is, commit-answer}
use Rattle.spec.specs.Records.{Event, passed, bytes_of, every-commit}
use Rattle.spec.proofs.Records.{commit_buffer}
use Rattle.spec.specs.Outlook.{tests, supposed, none-some, Listed}

-- the anchors of a chain, each with the store and the lists that those before it left
unfoldable pub events : Store → List ℕ → List EnqueuedAnchor → List Event
events s ls [] = []
events s ls (e ∷ es) = record { from = s; list = ls; enq = e } ∷ events (dequeued s e) (after_lists s e.anchor ls) es

pub events-length : (s : Store) (ls : List ℕ) (es : List EnqueuedAnchor) → length (events s ls es) ≡ length es
unfolding events
events-length s ls [] = refl
events-length s ls (e ∷ es) = ap suc (events-length (dequeued s e) (after_lists s e.anchor ls) es)

-- the number of points in an anchor's record, and in its history
abbrev pub points_out : Event → ℕ
points_out e = length (in_order e.from e.enq.anchor e.list)

abbrev pub points_held : Event → ℕ
points_held e = length (history e.from e.enq.anchor)

-- all anchors pass, with right lists, and the number of points in each record, that of its history, fits its four bytes
pub record AllPass (s : Store) (ls : List ℕ) (es : List EnqueuedAnchor) : Type 0 where
  pub pass : tests s es ≡ good 0
  pub listed : Listed s ls es
  pub few : (e : Event) → Memᴰ e (events s ls es) → points_out e < 256 ^ 4
  pub points : map points_out (events s ls es) ≡ map points_held (events s ls es)

-- what a commit of these anchors leaves, if nothing stops it
abbrev Ends : Store → List ℕ → List EnqueuedAnchor → Finished → List Event → Type 0
Ends s ls es f evs = (f.store ≡ supposed s es) × (evs ≡ events s ls es) × AllPass s ls es

commit-ends : (s : Store) (ls b : List ℕ) (at n : ℕ) (es : List EnqueuedAnchor) → (commit_all s ls b at n es).stopped ≡ none → Wf s → (low : ℕ) → Rising s low es
    → Ends s ls es (commit_all s ls b at n es) (passed s ls (length b - at) es)
unfolding tests events supposed
commit-ends = every-commit (λ s ls b at n es f evs. f.stopped ≡ none → Wf s → (low : ℕ) → Rising s low es → Ends s ls es f evs)
    (λ s ls b at n h w low r. (refl, refl, record { pass = refl; listed = tt; few = λ e m. absurd (Memᴰ.not-nil m); points = refl }))
    (λ s ls b at n e es r t h. absurd (none-some r (sym h)))
    (λ s ls b at n e es a f evs t i h w low (u, x, r).
    let (c, g, o, l) = test_good s ls (length b - at) (length (record_bytes s ls e)) e.anchor a t in
    let (st, ev, z) = i h (mark_kept s w e x c) (suc (round_at s e.anchor)) (rising_mark s e _ es r) in
    let k = order_length s w e.anchor (resolved-named _ x.anchor_done) ls o in (
      st,
      ap (λ (l : List Event). record { from = s; list = ls; enq = e } ∷ l) ev,
      record {
        pass = rw (tested_back s e.anchor c) z.pass;
        listed = (o, z.listed);
        few = λ y m. ⊎_elim (λ d. subst (λ (y : Event). points_out y < 256 ^ 4) (sym d) (omega (arith, k, history-few s w e.anchor))) (z.few y) (Memᴰ.cases_cons m);
        points = ap₂ ◌∷◌ k z.points;
      },
    ))

-- what a commit of i that isn't refused hands out and leaves
pub record Handed (s : Store) (i : Id) (ls : List ℕ) (n : ℕ) (o : Outcome) : Type 0 where
  pub chain : List EnqueuedAnchor
  pub yields : anchors_of s i ≡ good chain
  pub count : length chain ≡ n
  pub passes : AllPass s ls chain
  pub leaves : o.store ≡ supposed s chain
  pub rest : List ℕ
  pub writes : o.buffer ≡ joined bytes_of (events s ls chain) ++ rest

commit_store : (s : Store) → Wf s → (i : Id) (ls b : List ℕ) (es : List EnqueuedAnchor) → anchors_of s i ≡ good es → (call s (commit i ls b)).store ≡ (commit_all s ls b 0 0 es).store
unfolding do_commit commit_end
commit_store s w i ls b es h = rw (commit_is s w i ls b) (rw (h, do_commit) refl)

pub handed : (s : Store) → Wf s → (i : Id) (ls b : List ℕ) (n : ℕ) → (call s (commit i ls b)).answer ≡ anchors n → Handed s i ls n (call s (commit i ls b))
handed s w i ls b n k =
    let (es, u, stopped, count) = handed-anchors s i ls b n (ap (λ (o : Outcome). o.answer) (sym (commit_is s w i ls b)) ∙ k) in
    let (rest, buffer, all) = commit_buffer s ls b 0 0 es (omega arith) in
    let (st, ev, a) = commit-ends s ls b 0 0 es stopped w (lowest_walked s) (anchors_rising s w i es u) in
    record {
      chain = es;
      yields = u;
      count = sym (events-length s ls es) ∙ (ap length (sym ev) ∙ (sym (zero-add _) ∙ (sym all ∙ count)));
      passes = a;
      leaves = commit_store s w i ls b es u ∙ st;
      rest = rest;
      writes = (commit-answer s w i ls b es u stopped).1 ∙ (buffer ∙ ap (λ (evs : List Event). joined bytes_of evs ++ rest) ev);
    }
