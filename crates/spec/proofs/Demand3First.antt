-- Every call keeps what every store of a list satisfies, and each finished anchor's history is exact.
use Prim.Native.Nat.{ℕ, suc, ◌-◌, ◌^◌, ◌≤◌, ◌<◌, max}
use Rattle.std.specs.Prelude.{◌≡◌, ◌≢◌, ◌↔◌, length}
use Rattle.std.proofs.Math.Path.{refl, subst}
use Rattle.std.proofs.Common.{sym, ◌∙◌, ap, ⊎_elim, le_trans}
use Rattle.std.proofs.Math.Bool.{true, false≢true}
use mathlib.Core.List.Memᴰ
use mathlib.Core.List.{List, [], ◌∷◌, ◌++◌, append_assoc, append-nil, Memᴰ}
use native.Mathlib.Omega.{arith}
use Rattle.std.proofs.Math.Nat.{sub-zero}
use Rattle.std.proofs.Math.Decide.{ℕ_discrete}
use Rattle.laws.specs.Test.{clash, le_or-lt}
use Rattle.laws.specs.Bytes.{written}
use Rattle.spec.specs.Ids.{Id}
use Rattle.spec.specs.Store.{Resolution, Point, Progress, Memory, Store, id_at, round_at, resolved, links_to, with_points, with_numbers}
use Rattle.spec.specs.Paths.{LinkedTo}
use Rattle.spec.specs.Rules.{last_round}
use Rattle.spec.specs.Chain.{Out, bad, good, EnqueuedAnchor, or_zero, lowest_walked, anchors_of}
use Rattle.spec.specs.History.{limit, history, linked_counts, lists_ok, in_order, test_anchor, dequeued, Finished, commit_all, outlook_all}
use Rattle.spec.specs.Calls.{anchors, refused, Outcome, finish, StartArgs, do_start, add_round, do_round, new_point, name_at, do_name, with_path_heights, resolved_as, resolve_at, do_resolve, set_top, certify_at, do_certify, commit_end, do_commit, do_outlook, drained, new_bottom, Call, start, reset_all, round, name, resolve, certify, gap_question, commit, outlook, remove, drop, perform}
use Rattle.spec.specs.Links.{linked, resolved-named}
use Rattle.spec.specs.HeightEquations.{inside}
use Rattle.spec.proofs.Changes.{res_off, res_link, drain-gone, drain-stays, drain_was, drain-link}
use Rattle.spec.specs.Order.{history-needed}
use Rattle.spec.proofs.Order.{history_named}
use Rattle.spec.proofs.OrderInRound.{order_mem}
use Rattle.spec.specs.Walk.{find-some, Anchored, Rising, rising_less, Tested}
use Rattle.spec.proofs.Walk.{test_good}
use Rattle.spec.proofs.Accepted.{finish_store, gap_question_way, remove_way, drop_way, round_way, Naming, name_way, Resolving, resolve_way, certify_way}
use Rattle.spec.specs.Demand.{InList}
use Rattle.spec.specs.Records.{Event, passed, every-commit}
use Rattle.spec.proofs.Preservation.{name_at_lem, name_off, name-link, name_kept, round_kept, res_kept, cert_kept, drain_kept, numbers_kept, rising_mark, anchors_rising, start-same, new_bottom_lem}
use Rattle.spec.proofs.Invariant.{Inv, floor, Next, mark_inv}

-- ---- changes of the store

-- points, last anchor and last proof as they were
pub numbers_inv : (s : Store) (p : Progress) (m : Memory) (hs : List Id) → p.last_anchor ≡ s.progress.last_anchor → p.last_proof ≡ s.progress.last_proof → Inv s hs → Inv (with_numbers s p m) hs
unfolding with_numbers
numbers_inv s p m hs a b v = record {
  wf = numbers_kept s p m v.wf;
  firm = v.firm;
  closed = λ x y d e l. v.closed x y d e (subst (λ o. max (limit s.conf (or_zero o)) s.bottom ≤ round_at s y) a l);
  handed = v.handed;
  held = v.held;
  wide = v.wide;
  order = subst (λ o. or_zero o ≤ or_zero p.last_proof) (sym a) (subst (λ o. or_zero s.progress.last_anchor ≤ or_zero o) (sym b) v.order);
}

round_inv : (s : Store) (peers : ℕ) (hs : List Id) → suc s.top ≤ last_round → suc s.top - s.bottom < 512 → Inv s hs → Inv (add_round s peers) hs
unfolding add_round
round_inv s peers hs a b v = record { wf = round_kept s v.wf peers a b; firm = v.firm; closed = v.closed; handed = v.handed; held = v.held; wide = v.wide; order = v.order }

module _ (s : Store) (i : Id) (t : Store) (n : Naming s i t) (hs : List Id) (v : Inv s hs) (fits : i.digest < 256 ^ 32) where
  abbrev q : ℕ
  q = n.place

  off : (p : ℕ) → p ≢ n.place → (name_at s i n.place).pt p ≡ s.pt p
  off = name_off s v.wf i n.place n.inside n.unused n.id.low n.id.high n.new

  here : (name_at s i n.place).pt n.place ≡ new_point i
  here = name_at_lem s v.wf i n.place n.inside n.unused n.id.low n.id.high n.new

  -- a committed point isn't the new one
  old : (p : ℕ) → ((name_at s i n.place).pt p).flags.committed ≡ true → p ≢ n.place
  unfolding new_point
  old p h e = false≢true (sym (ap (λ (x : Point). x.flags.committed) here) ∙ subst (λ x. ((name_at s i n.place).pt x).flags.committed ≡ true) e h)

  named-ne : (p : ℕ) → (s.pt p).named ≡ true → p ≢ n.place
  named-ne p h e = clash (subst (λ x. (s.pt x).named ≡ true) e h) n.unused

  same-floor : floor (name_at s i n.place) ≡ floor s
  unfolding name_at with_points
  same-floor = refl

  same_bottom : (name_at s i n.place).bottom ≡ s.bottom
  unfolding name_at with_points
  same_bottom = refl

  same_order : or_zero (name_at s i n.place).progress.last_anchor ≤ or_zero (name_at s i n.place).progress.last_proof
  unfolding name_at with_points
  same_order = v.order

  name_inv : Inv (name_at s i n.place) hs
  unfolding new_point
  name_inv = record {
    wf = name_kept s v.wf i n.place n.inside n.unused n.id.low n.id.high n.new n.id.peer n.few;
    firm = λ p h. subst (λ (x : Point). resolved x ≡ true) (sym (off p (old p h))) (v.firm p (subst (λ (x : Point). x.flags.committed ≡ true) (off p (old p h)) h));
    closed = λ p x h e l. closed p x h (name-link s v.wf i n.place n.inside n.unused n.id.low n.id.high n.new p x e) l;
    handed = λ p h. subst (λ (x : Point). Memᴰ x.id hs) (sym (off p (old p h))) (v.handed p (subst (λ (x : Point). x.flags.committed ≡ true) (off p (old p h)) h));
    held = λ x m b. held x (v.held x m (subst (λ k. k ≤ x.round) same_bottom b));
    wide = λ p h. wide p h (ℕ_discrete p n.place);
    order = same_order;
  }
    where
      closed : (p x : ℕ) → ((name_at s i n.place).pt p).flags.committed ≡ true → LinkedTo s p x × (x ≢ n.place) → floor (name_at s i n.place) ≤ round_at (name_at s i n.place) x → ((name_at s i n.place).pt x).flags.committed ≡ true
      closed p x h (e, ne) l = subst (λ (y : Point). y.flags.committed ≡ true) (sym (off x ne))
          (v.closed p x (subst (λ (y : Point). y.flags.committed ≡ true) (off p (old p h)) h) e (subst (λ k. k ≤ round_at s x) same-floor (subst (λ (y : Point). floor (name_at s i n.place) ≤ y.id.round) (off x ne) l)))

      held : (x : Id) → (p : ℕ) × ((s.pt p).flags.committed ≡ true) × (id_at s p ≡ x) → (p : ℕ) × (((name_at s i n.place).pt p).flags.committed ≡ true) × (id_at (name_at s i n.place) p ≡ x)
      held x (p, d, e) = let k = off p (named-ne p (resolved-named (s.pt p) (v.firm p d))) in (p, subst (λ (y : Point). y.flags.committed ≡ true) (sym k) d, ap (λ (y : Point). y.id) k ∙ e)

      wide : (p : ℕ) → ((name_at s i n.place).pt p).named ≡ true → Dec (p ≡ n.place) → (id_at (name_at s i n.place) p).digest < 256 ^ 32
      wide p h (yes e) = subst (λ x. (id_at (name_at s i n.place) x).digest < 256 ^ 32) (sym e) (subst (λ (y : Point). y.id.digest < 256 ^ 32) (sym here) fits)
      wide p h (no e) = subst (λ (y : Point). y.id.digest < 256 ^ 32) (sym (off p e)) (v.wide p (subst (λ (y : Point). y.named ≡ true) (off p e) h))

module _ (s : Store) (i : Id) (resolution : Resolution) (t : Store) (r : Resolving s i resolution t) (hs : List Id) (v : Inv s hs) where
  -- a committed point was resolved before
  res_old : (p : ℕ) → (s.pt p).flags.committed ≡ true → p ≢ r.place
  res_old p h e = clash (subst (λ x. resolved (s.pt x) ≡ true) e (v.firm p h)) r.late

  res_firm : (p : ℕ) → (s.pt p).flags.committed ≡ true → resolved ((resolve_at s resolution r.place).pt p) ≡ true
  res_firm p h = subst (λ (x : Point). resolved x ≡ true) (sym (res_off s v.wf.sized r.place resolution r.late p (res_old p h))) (v.firm p h)

  res_before : (p x : ℕ) → (s.pt p).flags.committed ≡ true → LinkedTo (resolve_at s resolution r.place) p x → LinkedTo s p x
  res_before p x h e = ⊎_elim (λ k. k) (λ m. absurd (res_old p h m)) (res_link s v.wf.sized r.place resolution r.late p x e)

  res_inv : Inv (resolve_at s resolution r.place) hs
  unfolding resolve_at with_path_heights with_points resolved_as
  res_inv = record {
    wf = res_kept s v.wf r.place resolution (find-some s i r.place r.found).named r.late r.formed r.tame;
    firm = res_firm;
    closed = λ p x h e l. v.closed p x h (res_before p x h e) l;
    handed = v.handed;
    held = v.held;
    wide = v.wide;
    order = v.order;
  }

cert_inv : (s : Store) (q : ℕ) (hs : List Id) → (s.pt q).named ≡ true → Inv s hs → Inv (certify_at s q) hs
unfolding certify_at with_path_heights with_points set_top links_to resolved
cert_inv s q hs n v = record { wf = cert_kept s v.wf q n; firm = v.firm; closed = v.closed; handed = v.handed; held = v.held; wide = v.wide; order = v.order }

module _ (s : Store) (b : ℕ) (up : s.bottom ≤ b) (under : b ≤ s.top) (hs : List Id) (v : Inv s hs) where
  -- a committed point that is there after stands as it did
  drain_kept_point : (p : ℕ) → ((drained s b).pt p).flags.committed ≡ true → (drained s b).pt p ≡ s.pt p
  drain_kept_point p h = ⊎_elim (λ l. drain-stays s b p l) (λ l. absurd (false≢true (sym (ap (λ (x : Point). x.flags.committed) (drain-gone s b p l)) ∙ h))) (le_or-lt b (round_at s p))

  floor_up : floor s ≤ floor (drained s b)
  unfolding drained
  floor_up = rises (limit s.conf (or_zero s.progress.last_anchor)) s.bottom b up
    where
      rises : (x m n : ℕ) → m ≤ n → max x m ≤ max x n
      rises x m n l = omega arith

  drain_bottom_lem : (drained s b).bottom ≡ b
  unfolding drained
  drain_bottom_lem = refl

  drain_order : or_zero (drained s b).progress.last_anchor ≤ or_zero (drained s b).progress.last_proof
  unfolding drained
  drain_order = v.order

  pub drain_inv : Inv (drained s b) hs
  drain_inv = record {
    wf = drain_kept s v.wf b up under;
    firm = λ p h. subst (λ (x : Point). resolved x ≡ true) (sym (drain_kept_point p h)) (v.firm p (subst (λ (x : Point). x.flags.committed ≡ true) (drain_kept_point p h) h));
    closed = λ p q h e l. let k = (drain_was s b q (linked _ _ e).named_is).0 in
        subst (λ (x : Point). x.flags.committed ≡ true) (sym k) (v.closed p q (subst (λ (x : Point). x.flags.committed ≡ true) (drain_kept_point p h) h) (drain-link s b p q e) (le_trans floor_up (subst (λ (x : Point). floor (drained s b) ≤ x.id.round) k l)));
    handed = λ p h. subst (λ (x : Point). Memᴰ x.id hs) (sym (drain_kept_point p h)) (v.handed p (subst (λ (x : Point). x.flags.committed ≡ true) (drain_kept_point p h) h));
    held = λ x m l. held x (subst (λ k. k ≤ x.round) drain_bottom_lem l) (v.held x m (le_trans up (subst (λ k. k ≤ x.round) drain_bottom_lem l)));
    wide = λ p h. let k = (drain_was s b p h).0 in subst (λ (x : Point). x.id.digest < 256 ^ 32) (sym k) (v.wide p (subst (λ (x : Point). x.named ≡ true) k h));
    order = drain_order;
  }
    where
      held : (x : Id) → b ≤ x.round → (p : ℕ) × ((s.pt p).flags.committed ≡ true) × (id_at s p ≡ x) → (p : ℕ) × (((drained s b).pt p).flags.committed ≡ true) × (id_at (drained s b) p ≡ x)
      held x l (p, d, e) = (p, subst (λ (y : Point). y.flags.committed ≡ true) (sym k) d, ap (λ (y : Point). y.id) k ∙ e)
        where
          k : (drained s b).pt p ≡ s.pt p
          k = drain-stays s b p (subst (λ (y : Id). b ≤ y.round) (sym e) l)

-- ---- the anchors of a commit

abbrev pub ids : Event → List Id
ids e = in_order e.from e.enq.anchor e.list

abbrev pub all_ids : List Event → List Id
all_ids [] = []
all_ids (e ∷ es) = ids e ++ all_ids es

-- a finished anchor, after the ids hs of the histories before it
pub record Right (hs : List Id) (e : Event) : Type 0 where
  pub inv : Inv e.from hs
  pub anchored : Anchored e.from e.enq
  pub next : Next e.from e.enq.anchor
  pub tested : Tested e.from e.enq.anchor
  pub listed : lists_ok (linked_counts e.from e.enq.anchor) e.list ≡ true

abbrev pub AllRight : List Id → List Event → Type 0
AllRight hs [] = Unit {0}
AllRight hs (e ∷ es) = Right hs e × AllRight (hs ++ ids e) es

pub split_max : (x y n : ℕ) → max x y ≤ n → (x ≤ n) × (y ≤ n)
split_max x y n h = (omega arith, omega arith)

-- an anchor of the chain that passes its tests may be committed
pub next_of : (s : Store) (hs : List Id) (e : EnqueuedAnchor) → Inv s hs → lowest_walked s ≤ round_at s e.anchor → Anchored s e → Tested s e.anchor → Next s e.anchor
next_of s hs e v l o c = record {
  later = le_trans v.order k.0;
  young = c.young;
  in_store = k.1;
  there = there;
  ready = λ q h. (c.ready q (inside s v.wf.sized q (history_named s v.wf e.anchor there q h)) (history-needed s e.anchor q h)).0;
}
  where
    k : (or_zero s.progress.last_proof ≤ round_at s e.anchor) × (s.bottom ≤ round_at s e.anchor)
    k = split_max (or_zero s.progress.last_proof) s.bottom (round_at s e.anchor) l

    there : (s.pt e.anchor).named ≡ true
    there = resolved-named (s.pt e.anchor) o.anchor_done

one_right : (s : Store) (ls : List ℕ) (hs : List Id) (e : EnqueuedAnchor) (es : List EnqueuedAnchor) → Inv s hs → Rising s (lowest_walked s) (e ∷ es) → Tested s e.anchor → lists_ok (linked_counts s e.anchor) ls ≡ true
    → Right hs (record { from = s; list = ls; enq = e })
one_right s ls hs e es v r c o = record { inv = v; anchored = r.1; next = next_of s hs e v r.0 r.1 c; tested = c; listed = o }

-- the ids in another order, or said again
inv_same : (s : Store) (hs ks : List Id) → ((x : Id) → Memᴰ x hs ↔ Memᴰ x ks) → Inv s hs → Inv s ks
inv_same s hs ks h v = record {
  wf = v.wf;
  firm = v.firm;
  closed = v.closed;
  handed = λ p d. (h (id_at s p)).0 (v.handed p d);
  held = λ x m l. v.held x ((h x).1 m) l;
  wide = v.wide;
  order = v.order;
}

same_after : (hs xs ys : List Id) → ((x : Id) → Memᴰ x xs ↔ Memᴰ x ys) → (x : Id) → Memᴰ x (hs ++ xs) ↔ Memᴰ x (hs ++ ys)
same_after hs xs ys h x = (
  (λ m. ⊎_elim (λ k. Memᴰ.append_left ys k) (λ k. Memᴰ.append_right hs ((h x).0 k)) (Memᴰ.append_cases hs m)),
  λ m. ⊎_elim (λ k. Memᴰ.append_left xs k) (λ k. Memᴰ.append_right hs ((h x).1 k)) (Memᴰ.append_cases hs m),
)

one_inv : (s : Store) (ls : List ℕ) (hs : List Id) (e : EnqueuedAnchor) (es : List EnqueuedAnchor) → Inv s hs → Rising s (lowest_walked s) (e ∷ es) → Tested s e.anchor → lists_ok (linked_counts s e.anchor) ls ≡ true
    → Inv (dequeued s e) (hs ++ in_order s e.anchor ls)
one_inv s ls hs e es v r c o =
    let n : Next s e.anchor = next_of s hs e v r.0 r.1 c in
    inv_same (dequeued s e) (hs ++ history s e.anchor) (hs ++ in_order s e.anchor ls)
    (same_after hs _ _ (λ x. let m = order_mem s v.wf e.anchor n.there ls o x in (m.1, m.0))) (mark_inv s hs v e r.1 c n)

mark-lowest : (s : Store) (e : EnqueuedAnchor) → lowest_walked (dequeued s e) ≡ max (round_at s e.proof) s.bottom
unfolding dequeued or_zero
mark-lowest s e = refl

-- the anchors after it stand above the one committed
rest_rising : (s : Store) (e : EnqueuedAnchor) (es : List EnqueuedAnchor) → Rising s (lowest_walked s) (e ∷ es) → Rising (dequeued s e) (lowest_walked (dequeued s e)) es
rest_rising s e es (l, o, r) = rising_less (dequeued s e) _ (suc (round_at s e.anchor)) es
    (subst (λ n. n ≤ suc (round_at s e.anchor)) (sym (mark-lowest s e)) (fit (round_at s e.proof) s.bottom (round_at s e.anchor) (or_zero s.progress.last_proof) o.above l)) (rising_mark s e _ es r)
  where
    fit : (p b a w : ℕ) → p ≡ suc a → max w b ≤ a → max p b ≤ suc a
    fit p b a w e h = omega arith

-- no anchor is finished
plain : (hs : List Id) (t : Store) → Inv t hs → Inv t (hs ++ [])
plain hs t v = subst (Inv t) (sym (append-nil hs)) v

-- the histories of the finished anchors are right, after hs
abbrev Rightly : Store → List EnqueuedAnchor → Finished → List Event → Type 0
Rightly s es f evs = (hs : List Id) → Inv s hs → Rising s (lowest_walked s) es → AllRight hs evs × Inv f.store (hs ++ all_ids evs)

rightly_more : (s : Store) (ls : List ℕ) (left size : ℕ) (e : EnqueuedAnchor) (es : List EnqueuedAnchor) (a : ℕ) (f : Finished) (evs : List Event) → test_anchor s ls left size e.anchor ≡ good a
    → Rightly (dequeued s e) es f evs → Rightly s (e ∷ es) f (record { from = s; list = ls; enq = e } ∷ evs)
rightly_more s ls left size e es a f evs h i hs v r = ((one_right s ls hs e es v r c o, all.0), subst (Inv f.store) (append_assoc hs (in_order s e.anchor ls) _) all.1)
  where
    c : Tested s e.anchor
    c = (test_good s ls _ _ _ a h).0

    o : lists_ok (linked_counts s e.anchor) ls ≡ true
    o = (test_good s ls _ _ _ a h).2

    all : AllRight (hs ++ in_order s e.anchor ls) evs × Inv f.store (hs ++ in_order s e.anchor ls ++ all_ids evs)
    all = i (hs ++ in_order s e.anchor ls) (one_inv s ls hs e es v r c o) (rest_rising s e es r)

-- the anchors of a chain are committed rightly
pub commit_right : (s : Store) (ls b : List ℕ) (at n : ℕ) (es : List EnqueuedAnchor) → Rightly s es (commit_all s ls b at n es) (passed s ls (length b - at) es)
commit_right = every-commit (λ s ls b at n es f evs. Rightly s es f evs) (λ s ls b at n hs v r. (tt, plain hs s v)) (λ s ls b at n e es o h hs v r. (tt, plain hs s v)) (λ s ls b at n e. rightly_more s ls _ _ e)

-- ---- all calls

-- the anchors that a commit finishes, and what it leaves, by its walk
abbrev pub finishes_by : Store → List ℕ → List ℕ → Out (List EnqueuedAnchor) → List Event
finishes_by s ls b o = elim o [ bad r ↦ [] | good es ↦ passed s ls (length b) es ]

abbrev pub commit_by : Store → List ℕ → List ℕ → Out (List EnqueuedAnchor) → Outcome
commit_by s ls b o = elim o [ bad r ↦ record { answer = refused r 0; store = s; buffer = b } | good es ↦ commit_end (commit_all s ls b 0 0 es) ]

-- the anchors that a call finishes
unfoldable pub finishes : Store → Id → List ℕ → List ℕ → List Event
finishes s i ls b = finishes_by s ls b (anchors_of s i)

unfoldable pub events_of : Store → Call → List Event
events_of s c = elim c [ start b ↦ [] | reset_all ↦ [] | round r peers ↦ [] | name i ↦ [] | resolve i t ↦ [] | certify i ↦ [] | gap_question ↦ [] | commit i l b ↦ finishes s i l b | outlook i b ↦ [] | remove r from b ↦ [] | drop r ↦ [] ]

-- what one call keeps
pub record Keeps (hs : List Id) (s : Store) (c : Call) : Type 0 where
  pub right : AllRight hs (events_of s c)
  pub inv : Inv (perform s c).store (hs ++ all_ids (events_of s c))

commit-keeps : (s : Store) (i : Id) (ls b : List ℕ) (hs : List Id) → Inv s hs → AllRight hs (finishes s i ls b) × Inv (do_commit s i ls b).store (hs ++ all_ids (finishes s i ls b))
unfolding finishes do_commit commit_end
commit-keeps s i ls b hs v = go (anchors_of s i) refl
  where
    evs : Out (List EnqueuedAnchor) → List Event
    evs = finishes_by s ls b

    out : Out (List EnqueuedAnchor) → Outcome
    out = commit_by s ls b

    go : (o : Out (List EnqueuedAnchor)) → anchors_of s i ≡ o → AllRight hs (evs o) × Inv (out o).store (hs ++ all_ids (evs o))
    go (bad r) e = (tt, plain hs s v)
    go (good es) e = subst (λ k. AllRight hs (passed s ls k es) × Inv (commit_all s ls b 0 0 es).store (hs ++ all_ids (passed s ls k es))) (sub-zero (length b)) (commit_right s ls b 0 0 es hs v (anchors_rising s v.wf i es e))

-- a start in the list is refused
start_store : (s : Store) (b : StartArgs) (hs : List Id) → Inv s hs → Inv (do_start s b).store hs
start_store s b hs v = subst (λ t. Inv t hs) (sym (start-same s v.wf b)) v

round_store : (s : Store) (r peers : ℕ) (hs : List Id) → Inv s hs → Inv (finish s (do_round s r peers)).store hs
round_store s r peers hs v = finish_store (λ t. Inv t hs) s _ v (λ t h. ⊎_elim (λ e. subst (λ x. Inv x hs) e v) (λ (e, a, b). subst (λ x. Inv x hs) e (round_inv s peers hs a b v)) (round_way s r peers t h))

name_store : (s : Store) (i : Id) (hs : List Id) → i.digest < 256 ^ 32 → Inv s hs → Inv (finish s (do_name s i)).store hs
name_store s i hs f v = finish_store (λ t. Inv t hs) s _ v (λ t h. let n = name_way s i t h in subst (λ x. Inv x hs) n.is (name_inv s i t n hs v f))

resolve_store : (s : Store) (i : Id) (resolution : Resolution) (hs : List Id) → Inv s hs → Inv (finish s (do_resolve s i resolution)).store hs
resolve_store s i resolution hs v = finish_store (λ t. Inv t hs) s _ v (λ t h. let r = resolve_way s i resolution t h in subst (λ x. Inv x hs) r.is (res_inv s i resolution t r hs v))

certify_store : (s : Store) (i : Id) (hs : List Id) → Inv s hs → Inv (finish s (do_certify s i)).store hs
certify_store s i hs v = finish_store (λ t. Inv t hs) s _ v (λ t h. let c = certify_way s i t h in subst (λ x. Inv x hs) c.is (cert_inv s c.place hs (find-some s i c.place c.found).named v))

-- an outlook changes nothing in the store
pub outlook_store : (s : Store) (i : Id) (b : List ℕ) → (do_outlook s i b).store ≡ s
unfolding do_outlook
outlook_store s i b = go (anchors_of s i)
  where
    on : (es : List EnqueuedAnchor) (o : Out (List ℕ)) → ◌≡◌ {A = Store} (elim o as (λ x. Outcome) [ bad r ↦ record { answer = refused r 0; store = s; buffer = b } | good bytes ↦ record { answer = anchors (length es); store = s; buffer = written b 0 bytes } ]).store s
    on es (bad r) = refl
    on es (good bytes) = refl

    go : (o : Out (List EnqueuedAnchor)) → ◌≡◌ {A = Store} (elim o as (λ x. Outcome) [
      | bad r ↦ record { answer = refused r 0; store = s; buffer = b }
      | good es ↦ elim (outlook_all s (length b) es) [ bad r ↦ record { answer = refused r 0; store = s; buffer = b } | good bytes ↦ record { answer = anchors (length es); store = s; buffer = written b 0 bytes } ]
    ]).store s
    go (bad r) = refl
    go (good es) = on es (outlook_all s (length b) es)

drain_progress : {A : Type 0} (s : Store) (b : ℕ) (f : Progress → A) → f s.progress ≡ f (drained s b).progress
unfolding drained
drain_progress s b f = refl

-- the store drained, and last anchor and last proof kept
drained_inv : (s : Store) (r : ℕ) (p : Progress) (m : Memory) (hs : List Id) → p.last_anchor ≡ s.progress.last_anchor → p.last_proof ≡ s.progress.last_proof → Inv s hs → Inv (with_numbers (drained s (new_bottom s r)) p m) hs
drained_inv s r p m hs a b v = let (x, y) = new_bottom_lem s v.wf r in
    numbers_inv (drained s (new_bottom s r)) p m hs (a ∙ drain_progress s (new_bottom s r) (λ p. p.last_anchor)) (b ∙ drain_progress s (new_bottom s r) (λ p. p.last_proof)) (drain_inv s (new_bottom s r) x y hs v)

pub call-keeps : (s : Store) (c : Call) (hs : List Id) → Inv s hs → InList c → Keeps hs s c
unfolding perform events_of
call-keeps s (start b) hs v l = record { right = tt; inv = plain hs _ (start_store s b hs v) }
call-keeps s reset_all hs v l = absurd l
call-keeps s (round r peers) hs v l = record { right = tt; inv = plain hs _ (round_store s r peers hs v) }
call-keeps s (name i) hs v l = record { right = tt; inv = plain hs _ (name_store s i hs l v) }
call-keeps s (resolve i t) hs v l = record { right = tt; inv = plain hs _ (resolve_store s i t hs v) }
call-keeps s (certify i) hs v l = record { right = tt; inv = plain hs _ (certify_store s i hs v) }
call-keeps s gap_question hs v l = record { right = tt; inv = plain hs _ (gap_question_way (λ t. Inv t hs) s v (λ p a b. numbers_inv s p _ hs a b v)) }
call-keeps s (commit i ls b) hs v l = let (x, y) = commit-keeps s i ls b hs v in record { right = x; inv = y }
call-keeps s (outlook i b) hs v l = record { right = tt; inv = plain hs _ (subst (λ t. Inv t hs) (sym (outlook_store s i b)) v) }
call-keeps s (remove r from b) hs v l = record { right = tt; inv = plain hs _ (remove_way (λ t. Inv t hs) s r from b v (λ m. drained_inv s (r - s.conf.history_rounds) _ m hs (sym (drain_progress s (new_bottom s (r - s.conf.history_rounds)) (λ p. p.last_anchor))) (sym (drain_progress s (new_bottom s (r - s.conf.history_rounds)) (λ p. p.last_proof))) v)) }
call-keeps s (drop r) hs v l = record { right = tt; inv = plain hs _ (drop_way (λ t. Inv t hs) s r (λ p a b. drained_inv s r p _ hs a b v)) }
