-- Demand 3, second half: late arrivals before a commit change neither its answer nor a byte of its buffer (01: 'Demand 3'; 02: N1).
use Rattle.std.specs.Prelude.{ℕ, suc, ◌+◌, ◌-◌, ◌≤◌, ◌<◌, max, ◌≡◌, refl, ◌⊎◌, ◌≢◌, true, false, ◌&&◌, ◌||◌, cond, List, [], ◌∷◌, eqb, leb, ltb, length}
use Rattle.std.proofs.Common.{sym, ◌∙◌, subst, ap₂, inl, inr, ⊎_elim, arith}
use Rattle.std.proofs.Math.Path.{ap}
use Rattle.std.proofs.Math.Bool.{not}
use Rattle.std.proofs.Math.Option.{Option, none, some}
use borrow.Author.Tests.{leb-false, ltb-false, eqb-true, ne_eqb, le-ltb, not-false}
use Rattle.laws.specs.Test.{clash, or_r, or_none}
use Rattle.laws.specs.Peers.{member}
use Rattle.spec.specs.Ids.{Id, prev}
use Rattle.spec.specs.Store.{Resolution, Round, Progress, Store, id_at, round_at, status_at, resolved, find, previous, with_points}
use Rattle.spec.specs.Paths.{certified}
use Rattle.spec.specs.Rules.{is_peer}
use Rattle.spec.specs.Chain.{Refusal, number, conflict, Out, bad, good, then, refuse, EnqueuedAnchor, walk, or_zero, lowest_walked, unlinked, check_oldest, chain_from, empty_walk, chain, trigger_conflict, filtered, place_of, anchors_of}
use Rattle.spec.specs.History.{Finished, commit_all}
use Rattle.spec.specs.Calls.{Answer, anchors, refused, Outcome, add_round, do_round, name_at, do_name, with_path_heights, resolved_as, resolve_at, do_resolve, set_top, certify_at, do_certify, commit_end, do_commit, Call, start, reset_all, round, name, resolve, certify, gap_question, commit, outlook, remove, drop as drop_to, perform, call}
use Rattle.spec.specs.Links.{resolved-named}
use Rattle.spec.specs.WellFormed.{Wf, counts_as_started_elim}
use Rattle.spec.specs.Walk.{not_good, if_good, then-good, refuse-good, refuse_back, find-some, place_at_lem}
use Rattle.spec.proofs.Accepted.{finish_store, round_way, place-good, name_way, resolve_way, certify_way}
use Rattle.spec.specs.Demand.{after, Arrives, AllArrive, SecondHalf}
use Rattle.spec.proofs.Preservation.{anchors_rising, not_reset, perform_kept, call-perform}
use Rattle.spec.proofs.Extension.{re_top, Late, late_refl, late_trans, same-resolved, find-late, walk-late, commit-late}

-- ---- what arrives

pub good-same : {A : Type 0} (x y : A) → ◌≡◌ {A = Out A} (good x) (good y) → x ≡ y
good-same x y h = cc

add-late : (s : Store) (peers : ℕ) → Late s (add_round s peers)
unfolding add_round
add-late s peers = record {
  places = refl;
  bottom = refl;
  conf = refl;
  progress = refl;
  top = omega arith;
  rounds = λ r h. ap (λ b. cond b (record { peers = peers; used = none }) (s.rounds r)) (ne_eqb r (suc s.top) (λ e. omega arith));
  known = λ p h. record { stays = h; id_is = refl; topped = λ k. k };
  same = λ p h. record { mark_now = (s.pt p).flags.top; is = refl; trans = λ k. refl };
}

name-late : (s : Store) (i : Id) (q : ℕ) → (s.pt q).named ≡ false → Late s (name_at s i q)
unfolding name_at with_points
name-late s i q free = record {
  places = refl;
  bottom = refl;
  conf = refl;
  progress = refl;
  top = omega arith;
  rounds = λ r h. refl;
  known = λ p h. let e = off p h in record { stays = ap (λ z. z.named) e ∙ h; id_is = ap (λ z. z.id) e; topped = λ k. ap (λ z. z.flags.top) e ∙ k };
  same = λ p h. record { mark_now = (s.pt p).flags.top; is = off p (resolved-named (s.pt p) h); trans = λ k. refl };
}
  where
    off : (p : ℕ) → (s.pt p).named ≡ true → (name_at s i q).pt p ≡ s.pt p
    off p h = rw (ne_eqb p q (λ e. clash h (subst (λ z. (s.pt z).named ≡ false) (sym e) free))) refl

resolve-late : (s : Store) (t : Resolution) (q : ℕ) → resolved (s.pt q) ≡ false → Late s (resolve_at s t q)
unfolding resolve_at with_path_heights with_points resolved_as
resolve-late s t q un = record {
  places = refl;
  bottom = refl;
  conf = refl;
  progress = refl;
  top = omega arith;
  rounds = λ r h. refl;
  known = λ p h. record { stays = h; id_is = refl; topped = λ k. k };
  same = λ p h. record { mark_now = (s.pt p).flags.top; is = off p h; trans = λ k. refl };
}
  where
    off : (p : ℕ) → resolved (s.pt p) ≡ true → (resolve_at s t q).pt p ≡ s.pt p
    off p h = rw (ne_eqb p q (λ e. clash h (subst (λ z. resolved (s.pt z) ≡ false) (sym e) un))) refl

certify-late : (s : Store) (q : ℕ) → status_at s q ≢ 2 → Late s (certify_at s q)
unfolding certify_at with_path_heights with_points set_top
certify-late s q n = record {
  places = refl;
  bottom = refl;
  conf = refl;
  progress = refl;
  top = omega arith;
  rounds = λ r h. refl;
  known = λ p h. record { stays = h; id_is = refl; topped = λ k. or_r (eqb p q) _ k };
  same = λ p h. record {
    mark_now = eqb p q || (s.pt p).flags.top;
    is = refl;
    trans = λ k. ap (λ z. z || (s.pt p).flags.top) (ne_eqb p q (λ e. n (sym (ap (status_at s) e) ∙ k)));
  };
}

round_arrives : (s : Store) (r peers : ℕ) (t : Store) → do_round s r peers ≡ good t → Late s t
round_arrives s r peers t h = ⊎_elim (λ e. subst (Late s) e (late_refl s)) (λ (e, x, y). subst (Late s) e (add-late s peers)) (round_way s r peers t h)

name_arrives : (s : Store) (i : Id) (t : Store) → do_name s i ≡ good t → Late s t
name_arrives s i t h = let n = name_way s i t h in subst (Late s) n.is (name-late s i n.place n.unused)

resolve_arrives : (s : Store) (i : Id) (d : Resolution) (t : Store) → do_resolve s i d ≡ good t → Late s t
resolve_arrives s i d t h = let r = resolve_way s i d t h in subst (Late s) r.is (resolve-late s d r.place r.late)

certify_arrives : (s : Store) (i : Id) (t : Store) → ((q : ℕ) → find s i ≡ some q → status_at s q ≢ 2) → do_certify s i ≡ good t → Late s t
certify_arrives s i t n h = let c = certify_way s i t h in subst (Late s) c.is (certify-late s c.place (n c.place c.found))

-- a call that arrives late leaves the tables late
perform-late : (s : Store) (c : Call) → Arrives s c → Late s (perform s c).store
unfolding perform
perform-late s (start b) h = absurd h
perform-late s reset_all h = absurd h
perform-late s (round r peers) h = finish_store (Late s) s _ (late_refl s) (round_arrives s r peers)
perform-late s (name i) h = finish_store (Late s) s _ (late_refl s) (name_arrives s i)
perform-late s (resolve i t) h = finish_store (Late s) s _ (late_refl s) (resolve_arrives s i t)
perform-late s (certify i) h = finish_store (Late s) s _ (late_refl s) (λ t. certify_arrives s i t h)
perform-late s gap_question h = absurd h
perform-late s (commit i ls b) h = absurd h
perform-late s (outlook i b) h = absurd h
perform-late s (remove r from b) h = absurd h
perform-late s (drop_to r) h = absurd h

-- so does a list of them, and the tables keep their rules
pub after-late : (s : Store) → Wf s → (cs : List Call) → AllArrive s cs → Wf (after s cs) × Late s (after s cs)
unfolding after
after-late s w [] h = (w, late_refl s)
after-late s w (c ∷ cs) (h, hs) =
    let e : (call s c).store ≡ (perform s c).store = ap (λ (o : Outcome). o.store) (call-perform s w c) in
    let (x, y) = after-late (call s c).store (subst Wf (sym e) (perform_kept s w c (not_reset (Arrives s) (λ k. k) c h))) cs hs in
    (x, late_trans s _ _ (subst (Late s) (sym e) (perform-late s c h)) y)

-- ---- the trigger

-- a valid trigger at q whose walk gives the anchors es
pub record Chained (s : Store) (q : ℕ) (es : List EnqueuedAnchor) : Type 0 where
  pub goes_on : (not (s.pt q).resolution.trigger || (eqb (round_at s q) s.conf.genesis || empty_walk s q)) ≡ false
  pub digest : ℕ
  pub has_previous : previous (s.pt q) ≡ some digest
  pub walked : walk s (lowest_walked s) (prev (round_at s q) - lowest_walked s) (record { round = prev (round_at s q); author = (id_at s q).author; digest = digest }) [] ≡ good es
  pub linked : unlinked (lowest_walked s) es ≡ false

-- a trigger that passes all tests up to its chain
pub record Fires (s : Store) (i : Id) (es : List EnqueuedAnchor) : Type 0 where
  pub author_ok : leb 32 i.author ≡ false
  pub not_low : ltb i.round s.bottom ≡ false
  pub not_high : ltb s.top i.round ≡ false
  pub peer_ok : not (is_peer s i) ≡ false
  pub place : ℕ
  pub found : find s i ≡ some place
  pub done : resolved (s.pt place) ≡ true
  pub is_valid : status_at s place ≡ 1
  pub chained : Chained s place es

place_back : (s : Store) (i : Id) (q : ℕ) → find s i ≡ some q → place_of s i ≡ good q
place_back s i q h = place_at_lem s i ∙ rw h refl

chain_back : (s : Store) (q : ℕ) (es : List EnqueuedAnchor) → Chained s q es → chain s q ≡ good es
unfolding chain chain_from check_oldest
chain_back s q es c = rw (c.goes_on, chain) (rw c.has_previous (rw c.walked (refuse_back _ 19 _ c.linked)))

-- such a trigger yields them
pub fires_back : (s : Store) (i : Id) (es : List EnqueuedAnchor) → Fires s i es → anchors_of s i ≡ good es
unfolding anchors_of filtered
fires_back s i es f =
    refuse_back _ 5 _ f.author_ok
    ∙ rw f.not_low (refuse_back _ 6 _ f.not_high
    ∙ (refuse_back _ 5 _ f.peer_ok
    ∙ rw (place_back s i f.place f.found) (refuse_back _ 9 _ (ap not f.done) ∙ rw f.is_valid (chain_back s f.place es f.chained))))

no_anchors_lem : (e : EnqueuedAnchor) (es : List EnqueuedAnchor) → ◌≡◌ {A = Out (List EnqueuedAnchor)} (good []) (good (e ∷ es)) → ⊥
no_anchors_lem e es h = let z : ◌≡◌ {A = ℕ} 0 (suc (length es)) = ap length (good-same _ _ h) in omega arith

chain-good : (s : Store) (q : ℕ) (e : EnqueuedAnchor) (es : List EnqueuedAnchor) → chain s q ≡ good (e ∷ es) → Chained s q (e ∷ es)
unfolding chain chain_from check_oldest
chain-good s q e es h = go (if_good (not (s.pt q).resolution.trigger || (eqb (round_at s q) s.conf.genesis || empty_walk s q)) (good []) (chain_from s q (previous (s.pt q))) (e ∷ es) h)
  where
    look : (not (s.pt q).resolution.trigger || (eqb (round_at s q) s.conf.genesis || empty_walk s q)) ≡ false → (o : Option ℕ) → previous (s.pt q) ≡ o → chain_from s q o ≡ good (e ∷ es) → Chained s q (e ∷ es)
    look g none p k = absurd (not_good (number 16) (e ∷ es) k)
    look g (some d) p k =
        let (l, w, j) = then-good (walk s (lowest_walked s) (prev (round_at s q) - lowest_walked s) (record { round = prev (round_at s q); author = (id_at s q).author; digest = d }) []) (check_oldest (lowest_walked s)) (e ∷ es) k in
        let (u, f) = refuse-good (unlinked (lowest_walked s) l) 19 (good l) (e ∷ es) j in
        let m : l ≡ (e ∷ es) = good-same l (e ∷ es) f in
        record { goes_on = g; digest = d; has_previous = p; walked = w ∙ ap good m; linked = subst (λ z. unlinked (lowest_walked s) z ≡ false) m u }

    go : (((not (s.pt q).resolution.trigger || (eqb (round_at s q) s.conf.genesis || empty_walk s q)) ≡ true) × (good [] ≡ good (e ∷ es)))
        ⊎ (((not (s.pt q).resolution.trigger || (eqb (round_at s q) s.conf.genesis || empty_walk s q)) ≡ false) × (chain_from s q (previous (s.pt q)) ≡ good (e ∷ es))) → Chained s q (e ∷ es)
    go (inl (g, k)) = absurd (no_anchors_lem e es k)
    go (inr (g, k)) = look g _ refl k

filtered-good : (s : Store) (q : ℕ) (e : EnqueuedAnchor) (es : List EnqueuedAnchor) → filtered s q ≡ good (e ∷ es) → (resolved (s.pt q) ≡ true) × (status_at s q ≡ 1) × (chain s q ≡ good (e ∷ es))
unfolding filtered
filtered-good s q e es h = let (d, k) = refuse-good (not (resolved (s.pt q))) 9 _ (e ∷ es) h in go (not-false _ d) (if_good (eqb (status_at s q) 1) (chain s q) _ (e ∷ es) k)
  where
    other : Out (List EnqueuedAnchor)
    other = elim (trigger_conflict s q) [ true ↦ bad (conflict (round_at s q)) | false ↦ refuse (not (certified s q)) 15 (good []) ]

    turned : other ≡ good (e ∷ es) → ⊥
    turned k = out (if_good (trigger_conflict s q) (bad (conflict (round_at s q))) (refuse (not (certified s q)) 15 (good [])) (e ∷ es) k)
      where
        out : ((trigger_conflict s q ≡ true) × (bad (conflict (round_at s q)) ≡ good (e ∷ es))) ⊎ ((trigger_conflict s q ≡ false) × (refuse (not (certified s q)) 15 (good []) ≡ good (e ∷ es))) → ⊥
        out (inl (b, j)) = not_good _ (e ∷ es) j
        out (inr (b, j)) = no_anchors_lem e es (refuse-good (not (certified s q)) 15 (good []) (e ∷ es) j).1

    go : resolved (s.pt q) ≡ true → ((eqb (status_at s q) 1 ≡ true) × (chain s q ≡ good (e ∷ es))) ⊎ ((eqb (status_at s q) 1 ≡ false) × (other ≡ good (e ∷ es))) → (resolved (s.pt q) ≡ true) × (status_at s q ≡ 1) × (chain s q ≡ good (e ∷ es))
    go d (inl (b, k)) = (d, eqb-true _ _ b, k)
    go d (inr (b, k)) = absurd (turned k)

-- a trigger that yields an anchor is one
pub fires : (s : Store) (i : Id) (e : EnqueuedAnchor) (es : List EnqueuedAnchor) → anchors_of s i ≡ good (e ∷ es) → Fires s i (e ∷ es)
unfolding anchors_of
fires s i e es h = let (a, k) = refuse-good (leb 32 i.author) 5 _ (e ∷ es) h in go a (if_good (ltb i.round s.bottom) (good []) _ (e ∷ es) k)
  where
    rest : Out (List EnqueuedAnchor)
    rest = refuse (ltb s.top i.round) 6 (refuse (not (is_peer s i)) 5 (then (place_of s i) (filtered s)))

    go : leb 32 i.author ≡ false → ((ltb i.round s.bottom ≡ true) × (good [] ≡ good (e ∷ es))) ⊎ ((ltb i.round s.bottom ≡ false) × (rest ≡ good (e ∷ es))) → Fires s i (e ∷ es)
    go a (inl (b, k)) = absurd (no_anchors_lem e es k)
    go a (inr (b, k)) =
        let (c, k1) = refuse-good (ltb s.top i.round) 6 _ (e ∷ es) k in
        let (p, k2) = refuse-good (not (is_peer s i)) 5 _ (e ∷ es) k1 in
        let (q, f, k3) = then-good (place_of s i) (filtered s) (e ∷ es) k2 in
        let (d, v, k4) = filtered-good s q e es k3 in
        record { author_ok = a; not_low = b; not_high = c; peer_ok = p; place = q; found = place-good s i q f; done = d; is_valid = v; chained = chain-good s q e es k4 }

walk_bound : (w n u : ℕ) → w < n → n ≤ u → w + (n - 1 - w) ≤ u
walk_bound w n u h k = omega arith

module _ (s t : Store) (ws : Wf s) (wt : Wf t) (la : Late s t) where
  chained_late : (q : ℕ) (es : List EnqueuedAnchor) → resolved (s.pt q) ≡ true → round_at s q ≤ s.top → Chained s q es → Chained t q es
  chained_late q es d u c = record {
    goes_on = rw (ap (λ z. z.resolution.trigger) now, round_is, la.conf, low_is) c.goes_on;
    digest = c.digest;
    has_previous = ap previous now ∙ c.has_previous;
    walked = rw (low_is, round_is, ap (λ z. z.id.author) now) (walk-late s t ws wt la (lowest_walked s) _ _ [] es (walk_bound _ _ _ past u) c.walked);
    linked = rw low_is c.linked;
  }
    where
      now : t.pt q ≡ re_top (la.same q d).mark_now (s.pt q)
      now = (la.same q d).is

      round_is : round_at t q ≡ round_at s q
      round_is = ap (λ z. z.id.round) now

      low_is : lowest_walked t ≡ lowest_walked s
      low_is = ap₂ max (ap (λ (z : Progress). or_zero z.last_proof) la.progress) la.bottom

      past : lowest_walked s < round_at s q
      past = leb-false _ _ (or_none (eqb (round_at s q) s.conf.genesis) _ (or_none (not (s.pt q).resolution.trigger) _ c.goes_on).1).1

  -- a trigger that yields an anchor yields the same anchors later
  pub fires-late : (i : Id) (es : List EnqueuedAnchor) → Fires s i es → Fires t i es
  unfolding is_peer
  fires-late i es f = record {
    author_ok = f.author_ok;
    not_low = rw la.bottom f.not_low;
    not_high = le-ltb t.top i.round (omega (arith, low, la.top));
    peer_ok = ap (λ (z : Round). not (ltb i.author 32 && member z.peers i.author)) (la.rounds i.round low) ∙ f.peer_ok;
    place = f.place;
    found = find-late s t ws wt la i f.place f.found;
    done = same-resolved _ _ (la.same f.place f.done) f.done;
    is_valid = ap (λ z. z.resolution.status) (la.same f.place f.done).is ∙ f.is_valid;
    chained = chained_late f.place es f.done (subst (λ (z : Id). z.round ≤ s.top) (sym (find-some s i f.place f.found).is) low) f.chained;
  }
    where
      low : i.round ≤ s.top
      low = ltb-false s.top i.round f.not_high

-- ---- the answer

ended : (f : Finished) → f.stopped ≡ none → ((commit_end f).answer ≡ anchors f.anchors) × ((commit_end f).buffer ≡ f.buffer)
unfolding commit_end
ended f h = (rw h refl, refl)

pub not_handed : (r : Refusal) (m n : ℕ) → refused r m ≡ anchors n → ⊥
not_handed r m n h = let z : ◌≡◌ {A = ℕ} 0 1 = cc in omega arith

pub same-handed : (m n : ℕ) → anchors m ≡ anchors n → m ≡ n
same-handed m n h = cc

handed_end : (f : Finished) (n : ℕ) → (commit_end f).answer ≡ anchors n → (f.stopped ≡ none) × (f.anchors ≡ n)
unfolding commit_end
handed_end f n h = go f.stopped refl h
  where
    ends : Option Refusal → Answer
    ends none = anchors f.anchors
    ends (some r) = refused r f.anchors

    go : (o : Option Refusal) → f.stopped ≡ o → ends o ≡ anchors n → (f.stopped ≡ none) × (f.anchors ≡ n)
    go none e k = (e, same-handed _ _ k)
    go (some r) e k = absurd (not_handed r _ n k)

-- a commit that isn't refused: the anchors of its trigger, none refused
pub handed-anchors : (s : Store) (i : Id) (ls b : List ℕ) (n : ℕ) → (do_commit s i ls b).answer ≡ anchors n
    → (es : List EnqueuedAnchor) × (anchors_of s i ≡ good es) × ((commit_all s ls b 0 0 es).stopped ≡ none) × ((commit_all s ls b 0 0 es).anchors ≡ n)
unfolding do_commit
handed-anchors s i ls b n h = go (anchors_of s i) refl h
  where
    does : Out (List EnqueuedAnchor) → Outcome
    does o = elim o [ bad r ↦ record { answer = refused r 0; store = s; buffer = b } | good es ↦ commit_end (commit_all s ls b 0 0 es) ]

    go : (o : Out (List EnqueuedAnchor)) → anchors_of s i ≡ o → (does o).answer ≡ anchors n → (es : List EnqueuedAnchor) × (anchors_of s i ≡ good es) × ((commit_all s ls b 0 0 es).stopped ≡ none) × ((commit_all s ls b 0 0 es).anchors ≡ n)
    go (bad r) e k = absurd (not_handed r 0 n k)
    go (good es) e k = let (x, y) = handed_end (commit_all s ls b 0 0 es) n k in (es, e, x, y)

-- one that hands out an anchor
handed-anchor : (s : Store) (i : Id) (ls b : List ℕ) (n : ℕ) → (do_commit s i ls b).answer ≡ anchors (suc n)
    → (e : EnqueuedAnchor) × (es : List EnqueuedAnchor) × (anchors_of s i ≡ good (e ∷ es)) × ((commit_all s ls b 0 0 (e ∷ es)).stopped ≡ none)
unfolding commit_all
handed-anchor s i ls b n h = go (handed-anchors s i ls b (suc n) h)
  where
    go : (es : List EnqueuedAnchor) × (anchors_of s i ≡ good es) × ((commit_all s ls b 0 0 es).stopped ≡ none) × ((commit_all s ls b 0 0 es).anchors ≡ suc n)
        → (e : EnqueuedAnchor) × (es : List EnqueuedAnchor) × (anchors_of s i ≡ good (e ∷ es)) × ((commit_all s ls b 0 0 (e ∷ es)).stopped ≡ none)
    go ([], e, k, z) = absurd (omega arith)
    go (x ∷ es, e, k, z) = (x, es, e, k)

-- a commit of tables that keep their rules
pub commit_is : (s : Store) → Wf s → (i : Id) (ls b : List ℕ) → call s (commit i ls b) ≡ do_commit s i ls b
unfolding perform
commit_is s w i ls b = call-perform s w (commit i ls b)

-- one that nothing stops
pub commit-answer : (s : Store) → Wf s → (i : Id) (ls b : List ℕ) (es : List EnqueuedAnchor) → anchors_of s i ≡ good es → (commit_all s ls b 0 0 es).stopped ≡ none
    → ((call s (commit i ls b)).answer ≡ anchors (commit_all s ls b 0 0 es).anchors) × ((call s (commit i ls b)).buffer ≡ (commit_all s ls b 0 0 es).buffer)
unfolding do_commit
commit-answer s w i ls b es h c = rw (commit_is s w i ls b) (rw (h, do_commit) (ended (commit_all s ls b 0 0 es) c))

-- demand 3, second half
pub second_half : SecondHalf
second_half s z st i ls b n h cs arrive =
    let w : Wf s = counts_as_started_elim s z st in
    let (wt, la) = after-late s w cs arrive in
    let (e, es, f, c) = handed-anchor s i ls b n (ap (λ (o : Outcome). o.answer) (sym (commit_is s w i ls b)) ∙ h) in
    let (x, y, v) = commit-late s (after s cs) w wt la (e ∷ es) (lowest_walked s) (anchors_rising s w i (e ∷ es) f) ls b 0 0 c in
    let k : anchors_of (after s cs) i ≡ good (e ∷ es) = fires_back (after s cs) i (e ∷ es) (fires-late s (after s cs) w wt la i (e ∷ es) (fires s i e es f)) in
    let (a, p) = commit-answer s w i ls b (e ∷ es) f c in
    let (a', p') = commit-answer (after s cs) wt i ls b (e ∷ es) k x in
    (a' ∙ (ap anchors v ∙ sym a), p' ∙ (y ∙ sym p))
