-- Theorems on the definitions of specs/Walk.
use Rattle.std.specs.Prelude.{ℕ, zero, suc, ◌+◌, ◌≤◌, ◌≡◌, ◌⊎◌, Bool, eqb}
use Rattle.std.proofs.Math.Path.{refl, ap}
use Rattle.std.proofs.Common.{sym, ◌∙◌, subst, inl, inr, true≢false, arith}
use Rattle.std.proofs.Math.Bool.{true, false}
use Rattle.std.proofs.lemmas.Bool.{false≢true}
use mathlib.Core.List.{List}
use Rattle.std.proofs.Math.Option.{Option, none, some}
use Rattle.std.proofs.Math.Dec.{ltb}
use borrow.Author.Tests.{eqb-true, ltb-true, ltb-false, eq-eqb, lt-ltb, le-ltb, not-false}
use Rattle.spec.specs.Ids.{Id, prev}
use Rattle.spec.specs.Store.{Store, never, id_at, round_at, status_at, resolved, find, look_at, look, previous}
use Rattle.spec.specs.Chain.{number, Out, bad, good, then, usable_in_walk, checked_by, checked, ready_valid_point, EnqueuedAnchor, Onward, enqueue, to_anchor, to_previous, at_proof, at_used, visit, walk}
use Rattle.spec.specs.History.{tested, gap_pending, lists_ok, linked_counts, test_anchor}
use Rattle.spec.specs.Walk.{not_good, if_good, then-good, refuse-good, find-some, Valid, checked-good, checked_back, Visited, Rising, rising_less, one_below, Tested, tested-good, over, used_up, ends, goes}

-- of a point that the walk needs
pub ready_at : (s : Store) (i : Id) → ready_valid_point s i ≡ elim (find s i) as (λ o. Out ℕ) [ none ↦ bad (number 25) | some q ↦ checked s usable_in_walk q ]
unfolding ready_valid_point checked checked_by look
ready_at s i = go (find s i)
  where
    go : (o : Option ℕ) → checked_by s usable_in_walk (elim o [ none ↦ never | some q ↦ look_at s q ]) ≡ elim o as (λ o. Out ℕ) [ none ↦ bad (number 25) | some q ↦ checked s usable_in_walk q ]
    go none = refl
    go (some q) = refl

pub need_good : (s : Store) (i : Id) (q : ℕ) → ready_valid_point s i ≡ good q → Valid s i q
unfolding usable_in_walk
need_good s i q h = go (find s i) refl (sym (ready_at s i) ∙ h)
  where
    go : (o : Option ℕ) → find s i ≡ o → ◌≡◌ {A = Out ℕ} (elim o [ none ↦ bad (number 25) | some x ↦ checked s usable_in_walk x ]) (good q) → Valid s i q
    go none e k = absurd (not_good (number 25) q k)
    go (some x) e k = let (a, u, m) = checked-good s usable_in_walk x q k in
        record { found = e ∙ ap some m; done = subst (λ z. resolved (s.pt z) ≡ true) m a; is_valid = subst (λ z. status_at s z ≡ 1) m (eqb-true _ _ u) }

pub need_back : (s : Store) (i : Id) (q : ℕ) → Valid s i q → ready_valid_point s i ≡ good q
unfolding usable_in_walk
need_back s i q v = ready_at s i ∙ rw v.found (checked_back s usable_in_walk q v.done (eq-eqb _ _ v.is_valid))

module _ (s : Store) (x : ℕ) (low : Bool) (below : Onward) (i : Id) (acc l : List EnqueuedAnchor) where
  anchor-good : i.round ≡ x → (s.rounds x).used ≡ none → (p d : ℕ) → Valid s i p → (s.pt p).resolution.proof ≡ true → previous (s.pt p) ≡ some d → to_anchor s x low below acc p d ≡ good l → Visited s x low below i acc l
  unfolding to_anchor
  anchor-good m u p d v t k h = go (if_good low (good acc) (then (ready_valid_point s (record { round = prev x; author = (id_at s p).author; digest = d })) (enqueue s below acc p)) l h)
    where
      go : ((low ≡ true) × (good acc ≡ good l)) ⊎ ((low ≡ false) × (then (ready_valid_point s (record { round = prev x; author = (id_at s p).author; digest = d })) (enqueue s below acc p) ≡ good l)) → Visited s x low below i acc l
      go (inl (b, f)) = ends m u p d v t k b (cc)
      go (inr (b, f)) = let (a, w, g) = then-good _ _ l f in goes m u p d a v t k b (need_good _ _ a w) g

  proof_good : i.round ≡ x → (s.rounds x).used ≡ none → (p : ℕ) → Valid s i p → at_proof s x low below acc p ≡ good l → Visited s x low below i acc l
  unfolding at_proof to_previous
  proof_good m u p v h = go (if_good (s.pt p).resolution.proof (to_previous s x low below acc p (previous (s.pt p))) (bad (number 16)) l h)
    where
      look : (s.pt p).resolution.proof ≡ true → (o : Option ℕ) → previous (s.pt p) ≡ o → to_previous s x low below acc p o ≡ good l → Visited s x low below i acc l
      look t none e f = absurd (not_good (number 16) l f)
      look t (some d) k f = anchor-good m u p d v t k f

      go : (((s.pt p).resolution.proof ≡ true) × (to_previous s x low below acc p (previous (s.pt p)) ≡ good l)) ⊎ (((s.pt p).resolution.proof ≡ false) × (bad (number 16) ≡ good l)) → Visited s x low below i acc l
      go (inl (t, f)) = look t _ refl f
      go (inr (t, f)) = absurd (not_good (number 16) l f)

  used_good : i.round ≡ x → (o : Option ℕ) → (s.rounds x).used ≡ o → at_used s x low below acc i o ≡ good l → Visited s x low below i acc l
  unfolding at_used
  used_good m none e h = let (p, v, g) = then-good _ _ l h in proof_good m e p (need_good _ _ p v) g
  used_good m (some a) e h = go (if_good (eqb a i.author) (good acc) (bad (number 16)) l h)
    where
      go : ((eqb a i.author ≡ true) × (good acc ≡ good l)) ⊎ ((eqb a i.author ≡ false) × (bad (number 16) ≡ good l)) → Visited s x low below i acc l
      go (inl (t, f)) = used_up m (e ∙ ap some (eqb-true _ _ t)) (cc)
      go (inr (t, f)) = absurd (not_good (number 16) l f)

  pub visit-good : visit s x low below i acc ≡ good l → Visited s x low below i acc l
  unfolding visit
  visit-good h = go (if_good (ltb i.round x) (below i acc) (elim (ltb x i.round) [ true ↦ bad (number 16) | false ↦ at_used s x low below acc i (s.rounds x).used ]) l h)
    where
      on : ltb i.round x ≡ false → ((ltb x i.round ≡ true) × (bad (number 16) ≡ good l)) ⊎ ((ltb x i.round ≡ false) × (at_used s x low below acc i (s.rounds x).used ≡ good l)) → Visited s x low below i acc l
      on t (inl (u, f)) = absurd (not_good (number 16) l f)
      on t (inr (u, f)) = used_good (omega (arith, ltb-false i.round x t, ltb-false x i.round u)) _ refl f

      go : ((ltb i.round x ≡ true) × (below i acc ≡ good l)) ⊎ ((ltb i.round x ≡ false) × (◌≡◌ {A = Out (List EnqueuedAnchor)} (elim (ltb x i.round) [ true ↦ bad (number 16) | false ↦ at_used s x low below acc i (s.rounds x).used ]) (good l))) → Visited s x low below i acc l
      go (inl (t, f)) = over (ltb-true i.round x t) f
      go (inr (t, f)) = on t (if_good (ltb x i.round) (bad (number 16)) (at_used s x low below acc i (s.rounds x).used) l f)

  -- at the sought proof's round
  at_round : i.round ≡ x → at_used s x low below acc i (s.rounds x).used ≡ good l → visit s x low below i acc ≡ good l
  unfolding visit
  at_round m h = rw (le-ltb i.round x (omega arith), visit) (rw (le-ltb x i.round (omega arith)) h)

  pub visit_back : Visited s x low below i acc l → visit s x low below i acc ≡ good l
  unfolding visit at_used at_proof to_previous to_anchor
  visit_back (over m f) = rw (lt-ltb i.round x m, visit) f
  visit_back (used_up m u f) = at_round m (rw u (rw (eq-eqb i.author i.author refl, at_used) (ap good f)))
  visit_back (ends m u p d v t k b f) = at_round m (rw u (rw (need_back s i p v) (rw (t, at_proof) (rw k (rw (b, to_anchor) (ap good f))))))
  visit_back (goes m u p d a v t k b y f) = at_round m (rw u (rw (need_back s i p v) (rw (t, at_proof) (rw k (rw (b, to_anchor) (rw (need_back s _ a y) f))))))

pub walk_rising : (s : Store) (w k : ℕ) (i : Id) (acc l : List EnqueuedAnchor) → Rising s (w + k) acc → walk s w k i acc ≡ good l → Rising s w l
unfolding walk enqueue
walk_rising s w zero i acc l h e = go (visit-good s w true (λ i acc. good acc) i acc l e)
  where
    same : acc ≡ l → Rising s w l
    same m = subst (Rising s w) m (rising_less s w (w + 0) acc (omega arith) h)

    go : Visited s w true (λ i acc. good acc) i acc l → Rising s w l
    go (over m f) = same (cc)
    go (used_up m u f) = same f
    go (ends m u p d v t k b f) = same f
    go (goes m u p d a v t k b y f) = absurd (true≢false b)
walk_rising s w (suc k) i acc l h e = go (visit-good s (w + suc k) false (walk s w k) i acc l e) (walk_rising s w k)
  where
    same : acc ≡ l → Rising s w l
    same m = subst (Rising s w) m (rising_less s w (w + suc k) acc (omega arith) h)

    go : Visited s (w + suc k) false (walk s w k) i acc l → ((i : Id) (acc l : List EnqueuedAnchor) → Rising s (w + k) acc → walk s w k i acc ≡ good l → Rising s w l) → Rising s w l
    go (over m f) r = r i acc l (rising_less s (w + k) (w + suc k) acc (omega arith) h) f
    go (used_up m u f) r = same f
    go (ends m u p d v t j b f) r = absurd (false≢true b)
    go (goes m u p d a v t j b y f) r = r (s.pt a).resolution.top_proof _ l (
      at.0,
      record {
        anchor_done = y.done;
        anchor_valid = y.is_valid;
        proof_done = v.done;
        proof_valid = v.is_valid;
        above = ap (λ (x : Id). x.round) (find-some s i p v.found).is ∙ (m ∙ at.2);
      },
      rising_less s _ (w + suc k) acc (omega (arith, at.2)) h,
    ) f
      where
        at : (w + k ≤ round_at s a) × (w ≤ round_at s a) × (w + suc k ≡ suc (round_at s a))
        at = one_below w k (round_at s a) (ap (λ (x : Id). x.round) (find-some s _ a y.found).is)

-- an anchor that a commit takes: tested, the gap question put, its lists right, its record fits what is left of the buffer
pub test_good : (s : Store) (ls : List ℕ) (left size a x : ℕ) → test_anchor s ls left size a ≡ good x
    → Tested s a × (gap_pending s.progress.gap ≡ false) × (lists_ok (linked_counts s a) ls ≡ true) × (size ≤ left)
unfolding test_anchor
test_good s ls left size a x h =
    let (y, t, k) = then-good (tested s a) _ x h in
    let (w, j) = refuse-good _ 20 _ x k in
    let (o, i) = refuse-good _ 24 _ x j in
    let (l, g) = refuse-good _ 21 _ x i in
    (tested-good s a y t, w, not-false _ o, ltb-false _ _ l)
