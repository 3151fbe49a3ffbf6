-- The downward sweep that stops at committed points gives the needed points (01: back.rs 'History').
use Rattle.std.specs.Prelude.{ℕ, zero, suc, ◌+◌, ◌-◌, ◌≤◌, ◌<◌, ◌≡◌, refl, ◌⊎◌, ◌↔◌, Bool, true, false, not, ◌&&◌, eqb}
use Rattle.std.proofs.Common.{sym, ◌∙◌, subst, ap, inl, inr, eqb-true, eq-eqb, leb-true, le-leb, arith}
use Rattle.std.proofs.lemmas.Bool.{not-true}
use Rattle.std.proofs.Math.Decide.{ℕ_discrete}
use Rattle.laws.specs.Test.{by_test, both, and_l, and_r}
use Rattle.laws.specs.Scan.{any_intro, any_elim}
use Rattle.spec.specs.Store.{Store, round_at, links_to}
use Rattle.spec.specs.Paths.{LinkedTo}
use Rattle.spec.specs.History.{limit, lowest, Need, anchor, hand, hands, pass, sweep, marks, needed, in_history}
use Rattle.spec.specs.Links.{down, source_named}
use Rattle.spec.specs.HeightEquations.{Sized, inside}

-- p of round r is marked, isn't committed, and links to q
pub record Hands (s : Store) (m : ℕ → Bool) (r q p : ℕ) : Type 0 where
  pub at_round : round_at s p ≡ r
  pub marked : m p ≡ true
  pub fresh : (s.pt p).flags.committed ≡ false
  pub link : LinkedTo s p q

hands-and : (s : Store) (m : ℕ → Bool) (r q p : ℕ) → hands s m r q p ≡ (eqb (round_at s p) r && (m p && (not (s.pt p).flags.committed && links_to (s.pt p) (s.pt q))))
unfolding hands
hands-and s m r q p = go (eqb (round_at s p) r) (m p) (not (s.pt p).flags.committed && links_to (s.pt p) (s.pt q))
  where
    go : (a b c : Bool) → ◌≡◌ {A = Bool} (elim a [ true ↦ elim b [ true ↦ c | false ↦ false ] | false ↦ false ]) (a && (b && c))
    go true true c = refl
    go true false c = refl
    go false b c = refl

hands_elim : (s : Store) (m : ℕ → Bool) (r q p : ℕ) → hands s m r q p ≡ true → Hands s m r q p
hands_elim s m r q p h = record {
  at_round = eqb-true _ _ (search (and_l, k));
  marked = search (and_l, and_r, k);
  fresh = not-true _ (search (and_l, and_r, k));
  link = search (and_r, k);
}
  where
    k : (eqb (round_at s p) r && (m p && (not (s.pt p).flags.committed && links_to (s.pt p) (s.pt q)))) ≡ true
    k = sym (hands-and s m r q p) ∙ h

hands_intro : (s : Store) (m : ℕ → Bool) (r q p : ℕ) → Hands s m r q p → hands s m r q p ≡ true
hands_intro s m r q p h = hands-and s m r q p ∙ both (eq-eqb _ _ h.at_round) (both h.marked (both (ap not h.fresh) h.link))

-- after a pass: marked before, or handed on to
pass_cases : (s : Store) (m : ℕ → Bool) (r q : ℕ) → pass s m r q ≡ true → (m q ≡ true) ⊎ ((p : ℕ) × Hands s m r q p)
unfolding pass
pass_cases s m r q h =
    by_test (m q) (λ t. inl t) (λ f. let (p, l, k) = any_elim s.places (hands s m r q) (rw (f, pass) at h) in inr (p, hands_elim s m r q p k))

pass-keeps : (s : Store) (m : ℕ → Bool) (r q : ℕ) → m q ≡ true → pass s m r q ≡ true
unfolding pass
pass-keeps s m r q h = rw (h, pass) refl

pass-hands : (s : Store) (m : ℕ → Bool) (r q p : ℕ) → p < s.places → Hands s m r q p → pass s m r q ≡ true
unfolding pass
pass-hands s m r q p l h = by_test (m q) (λ t. rw (t, pass) refl) (λ f. rw (f, pass) (any_intro s.places (hands s m r q) p l (hands_intro s m r q p h)))

sweep_sound : (s : Store) (a k : ℕ) (m : ℕ → Bool) (r : ℕ) → ((q : ℕ) → m q ≡ true → Need s a q) → (q : ℕ) → sweep s k m r q ≡ true → Need s a q
unfolding sweep
sweep_sound s a zero m r h q t = h q t
sweep_sound s a (suc k) m r h q t = sweep_sound s a k (pass s m r) (r - 1) (λ x u. go x (pass_cases s m r x u)) q t
  where
    go : (x : ℕ) → (m x ≡ true) ⊎ ((p : ℕ) × Hands s m r x p) → Need s a x
    go x (inl u) = h x u
    go x (inr (p, v)) = hand p x (h p v.marked) v.fresh v.link

sweep_grows : (s : Store) (k : ℕ) (m : ℕ → Bool) (r q : ℕ) → m q ≡ true → sweep s k m r q ≡ true
unfolding sweep
sweep_grows s zero m r q h = h
sweep_grows s (suc k) m r q h = sweep_grows s k (pass s m r) (r - 1) q (pass-keeps s m r q h)

-- all marked points from round r up have handed on their links
abbrev Closed : Store → (ℕ → Bool) → ℕ → Type 0
Closed s m r = (p q : ℕ) → m p ≡ true → (s.pt p).flags.committed ≡ false → LinkedTo s p q → r ≤ round_at s p → m q ≡ true

pass_closed : (s : Store) → Sized s → (m : ℕ → Bool) (r : ℕ) → Closed s m (suc r) → Closed s (pass s m r) r
pass_closed s z m r c p q u d e l = go (pass_cases s m r p u) (ℕ_discrete (round_at s p) r)
  where
    go : (m p ≡ true) ⊎ ((x : ℕ) × Hands s m r p x) → Dec (round_at s p ≡ r) → pass s m r q ≡ true
    go (inl t) (yes y) = pass-hands s m r q p (inside s z p (source_named s p q e)) (record { at_round = y; marked = t; fresh = d; link = e })
    go (inl t) (no y) = pass-keeps s m r q (c p q t d e (omega arith))
    go (inr (x, v)) y = absurd (omega (arith, down s x p v.link, v.at_round))

sweep_closed : (s : Store) → Sized s → (k : ℕ) (m : ℕ → Bool) (r b : ℕ) → suc r ≡ k + b → 0 < b → Closed s m (suc r) → Closed s (sweep s k m r) b
unfolding sweep
sweep_closed s z zero m r b e l c = λ p q t d i h. c p q t d i (omega arith)
sweep_closed s z (suc k) m r b e l c =
    sweep_closed s z k (pass s m r) (r - 1) b (omega arith) l (λ p q t d i h. pass_closed s z m r c p q t d i (omega arith))

pub marked→need : (s : Store) (a q : ℕ) → marks s a q ≡ true → Need s a q
unfolding marks
marked→need s a q t = sweep_sound s a _ (eqb a) (round_at s a) (λ x u. subst (Need s a) (eqb-true a x u) anchor) q t

pub need→marked : (s : Store) → Sized s → (a q : ℕ) → lowest s a ≤ suc (round_at s a) → Need s a q → lowest s a ≤ round_at s q → marks s a q ≡ true
unfolding marks limit
need→marked s z a q l anchor b = sweep_grows s _ (eqb a) (round_at s a) a (eq-eqb a a refl)
need→marked s z a q l (hand p x n d e) b =
    sweep_closed s z _ (eqb a) (round_at s a) (lowest s a) (omega arith) (omega arith)
    (λ y w t f g h. absurd (omega (arith, ap (round_at s) (eqb-true a y t))))
    p x (need→marked s z a p l n (omega (arith, down s p x e))) d e (omega (arith, down s p x e))

-- the sweep gives the needed points of the retained rounds from the limit up
pub needed_is : (s : Store) → Sized s → (a q : ℕ) → lowest s a ≤ suc (round_at s a) → (needed s a q ≡ true) ↔ (Need s a q × (lowest s a ≤ round_at s q))
unfolding needed
needed_is s z a q l = (
  (λ h. (marked→need s a q (and_l _ _ h), leb-true _ _ (and_r (marks s a q) _ h))),
  λ (n, b). both (need→marked s z a q l n b) (le-leb _ _ b),
)

-- needed, from the lowest round on, are the anchor and what the points of its history link to
pub needed_by_history : (s : Store) → Sized s → (a q : ℕ) → lowest s a ≤ suc (round_at s a) → (needed s a q ≡ true) ↔ ((lowest s a ≤ round_at s q) × ((q ≡ a) ⊎ ((p : ℕ) × (in_history s a p ≡ true) × LinkedTo s p q)))
unfolding in_history
needed_by_history s z a q l = ((λ h. let (n, b) = (needed_is s z a q l).0 h in (b, by q n b)), λ (b, o). (needed_is s z a q l).1 (back o, b))
  where
    by : (q : ℕ) → Need s a q → lowest s a ≤ round_at s q → (q ≡ a) ⊎ ((p : ℕ) × (in_history s a p ≡ true) × LinkedTo s p q)
    by q anchor b = inl refl
    by q (hand p x n d e) b = inr (p, both ((needed_is s z a p l).1 (n, omega (arith, down s p x e, b))) (ap not d), e)

    back : (q ≡ a) ⊎ ((p : ℕ) × (in_history s a p ≡ true) × LinkedTo s p q) → Need s a q
    back (inl e) = subst (Need s a) (sym e) anchor
    back (inr (p, h, e)) = hand p q ((needed_is s z a p l).0 (and_l _ _ h)).0 (not-true _ (and_r (needed s a p) _ h)) e
