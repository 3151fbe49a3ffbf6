-- Which refusals the walk, the tests of an anchor and the outlook can give.
use Prim.Native.Nat.{ℕ, zero, suc, ◌+◌}
use Rattle.std.specs.Prelude.{◌≡◌, ◌≢◌, Bool, not, ◌&&◌, ◌||◌, eqb, leb, ltb, length, ◌-◌}
use Rattle.std.proofs.Math.Path.{refl}
use Rattle.std.proofs.Common.{sym, ◌∙◌, subst, true≢false, eq-eqb}
use Rattle.std.proofs.Math.Bool.{true, false}
use mathlib.Core.List.{List, [], ◌∷◌}
use Rattle.std.proofs.Math.Option.{Option, none, some}
use Rattle.std.proofs.lemmas.Bool.{not-true}
use Rattle.laws.specs.Test.{and_l, and_r}
use Rattle.spec.specs.Ids.{Id}
use Rattle.spec.specs.Store.{Store, Look, resolved_at, named_at, never, round_at, status_at, previous, find, look, resolved}
use Rattle.spec.specs.Paths.{certified}
use Rattle.spec.specs.Rules.{is_peer}
use Rattle.spec.specs.Chain.{Refusal, number, conflict, Out, bad, good, then, refuse, usable_in_walk, is_committable, checked_as, checked_by, checked, ready_valid_point, EnqueuedAnchor, Onward, enqueue, to_anchor, to_previous, at_proof, at_used, visit, walk, unlinked, lowest_walked, empty_walk, check_oldest, chain_from, chain, trigger_conflict, filtered, place_of, anchors_of}
use Rattle.spec.specs.History.{tested, any_uncertified, rounds_missing, first_fault, faults, outlook_bytes, outlook_all, dequeued}
use Rattle.spec.specs.Walk.{find-some, checked_at, place_at_lem}

-- a refusal of the kind F; what is handed on meets P
abbrev pub Ends : (Refusal → Type 0) → {A : Type 0} → (A → Type 0) → Out A → Type 0
Ends F P (bad r) = F r
Ends F P (good a) = P a

pub refuse-ends : (F : Refusal → Type 0) {A : Type 0} (P : A → Type 0) (b : Bool) (n : ℕ) (o : Out A) → F (number n) → (b ≡ false → Ends F P o) → Ends F P (refuse b n o)
unfolding refuse
refuse-ends F P true n o m f = m
refuse-ends F P false n o m f = f refl

pub if_ends : (F : Refusal → Type 0) {A : Type 0} (P : A → Type 0) (b : Bool) (x y : Out A) → (b ≡ true → Ends F P x) → (b ≡ false → Ends F P y) → Ends F P (elim b [ true ↦ x | false ↦ y ])
if_ends F P true x y f g = f refl
if_ends F P false x y f g = g refl

pub then-ends : (F : Refusal → Type 0) {A B : Type 0} (P : A → Type 0) (Q : B → Type 0) (o : Out A) (f : A → Out B) → Ends F P o → ((a : A) → P a → Ends F Q (f a)) → Ends F Q (then o f)
then-ends F P Q (bad r) f h g = h
then-ends F P Q (good a) f h g = g a h

-- refused in no other way
abbrev pub Sound : (Refusal → Type 0) → {A : Type 0} → Out A → Type 0
Sound F o = Ends F (λ x. Unit {0}) o

pub refuse_sound : (F : Refusal → Type 0) {A : Type 0} (b : Bool) (n : ℕ) (o : Out A) → F (number n) → Sound F o → Sound F (refuse b n o)
refuse_sound F b n o m h = refuse-ends F (λ x. Unit {0}) b n o m (λ e. h)

if_sound : (F : Refusal → Type 0) {A : Type 0} (b : Bool) (x y : Out A) → Sound F x → Sound F y → Sound F {A = A} (elim b [ true ↦ x | false ↦ y ])
if_sound F b x y h k = if_ends F (λ x. Unit {0}) b x y (λ e. h) (λ e. k)

pub then_sound : (F : Refusal → Type 0) {A B : Type 0} (o : Out A) (f : A → Out B) → Sound F o → ((a : A) → Sound F (f a)) → Sound F (then o f)
then_sound F o f h g = then-ends F (λ x. Unit {0}) (λ x. Unit {0}) o f h (λ a u. g a)

-- ---- a kind of refusals that holds all numbers but 2, 20, 24 and 25

abbrev pub is_other : ℕ → Bool
is_other n = not (eqb n 2) && (not (eqb n 20) && (not (eqb n 24) && not (eqb n 25)))

pub other_is : (n : ℕ) → is_other n ≡ true → (n ≢ 2) × (n ≢ 20) × (n ≢ 24) × (n ≢ 25)
other_is n h = (out 2 (and_l _ _ h), out 20 (search (and_l, and_r)), out 24 (search (and_l, and_r)), out 25 (search (and_l, and_r)))
  where
    out : (m : ℕ) → not (eqb n m) ≡ true → n ≢ m
    out m k e = true≢false (sym (eq-eqb n m e) ∙ not-true _ k)

module _ (F : Refusal → Type 0) (fine : (n : ℕ) → is_other n ≡ true → F (number n)) (fine_conflict : (r : ℕ) → F (conflict r)) where
  pub place-ends : (s : Store) (i : Id) → Ends F (λ q. (s.pt q).named ≡ true) (place_of s i)
  place-ends s i = subst (Ends F (λ q. (s.pt q).named ≡ true)) (sym (place_at_lem s i)) (go (find s i) refl)
    where
      go : (o : Option ℕ) → find s i ≡ o → Ends F (λ q. (s.pt q).named ≡ true) (elim o [ none ↦ bad (number 9) | some q ↦ good q ])
      go none e = fine 9 refl
      go (some q) e = (find-some s i q e).named

  place_sound : (s : Store) (i : Id) → Sound F (place_of s i)
  place_sound s i = weaker (place_of s i) (place-ends s i)
    where
      weaker : (o : Out ℕ) → Ends F (λ q. (s.pt q).named ≡ true) o → Sound F o
      weaker (bad r) h = h
      weaker (good q) h = tt

  checked_as_sound : (u c : Bool) (r q : ℕ) → Sound F (checked_as u c r q)
  unfolding checked_as
  checked_as_sound true c r q = tt
  checked_as_sound false true r q = fine_conflict r
  checked_as_sound false false r q = fine 15 refl

  -- a needed point of a history has a place: it is never refused with 25
  checked_sound : (s : Store) (q : ℕ) → Sound F (checked s is_committable q)
  checked_sound s q = subst (Sound F) (sym (checked_at s is_committable q)) (if_sound F (resolved (s.pt q)) (checked_as _ _ _ q) (bad (number 14)) (checked_as_sound _ _ _ q) (fine 14 refl))

  first_sound : (s : Store) (l : List ℕ) → Sound F (first_fault s l)
  unfolding first_fault
  first_sound s [] = tt
  first_sound s (q ∷ qs) = then_sound F (checked s is_committable q) (λ x. first_fault s qs) (checked_sound s q) (λ x. first_sound s qs)

  pub tested_sound : (s : Store) (a : ℕ) → Sound F (tested s a)
  unfolding tested faults
  tested_sound s a =
      refuse_sound F (leb (round_at s a) s.conf.genesis) 22 _ (fine 22 refl) (then_sound F (faults s a) _ (first_sound s _)
      (λ x. refuse_sound F (rounds_missing s a) 17 _ (fine 17 refl) (refuse_sound F (any_uncertified s a) 18 (good a) (fine 18 refl) tt)))

  pub outlook_sound : (s : Store) (left : ℕ) (es : List EnqueuedAnchor) → Sound F (outlook_all s left es)
  unfolding outlook_all
  outlook_sound s left [] = tt
  outlook_sound s left (e ∷ es) =
      then_sound F (tested s e.anchor) _ (tested_sound s e.anchor) (λ a.
      refuse_sound F (ltb left (length (outlook_bytes s e.anchor))) 21 _ (fine 21 refl) (then_sound F (outlook_all (dequeued s e) (left - length (outlook_bytes s e.anchor)) es) _ (outlook_sound (dequeued s e) (left - length (outlook_bytes s e.anchor)) es) (λ rest. tt)))

  -- ---- and 25 too: the walk

  module _ (late : F (number 25)) where
    need_sound : (s : Store) (i : Id) → Sound F (ready_valid_point s i)
    unfolding ready_valid_point checked_by
    need_sound s i = go (look s i)
      where
        go : (l : Look) → Sound F (checked_by s usable_in_walk l)
        go (resolved_at q) = checked_as_sound _ _ _ q
        go (named_at q) = fine 14 refl
        go never = late

    module _ (s : Store) (x : ℕ) (low : Bool) (below : Onward) (on : (i : Id) (acc : List EnqueuedAnchor) → Sound F (below i acc)) (acc : List EnqueuedAnchor) where
      anchor_sound : (p d : ℕ) → Sound F (to_anchor s x low below acc p d)
      unfolding to_anchor enqueue
      anchor_sound p d = if_sound F low (good acc) _ tt (then_sound F (ready_valid_point s _) (enqueue s below acc p) (need_sound s _) (λ a. on _ _))

      previous_sound : (p : ℕ) (o : Option ℕ) → Sound F (to_previous s x low below acc p o)
      unfolding to_previous
      previous_sound p none = fine 16 refl
      previous_sound p (some d) = anchor_sound p d

      proof_sound : (p : ℕ) → Sound F (at_proof s x low below acc p)
      unfolding at_proof
      proof_sound p = if_sound F (s.pt p).resolution.proof (to_previous s x low below acc p (previous (s.pt p))) (bad (number 16)) (previous_sound p _) (fine 16 refl)

      used_sound : (i : Id) (o : Option ℕ) → Sound F (at_used s x low below acc i o)
      unfolding at_used
      used_sound i none = then_sound F (ready_valid_point s i) (at_proof s x low below acc) (need_sound s i) proof_sound
      used_sound i (some a) = if_sound F (eqb a i.author) (good acc) (bad (number 16)) tt (fine 16 refl)

      visit_sound : (i : Id) → Sound F (visit s x low below i acc)
      unfolding visit
      visit_sound i = if_sound F (ltb i.round x) (below i acc) _ (on i acc) (if_sound F (ltb x i.round) (bad (number 16)) (at_used s x low below acc i (s.rounds x).used) (fine 16 refl) (used_sound i _))

    walk_sound : (s : Store) (low k : ℕ) (i : Id) (acc : List EnqueuedAnchor) → Sound F (walk s low k i acc)
    unfolding walk
    walk_sound s low zero i acc = visit_sound s low true (λ i acc. good acc) (λ i acc. tt) acc i
    walk_sound s low (suc k) i acc = visit_sound s (low + suc k) false (walk s low k) (walk_sound s low k) acc i

    chain_sound : (s : Store) (t : ℕ) (o : Option ℕ) → Sound F (chain_from s t o)
    unfolding chain_from check_oldest
    chain_sound s t none = fine 16 refl
    chain_sound s t (some d) =
        let low = lowest_walked s in
        then_sound F (walk s low _ _ []) (check_oldest low) (walk_sound s low _ _ []) (λ es. refuse_sound F (unlinked low es) 19 (good es) (fine 19 refl) tt)

    filtered_sound : (s : Store) (t : ℕ) → Sound F (filtered s t)
    unfolding filtered chain
    filtered_sound s t =
        refuse_sound F (not (resolved (s.pt t))) 9 _ (fine 9 refl) (if_sound F (eqb (status_at s t) 1) (chain s t) _
        (if_sound F (not (s.pt t).resolution.trigger || (eqb (round_at s t) s.conf.genesis || empty_walk s t)) (good []) (chain_from s t (previous (s.pt t))) tt (chain_sound s t _))
        (if_sound F (trigger_conflict s t) (bad (conflict (round_at s t))) _ (fine_conflict (round_at s t)) (refuse_sound F (not (certified s t)) 15 (good []) (fine 15 refl) tt)))

    pub anchors_sound : (s : Store) (i : Id) → Sound F (anchors_of s i)
    unfolding anchors_of
    anchors_sound s i =
        refuse_sound F (leb 32 i.author) 5 _ (fine 5 refl) (if_sound F (ltb i.round s.bottom) (good []) _ tt
        (refuse_sound F (ltb s.top i.round) 6 _ (fine 6 refl) (refuse_sound F (not (is_peer s i)) 5 _ (fine 5 refl) (then_sound F (place_of s i) (filtered s) (place_sound s i) (filtered_sound s)))))
