-- The ways in which a walk and an anchor's tests come out well, there and back.
use Rattle.std.specs.Prelude.{ℕ, suc, ◌+◌, ◌-◌, ◌≤◌, ◌<◌, ◌≡◌, ◌⊎◌, Bool, ◌&&◌, eqb, leb}
use Rattle.std.proofs.Math.Path.{refl}
use Rattle.std.proofs.Common.{sym, ◌∙◌, subst, inl, inr, arith}
use Rattle.std.proofs.Math.Bool.{true, false}
use mathlib.Core.List.Memᴰ
use mathlib.Core.List.{List, [], ◌∷◌, Memᴰ}
use Rattle.std.proofs.Math.Option.{Option, none, some}
use borrow.Author.Tests.{eqb-true, leb-false, eq-eqb, lt-leb, eqb-false}
use Rattle.laws.specs.Test.{by_test, both, and_l, and_r}
use Rattle.laws.specs.Scan.{any, any_elim, any_none, lowest-some, those_intro, those_elim}
use Rattle.laws.specs.Sort.{sort_mem}
use Rattle.spec.specs.Ids.{Id, same_id, falls, prev}
use Rattle.spec.specs.Store.{Store, Look, resolved_at, named_at, never, id_at, round_at, status_at, resolved, is_named, find, look_at, look, previous}
use Rattle.spec.specs.Paths.{height, certified}
use Rattle.spec.specs.Chain.{Refusal, number, conflict, Out, bad, good, then, refuse, is_committable, checked_as, checked_by, checked, place_of, EnqueuedAnchor, Onward, enqueue}
use Rattle.spec.specs.History.{needed, in_history, first_fault, faults, rounds_missing, any_uncertified, tested}

-- ---- tests that came out well

pub not_good : {A : Type 0} (r : Refusal) (l : A) → ◌≡◌ {A = Out A} (bad r) (good l) → ⊥
not_good r l h = let o : ◌≡◌ {A = ℕ} 0 1 = cc in omega arith

-- one side of a test came out well
pub if_good : {A : Type 0} (b : Bool) (x y : Out A) (l : A) → ◌≡◌ {A = Out A} (elim b [ true ↦ x | false ↦ y ]) (good l) → ((b ≡ true) × (x ≡ good l)) ⊎ ((b ≡ false) × (y ≡ good l))
if_good true x y l h = inl (refl, h)
if_good false x y l h = inr (refl, h)

pub then-good : {A B : Type 0} (o : Out A) (f : A → Out B) (l : B) → then o f ≡ good l → (a : A) × (o ≡ good a) × (f a ≡ good l)
then-good (bad r) f l h = absurd (not_good r l h)
then-good (good a) f l h = (a, refl, h)

pub refuse-good : {A : Type 0} (b : Bool) (n : ℕ) (o : Out A) (l : A) → refuse b n o ≡ good l → (b ≡ false) × (o ≡ good l)
unfolding refuse
refuse-good true n o l h = absurd (not_good (number n) l h)
refuse-good false n o l h = (refl, h)

pub refuse_back : {A : Type 0} (b : Bool) (n : ℕ) (o : Out A) → b ≡ false → refuse b n o ≡ o
unfolding refuse
refuse_back b n o e = rw (e, refuse) refl

-- ---- a found point

-- the point at q has this id
pub record Found (s : Store) (i : Id) (q : ℕ) : Type 0 where
  pub inside : q < s.places
  pub named : (s.pt q).named ≡ true
  pub is : id_at s q ≡ i

pub id_path : (x y : Id) → x.round ≡ y.round → x.author ≡ y.author → x.digest ≡ y.digest → x ≡ y
id_path x y a b c = λ k. record { round = a k; author = b k; digest = c k }

pub same_id_lem : (x y : Id) → same_id x y ≡ true → x ≡ y
unfolding same_id
same_id_lem x y h = id_path x y (eqb-true _ _ (and_l _ _ h)) (eqb-true _ _ (search (and_l, and_r))) (eqb-true _ _ (search (and_l, and_r)))

pub id_same : (x : Id) → same_id x x ≡ true
unfolding same_id
id_same x = both (eq-eqb x.round x.round refl) (both (eq-eqb x.author x.author refl) (eq-eqb x.digest x.digest refl))

pub find-some : (s : Store) (i : Id) (q : ℕ) → find s i ≡ some q → Found s i q
unfolding find is_named
find-some s i q h = let (l, t) = lowest-some s.places (is_named s i) q h in record { inside = l; named = and_l _ _ t; is = same_id_lem _ _ (and_r (s.pt q).named _ t) }

-- ---- what the look-up says of a needed point, and of an id, by the place

-- of a place in use
pub checked_at : (s : Store) (usable : Store → ℕ → Bool) (q : ℕ) → checked s usable q ≡ elim (resolved (s.pt q)) as (λ b. Out ℕ) [ true ↦ checked_as (usable s q) (certified s q) (round_at s q) q | false ↦ bad (number 14) ]
unfolding checked checked_by look_at
checked_at s usable q = go (resolved (s.pt q))
  where
    go : (b : Bool) → checked_by s usable (elim b [ true ↦ resolved_at q | false ↦ named_at q ]) ≡ elim b as (λ b. Out ℕ) [ true ↦ checked_as (usable s q) (certified s q) (round_at s q) q | false ↦ bad (number 14) ]
    go true = refl
    go false = refl

-- of an id that a call names
pub place_at_lem : (s : Store) (i : Id) → place_of s i ≡ elim (find s i) as (λ o. Out ℕ) [ none ↦ bad (number 9) | some q ↦ good q ]
unfolding place_of look look_at
place_at_lem s i = go (find s i)
  where
    by : (q : ℕ) (b : Bool) → ◌≡◌ {A = Out ℕ} (elim (elim b as (λ b. Look) [ true ↦ resolved_at q | false ↦ named_at q ]) [ resolved_at p ↦ good p | named_at p ↦ good p | never ↦ bad (number 9) ]) (good q)
    by q true = refl
    by q false = refl

    go : (o : Option ℕ) → ◌≡◌ {A = Out ℕ} (elim (elim o as (λ o. Look) [ none ↦ never | some q ↦ look_at s q ]) [ resolved_at p ↦ good p | named_at p ↦ good p | never ↦ bad (number 9) ]) (elim o [ none ↦ bad (number 9) | some q ↦ good q ])
    go none = refl
    go (some q) = by q (resolved (s.pt q))

-- found, resolved and valid
pub record Valid (s : Store) (i : Id) (q : ℕ) : Type 0 where
  pub found : find s i ≡ some q
  pub done : resolved (s.pt q) ≡ true
  pub is_valid : status_at s q ≡ 1

checked_as-good : (u c : Bool) (r q x : ℕ) → checked_as u c r q ≡ good x → (u ≡ true) × (q ≡ x)
unfolding checked_as
checked_as-good true c r q x h = (refl, cc)
checked_as-good false true r q x h = absurd (not_good (conflict r) x h)
checked_as-good false false r q x h = absurd (not_good (number 15) x h)

pub checked-good : (s : Store) (usable : Store → ℕ → Bool) (q x : ℕ) → checked s usable q ≡ good x → (resolved (s.pt q) ≡ true) × (usable s q ≡ true) × (q ≡ x)
checked-good s usable q x h = go (if_good (resolved (s.pt q)) (checked_as (usable s q) (certified s q) (round_at s q) q) (bad (number 14)) x (sym (checked_at s usable q) ∙ h))
  where
    go : ((resolved (s.pt q) ≡ true) × (checked_as (usable s q) (certified s q) (round_at s q) q ≡ good x)) ⊎ ((resolved (s.pt q) ≡ false) × (bad (number 14) ≡ good x)) → (resolved (s.pt q) ≡ true) × (usable s q ≡ true) × (q ≡ x)
    go (inl (a, f)) = let (u, m) = checked_as-good _ _ _ q x f in (a, u, m)
    go (inr (a, f)) = absurd (not_good (number 14) x f)

pub checked_back : (s : Store) (usable : Store → ℕ → Bool) (q : ℕ) → resolved (s.pt q) ≡ true → usable s q ≡ true → checked s usable q ≡ good q
unfolding checked_as
checked_back s usable q a u = checked_at s usable q ∙ rw (a, u) refl

-- ---- the walk

-- the ways in which the round x comes out well
pub data Visited (s : Store) (x : ℕ) (low : Bool) (below : Onward) (i : Id) (acc l : List EnqueuedAnchor) : Type 0 where
  over : i.round < x → below i acc ≡ good l → Visited s x low below i acc l
  used_up : i.round ≡ x → (s.rounds x).used ≡ some i.author → acc ≡ l → Visited s x low below i acc l
  ends : i.round ≡ x → (s.rounds x).used ≡ none → (p d : ℕ) → Valid s i p → (s.pt p).resolution.proof ≡ true → previous (s.pt p) ≡ some d → low ≡ true → acc ≡ l → Visited s x low below i acc l
  goes : i.round ≡ x → (s.rounds x).used ≡ none → (p d a : ℕ) → Valid s i p → (s.pt p).resolution.proof ≡ true → previous (s.pt p) ≡ some d → low ≡ false
      → Valid s (record { round = prev x; author = (id_at s p).author; digest = d }) a → enqueue s below acc p a ≡ good l → Visited s x low below i acc l

-- an anchor of a chain: valid, its proof valid and one round above it
pub record Anchored (s : Store) (e : EnqueuedAnchor) : Type 0 where
  pub anchor_done : resolved (s.pt e.anchor) ≡ true
  pub anchor_valid : status_at s e.anchor ≡ 1
  pub proof_done : resolved (s.pt e.proof) ≡ true
  pub proof_valid : status_at s e.proof ≡ 1
  pub above : round_at s e.proof ≡ suc (round_at s e.anchor)

-- the anchors of a chain rise, from round b on
abbrev pub Rising : Store → ℕ → List EnqueuedAnchor → Type 0
Rising s b [] = Unit {0}
Rising s b (e ∷ es) = (b ≤ round_at s e.anchor) × Anchored s e × Rising s (suc (round_at s e.anchor)) es

pub rising_less : (s : Store) (b c : ℕ) (l : List EnqueuedAnchor) → b ≤ c → Rising s c l → Rising s b l
rising_less s b c [] h r = tt
rising_less s b c (e ∷ es) h (x, y, z) = (omega arith, y, z)

pub one_below : (w k r : ℕ) → r ≡ w + suc k - 1 → (w + k ≤ r) × (w ≤ r) × (w + suc k ≡ suc r)
one_below w k r e = (omega arith, omega arith, omega arith)

-- ---- the tests of an anchor

pub record Tested (s : Store) (a : ℕ) : Type 0 where
  pub young : s.conf.genesis < round_at s a
  pub ready : (q : ℕ) → q < s.places → needed s a q ≡ true → (resolved (s.pt q) ≡ true) × (is_committable s q ≡ true)
  pub whole : rounds_missing s a ≡ false
  pub heights_are : (q : ℕ) → q < s.places → in_history s a q ≡ true → 0 < height s q

first_good : (s : Store) (l : List ℕ) (x : ℕ) → first_fault s l ≡ good x → (q : ℕ) → Memᴰ q l → (resolved (s.pt q) ≡ true) × (is_committable s q ≡ true)
unfolding first_fault
first_good s [] x h q m = absurd (Memᴰ.not-nil m)
first_good s (p ∷ ps) x h q m = go (then-good (checked s is_committable p) (λ x. first_fault s ps) x h) (Memᴰ.cases_cons m) (first_good s ps x)
  where
    go : (y : ℕ) × (checked s is_committable p ≡ good y) × (first_fault s ps ≡ good x) → (q ≡ p) ⊎ Memᴰ q ps
        → (first_fault s ps ≡ good x → (q : ℕ) → Memᴰ q ps → (resolved (s.pt q) ≡ true) × (is_committable s q ≡ true)) → (resolved (s.pt q) ≡ true) × (is_committable s q ≡ true)
    go (y, e, f) (inl k) r = let (a, u, n) = checked-good s is_committable p y e in (subst (λ z. resolved (s.pt z) ≡ true) (sym k) a, subst (λ z. is_committable s z ≡ true) (sym k) u)
    go (y, e, f) (inr k) r = r f q k

first_back : (s : Store) (l : List ℕ) → ((q : ℕ) → Memᴰ q l → (resolved (s.pt q) ≡ true) × (is_committable s q ≡ true)) → first_fault s l ≡ good 0
unfolding first_fault
first_back s [] h = refl
first_back s (p ∷ ps) h = let (a, u) = h p (Memᴰ.head refl) in rw (checked_back s is_committable p a u) (first_back s ps (λ q m. h q (Memᴰ.tail m)))

pub faults-good : (s : Store) (a x : ℕ) → faults s a ≡ good x → (q : ℕ) → q < s.places → needed s a q ≡ true → (resolved (s.pt q) ≡ true) × (is_committable s q ≡ true)
unfolding faults
faults-good s a x h q l t = first_good s _ x h q ((sort_mem (λ p q. falls (id_at s p) (id_at s q)) q _).1 (those_intro _ _ q l t))

pub faults_back : (s : Store) (a : ℕ) → ((q : ℕ) → q < s.places → needed s a q ≡ true → (resolved (s.pt q) ≡ true) × (is_committable s q ≡ true)) → faults s a ≡ good 0
unfolding faults
faults_back s a h = first_back s _ (λ q m. let (l, t) = those_elim _ _ q ((sort_mem (λ p q. falls (id_at s p) (id_at s q)) q _).0 m) in h q l t)

pub tested-good : (s : Store) (a b : ℕ) → tested s a ≡ good b → Tested s a
unfolding tested any_uncertified
tested-good s a b h = go (refuse-good _ 22 _ b h)
  where
    heights_are : any_uncertified s a ≡ false → (q : ℕ) → q < s.places → in_history s a q ≡ true → 0 < height s q
    heights_are f q l t = by_test (eqb (height s q) 0) (λ z. absurd (any_none s.places (λ q. in_history s a q && eqb (height s q) 0) f q l (both t z))) (λ n. let m : height s q ≡ 0 → ⊥ = eqb-false (height s q) 0 n in omega arith)

    go : (leb (round_at s a) s.conf.genesis ≡ false) × (then (faults s a) (λ x. refuse (rounds_missing s a) 17 (refuse (any_uncertified s a) 18 (good a))) ≡ good b) → Tested s a
    go (y, k) =
        let (x, f, r) = then-good (faults s a) _ b k in
        let (w, j) = refuse-good _ 17 _ b r in
        let (t, i) = refuse-good _ 18 _ b j in
        record { young = leb-false _ _ y; ready = faults-good s a x f; whole = w; heights_are = heights_are t }

flat_none : (s : Store) (a : ℕ) → ((q : ℕ) → q < s.places → in_history s a q ≡ true → 0 < height s q) → any_uncertified s a ≡ false
unfolding any_uncertified
flat_none s a f =
    by_test (any s.places (λ q. in_history s a q && eqb (height s q) 0))
    (λ t. let (q, l, u) = any_elim s.places (λ q. in_history s a q && eqb (height s q) 0) t in absurd (omega (arith, f q l (and_l _ _ u), eqb-true (height s q) 0 (and_r (in_history s a q) _ u))))
    (λ e. e)

pub tested_back : (s : Store) (a : ℕ) → Tested s a → tested s a ≡ good a
unfolding tested
tested_back s a c =
    refuse_back (leb (round_at s a) s.conf.genesis) 22 _ (lt-leb (round_at s a) s.conf.genesis c.young)
    ∙ (rw (faults_back s a c.ready) (refuse_back (rounds_missing s a) 17 _ c.whole ∙ refuse_back (any_uncertified s a) 18 _ (flat_none s a c.heights_are)))
