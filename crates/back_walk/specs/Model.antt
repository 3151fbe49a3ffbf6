-- One round of the walk as the code makes it (01: back.rs, 'Chain').
use Rattle.std.specs.Prelude.{ℕ, ◌-◌, ◌*◌, ◌%◌, ◌<◌, ◌≤◌, ◌≡◌, List, Bool, not, cond, eqb, leb, ltb, length, get_or}
use Rattle.std.proofs.Math.Path.{refl, sym, ap}
use Rattle.std.proofs.Common.{◌∙◌, subst, arith}
use Rattle.std.proofs.Math.Bool.{true, false}
use borrow.Author.Tests.{eq-eqb, ne_eqb, le-leb, lt-leb, lt-ltb, le-ltb, not-true, not-false}
use Rattle.models.specs.Tables.{author_at, status_at, marks_at, Used, proof_round_at, proof_author_at}
use Rattle.models.specs.DagPoint.{case_of, valid-status}
use Rattle.models.specs.Cert.{height_of}
use Rattle.models.specs.Refusal.{failed, conflicting, not_valid}
use Rattle.models.specs.declared.dag_point.DagPoint.{DagPoint}
use Rattle.models.specs.declared.dag_point.DagPoint.TheVariants.{Valid, TransInvalid, Invalid, IllFormed, NotFound}
use Rattle.models.specs.declared.parts.PointId.{PointId}
use Rattle.models.specs.declared.refusal.Refusal.{Refusal}
use Rattle.models.specs.declared.refusal.Refusal.TheVariants.{Number}
use Rattle.commit_state.specs.View.{record_of}
use Rattle.commit_state.specs.declared.state.State.{State}
use Rattle.dag_round_keys.specs.Look.{look_for, look-told}
use Rattle.dag_round_keys.specs.declared.look.Look.{Look}
use Rattle.dag_round_keys.specs.declared.look.Look.TheVariants.{Resolved, Named, Never}
use Rattle.dag_round_points.specs.Model.{Ready, id_words}
use Rattle.back_walk.specs.declared.EnqueuedAnchor.{EnqueuedAnchor}
use Rattle.back_walk.specs.declared.Step.{Step}
use Rattle.back_walk.specs.declared.Step.TheVariants.{Pass, End, Anchor}
use Rattle.models.specs.Ids.{id_from, has_previous, previous_id, top_id, Placed, Topped}
use Rattle.std.specs.Prelude.{Result, Err, Ok, Some}
use Rattle.models.specs.Refusal.{Check, no_refusal}
use Rattle.dag_round_points.specs.Codes.{Found}

-- what keys, certificate words and order must be for the walk to read them
abbrev pub Walkable : State → List ℕ → List ℕ → List ℕ → Type 0
Walkable s ks cs os = Ready s ks os × (length cs ≡ length os)

-- what the links of the used places must be: as long as the keys, authors and top proofs in their ranges
abbrev pub Linked : State → List ℕ → List ℕ → List ℕ → Type 0
Linked s ks ls os =
    (length ls ≡ length os * 328) × ((q : ℕ) → Used os s.count q → author_at ks q < 32)
    × ((q : ℕ) → Used os s.count q → 0 < status_at ks q → (proof_round_at ls q < 4294967296) × (proof_author_at ls q < 32))

-- what a resolved point is refused with in the walk, by its case, its certificate word and its round: nothing if it is valid
unfoldable pub judge_of : DagPoint → ℕ → ℕ → Check
judge_of Valid c r = no_refusal
judge_of TransInvalid c r = not_valid c r
judge_of Invalid c r = not_valid c r
judge_of IllFormed c r = not_valid c r
judge_of NotFound c r = not_valid c r

-- the place q, unless it is refused
unfoldable pub needed_at : ℕ → Check → Found
needed_at q (Ok tt) = Ok q
needed_at q (Err r) = Err r

-- a point of the round r, as the walk needs it, by its look-up (02, N3: 14 "named only", 25 "never named")
unfoldable pub needed_of : Look → List ℕ → ℕ → Found
needed_of (Resolved q p) cs r = needed_at q (judge_of p (get_or cs q 0) r)
needed_of (Named q) cs r = Err (Number 14)
needed_of Never cs r = Err (Number 25)

-- the point with the id i
unfoldable pub needed : State → List ℕ → List ℕ → List ℕ → PointId → Found
needed s ks cs os i = needed_of (look_for ks os s.count (id_words i)) cs i.round.0

-- a needed point as a proof: marked as such, with a previous point
unfoldable pub proof_of : List ℕ → List ℕ → Found → Found
proof_of ks ls (Err r) = Err r
proof_of ks ls (Ok p) = cond (eqb (marks_at ks p % 2) 0) (Err (Number 16)) (cond (has_previous ks ls p) (Ok p) (Err (Number 16)))

-- the proof with the id i
unfoldable pub proof_at : State → List ℕ → List ℕ → List ℕ → List ℕ → PointId → Found
proof_at s ks ls cs os i = proof_of ks ls (needed s ks cs os i)

-- the anchor at the place q of the proof at the place p
abbrev pub enqueued : List ℕ → ℕ → ℕ → EnqueuedAnchor
enqueued ls p q = record { anchor = q; proof = p; prev_proof_round = record { 0 = proof_round_at ls q } }

-- what a round of the walk is, unless it is refused
abbrev pub Stepped : Type 0
Stepped = Result Step Refusal

-- a needed point as the anchor of the proof at the place p
unfoldable pub anchor_of : List ℕ → ℕ → Found → Stepped
anchor_of ls p (Err r) = Err r
anchor_of ls p (Ok q) = Ok (Anchor (enqueued ls p q))

-- the anchor of the proof at the place p, in the round r
unfoldable pub anchor_at : State → List ℕ → List ℕ → List ℕ → List ℕ → ℕ → ℕ → Stepped
anchor_at s ks ls cs os p r = anchor_of ls p (needed s ks cs os (previous_id ks ls p r))

-- 16
abbrev pub no_proof : Stepped
no_proof = Err (Number 16)

-- a round with the used mark of the author a, where the author b is sought
unfoldable pub used_at : ℕ → ℕ → Stepped
used_at a b = cond (eqb a b) (Ok End) no_proof

-- a proof in the round x, where the walk ends at the round low
unfoldable pub at_proof : State → List ℕ → List ℕ → List ℕ → List ℕ → ℕ → ℕ → Found → Stepped
at_proof s ks ls cs os low x (Err r) = Err r
at_proof s ks ls cs os low x (Ok p) = cond (leb x low) (Ok End) (anchor_at s ks ls cs os p (x - 1))

-- the round x, which is the sought proof's, with the used mark u: its author plus 1, or 0 for none
unfoldable pub marked_step : State → List ℕ → List ℕ → List ℕ → List ℕ → ℕ → ℕ → ℕ → PointId → Stepped
marked_step s ks ls cs os low x u i = cond (eqb u 0) (at_proof s ks ls cs os low x (proof_at s ks ls cs os i)) (used_at (u - 1) i.author)

-- the round x of the walk, which ends at the round low; i is the sought proof's id
unfoldable pub step_at : State → List ℕ → List ℕ → List ℕ → List ℕ → ℕ → ℕ → PointId → Stepped
step_at s ks ls cs os low x i =
    cond (ltb i.round.0 x) (Ok Pass) (cond (ltb x i.round.0) no_proof (marked_step s ks ls cs os low x (record_of s.rounds x).used_anchor_proof i))

-- ---- the code's steps

pub judge_by : (p y : DagPoint) → p ≡ y → (c r : ℕ) (k : Check) → k ≡ judge_of y c r → k ≡ judge_of p c r
judge_by p y e c r k h = h ∙ ap (λ z. judge_of z c r) (sym e)

module _ (s : State) (ks cs os : List ℕ) (i : PointId) (w : List ℕ) (words : w ≡ id_words i) (l : Look) (is : l ≡ look_for ks os s.count w) where
  -- by the look-up's answer
  pub needed_by : (m : Look) → l ≡ m → (f : Found) → f ≡ needed_of m cs i.round.0 → f ≡ needed s ks cs os i
  unfolding needed
  needed_by m e f h = h ∙ ap (λ (z : Look). needed_of z cs i.round.0) (sym e ∙ (is ∙ ap (look_for ks os s.count) words))

  module _ (q : ℕ) (p : DagPoint) (e : l ≡ Resolved q p) where
    -- a resolved point's certificate word can be read
    pub needed-inside : Walkable s ks cs os → (q < length cs) × (q < 4096)
    needed-inside (r, k) = let (x, y, z) = look-told ks os s.count w (Resolved q p) (sym is ∙ e) in (omega (arith, r.3 _ x, y, k), omega (arith, r.3 _ x, y, r.1))

    -- it is judged
    pub needed_judged : (c d : Check) → c ≡ judge_of p (get_or cs q 0) i.round.0 → c ≡ d → needed_at q d ≡ needed s ks cs os i
    unfolding needed_of
    needed_judged c d f g = needed_by (Resolved q p) e _ (ap (needed_at q) (sym g ∙ f))

-- a used place fits in 16 bits
pub place-fits : (s : State) (ks cs os : List ℕ) (q : ℕ) → Walkable s ks cs os → Used os s.count q → q < 65536
place-fits s ks cs os q w (i, l, e) = omega (arith, w.0.1, w.0.3 i l, e)

-- ---- what is needed and isn't refused

-- it stands in the order and is valid
abbrev pub Standing : List ℕ → List ℕ → ℕ → Found → Type 0
Standing ks os n (Ok q) = Used os n q × (status_at ks q ≡ 1)
Standing ks os n (Err r) = Unit {0}

module _ (ks os : List ℕ) (n : ℕ) where
  -- what is not valid doesn't stand
  invalid_stands : (q c r : ℕ) → Standing ks os n (needed_at q (not_valid c r))
  unfolding needed_at not_valid
  invalid_stands q c r = by (ltb 0 (height_of c))
    where
      by : (b : Bool) → Standing ks os n (needed_at q (cond b (conflicting r) (failed 15)))
      by true = tt
      by false = tt

  checked_stands : (q c r : ℕ) (p : DagPoint) → case_of (status_at ks q) ≡ Some p → Used os n q → Standing ks os n (needed_at q (judge_of p c r))
  unfolding judge_of needed_at
  checked_stands q c r Valid e u = (u, valid-status (status_at ks q) e)
  checked_stands q c r TransInvalid e u = invalid_stands q c r
  checked_stands q c r Invalid e u = invalid_stands q c r
  checked_stands q c r IllFormed e u = invalid_stands q c r
  checked_stands q c r NotFound e u = invalid_stands q c r

  -- nor does a proof that is none
  proof_stands : (ls : List ℕ) (f : Found) → Standing ks os n f → Standing ks os n (proof_of ks ls f)
  unfolding proof_of
  proof_stands ls (Err r) h = tt
  proof_stands ls (Ok p) h = by (eqb (marks_at ks p % 2) 0) (has_previous ks ls p)
    where
      by : (a b : Bool) → Standing ks os n (cond a (Err (Number 16)) (cond b (Ok p) (Err (Number 16))))
      by true b = tt
      by false true = h
      by false false = tt

module _ (s : State) (ks cs os : List ℕ) (i : PointId) where
  needed_stands : Standing ks os s.count (needed s ks cs os i)
  unfolding needed needed_of
  needed_stands = by (look_for ks os s.count (id_words i)) refl
    where
      by : (l : Look) → look_for ks os s.count (id_words i) ≡ l → Standing ks os s.count (needed_of l cs i.round.0)
      by (Resolved q p) e = let (x, y, z) = look-told ks os s.count (id_words i) (Resolved q p) e in checked_stands ks os s.count q (get_or cs q 0) i.round.0 p z (_, x, y)
      by (Named q) e = tt
      by Never e = tt

  -- the place of a needed point
  pub needed_at_lem : (f : Found) → f ≡ needed s ks cs os i → (q : ℕ) → f ≡ Ok q → Used os s.count q × (status_at ks q ≡ 1)
  needed_at_lem f is q e = subst (Standing ks os s.count) (sym is ∙ e) needed_stands

  -- and of a proof
  pub proof_used : (ls : List ℕ) (f : Found) → f ≡ proof_at s ks ls cs os i → (q : ℕ) → f ≡ Ok q → Used os s.count q
  unfolding proof_at
  proof_used ls f is q e = (subst (Standing ks os s.count) (sym is ∙ e) (proof_stands ks os s.count ls _ needed_stands)).0

-- a used place lies in the tables
pub placed : (s : State) (ks ls cs os : List ℕ) (q : ℕ) → Walkable s ks cs os → Linked s ks ls os → Used os s.count q → Placed ks ls q
placed s ks ls cs os q (r, e) l u =
    let (i, k, d) = u in
    let low = r.3 i k in
    (omega (arith, low, d, r.0), omega (arith, low, d, l.0), l.1 q u)

-- and a valid one has a top proof
pub topped : (s : State) (ks ls cs os : List ℕ) (q : ℕ) → Walkable s ks cs os → Linked s ks ls os → Used os s.count q × (status_at ks q ≡ 1) → Topped ls q
topped s ks ls cs os q w l (u, v) = let (a, b) = l.2 q u (omega arith) in ((placed s ks ls cs os q w l u).1, a, b)

module _ (s : State) (ks ls cs os : List ℕ) (i : PointId) (f : Found) (is : f ≡ needed s ks cs os i) where
  pub proof_no : (r : Refusal) → f ≡ Err r → Err r ≡ proof_at s ks ls cs os i
  unfolding proof_at proof_of
  proof_no r e = rw (sym is ∙ e) refl

  module _ (p : ℕ) (e : f ≡ Ok p) where
    pub proof_unmarked : marks_at ks p % 2 ≡ 0 → Err (Number 16) ≡ proof_at s ks ls cs os i
    unfolding proof_at proof_of
    proof_unmarked m = rw (sym is ∙ e, proof_of, eq-eqb (marks_at ks p % 2) 0 m) refl

    module _ (m : marks_at ks p % 2 ≡ 0 → ⊥) (b : Bool) (has : b ≡ has_previous ks ls p) where
      pub proof_first : not b ≡ true → Err (Number 16) ≡ proof_at s ks ls cs os i
      unfolding proof_at proof_of
      proof_first h = rw (sym is ∙ e, proof_of, ne_eqb (marks_at ks p % 2) 0 m, sym has ∙ not-true b h) refl

      pub proof_is : not b ≡ false → Ok p ≡ proof_at s ks ls cs os i
      unfolding proof_at proof_of
      proof_is h = rw (sym is ∙ e, proof_of, ne_eqb (marks_at ks p % 2) 0 m, sym has ∙ not-false b h) refl

module _ (s : State) (ks ls cs os : List ℕ) (p r : ℕ) (i : PointId) (id : i ≡ previous_id ks ls p r) (f : Found) (is : f ≡ needed s ks cs os i) where
  pub anchor_no : (w : Refusal) → f ≡ Err w → Err w ≡ anchor_at s ks ls cs os p r
  unfolding anchor_at anchor_of
  anchor_no w e = rw (← id, sym is ∙ e) refl

  pub anchor_is : (q : ℕ) → f ≡ Ok q → (t : PointId) → t ≡ top_id ls q → Ok (Anchor (record { anchor = q; proof = p; prev_proof_round = t.round })) ≡ anchor_at s ks ls cs os p r
  unfolding anchor_at anchor_of top_id id_from
  anchor_is q e t g = rw (← id, sym is ∙ e, g) refl

module _ (s : State) (ks ls cs os : List ℕ) (low x : ℕ) (i : PointId) where
  -- the author of the round's used mark, plus 1
  abbrev u : ℕ
  u = (record_of s.rounds x).used_anchor_proof

  -- the sought proof's round
  abbrev y : ℕ
  y = i.round.0

  pub step-pass : i.round.0 < x → (Ok Pass) ≡ step_at s ks ls cs os low x i
  unfolding step_at
  step-pass l = rw (lt-ltb y x l) refl

  module _ (l : x ≤ i.round.0) where
    pub step_above : x < i.round.0 → no_proof ≡ step_at s ks ls cs os low x i
    unfolding step_at
    step_above k = rw (le-ltb y x l, lt-ltb x y k) refl

    module _ (k : i.round.0 ≤ x) where
      pub step_used : (u ≡ 0 → ⊥) → (r : Stepped) → r ≡ used_at (u - 1) i.author → r ≡ step_at s ks ls cs os low x i
      unfolding step_at marked_step
      step_used d r e = rw (le-ltb y x l, le-ltb x y k, ne_eqb u 0 d) e

      module _ (z : u ≡ 0) (f : Found) (is : f ≡ proof_at s ks ls cs os i) where
        pub step-bad : (r : Refusal) → f ≡ Err r → Err r ≡ step_at s ks ls cs os low x i
        unfolding step_at marked_step at_proof
        step-bad r e = rw (le-ltb y x l, le-ltb x y k, eq-eqb u 0 z, sym is ∙ e) refl

        module _ (p : ℕ) (e : f ≡ Ok p) where
          pub step_low : x ≤ low → (Ok End) ≡ step_at s ks ls cs os low x i
          unfolding step_at marked_step at_proof
          step_low m = rw (le-ltb y x l, le-ltb x y k, eq-eqb u 0 z, sym is ∙ e, at_proof, le-leb x low m) refl

          pub step_on : low < x → (v : ℕ) → v ≡ x - 1 → (r : Stepped) → r ≡ anchor_at s ks ls cs os p v → r ≡ step_at s ks ls cs os low x i
          unfolding step_at marked_step at_proof
          step_on m v d r g = rw (le-ltb y x l, le-ltb x y k, eq-eqb u 0 z, sym is ∙ e, at_proof, lt-leb x low m) (g ∙ ap (anchor_at s ks ls cs os p) d)

module _ (a b : ℕ) where
  pub used_end : a ≡ b → (Ok End) ≡ used_at a b
  unfolding used_at
  used_end e = rw (eq-eqb a b e) refl

  pub used_other : (a ≡ b → ⊥) → no_proof ≡ used_at a b
  unfolding used_at
  used_other d = rw (ne_eqb a b d) refl

-- ---- what every step holds

-- an anchor is a used place, and valid
abbrev pub Sound : List ℕ → List ℕ → ℕ → Stepped → Type 0
Sound ks os n (Ok Pass) = Unit {0}
Sound ks os n (Ok End) = Unit {0}
Sound ks os n (Err r) = Unit {0}
Sound ks os n (Ok (Anchor e)) = Used os n e.anchor × (status_at ks e.anchor ≡ 1)

module _ (s : State) (ks ls cs os : List ℕ) where
  -- by cases on a test
  sound_by : (b : Bool) (p q : Stepped) → Sound ks os s.count p → Sound ks os s.count q → Sound ks os s.count (cond b p q)
  sound_by true p q f g = f
  sound_by false p q f g = g

  anchor_sound : (p r : ℕ) → Sound ks os s.count (anchor_at s ks ls cs os p r)
  unfolding anchor_at anchor_of
  anchor_sound p r = by (needed s ks cs os (previous_id ks ls p r)) (needed_stands s ks cs os (previous_id ks ls p r))
    where
      by : (f : Found) → Standing ks os s.count f → Sound ks os s.count (anchor_of ls p f)
      by (Err w) h = tt
      by (Ok q) h = h

  proof_sound : (low x : ℕ) (f : Found) → Sound ks os s.count (at_proof s ks ls cs os low x f)
  unfolding at_proof
  proof_sound low x (Err r) = tt
  proof_sound low x (Ok p) = sound_by (leb x low) (Ok End) _ tt (anchor_sound p (x - 1))

  step_sound : (low x : ℕ) (i : PointId) → Sound ks os s.count (step_at s ks ls cs os low x i)
  unfolding step_at marked_step used_at
  step_sound low x i =
      let u = (record_of s.rounds x).used_anchor_proof in
      sound_by (ltb i.round.0 x) (Ok Pass) _ tt (sound_by (ltb x i.round.0) no_proof _ tt
      (sound_by (eqb u 0) _ _ (proof_sound low x (proof_at s ks ls cs os i)) (sound_by (eqb (u - 1) i.author) (Ok End) no_proof tt tt)))

  -- an anchor that a step finds
  pub found_used : (low x : ℕ) (i : PointId) (e : EnqueuedAnchor) (p : Stepped) → p ≡ step_at s ks ls cs os low x i → p ≡ Ok (Anchor e) → Used os s.count e.anchor × (status_at ks e.anchor ≡ 1)
  found_used low x i e p is h = subst (Sound ks os s.count) (sym is ∙ h) (step_sound low x i)
