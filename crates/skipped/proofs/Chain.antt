-- A chain that passes the proof with which another began: the other's anchors, then those that it yields after them (02: N9).
use Prim.Native.Nat.{ℕ, zero, suc, ◌+◌, ◌-◌, ◌≤◌, ◌<◌, max}
use Rattle.std.specs.Prelude.{◌≡◌, refl, Bool, false, not, ◌&&◌, ◌||◌, cond, eqb}
use Rattle.std.proofs.Math.Path.{sym, ap}
use Rattle.std.proofs.Common.{◌∙◌, subst, subst₂, ⊎_elim, true≢false, eq-eqb, ne_eqb, ltb-true, le-ltb, leb-false, suc-add, zero-add}
use Rattle.std.proofs.Math.Bool.{true}
use Rattle.std.proofs.lemmas.Bool.{false≢true, lt-leb}
use mathlib.Core.List.Memᴰ
use mathlib.Core.List.{List, [], ◌∷◌, ◌++◌, map, append_assoc, append-nil, nil≢cons, Memᴰ}
use Rattle.std.proofs.Math.Option.{none, some, some-injective}
use Rattle.std.proofs.Math.Dec.{ltb}
use native.Mathlib.Omega.{arith}
use Rattle.laws.specs.Test.{both, and_l, or_none}
use Rattle.laws.specs.Scan.{lowest}
use Rattle.laws.specs.Lists.{map_mem, mem_map}
use Rattle.laws.specs.Peers.{member}
use Rattle.spec.specs.Ids.{Id, same_id, prev}
use Rattle.spec.specs.Store.{Resolution, Store, id_at, round_at, status_at, resolved, is_named, find, under, previous}
use Rattle.spec.specs.Rules.{is_peer}
use Rattle.spec.specs.Chain.{Out, good, EnqueuedAnchor, enqueue, walk, or_zero, lowest_walked, unlinked, anchors_of}
use Rattle.spec.specs.History.{set_committed, use_proof, dequeued}
use Rattle.spec.specs.WellFormed.{Wf}
use Rattle.spec.specs.Walk.{Found, find-some, Valid, Visited, over, used_up, ends, goes}
use Rattle.spec.proofs.Walk.{visit-good, visit_back}
use Rattle.spec.proofs.Demand3Second.{good-same, Chained, Fires, fires, fires_back}
use Rattle.spec.specs.Outlook.{supposed, supposed-append}
use Rattle.skipped.specs.Skipped.{previous_id, top_proof_of, sought, Passes}

-- ---- one walk

-- the walk of k rounds above w that seeks i puts the anchors l before those found so far
abbrev pub Adds : Store → ℕ → ℕ → Id → List EnqueuedAnchor → Type 0
Adds s w k i l = (acc : List EnqueuedAnchor) → walk s w k i acc ≡ good (l ++ acc)

abbrev pub enqueued : Store → ℕ → ℕ → EnqueuedAnchor
enqueued s p a = record { anchor = a; proof = p; prev_proof_round = (s.pt a).resolution.top_proof.round }

-- what a walk finds doesn't depend on what was found so far
pub walk-adds : (s : Store) (w k : ℕ) (i : Id) (acc m : List EnqueuedAnchor) → walk s w k i acc ≡ good m → (l : List EnqueuedAnchor) × (m ≡ l ++ acc) × Adds s w k i l
unfolding walk enqueue
walk-adds s w zero i acc m h = go (visit-good s w true (λ i acc. good acc) i acc m h)
  where
    go : Visited s w true (λ i acc. good acc) i acc m → (l : List EnqueuedAnchor) × (m ≡ l ++ acc) × Adds s w zero i l
    go (over x f) = ([], sym (good-same acc m f), λ acc. visit_back s w true _ i acc acc (over x refl))
    go (used_up x u f) = ([], sym f, λ acc. visit_back s w true _ i acc acc (used_up x u refl))
    go (ends x u p d v t j b f) = ([], sym f, λ acc. visit_back s w true _ i acc acc (ends x u p d v t j b refl))
    go (goes x u p d a v t j b y f) = absurd (true≢false b)
walk-adds s w (suc k) i acc m h = go (visit-good s (w + suc k) false (walk s w k) i acc m h) (walk-adds s w k)
  where
    go : Visited s (w + suc k) false (walk s w k) i acc m → ((i : Id) (acc m : List EnqueuedAnchor) → walk s w k i acc ≡ good m → (l : List EnqueuedAnchor) × (m ≡ l ++ acc) × Adds s w k i l)
        → (l : List EnqueuedAnchor) × (m ≡ l ++ acc) × Adds s w (suc k) i l
    go (over x f) r = let (l, e, g) = r i acc m f in (l, e, λ acc. visit_back s (w + suc k) false _ i acc (l ++ acc) (over x (g acc)))
    go (used_up x u f) r = ([], sym f, λ acc. visit_back s (w + suc k) false _ i acc acc (used_up x u refl))
    go (ends x u p d v t j b f) r = absurd (false≢true b)
    go (goes x u p d a v t j b y f) r =
        let q = enqueued s p a in
        let (l, e, g) = r (s.pt a).resolution.top_proof (q ∷ acc) m f in
        (l ++ (q ∷ []), e ∙ sym (append_assoc l (q ∷ []) acc), λ acc. visit_back s (w + suc k) false _ i acc ((l ++ (q ∷ [])) ++ acc) (goes x u p d a v t j b y (g (q ∷ acc) ∙ ap good (sym (append_assoc l (q ∷ []) acc)))))

-- the walk of no rounds above w finds none
adds_none : (s : Store) (w : ℕ) (i : Id) (l : List EnqueuedAnchor) → Adds s w zero i l → l ≡ []
unfolding walk
adds_none s w i l h = go (visit-good s w true (λ i acc. good acc) i [] (l ++ []) (h []))
  where
    same : [] ≡ l ++ [] → l ≡ []
    same e = sym (append-nil l) ∙ sym e

    go : Visited s w true (λ i acc. good acc) i [] (l ++ []) → l ≡ []
    go (over x f) = same (good-same [] (l ++ []) f)
    go (used_up x u f) = same f
    go (ends x u p d v t j b f) = same f
    go (goes x u p d a v t j b y f) = absurd (true≢false b)

-- two walks alike find the same
adds_same : (s : Store) (w k : ℕ) (i : Id) (l m : List EnqueuedAnchor) → Adds s w k i l → Adds s w k i m → l ≡ m
adds_same s w k i l m f g = sym (append-nil l) ∙ (good-same (l ++ []) (m ++ []) (sym (f []) ∙ g []) ∙ append-nil m)

-- the ways in which the highest round of a walk comes out well
pub data Step (s : Store) (w k : ℕ) (i : Id) (l : List EnqueuedAnchor) : Type 0 where
  lower : i.round < w + suc k → Adds s w k i l → Step s w k i l
  stays : i.round ≡ w + suc k → (s.rounds (w + suc k)).used ≡ some i.author → l ≡ [] → Step s w k i l
  yields : i.round ≡ w + suc k → (s.rounds (w + suc k)).used ≡ none → (p d a : ℕ) → Valid s i p → (s.pt p).resolution.proof ≡ true → previous (s.pt p) ≡ some d
      → Valid s (record { round = prev (w + suc k); author = (id_at s p).author; digest = d }) a → (m : List EnqueuedAnchor) → l ≡ m ++ (enqueued s p a ∷ []) → Adds s w k (s.pt a).resolution.top_proof m → Step s w k i l

pub step : (s : Store) (w k : ℕ) (i : Id) (l : List EnqueuedAnchor) → Adds s w (suc k) i l → Step s w k i l
unfolding walk enqueue
step s w k i l h = go (visit-good s (w + suc k) false (walk s w k) i [] (l ++ []) (h []))
  where
    go : Visited s (w + suc k) false (walk s w k) i [] (l ++ []) → Step s w k i l
    go (over x f) = let (m, e, g) = walk-adds s w k i [] (l ++ []) f in lower x (subst (Adds s w k i) (sym (append-nil m) ∙ (sym e ∙ append-nil l)) g)
    go (used_up x u f) = stays x u (sym (append-nil l) ∙ sym f)
    go (ends x u p d v t j b f) = absurd (false≢true b)
    go (goes x u p d a v t j b y f) = let (m, e, g) = walk-adds s w k (s.pt a).resolution.top_proof (enqueued s p a ∷ []) (l ++ []) f in yields x u p d a v t j y m (sym (append-nil l) ∙ e) g

pub step_back : (s : Store) (w k : ℕ) (i : Id) (l : List EnqueuedAnchor) → Step s w k i l → Adds s w (suc k) i l
unfolding walk enqueue
step_back s w k i l (lower x g) acc = visit_back s (w + suc k) false _ i acc (l ++ acc) (over x (g acc))
step_back s w k i l (stays x u e) acc = visit_back s (w + suc k) false _ i acc (l ++ acc) (used_up x u (ap (λ (z : List EnqueuedAnchor). z ++ acc) (sym e)))
step_back s w k i l (yields x u p d a v t j y m e g) acc =
    visit_back s (w + suc k) false _ i acc (l ++ acc) (goes x u p d a v t j refl y (g (enqueued s p a ∷ acc) ∙ ap good (sym (ap (λ (z : List EnqueuedAnchor). z ++ acc) e ∙ append_assoc m (enqueued s p a ∷ []) acc))))

-- what is sought from an anchor's top proof on
sought-next : (s : Store) (e : EnqueuedAnchor) (l : List EnqueuedAnchor) (i : Id) → Memᴰ i (map (top_proof_of s) (l ++ (e ∷ []))) → Memᴰ i (sought s (top_proof_of s e) l)
sought-next s e l i h =
    let (x, m, k) = mem_map (top_proof_of s) (l ++ (e ∷ [])) i h in
    ⊎_elim
    (λ n. Memᴰ.tail (subst (λ (z : Id). Memᴰ z (map (top_proof_of s) l)) k (map_mem (top_proof_of s) l x n)))
    (λ n. Memᴰ.head (sym k ∙ ap (top_proof_of s) (Memᴰ.eq_of_singleton n)))
    (Memᴰ.append_cases l m)

-- no proof is sought above the rounds walked; below the highest round, none above the next
next_low : (s : Store) (w k : ℕ) → ((j : Id) (l : List EnqueuedAnchor) → Adds s w k j l → (i : Id) → Memᴰ i (sought s j l) → i.round ≤ w + k)
    → (j : Id) (l : List EnqueuedAnchor) → Step s w k j l → (i : Id) → Memᴰ i (map (top_proof_of s) l) → i.round ≤ w + k
next_low s w k r j l (lower x g) i m = r j l g i (Memᴰ.tail m)
next_low s w k r j l (stays x u e) i m = absurd (Memᴰ.not-nil (subst (λ (z : List EnqueuedAnchor). Memᴰ i (map (top_proof_of s) z)) e m))
next_low s w k r j l (yields x u p d a v t h y n e g) i m = r (s.pt a).resolution.top_proof n g i (sought-next s (enqueued s p a) n i (subst (λ (z : List EnqueuedAnchor). Memᴰ i (map (top_proof_of s) z)) e m))

step_low : (s : Store) (w k : ℕ) (j : Id) (l : List EnqueuedAnchor) → Step s w k j l → j.round ≤ w + suc k
step_low s w k j l (lower x g) = omega arith
step_low s w k j l (stays x u e) = omega arith
step_low s w k j l (yields x u p d a v t h y n e g) = omega arith

none_low : (s : Store) (w : ℕ) (j : Id) (l : List EnqueuedAnchor) → Adds s w zero j l → j.round ≤ w + 0
unfolding walk
none_low s w j l h = go (visit-good s w true (λ i acc. good acc) j [] (l ++ []) (h []))
  where
    go : Visited s w true (λ i acc. good acc) j [] (l ++ []) → j.round ≤ w + 0
    go (over x f) = omega arith
    go (used_up x u f) = omega arith
    go (ends x u p d v t k b f) = omega arith
    go (goes x u p d a v t k b y f) = absurd (true≢false b)

pub sought_low : (s : Store) (w k : ℕ) (j : Id) (l : List EnqueuedAnchor) → Adds s w k j l → (i : Id) → Memᴰ i (sought s j l) → i.round ≤ w + k
sought_low s w zero j l h i m =
    ⊎_elim
    (λ e. subst (λ (z : Id). z.round ≤ w + 0) (sym e) (none_low s w j l h))
    (λ n. absurd (Memᴰ.not-nil (subst (λ (z : List EnqueuedAnchor). Memᴰ i (map (top_proof_of s) z)) (adds_none s w j l h) n)))
    (Memᴰ.cases_cons m)
sought_low s w (suc k) j l h i m =
    ⊎_elim
    (λ e. subst (λ (z : Id). z.round ≤ w + suc k) (sym e) (step_low s w k j l (step s w k j l h)))
    (λ n. let b : i.round ≤ w + k = next_low s w k (sought_low s w k) j l (step s w k j l h) i n in omega arith)
    (Memᴰ.cases_cons m)

-- ---- the marks of committed anchors

-- t is s with marks: committed ones, and used ones in rounds up to x
pub record Marked (s t : Store) (x : ℕ) : Type 0 where
  pub places : t.places ≡ s.places
  pub bottom : t.bottom ≡ s.bottom
  pub top : t.top ≡ s.top
  pub conf : t.conf ≡ s.conf
  pub named : (q : ℕ) → (t.pt q).named ≡ (s.pt q).named
  pub ids : (q : ℕ) → (t.pt q).id ≡ (s.pt q).id
  pub resolutions : (q : ℕ) → (t.pt q).resolution ≡ (s.pt q).resolution
  pub peers : (r : ℕ) → (t.rounds r).peers ≡ (s.rounds r).peers
  pub above : (r : ℕ) → x < r → (t.rounds r).used ≡ (s.rounds r).used

marked-none : (s : Store) (x : ℕ) → Marked s s x
marked-none s x = record { places = refl; bottom = refl; top = refl; conf = refl; named = λ q. refl; ids = λ q. refl; resolutions = λ q. refl; peers = λ r. refl; above = λ r l. refl }

-- one anchor more
marked_more : (s t : Store) (x : ℕ) (e : EnqueuedAnchor) → Marked s t x → round_at s e.proof ≤ x → Marked s (dequeued t e) x
unfolding dequeued set_committed use_proof
marked_more s t x e m l = record {
  places = m.places;
  bottom = m.bottom;
  top = m.top;
  conf = m.conf;
  named = m.named;
  ids = m.ids;
  resolutions = m.resolutions;
  peers = λ r. same_peers r (eqb r (round_at t e.proof)) ∙ m.peers r;
  above = λ r h. ap (λ b. (cond b (use_proof (t.rounds r) (id_at t e.anchor).author) (t.rounds r)).used) (ne_eqb r (round_at t e.proof) (λ d. off r h d)) ∙ m.above r h;
}
  where
    off : (r : ℕ) → x < r → r ≡ round_at t e.proof → ⊥
    off r h d = let i : round_at t e.proof ≡ round_at s e.proof = ap (λ (z : Id). z.round) (m.ids e.proof) in omega arith

    same_peers : (r : ℕ) (b : Bool) → (cond b (use_proof (t.rounds r) (id_at t e.anchor).author) (t.rounds r)).peers ≡ (t.rounds r).peers
    same_peers r true = refl
    same_peers r false = refl

-- no proof of these anchors stands above x
abbrev Under : Store → ℕ → List EnqueuedAnchor → Type 0
Under s x [] = Unit {0}
Under s x (e ∷ es) = (round_at s e.proof ≤ x) × Under s x es

marked_all : (s t : Store) (x : ℕ) (es : List EnqueuedAnchor) → Marked s t x → Under s x es → Marked s (supposed t es) x
unfolding supposed
marked_all s t x [] m u = m
marked_all s t x (e ∷ es) m (l, u) = marked_all s (dequeued t e) x es (marked_more s t x e m l) u

under_more : (s : Store) (x y : ℕ) (es : List EnqueuedAnchor) (e : EnqueuedAnchor) → x ≤ y → Under s x es → round_at s e.proof ≤ y → Under s y (es ++ (e ∷ []))
under_more s x y [] e l u h = (h, tt)
under_more s x y (f ∷ es) e l (g, u) h = (omega arith, under_more s x y es e l u h)

under-less : (s : Store) (x y : ℕ) (es : List EnqueuedAnchor) → x ≤ y → Under s x es → Under s y es
under-less s x y [] l u = tt
under-less s x y (e ∷ es) l (h, u) = (omega arith, under-less s x y es l u)

-- a walk's proofs stand no higher than its rounds
adds-under : (s : Store) (w k : ℕ) (i : Id) (l : List EnqueuedAnchor) → Adds s w k i l → Under s (w + k) l
adds-under s w zero i l h = subst (Under s (w + 0)) (sym (adds_none s w i l h)) tt
adds-under s w (suc k) i l h = go (step s w k i l h) (adds-under s w k)
  where
    go : Step s w k i l → ((i : Id) (l : List EnqueuedAnchor) → Adds s w k i l → Under s (w + k) l) → Under s (w + suc k) l
    go (lower x g) r = under-less s (w + k) (w + suc k) l (omega arith) (r i l g)
    go (stays x u e) r = subst (Under s (w + suc k)) (sym e) tt
    go (yields x u p d a v t j y m e g) r = subst (Under s (w + suc k)) (sym e)
        (under_more s (w + k) (w + suc k) m (enqueued s p a) (omega arith) (r _ m g) (let o : round_at s p ≡ i.round = ap (λ (z : Id). z.round) (find-some s i p v.found).is in omega arith))

-- what a walk reads of a store with marks
module _ (s t : Store) (x : ℕ) (m : Marked s t x) where
  find-marked : (i : Id) → find t i ≡ find s i
  unfolding find is_named
  find-marked i = λ k. lowest (m.places k) (λ q. m.named q k && same_id (m.ids q k) i)

  done-marked : (q : ℕ) → resolved (t.pt q) ≡ resolved (s.pt q)
  unfolding resolved
  done-marked q = λ k. m.named q k && ltb 0 (m.resolutions q k).status

  previous-marked : (q : ℕ) → previous (t.pt q) ≡ previous (s.pt q)
  previous-marked q = λ k. under (m.ids q k).author (m.resolutions q k).includes

  valid-marked : (i : Id) (q : ℕ) → Valid s i q → Valid t i q
  valid-marked i q v = record {
    found = find-marked i ∙ v.found;
    done = done-marked q ∙ v.done;
    is_valid = ap (λ (z : Resolution). z.status) (m.resolutions q) ∙ v.is_valid;
  }

-- ---- two walks

-- the oldest anchor's top proof, or the proof itself if there is no anchor, isn't above x
abbrev Oldest : ℕ → Id → List EnqueuedAnchor → Type 0
Oldest x j [] = j.round ≤ x
Oldest x j (e ∷ es) = e.prev_proof_round ≤ x

oldest_more : (x : ℕ) (i j : Id) (l : List EnqueuedAnchor) (e : EnqueuedAnchor) → e.prev_proof_round ≡ i.round → Oldest x i l → Oldest x j (l ++ (e ∷ []))
oldest_more x i j [] e h o = omega arith
oldest_more x i j (f ∷ l) e h o = o

oldest_linked : (x : ℕ) (j : Id) (l : List EnqueuedAnchor) → Oldest x j l → unlinked x l ≡ false
unfolding unlinked
oldest_linked x j [] o = refl
oldest_linked x j (e ∷ l) o = le-ltb x e.prev_proof_round o

-- A walk from i, round x = w + suc h, found the anchors l; t has their marks, with i's author in the used mark of x. Every walk of s that
-- seeks i finds l and then what the same walk of t finds down to x.
module _ (s t : Store) (w h : ℕ) (i : Id) (l : List EnqueuedAnchor) (at : i.round ≡ w + suc h) (walked : Adds s w (suc h) i l) (m : Marked s t (w + suc h)) (used : (t.rounds (w + suc h)).used ≡ some i.author) where
  abbrev Splits : ℕ → Id → List EnqueuedAnchor → Type 0
  Splits k j es = (fs : List EnqueuedAnchor) × (es ≡ l ++ fs) × Adds t (w + suc h) k j fs × Oldest (w + suc h) j fs

  here : (j : Id) (es : List EnqueuedAnchor) → Adds s w (suc h) j es → i ≡ j → Splits zero j es
  unfolding walk
  here j es f e = (
    [],
    adds_same s w (suc h) i es l (subst (λ (z : Id). Adds s w (suc h) z es) (sym e) f) walked ∙ sym (append-nil l),
    (λ acc. visit_back t (w + suc h) true _ j acc acc (used_up (ap (λ (z : Id). z.round) (sym e) ∙ at) (used ∙ ap (λ (z : Id). some z.author) e) refl)),
    let o : j.round ≡ i.round = ap (λ (z : Id). z.round) (sym e) in omega arith,
  )

  pub split : (k : ℕ) (j : Id) (es : List EnqueuedAnchor) → Adds s w (k + suc h) j es → Memᴰ i (sought s j es) → Splits k j es
  split zero j es f n =
      let g : Adds s w (suc h) j es = subst (λ z. Adds s w z j es) (zero-add (suc h)) f in
      ⊎_elim
      (here j es g)
      (λ o. absurd (let b : i.round ≤ w + h = next_low s w h (sought_low s w h) j es (step s w h j es g) i o in omega arith))
      (Memᴰ.cases_cons n)
  split (suc k) j es f n = go (step s w (k + suc h) j es (subst (λ z. Adds s w z j es) (suc-add k (suc h)) f)) (split k)
    where
      high : w + suc (k + suc h) ≡ (w + suc h) + suc k
      high = omega arith

      go : Step s w (k + suc h) j es → ((j : Id) (es : List EnqueuedAnchor) → Adds s w (k + suc h) j es → Memᴰ i (sought s j es) → Splits k j es) → Splits (suc k) j es
      go (lower x g) r = let (fs, e, b, o) = r j es g n in (fs, e, step_back t (w + suc h) k j fs (lower (subst (λ z. j.round < z) high x) b), o)
      go (stays x u e) r =
          ⊎_elim
          (λ o. absurd (let b : i.round ≡ j.round = ap (λ (z : Id). z.round) o in omega arith))
          (λ o. absurd (Memᴰ.not-nil (subst (λ (z : List EnqueuedAnchor). Memᴰ i (map (top_proof_of s) z)) e o)))
          (Memᴰ.cases_cons n)
      go (yields x u p d a v pr pd y ms e g) r =
          ⊎_elim
          (λ o. absurd (let b : i.round ≡ j.round = ap (λ (z : Id). z.round) o in omega arith))
          (λ o. on (r (s.pt a).resolution.top_proof ms g (sought-next s (enqueued s p a) ms i (subst (λ (z : List EnqueuedAnchor). Memᴰ i (map (top_proof_of s) z)) e o))))
          (Memᴰ.cases_cons n)
        where
          on : Splits k (s.pt a).resolution.top_proof ms → Splits (suc k) j es
          on (fs, f, b, o) = (
            fs ++ (enqueued s p a ∷ []),
            e ∙ (ap (λ (z : List EnqueuedAnchor). z ++ (enqueued s p a ∷ [])) f ∙ append_assoc l fs (enqueued s p a ∷ [])),
            step_back t (w + suc h) k j (fs ++ (enqueued s p a ∷ [])) (yields
                (x ∙ high)
                (subst (λ z. (t.rounds z).used ≡ none) high (m.above (w + suc (k + suc h)) (omega arith) ∙ u))
                p d a
                (valid-marked s t (w + suc h) m j p v)
                (ap (λ (z : Resolution). z.proof) (m.resolutions p) ∙ pr)
                (previous-marked s t (w + suc h) m p ∙ pd)
                (subst (λ (z : Id). Valid t z a) (λ k. record { round = prev (high k); author = (sym (m.ids p) k).author; digest = d }) (valid-marked s t (w + suc h) m _ a y))
                fs
                (ap (λ (z : Resolution). fs ++ (record { anchor = a; proof = p; prev_proof_round = z.top_proof.round } ∷ [])) (sym (m.resolutions a)))
                (subst (λ (z : Resolution). Adds t (w + suc h) k z.top_proof fs) (sym (m.resolutions a)) b)),
            oldest_more (w + suc h) (s.pt a).resolution.top_proof j fs (enqueued s p a) refl o,
          )

-- ---- two chains

-- a walk of suc h rounds above w that begins at the highest and finds anchors: the last one's proof is the one sought first
record Begins (s : Store) (w h : ℕ) (i : Id) (l : List EnqueuedAnchor) : Type 0 where
  pub proof : ℕ
  pub anchor : ℕ
  pub proof_is : id_at s proof ≡ i
  pub author_is : (id_at s anchor).author ≡ i.author
  pub older : List EnqueuedAnchor
  pub last_is : l ≡ older ++ (enqueued s proof anchor ∷ [])
  pub low : Under s (w + h) older

begins : (s : Store) (w k : ℕ) (i : Id) (l : List EnqueuedAnchor) → i.round ≡ w + k → (l ≡ [] → ⊥) → Adds s w k i l → (h : ℕ) × (k ≡ suc h) × Begins s w h i l
begins s w zero i l at found f = absurd (found (adds_none s w i l f))
begins s w (suc k) i l at found f = (k, refl, go (step s w k i l f))
  where
    go : Step s w k i l → Begins s w k i l
    go (lower x g) = absurd (omega arith)
    go (stays x u e) = absurd (found e)
    go (yields x u p d a v t j y m e g) = record {
      proof = p;
      anchor = a;
      proof_is = (find-some s i p v.found).is;
      author_is = ap (λ (z : Id). z.author) (find-some s _ a y.found).is ∙ ap (λ (z : Id). z.author) (find-some s i p v.found).is;
      older = m;
      last_is = e;
      low = adds-under s w k _ m g;
    }

-- what its anchors leave: the last proof, its used mark, and no other used mark above
record Leaves (s t : Store) (x : ℕ) (i : Id) : Type 0 where
  pub last : t.progress.last_proof ≡ some x
  pub used : (t.rounds x).used ≡ some i.author
  pub marked : Marked s t x

leaves : (s : Store) (w h : ℕ) (i : Id) (l : List EnqueuedAnchor) → i.round ≡ w + suc h → Begins s w h i l → Leaves s (supposed s l) (w + suc h) i
unfolding supposed dequeued use_proof
leaves s w h i l at b = subst (λ (z : Store). Leaves s z (w + suc h) i) (sym whole) (record { last = lasts; used = uses; marked = marks })
  where
    e : EnqueuedAnchor
    e = enqueued s b.proof b.anchor

    u : Store
    u = supposed s b.older

    whole : supposed s l ≡ dequeued u e
    whole = ap (supposed s) b.last_is ∙ supposed-append s b.older (e ∷ [])

    before : Marked s u (w + suc h)
    before = marked_all s s (w + suc h) b.older (marked-none s (w + suc h)) (under-less s (w + h) (w + suc h) b.older (omega arith) b.low)

    round_is : round_at u b.proof ≡ w + suc h
    round_is = ap (λ (z : Id). z.round) (before.ids b.proof ∙ b.proof_is) ∙ at

    author_of : (id_at u b.anchor).author ≡ i.author
    author_of = ap (λ (z : Id). z.author) (before.ids b.anchor) ∙ b.author_is

    marks : Marked s (dequeued u e) (w + suc h)
    marks = marked_more s u (w + suc h) e before (let o : round_at s b.proof ≡ i.round = ap (λ (z : Id). z.round) b.proof_is in omega arith)

    lasts : (dequeued u e).progress.last_proof ≡ some (w + suc h)
    lasts = ap some round_is

    uses : ((dequeued u e).rounds (w + suc h)).used ≡ some i.author
    uses = ap (λ c. (cond c (use_proof (u.rounds (w + suc h)) (id_at u b.anchor).author) (u.rounds (w + suc h))).used) (eq-eqb (w + suc h) (round_at u b.proof) (sym round_is)) ∙ ap some author_of

no_three : (a b c : Bool) → a ≡ false → b ≡ false → c ≡ false → (a || (b || c)) ≡ false
no_three a b c x y z = rw (x, y, z) refl

-- a trigger's round is above the lowest walked
past : (s : Store) (q : ℕ) (l : List EnqueuedAnchor) → Chained s q l → lowest_walked s < round_at s q
past s q l c = leb-false _ _ (or_none (eqb (round_at s q) s.conf.genesis) _ (or_none (not (s.pt q).resolution.trigger) _ c.goes_on).1).1

-- the walk of a trigger
chain-adds : (s : Store) (q : ℕ) (l : List EnqueuedAnchor) (c : Chained s q l) → Adds s (lowest_walked s) (prev (round_at s q) - lowest_walked s) (previous_id s q c.digest) l
chain-adds s q l c = let (m, e, g) = walk-adds s (lowest_walked s) (prev (round_at s q) - lowest_walked s) (previous_id s q c.digest) [] l c.walked in subst (Adds s (lowest_walked s) (prev (round_at s q) - lowest_walked s) (previous_id s q c.digest)) (sym (append-nil m) ∙ sym e) g

-- a chain that found an anchor begins above the lowest round
chain-begins : (s : Store) (p : ℕ) (l : List EnqueuedAnchor) (c : Chained s p l) → (l ≡ [] → ⊥)
    → (h : ℕ) × (prev (round_at s p) ≡ lowest_walked s + suc h) × Begins s (lowest_walked s) h (previous_id s p c.digest) l × Adds s (lowest_walked s) (suc h) (previous_id s p c.digest) l
chain-begins s p l c found =
    let f = chain-adds s p l c in
    let at : prev (round_at s p) ≡ lowest_walked s + (prev (round_at s p) - lowest_walked s) = omega (arith, past s p l c) in
    let (h, k, b) = begins s (lowest_walked s) (prev (round_at s p) - lowest_walked s) (previous_id s p c.digest) l at found f in
    (h, at ∙ ap (λ z. lowest_walked s + z) k, b, subst (λ z. Adds s (lowest_walked s) z (previous_id s p c.digest) l) k f)

-- an id has one place, and its point one previous id
previous-same : (s : Store) (i : Id) (p q d e : ℕ) → find s i ≡ some p → find s i ≡ some q → previous (s.pt p) ≡ some d → previous (s.pt q) ≡ some e → previous_id s p d ≡ previous_id s q e
previous-same s i p q d e a b c f =
    let x : p ≡ q = some-injective p q (sym a ∙ b) in
    let y : d ≡ e = some-injective d e (sym c ∙ (ap (λ z. previous (s.pt z)) x ∙ f)) in
    λ k. previous_id s (x k) (y k)

-- a valid trigger with the previous point of another, whose chain finds anchors l: so does its own
fires-alike : (s : Store) → Wf s → (T : Id) (p q d : ℕ) (l : List EnqueuedAnchor) (c : Chained s p l) → lowest_walked s < prev (round_at s p)
    → find s T ≡ some q → status_at s q ≡ 1 → (s.pt q).resolution.trigger ≡ true → previous (s.pt q) ≡ some d → previous_id s p c.digest ≡ previous_id s q d → Fires s T l
unfolding is_peer resolved
fires-alike s w T p q d l c high f v t e same = record {
  author_ok = lt-leb 32 T.author (ltb-true _ _ (and_l _ _ peer));
  not_low = le-ltb T.round s.bottom (subst (λ (z : Id). s.bottom ≤ z.round) x.is (w.kept q x.named).0);
  not_high = le-ltb s.top T.round (subst (λ (z : Id). z.round ≤ s.top) x.is (w.kept q x.named).1);
  peer_ok = ap not peer;
  place = q;
  found = f;
  done = both x.named (rw v refl);
  is_valid = v;
  chained = record {
    goes_on = no_three _ _ _ (ap not t) (ap (λ n. eqb n s.conf.genesis) rounds ∙ (or_none _ _ (or_none (not (s.pt p).resolution.trigger) _ c.goes_on).1).0) (lt-leb (round_at s q) (lowest_walked s) (omega (arith, high, rounds)));
    digest = d;
    has_previous = e;
    walked = subst (λ (z : Id). walk s (lowest_walked s) (z.round - lowest_walked s) z [] ≡ good l) same c.walked;
    linked = c.linked;
  };
}
  where
    x : Found s T q
    x = find-some s T q f

    peer : is_peer s T ≡ true
    peer = subst (λ (z : Id). is_peer s z ≡ true) x.is (w.peer q x.named)

    rounds : round_at s q ≡ round_at s p
    rounds = let o : prev (round_at s p) ≡ prev (round_at s q) = ap (λ (z : Id). z.round) same in omega arith

no_good : {A : Type 0} (x : A) (l : List A) → ◌≡◌ {A = Out (List A)} (good (x ∷ l)) (good []) → ⊥
no_good x l h = nil≢cons (sym (good-same (x ∷ l) [] h))

-- a trigger of s, in a store with marks whose last proof stands at x, with the anchors that its walk finds down to x
fires-marked : (s t : Store) (x : ℕ) → Marked s t x → t.progress.last_proof ≡ some x → s.bottom ≤ x → (T : Id) (m : List EnqueuedAnchor) (f : Fires s T m) → x ≤ prev (round_at s f.place) → (fs : List EnqueuedAnchor)
    → Adds t x (prev (round_at s f.place) - x) (previous_id s f.place f.chained.digest) fs → Oldest x (previous_id s f.place f.chained.digest) fs → Fires t T fs
unfolding is_peer or_zero
fires-marked s t x m last low T es f high fs g o = record {
  author_ok = f.author_ok;
  not_low = ap (λ n. ltb T.round n) m.bottom ∙ f.not_low;
  not_high = ap (λ n. ltb n T.round) m.top ∙ f.not_high;
  peer_ok = ap (λ n. not (ltb T.author 32 && member n T.author)) (m.peers T.round) ∙ f.peer_ok;
  place = f.place;
  found = find-marked s t x m T ∙ f.found;
  done = done-marked s t x m f.place ∙ f.done;
  is_valid = ap (λ (z : Resolution). z.status) (m.resolutions f.place) ∙ f.is_valid;
  chained = record {
    goes_on = no_three _ _ _
        (ap (λ (z : Resolution). not z.trigger) (m.resolutions f.place) ∙ (or_none (not (s.pt f.place).resolution.trigger) _ f.chained.goes_on).0)
        ((λ k. eqb (m.ids f.place k).round (m.conf k).genesis) ∙ (or_none (eqb (round_at s f.place) s.conf.genesis) _ (or_none (not (s.pt f.place).resolution.trigger) _ f.chained.goes_on).1).0)
        (lt-leb (round_at t f.place) (lowest_walked t) above);
    digest = f.chained.digest;
    has_previous = previous-marked s t x m f.place ∙ f.chained.has_previous;
    walked = rw (low_is, ap (λ (z : Id). z.round) (m.ids f.place), ap (λ (z : Id). z.author) (m.ids f.place)) (g [] ∙ ap good (append-nil fs));
    linked = rw low_is (oldest_linked x (previous_id s f.place f.chained.digest) fs o);
  };
}
  where
    low_is : lowest_walked t ≡ x
    low_is = (λ k. max (or_zero (last k)) (m.bottom k)) ∙ larger x s.bottom low
      where
        larger : (a b : ℕ) → b ≤ a → max a b ≡ a
        larger a b l = omega arith

    above : lowest_walked t < round_at t f.place
    above = let a : lowest_walked t ≡ x = low_is in let b : round_at t f.place ≡ round_at s f.place = ap (λ (z : Id). z.round) (m.ids f.place) in omega (arith, past s f.place es f.chained)

-- a chain that passes the proof with which another began
splits : (s : Store) (p : ℕ) (l : List EnqueuedAnchor) (c : Chained s p l) → (l ≡ [] → ⊥) → (T : Id) (es : List EnqueuedAnchor) (f : Fires s T es)
    → Memᴰ (previous_id s p c.digest) (sought s (previous_id s f.place f.chained.digest) es) → (fs : List EnqueuedAnchor) × (es ≡ l ++ fs) × Fires (supposed s l) T fs
splits s p l c found T es f n = go (chain-begins s p l c found)
  where
    q : ℕ
    q = f.place

    j : Id
    j = previous_id s f.place f.chained.digest

    g : Adds s (lowest_walked s) (prev (round_at s f.place) - lowest_walked s) (previous_id s f.place f.chained.digest) es
    g = chain-adds s f.place es f.chained

    within : (w r x : ℕ) → w < r → x ≤ w + (prev r - w) → x ≤ prev r
    within w r x a b = omega arith

    more : (w h r : ℕ) → w + suc h ≤ r → r - w ≡ (r - (w + suc h)) + suc h
    more w h r l = omega arith

    go : (h : ℕ) × (prev (round_at s p) ≡ lowest_walked s + suc h) × Begins s (lowest_walked s) h (previous_id s p c.digest) l × Adds s (lowest_walked s) (suc h) (previous_id s p c.digest) l
        → (fs : List EnqueuedAnchor) × (es ≡ l ++ fs) × Fires (supposed s l) T fs
    go (h, at, b, walked) =
        let x = lowest_walked s + suc h in
        let lv : Leaves s (supposed s l) x (previous_id s p c.digest) = leaves s (lowest_walked s) h (previous_id s p c.digest) l at b in
        let low : prev (round_at s p) ≤ lowest_walked s + (prev (round_at s q) - lowest_walked s) = sought_low s (lowest_walked s) _ j es g (previous_id s p c.digest) n in
        let high : x ≤ prev (round_at s q) = within (lowest_walked s) (round_at s q) x (past s q es f.chained) (subst (λ z. z ≤ lowest_walked s + (prev (round_at s q) - lowest_walked s)) at low) in
        let (fs, e, a, o) = split s (supposed s l) (lowest_walked s) h (previous_id s p c.digest) l at walked lv.marked lv.used (prev (round_at s q) - x) j es (subst (λ z. Adds s (lowest_walked s) z j es) (more (lowest_walked s) h (prev (round_at s q)) high) g) n in
        (fs, e, fires-marked s (supposed s l) x lv.marked lv.last (omega arith) T es f high fs a o)

-- S's chain found an anchor: T's is a trigger's that passes all tests up to its chain
later_fires : (s : Store) → Wf s → (S T : Id) (e : EnqueuedAnchor) (es : List EnqueuedAnchor) (f : Fires s S (e ∷ es)) → (h : Passes s S T) → previous_id s f.place f.chained.digest ≡ previous_id s h.first h.digest_first
    → (c : List EnqueuedAnchor) → h.chain ≡ c → Fires s T c
later_fires s w S T e es f h same (x ∷ xs) k = fires s T x xs (h.yields ∙ ap good k)
later_fires s w S T e es f h same [] k = absurd (no_good e es (sym (fires_back s T (e ∷ es) alike) ∙ (h.yields ∙ ap good k)))
  where
    is : previous_id s h.first h.digest_first ≡ previous_id s h.later h.digest_later
    is = Memᴰ.eq_of_singleton (subst (λ (z : List EnqueuedAnchor). Memᴰ (previous_id s h.first h.digest_first) (sought s (previous_id s h.later h.digest_later) z)) k h.passes)

    high : lowest_walked s < prev (round_at s f.place)
    high = let (n, at, b, a) = chain-begins s f.place (e ∷ es) f.chained (λ d. nil≢cons (sym d)) in omega (arith, at)

    alike : Fires s T (e ∷ es)
    alike = fires-alike s w T f.place h.later h.digest_later (e ∷ es) f.chained high h.found_later h.is_valid h.is_trigger h.previous_later (same ∙ is)

-- the chain of T alone is that of S, then that of T after S
pub chain_splits : (s : Store) → Wf s → (S T : Id) (es : List EnqueuedAnchor) → anchors_of s S ≡ good es → Passes s S T → (fs gs : List EnqueuedAnchor) → anchors_of (supposed s es) T ≡ good fs → anchors_of s T ≡ good gs → es ++ fs ≡ gs
unfolding supposed
chain_splits s w S T [] u h fs gs v a = good-same fs gs (sym v ∙ a)
chain_splits s w S T (e ∷ es) u h fs gs v a = go (splits s f.place (e ∷ es) f.chained (λ d. nil≢cons (sym d)) T h.chain g at)
  where
    f : Fires s S (e ∷ es)
    f = fires s S e es u

    same : previous_id s f.place f.chained.digest ≡ previous_id s h.first h.digest_first
    same = previous-same s S _ _ _ _ f.found h.found_first f.chained.has_previous h.previous_first

    g : Fires s T h.chain
    g = later_fires s w S T e es f h same h.chain refl

    at : Memᴰ (previous_id s f.place f.chained.digest) (sought s (previous_id s g.place g.chained.digest) h.chain)
    at = subst₂ (λ (x y : Id). Memᴰ x (sought s y h.chain)) (sym same) (previous-same s T _ _ _ _ h.found_later g.found h.previous_later g.chained.has_previous) h.passes

    go : (ls : List EnqueuedAnchor) × (h.chain ≡ (e ∷ es) ++ ls) × Fires (supposed s (e ∷ es)) T ls → (e ∷ es) ++ fs ≡ gs
    go (ls, k, r) = ap (λ (z : List EnqueuedAnchor). (e ∷ es) ++ z) (good-same fs ls (sym v ∙ fires_back (supposed s (e ∷ es)) T ls r)) ∙ (sym k ∙ good-same h.chain gs (sym h.yields ∙ a))
