-- Things sent as bytes one after another, and their number: the state of every emitting loop.
use Rattle.std.specs.Prelude.{ℕ, zero, suc, ◌+◌, ◌≤◌, ◌<◌, ◌≡◌, refl, Bool, true, false, cond, length}
use Rattle.std.proofs.Common.{sym, ap, ◌∙◌, add-one, length-append}
use Rattle.std.proofs.Math.Path.{subst}
use mathlib.Core.List.{List, [], ◌∷◌, ◌++◌, append-nil, append_assoc}
use native.Mathlib.Omega.{arith}
use Rattle.laws.specs.Test.{by_test, same_or}
use Rattle.laws.specs.Scan.{those}
use Rattle.laws.specs.Lists.{joined, joined-append, up_to}
use Rattle.answer_bytes.specs.Sent.{Room, Sent, sent_none, sent_then, sent_length}
use Rattle.inspector_events.specs.declared.emitted.Emitted.{Emitted}

-- the bytes of xs were sent from e on: r is where they end, b' the buffer after it
pub record Told {A : Type 0} (enc : A → List ℕ) (w : Bool) (b : List ℕ) (e : Emitted) (xs : List A) (r : Emitted) (b' : List ℕ) : Type 0 where
  pub sent : Sent w b e.at (joined enc xs) r.at b'
  pub number : r.count ≡ e.count + length xs

-- there is room for these bytes, and offsets stay small
pub record Open (w : Bool) (b : List ℕ) (at : ℕ) (xs : List ℕ) : Type 0 where
  pub room : Room w b at (length xs)
  pub near : at + length xs ≤ 1_099_511_627_776

-- for those of xs, and their number stays small
pub record Ready {A : Type 0} (enc : A → List ℕ) (w : Bool) (b : List ℕ) (e : Emitted) (xs : List A) : Type 0 where
  pub bytes : Open w b e.at (joined enc xs)
  pub few : e.count + length xs ≤ 1_099_511_627_776

-- x, if the test passes
unfoldable pub one_if : {A : Type 0} → Bool → A → List A
one_if t x = cond t (x ∷ []) []

-- of the first n places, g 0, g 1, .., the things of those that pass
unfoldable pub passing : {A : Type 0} → ℕ → (ℕ → ℕ) → (ℕ → Bool) → (ℕ → A) → List A
passing n g t x = up_to n (λ j. one_if (t (g j)) (x (g j)))

-- ---- bytes

module _ (w : Bool) (b : List ℕ) (at : ℕ) where
  -- there is room for n of them
  pub open_all : (xs : List ℕ) (n : ℕ) → length xs ≡ n → Open w b at xs → Room w b at n × (at ≤ 1_099_511_627_776)
  open_all xs n h o = ((λ t. let a = o.room t in omega (arith, a, h)), let a = o.near in omega (arith, a))

  -- for the first run
  pub open_left : (xs ys : List ℕ) → Open w b at (xs ++ ys) → Open w b at xs
  open_left xs ys o =
      let l = length-append xs ys in
      record { room = λ t. let a = o.room t in omega (arith, a, l); near = let a = o.near in omega (arith, a, l) }

  pub open_first : (xs ys : List ℕ) (n : ℕ) → length xs ≡ n → Open w b at (xs ++ ys) → Room w b at n × (at ≤ 1_099_511_627_776)
  open_first xs ys n h o = open_all xs n h (open_left xs ys o)

  -- for what comes after it
  pub open_rest : (xs ys : List ℕ) (e : ℕ) (b₁ : List ℕ) → Sent w b at xs e b₁ → Open w b at (xs ++ ys) → Open w b₁ e ys
  open_rest xs ys e b₁ s o =
      let l = length-append xs ys in
      let n = s.next in
      let c = sent_length w b at xs e b₁ s in
      record { room = λ t. let a = o.room t in omega (arith, a, l, n, c); near = let a = o.near in omega (arith, a, l, n) }

-- ---- things

-- the lists of the numbers from k on
pub upto_split : {A : Type 0} (f : ℕ → List A) (k n : ℕ) → k < n → (zs : List A) × (up_to n f ≡ up_to k f ++ (f k ++ zs))
unfolding up_to
upto_split f k zero l = absurd (omega arith)
upto_split f k (suc n) l =
    same_or k n
    (λ e. ([], subst (λ m. up_to n f ++ f n ≡ up_to m f ++ (f m ++ [])) (sym e) (ap (λ z. up_to n f ++ z) (sym (append-nil (f n))))))
    (λ d. let (zs, h) = upto_split f k n (omega arith) in
    (zs ++ f n, ap (λ z. z ++ f n) h ∙ (append_assoc (up_to k f) (f k ++ zs) (f n) ∙ ap (λ z. up_to k f ++ z) (append_assoc (f k) zs (f n)))))

-- as many as pass
pub passing-count : {A : Type 0} (n : ℕ) (g : ℕ → ℕ) (t : ℕ → Bool) (x : ℕ → A) → length (passing n g t x) ≡ length (those n (λ j. t (g j)))
unfolding passing up_to one_if those
passing-count zero g t x = refl
passing-count (suc n) g t x =
    let r : length (passing n g t x) ≡ length (those n (λ j. t (g j))) = passing-count n g t x in
    by_test (t (g n))
    (λ y. rw y (length-append (passing n g t x) (x (g n) ∷ []) ∙ omega (arith, r)))
    (λ y. rw y (length-append (passing n g t x) [] ∙ omega (arith, r)))

-- the room for the first of two runs
pub ready_first : {A : Type 0} (enc : A → List ℕ) (w : Bool) (b : List ℕ) (e : Emitted) (xs ys : List A) → Ready enc w b e (xs ++ ys) → Ready enc w b e xs
ready_first enc w b e xs ys h = record {
  bytes = open_left w b e.at (joined enc xs) (joined enc ys) (subst (Open w b e.at) (joined-append enc xs ys) h.bytes);
  few = let a = h.few in omega (arith, a, length-append xs ys);
}

module _ {A : Type 0} (enc : A → List ℕ) (w : Bool) (b : List ℕ) (e : Emitted) where
  pub told_none : Told enc w b e [] e b
  unfolding joined
  told_none = record { sent = sent_none w b e.at; number = omega arith }

  -- one thing
  pub told-one : (x : A) (r : Emitted) (b' : List ℕ) → Sent w b e.at (enc x) r.at b' → r.count ≡ e.count + 1 → Told enc w b e (x ∷ []) r b'
  unfolding joined
  told-one x r b' s h = record { sent = subst (λ ys. Sent w b e.at ys r.at b') (sym (append-nil (enc x))) s; number = h }

  pub ready_one : (x : A) → Ready enc w b e (x ∷ []) → Open w b e.at (enc x) × (e.count < 1_099_511_627_776)
  unfolding joined
  ready_one x h = (subst (Open w b e.at) (append-nil (enc x)) h.bytes, let a = h.few in omega (arith, a))

  -- the buffer keeps its length
  pub told-length : (xs : List A) (r : Emitted) (b' : List ℕ) → Told enc w b e xs r b' → length b' ≡ length b
  told-length xs r b' t = sent_length w b e.at (joined enc xs) r.at b' t.sent

  -- one run after another
  pub told-then : (xs ys : List A) (m r : Emitted) (b₁ b₂ : List ℕ) → Told enc w b e xs m b₁ → Told enc w b₁ m ys r b₂ → Told enc w b e (xs ++ ys) r b₂
  told-then xs ys m r b₁ b₂ s t = record {
    sent = subst (λ zs. Sent w b e.at zs r.at b₂) (sym (joined-append enc xs ys)) (sent_then w b e.at (joined enc xs) (joined enc ys) m.at r.at b₁ b₂ s.sent t.sent);
    number = let c = t.number in let d = s.number in omega (arith, c, d, length-append xs ys);
  }

  -- the room for the second run
  pub ready_rest : (xs ys : List A) (m : Emitted) (b₁ : List ℕ) → Told enc w b e xs m b₁ → Ready enc w b e (xs ++ ys) → Ready enc w b₁ m ys
  ready_rest xs ys m b₁ s h = record {
    bytes = open_rest w b e.at (joined enc xs) (joined enc ys) m.at b₁ s.sent (subst (Open w b e.at) (joined-append enc xs ys) h.bytes);
    few = let a = h.few in let d = s.number in omega (arith, a, d, length-append xs ys);
  }

  -- ---- a loop over the numbers below n
  pub upto_none : (f : ℕ → List A) → Told enc w b e (up_to 0 f) e b
  unfolding up_to
  upto_none f = told_none

  module _ (f : ℕ → List A) (k : ℕ) (m : Emitted) (b₁ : List ℕ) (s : Told enc w b e (up_to k f) m b₁) where
    pub upto_end : (n : ℕ) → k ≡ n → Told enc w b e (up_to n f) m b₁
    upto_end n h = subst (λ i. Told enc w b e (up_to i f) m b₁) h s

    pub upto_more : (r r' : Emitted) (b₂ b₂' : List ℕ) → Told enc w b₁ m (f k) r b₂ → r' ≡ r → b₂' ≡ b₂ → Told enc w b e (up_to (k + 1) f) r' b₂'
    unfolding up_to
    upto_more r r' b₂ b₂' t i j =
        subst (λ z. Told enc w b e (up_to (k + 1) f) z b₂') (sym i)
        (subst (λ z. Told enc w b e (up_to (k + 1) f) r z) (sym j) (rw (add-one k) (told-then (up_to k f) (f k) m r b₁ b₂ s t)))

    upto_skip : (r : Emitted) (b₂ : List ℕ) → f k ≡ [] → r ≡ m → b₂ ≡ b₁ → Told enc w b e (up_to (k + 1) f) r b₂
    unfolding up_to
    upto_skip r b₂ h i j =
        rw (add-one k)
        (subst (λ zs. Told enc w b e zs r b₂) (sym (ap (λ z. up_to k f ++ z) h ∙ append-nil (up_to k f))) (subst (λ x. Told enc w b e (up_to k f) x b₂) (sym i) (subst (λ x. Told enc w b e (up_to k f) m x) (sym j) s)))

    pub upto_ready : (n : ℕ) → k < n → Ready enc w b e (up_to n f) → Ready enc w b₁ m (f k)
    upto_ready n l h =
        let (zs, q) = upto_split f k n l in
        ready_first enc w b₁ m (f k) zs (ready_rest (up_to k f) (f k ++ zs) m b₁ s (subst (Ready enc w b e) q h))

  -- ---- the same over places, with a test
  module _ (g : ℕ → ℕ) (t : ℕ → Bool) (x : ℕ → A) where
    pub passing-none : Told enc w b e (passing 0 g t x) e b
    unfolding passing
    passing-none = upto_none (λ j. one_if (t (g j)) (x (g j)))

    module _ (k : ℕ) (m : Emitted) (b₁ : List ℕ) (s : Told enc w b e (passing k g t x) m b₁) where
      pub passing_end : (n : ℕ) → k ≡ n → Told enc w b e (passing n g t x) m b₁
      passing_end n h = subst (λ i. Told enc w b e (passing i g t x) m b₁) h s

      module _ (q : ℕ) (at : q ≡ g k) (p : Bool) (is : p ≡ t q) where
        here : t (g k) ≡ p
        here = sym (is ∙ ap t at)

        pub passing-yes : (r r' : Emitted) (b₂ b₂' : List ℕ) → p ≡ true → Told enc w b₁ m (x q ∷ []) r b₂ → r' ≡ r → b₂' ≡ b₂ → Told enc w b e (passing (k + 1) g t x) r' b₂'
        unfolding passing one_if
        passing-yes r r' b₂ b₂' y d i j =
            upto_more (λ j. one_if (t (g j)) (x (g j))) k m b₁ s r r' b₂ b₂'
            (rw (here ∙ y) (subst (λ z. Told enc w b₁ m (x z ∷ []) r b₂) at d)) i j

        pub passing_no : (r : Emitted) (b₂ : List ℕ) → p ≡ false → r ≡ m → b₂ ≡ b₁ → Told enc w b e (passing (k + 1) g t x) r b₂
        unfolding passing one_if
        passing_no r b₂ y i j = upto_skip (λ j. one_if (t (g j)) (x (g j))) k m b₁ s r b₂ (rw (here ∙ y) refl) i j

        pub passing_ready : (n : ℕ) → k < n → p ≡ true → Ready enc w b e (passing n g t x) → Ready enc w b₁ m (x q ∷ [])
        unfolding passing one_if
        passing_ready n l y h = subst (λ z. Ready enc w b₁ m (x z ∷ [])) (sym at) (rw (here ∙ y) at (upto_ready (λ j. one_if (t (g j)) (x (g j))) k m b₁ s n l h))
