-- What the loops pass, as the lists of 01.
use Rattle.std.specs.Prelude.{ℕ, zero, suc, ◌+◌, ◌*◌, ◌≤◌, ◌<◌, ◌≡◌, refl, List, [], ◌∷◌, ◌++◌, map, Bool, true, length, get_or}
use Rattle.std.proofs.Common.{sym, ap, ap₂, ◌∙◌, append-nil, append_assoc, arith, length-append}
use Rattle.std.proofs.lemmas.List.{map-append}
use Rattle.laws.specs.Test.{by_test}
use Rattle.laws.specs.Lists.{joined, joined-append, keep, keep_append, up_to}
use Rattle.models.specs.Tables.{place_at}
use Rattle.back_history.specs.Refines.{one, picked}
use Rattle.inspector_events.specs.Told.{one_if, passing}

-- the lists matter only below n
pub upto_same : {A : Type 0} (n : ℕ) (f g : ℕ → List A) → ((i : ℕ) → i < n → f i ≡ g i) → up_to n f ≡ up_to n g
unfolding up_to
upto_same zero f g h = refl
upto_same (suc n) f g h = ap₂ ◌++◌ (upto_same n f g (λ i l. h i (omega arith))) (h n (omega arith))

-- the first list first
pub upto_front : {A : Type 0} (n : ℕ) (f : ℕ → List A) → up_to (suc n) f ≡ f 0 ++ up_to n (λ i. f (suc i))
unfolding up_to
upto_front zero f = sym (append-nil (f 0))
upto_front (suc n) f = ap (λ z. z ++ f (suc n)) (upto_front n f) ∙ append_assoc (f 0) (up_to n (λ i. f (suc i))) (f (suc n))

-- a list, element by element
upto_each : {A : Type 0} (z : A) (l : List A) → up_to (length l) (λ i. get_or l i z ∷ []) ≡ l
unfolding up_to
upto_each z [] = refl
upto_each z (x ∷ xs) = upto_front (length xs) (λ i. get_or (x ∷ xs) i z ∷ []) ∙ ap (λ l. x ∷ l) (upto_each z xs)

-- those that pass, list by list
upto_keep : {A : Type 0} (h : A → Bool) (n : ℕ) (f : ℕ → List A) → keep h (up_to n f) ≡ up_to n (λ i. keep h (f i))
unfolding up_to keep
upto_keep h zero f = refl
upto_keep h (suc n) f = keep_append h (up_to n f) (f n) ∙ ap (λ z. z ++ keep h (f n)) (upto_keep h n f)

upto_map : {A B : Type 0} (f : A → B) (n : ℕ) (g : ℕ → List A) → map f (up_to n g) ≡ up_to n (λ i. map f (g i))
unfolding up_to
upto_map f zero g = refl
upto_map f (suc n) g = map-append f (up_to n g) (g n) ∙ ap (λ z. z ++ map f (g n)) (upto_map f n g)

-- one image after another
pub map-twice : {A B C : Type 0} (g : B → C) (f : A → B) (l : List A) → map g (map f l) ≡ map (λ a. g (f a)) l
map-twice g f [] = refl
map-twice g f (x ∷ xs) = ap (λ l. g (f x) ∷ l) (map-twice g f xs)

-- the image of one that may pass
one_image : {A B : Type 0} (h : A → Bool) (f : A → B) (a : A) → map f (keep h (a ∷ [])) ≡ one_if (h a) (f a)
unfolding keep one_if
one_image h f a = by_test (h a) (λ t. rw t refl) (λ e. rw e refl)

-- over places that hold the elements of a list: those that pass, in their order
pub passing-keep : {E A : Type 0} (z : E) (n : ℕ) (g : ℕ → ℕ) (t : ℕ → Bool) (x : ℕ → A) (h : E → Bool) (f : E → A) (l : List E) → length l ≡ n
    → ((k : ℕ) → k < n → t (g k) ≡ h (get_or l k z)) → ((k : ℕ) → k < n → h (get_or l k z) ≡ true → x (g k) ≡ f (get_or l k z)) → passing n g t x ≡ map f (keep h l)
unfolding passing one_if
passing-keep z n g t x h f l e p q =
    upto_same n (λ j. one_if (t (g j)) (x (g j))) (λ j. map f (keep h (get_or l j z ∷ []))) same
    ∙ (sym (upto_map f n (λ j. keep h (get_or l j z ∷ [])))
    ∙ (ap (map f) (sym (upto_keep h n (λ j. get_or l j z ∷ [])) ∙ ap (keep h) (ap (λ m. up_to m (λ j. get_or l j z ∷ [])) (sym e) ∙ upto_each z l))))
  where
    same : (k : ℕ) → k < n → one_if (t (g k)) (x (g k)) ≡ map f (keep h (get_or l k z ∷ []))
    same k b =
        by_test (h (get_or l k z))
        (λ y. ap (λ c. one_if c (x (g k))) (p k b ∙ y) ∙ (ap (λ c. c ∷ []) (q k b y) ∙ (ap (λ c. one_if c (f (get_or l k z))) (sym y) ∙ sym (one_image h f (get_or l k z)))))
        (λ y. ap (λ c. one_if c (x (g k))) (p k b ∙ y) ∙ (ap (λ c. one_if c (f (get_or l k z))) (sym y) ∙ sym (one_image h f (get_or l k z))))

-- over positions of the order: the places picked
pub passing-picked : {A : Type 0} (os : List ℕ) (t : ℕ → Bool) (x : ℕ → A) (low k : ℕ) → passing k (λ j. place_at os (low + j)) t x ≡ map x (picked os t low k)
unfolding passing picked one one_if up_to
passing-picked os t x low zero = refl
passing-picked os t x low (suc k) =
    ap (λ z. z ++ one_if (t (place_at os (low + k))) (x (place_at os (low + k)))) (passing-picked os t x low k)
    ∙ (ap (λ z. map x (picked os t low k) ++ z) (by_test (t (place_at os (low + k))) (λ y. rw y refl) (λ y. rw y refl))
    ∙ sym (map-append x (picked os t low k) (one (t (place_at os (low + k))) (place_at os (low + k)))))

-- ---- sizes

-- n lists of at most c bytes, or things, each
pub upto_bytes : {A : Type 0} (enc : A → List ℕ) (c n : ℕ) (f : ℕ → List A) → ((i : ℕ) → i < n → length (joined enc (f i)) ≤ c) → length (joined enc (up_to n f)) ≤ n * c
unfolding up_to joined
upto_bytes enc c zero f h = omega arith
upto_bytes enc c (suc n) f h =
    let r = upto_bytes enc c n f (λ i l. h i (omega arith)) in
    let a = h n (omega arith) in
    let e = ap length (joined-append enc (up_to n f) (f n)) ∙ length-append (joined enc (up_to n f)) (joined enc (f n)) in
    omega (arith, r, a, e)

pub upto_few : {A : Type 0} (c n : ℕ) (f : ℕ → List A) → ((i : ℕ) → i < n → length (f i) ≤ c) → length (up_to n f) ≤ n * c
unfolding up_to
upto_few c zero f h = omega arith
upto_few c (suc n) f h =
    let r = upto_few c n f (λ i l. h i (omega arith)) in
    let a = h n (omega arith) in
    omega (arith, r, a, length-append (up_to n f) (f n))
