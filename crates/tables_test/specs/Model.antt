-- The whole test of the lent tables (01: 'Forms of the Rust', first point).
use Rattle.std.specs.Prelude.{ℕ, ◌+◌, ◌-◌, ◌*◌, ◌/◌, ◌%◌, ◌<◌, ◌≤◌, ◌≡◌, refl, List, Bool, true, false, not, ◌&&◌, length, eqb, leb, ltb}
use Rattle.std.proofs.Common.{sym, ◌∙◌, ap, ap₂, arith, add-zero, div-add-mod', mul-div_cancel, add-one, eqb-true, leb-true, ltb-true, eq-eqb, ne_eqb, le-ltb, lt-ltb}
use Rattle.std.proofs.Math.Nat.{mul-mod_left}
use Rattle.std.proofs.lemmas.Bool.{not-true, not-false}
use Rattle.laws.specs.Test.{same_or, and_l, and_r, and_no, and_yes}
use Rattle.spec.specs.Rules.{places_ok}
use Rattle.laws.specs.Scan.{every}
use Rattle.models.specs.Tables.{round_at, author_at, place_at, Inside}
use Rattle.commit_state.specs.declared.state.State.{State}
use Rattle.commit_state.specs.Numbers.{conf_holds, range_holds, used_hold, rounds_hold}
use Rattle.commit_state.specs.Memory.{memory_holds}
use Rattle.dag_round_keys.specs.Sorted.{is_inside, inside_is, is_sorted}
use Rattle.commit_state.specs.View.{record_of}
use Rattle.tables_ids.specs.Ids.{id_holds}
use Rattle.tables_ids.specs.Model.{versions_hold}
use Rattle.tables_links.specs.Links.{links_right, blank}
use Rattle.dag_round_order.specs.Marks.{marked}
use Rattle.tables_links.specs.Bare.{bare_at}
use Rattle.tables_links.specs.Words.{words_at}
use Rattle.models.specs.Live.{reach}
use Rattle.tables_heights.specs.Model.{heights_hold}

-- the tables have room for the same number of places
unfoldable pub shape : List ℕ → List ℕ → List ℕ → List ℕ → Bool
shape ks ls cs os = eqb (length ks) (length os * 8) && (eqb (length ls) (length os * 328) && eqb (length cs) (length os))

-- the numbers of the state, with n places, and the inspector's memory
unfoldable pub state_holds : State → ℕ → Bool
state_holds s n = eqb s.phase 1 && (places_ok n && (conf_holds s.commit_history_rounds s.deduplicate_rounds && (rounds_hold s && (leb s.count n && memory_holds s.memory))))

-- the used places and their order
unfoldable pub order_holds : State → List ℕ → List ℕ → Bool
order_holds s ks os = is_inside os s.count (length os) && (is_sorted ks os s.count && versions_hold ks os s.count)

-- what the place q holds: its id in the rounds from b to t with the peers of its round, its links by the marks ms of the used places, its
-- words
unfoldable pub place_ok : ℕ → ℕ → ℕ → List ℕ → List ℕ → List ℕ → List Bool → ℕ → ℕ → Bool
place_ok b t peers ks ls cs ms places q =
    id_holds (round_at ks q) (author_at ks q) b t peers && (links_right ks ls ms places q (reach b ks q) && (bare_at ks ls q && words_at ks ls cs q))

-- with the rounds of the state
abbrev pub ok_at : State → List ℕ → List ℕ → List ℕ → List Bool → ℕ → ℕ → Bool
ok_at s ks ls cs ms places q = place_ok s.bottom.0 s.top.0 (record_of s.rounds (round_at ks q)).peers ks ls cs ms places q

-- of every used place
unfoldable pub each_ok : State → List ℕ → List ℕ → List ℕ → List Bool → List ℕ → Bool
each_ok s ks ls cs ms os = every s.count (λ i. ok_at s ks ls cs ms (length os) (place_at os i))

unfoldable pub used_ok : State → List ℕ → List ℕ → List ℕ → List ℕ → Bool
used_ok s ks ls cs os = each_ok s ks ls cs (marked blank os s.count) os

-- what the used places hold
unfoldable pub points_hold : State → List ℕ → List ℕ → List ℕ → List ℕ → Bool
points_hold s ks ls cs os = used_ok s ks ls cs os && heights_hold s.bottom.0 (s.commit_history_rounds + 1) ks ls cs os s.count

unfoldable pub tested : State → List ℕ → List ℕ → List ℕ → List ℕ → Bool
tested s ks ls cs os = shape ks ls cs os && (state_holds s (length os) && (order_holds s ks os && points_hold s ks ls cs os))

-- ---- a chain of tests, each made by a call with the answer r

-- it ends here
pub chain_no : (a b r : Bool) → r ≡ a → not r ≡ true → false ≡ (a && b)
chain_no a b r e h = sym (and_no b (sym e ∙ not-true r h))

-- it goes on
pub chain-yes : (a b c r : Bool) → r ≡ a → not r ≡ false → c ≡ b → c ≡ (a && b)
chain-yes a b c r e h f = sym (and_yes (sym e ∙ not-false r h) (sym f))

-- it goes on after a comparison
pub test-yes : (a b c : Bool) → a ≡ true → c ≡ b → c ≡ (a && b)
test-yes a b c e f = sym (and_yes e (sym f))

-- the test passed
pub passed : (a r : Bool) → r ≡ a → not r ≡ false → a ≡ true
passed a r e h = sym e ∙ not-false r h

-- the marks of the used places
pub used_by : (s : State) (ks ls cs os : List ℕ) (ms : List Bool) (r : Bool) → ms ≡ marked blank os s.count → r ≡ each_ok s ks ls cs ms os → r ≡ used_ok s ks ls cs os
unfolding used_ok
used_by s ks ls cs os ms r e h = h ∙ ap (λ (x : List Bool). each_ok s ks ls cs x os) e

-- the place at position i, which is q, by the round r that is read there
pub ok_by : (s : State) (ks ls cs os : List ℕ) (ms : List Bool) (places i q r : ℕ) (b : Bool) → q ≡ place_at os i → r ≡ round_at ks q → b ≡ place_ok s.bottom.0 s.top.0 (record_of s.rounds r).peers ks ls cs ms places q → b ≡ ok_at s ks ls cs ms places (place_at os i)
ok_by s ks ls cs os ms places i q r b e f h = h ∙ (ap (λ (x : ℕ). place_ok s.bottom.0 s.top.0 (record_of s.rounds x).peers ks ls cs ms places q) f ∙ ap (ok_at s ks ls cs ms places) e)

-- the round and the author that are read
pub id_by : (r a x y b t p : ℕ) (i : Bool) → r ≡ x → a ≡ y → i ≡ id_holds r a b t p → i ≡ id_holds x y b t p
id_by r a x y b t p i e f h = h ∙ ap₂ (λ (u v : ℕ). id_holds u v b t p) e f

-- ---- a product compared without being made

module _ (a n w : ℕ) where
  pub product_no : (a % w ≡ 0 → ⊥) → false ≡ eqb a (n * w)
  product_no d = sym (ne_eqb a (n * w) (λ e. d (ap (λ (x : ℕ). x % w) e ∙ mul-mod_left n w)))

  pub product-yes : 0 < w → a % w ≡ 0 → eqb (a / w) n ≡ eqb a (n * w)
  product-yes l z =
      same_or (a / w) n
      (λ e. eq-eqb (a / w) n e ∙ sym (eq-eqb a (n * w) (sym (div-add-mod' a w) ∙ (ap₂ (λ (x y : ℕ). x * w + y) e z ∙ add-zero (n * w)))))
      (λ d. ne_eqb (a / w) n d ∙ sym (ne_eqb a (n * w) (λ e. d (ap (λ (x : ℕ). x / w) e ∙ mul-div_cancel n l))))

-- ---- the number of places

pub places_none : (n : ℕ) → n ≡ 0 → false ≡ places_ok n
unfolding places_ok
places_none n e = sym (and_no _ (le-ltb 0 n (omega arith)))

pub places_some : (n : ℕ) → (n ≡ 0 → ⊥) → leb n 4_096 ≡ places_ok n
unfolding places_ok
places_some n d = sym (and_yes (lt-ltb 0 n (omega arith)) refl)

-- ---- what a test that passed says

pub shape_says : (ks ls cs os : List ℕ) → shape ks ls cs os ≡ true → (length ks ≡ length os * 8) × (length ls ≡ length os * 328) × (length cs ≡ length os)
unfolding shape
shape_says ks ls cs os h =
    let r = and_r (eqb (length ks) (length os * 8)) _ h in
    (eqb-true _ _ (and_l _ _ h), eqb-true _ _ (and_l _ _ r), eqb-true _ _ (and_r (eqb (length ls) (length os * 328)) _ r))

pub range_says : (g b t : ℕ) → range_holds g b t ≡ true → (b ≤ t) × (t ≤ 4_000_000_000) × (t - b < 512)
unfolding range_holds
range_says g b t h =
    let r = and_r (leb g b) _ h in
    let q = and_r (leb b t) _ r in
    (leb-true _ _ (and_l _ _ r), leb-true _ _ (and_l _ _ q), ltb-true _ _ (and_r (leb t 4_000_000_000) _ q))

pub rounds_says : (s : State) → rounds_hold s ≡ true → s.bottom.0 ≤ 4_000_000_000
unfolding rounds_hold
rounds_says s h = let r = range_says _ _ _ (and_l _ _ h) in omega (arith, r.0, r.1)

pub conf_says : (h d : ℕ) → conf_holds h d ≡ true → h ≤ 255
unfolding conf_holds
conf_says h d e = leb-true _ _ (and_l _ _ (and_r (ltb 0 h) _ e))

pub places_says : (n : ℕ) → places_ok n ≡ true → n ≤ 4096
unfolding places_ok
places_says n h = leb-true _ _ (and_r (ltb 0 n) _ h)

pub state_says : (s : State) (n : ℕ) → state_holds s n ≡ true → (n ≤ 4096) × (s.count ≤ n) × (s.bottom.0 ≤ 4_000_000_000) × (s.commit_history_rounds ≤ 255)
unfolding state_holds
state_says s n h =
    let a = and_r (eqb s.phase 1) _ h in
    let b = and_r (places_ok n) _ a in
    let c = and_r (conf_holds s.commit_history_rounds s.deduplicate_rounds) _ b in
    let d = and_r (rounds_hold s) _ c in
    (places_says n (and_l _ _ a), leb-true _ _ (and_l _ _ d), rounds_says s (and_l _ _ c), conf_says _ _ (and_l _ _ b))

pub inside_says : (os : List ℕ) (n m : ℕ) → is_inside os n m ≡ true → Inside os n m
inside_says os n m h = (inside_is os n m).0 h

pub order_says : (s : State) (ks os : List ℕ) → order_holds s ks os ≡ true → Inside os s.count (length os)
unfolding order_holds
order_says s ks os h = inside_says os s.count (length os) (and_l _ _ h)

-- the retained rounds, with their number as the code counts it
pub rounds_no : (s : State) (r : Bool) → r ≡ range_holds s.genesis.0 s.bottom.0 s.top.0 → not r ≡ true → false ≡ rounds_hold s
unfolding rounds_hold
rounds_no s r e h = chain_no _ _ r e h

pub rounds-yes : (s : State) (r u : Bool) → r ≡ range_holds s.genesis.0 s.bottom.0 s.top.0 → not r ≡ false → u ≡ used_hold s.rounds s.bottom.0 (s.top.0 - s.bottom.0 + 1) → u ≡ rounds_hold s
unfolding rounds_hold
rounds-yes s r u e h f = chain-yes _ _ u r e h (rw (add-one (s.top.0 - s.bottom.0)) at f)
