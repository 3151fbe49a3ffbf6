-- The test holds just where every used place's stored height is its height by paths (models/cert.rs).
use Rattle.std.specs.Prelude.{ℕ, zero, suc, ◌+◌, ◌-◌, ◌≤◌, ◌<◌, ◌≡◌, refl, true, cond, List, eqb, get_or, length}
use Rattle.std.proofs.Common.{subst, inl, inr, ⊎_elim, arith, le_antisymm}
use Rattle.std.proofs.lemmas.List.{length-replicate, get_or-replicate}
use borrow.Author.Tests.{eqb-true, eq-eqb}
use Rattle.laws.specs.Test.{by_test, clash, zero_or_more}
use Rattle.laws.specs.Scan.{any, any_intro, any_elim, every_elim, every_intro}
use Rattle.spec.specs.Paths.{Path, IsHeight}
use Rattle.spec.specs.Graph.{Down, along}
use Rattle.spec.specs.Heights.{Why, none, self, link, Local}
use Rattle.spec.proofs.Heights.{local→paths, paths→local}
use Rattle.tables_heights.specs.View.{height_at, top_at, own_at, own_top, own-none}
use Rattle.models.specs.Live.{reach}
use Rattle.tables_heights.specs.Model.{pushed_all, blank, agrees, heights_hold}
use Rattle.tables_heights.specs.Cells.{all_own, all_gets, all_met, Given}
use Rattle.models.specs.Tables.{round_at, place_at, Inside, Used, target_at, dist}

-- a live link of the used place q leads to the place p
pub record Leads (b : ℕ) (ks ls os : List ℕ) (n q p : ℕ) : Type 0 where
  pub from : Used os n q
  pub which : ℕ
  pub live : which < reach b ks q
  pub to : target_at ls q which ≡ suc p

-- the place t is used and has the top bit
abbrev pub Top : List ℕ → List ℕ → ℕ → ℕ → Type 0
Top cs os n t = Used os n t × (top_at cs t ≡ true)

-- the rule: every used place's stored height is its height by paths
abbrev pub Heights : ℕ → ℕ → List ℕ → List ℕ → List ℕ → List ℕ → ℕ → Type 0
Heights b H ks ls cs os n = (p : ℕ) → Used os n p → IsHeight (Leads b ks ls os n) (round_at ks) (Top cs os n) H p (height_at cs p)

-- what the test of the links shows: live links lead to used places, as many rounds down as they should
abbrev pub Falls : ℕ → List ℕ → List ℕ → List ℕ → ℕ → Type 0
Falls b ks ls os n = (q k p : ℕ) → Used os n q → k < reach b ks q → target_at ls q k ≡ suc p → Used os n p × (round_at ks p + dist k ≡ round_at ks q)

blank-length : length blank ≡ 4097
unfolding blank
blank-length = length-replicate {A = ℕ} 4097 0

blank_at : (j : ℕ) → j < 4097 → get_or blank j 0 ≡ 0
unfolding blank
blank_at j l = get_or-replicate {A = ℕ} 4097 j 0 0 l

-- the stored height of a used place, 0 of a free one
unfoldable stored : List ℕ → List ℕ → ℕ → ℕ → ℕ
stored cs os n p = cond (any n (λ i. eqb (place_at os i) p)) (height_at cs p) 0

stored_used : (cs os : List ℕ) (n p : ℕ) → Used os n p → stored cs os n p ≡ height_at cs p
unfolding stored
stored_used cs os n p (i, l, e) = rw (any_intro n (λ i. eqb (place_at os i) p) i l (eq-eqb _ p e)) refl

-- by cases: used, or free with the height 0
used_or : {A : Type 0} (cs os : List ℕ) (n p : ℕ) → (Used os n p → A) → ((Used os n p → ⊥) → stored cs os n p ≡ 0 → A) → A
unfolding stored
used_or cs os n p f g =
    by_test (any n (λ i. eqb (place_at os i) p))
    (λ t. let (i, l, e) = any_elim n (λ i. eqb (place_at os i) p) t in f (i, l, eqb-true _ p e))
    (λ t. g (λ (i, l, e). clash (any_intro n (λ i. eqb (place_at os i) p) i l (eq-eqb _ p e)) t) (rw t refl))

module _ (b H : ℕ) (ks ls cs os : List ℕ) (n : ℕ) (small : length os ≤ 4096) (inside : Inside os n (length os)) (falls : Falls b ks ls os n) where
  abbrev LinkedTo : ℕ → ℕ → Type 0
  LinkedTo = Leads b ks ls os n

  abbrev T : ℕ → Type 0
  T = Top cs os n

  abbrev h : ℕ → ℕ
  h = stored cs os n

  abbrev cell : ℕ → ℕ
  cell j = get_or (pushed_all b (H + 1) ks ls cs os blank n) j 0

  abbrev L : Type 0
  L = Local LinkedTo (round_at ks) T H h

  abbrev W : ℕ → Type 0
  W = Why LinkedTo (round_at ks) T H h

  is : (p : ℕ) → Used os n p → h p ≡ height_at cs p
  is = stored_used cs os n

  low : (p : ℕ) → Used os n p → p < 4096
  low p (i, l, e) = omega (arith, inside i l)

  lands : (q p : ℕ) → (e : LinkedTo q p) → Used os n p × (round_at ks p + dist e.which ≡ round_at ks q)
  lands q p e = falls q e.which p e.from e.live e.to

  down : Down LinkedTo (round_at ks)
  down q p e = omega (arith, (lands q p e).1)

  same_drop : (q p : ℕ) → (e : LinkedTo q p) → round_at ks q - round_at ks p ≡ dist e.which
  same_drop q p e = omega (arith, (lands q p e).1)

  gets_own : (p : ℕ) → Used os n p → own_at (H + 1) cs p ≤ cell (p + 1)
  gets_own p (i, l, e) =
      subst (λ q. own_at (H + 1) cs q ≤ cell (q + 1)) e (all_own b (H + 1) ks ls cs os blank n i l (omega (arith, blank-length, inside i l)))

  gets_link : (q p : ℕ) → (e : LinkedTo q p) → height_at cs q - dist e.which ≤ cell (p + 1)
  gets_link q p e = go e.from
    where
      go : Used os n q → height_at cs q - dist e.which ≤ cell (p + 1)
      go (i, l, d) =
          let t : target_at ls q e.which ≡ p + 1 = omega (arith, e.to) in
          subst (λ j. height_at cs q - dist e.which ≤ cell j) t
          (subst (λ x. (e.which < reach b ks x) → target_at ls x e.which < length blank → height_at cs x - dist e.which ≤ cell (target_at ls x e.which)) d
          (all_gets b (H + 1) ks ls cs os blank n i e.which l) e.live (omega (arith, blank-length, low p (lands q p e).0)))

  -- the cells agree with the stored heights
  abbrev Agree : Type 0
  Agree = (p : ℕ) → Used os n p → cell (p + 1) ≡ height_at cs p

  abbrev G : ℕ → Type 0
  G p = Given b (H + 1) ks ls cs os blank n (p + 1) (cell (p + 1))

  -- no height is above H + 1: it came from a higher one, and none is above 4095
  capped : ((p : ℕ) → W p) → (k p : ℕ) → 4096 ≤ h p + k → h p ≤ suc H
  capped why zero p f = used_or cs os n p (λ u. omega (arith, is p u)) (λ u z. omega arith)
  capped why (suc k) p f = go (why p) (capped why k)
    where
      go : W p → ((q : ℕ) → 4096 ≤ h q + k → h q ≤ suc H) → h p ≤ suc H
      go (none e) r = omega arith
      go (self t e) r = omega arith
      go (link q e z) r = ⊎_elim (λ y. omega arith) (λ y. omega (arith, r q (omega (arith, down q p e)))) (zero_or_more (h p))

  agree→local : Agree → L
  agree→local a = record {
    cap = λ p. capped why 4096 p (omega arith);
    own = λ p (u, t). omega (arith, own_top (H + 1) (get_or cs p 0) t, gets_own p u, a p u, is p u);
    from = λ q p e. omega (arith, same_drop q p e, gets_link q p e, a p (lands q p e).0, is q e.from, is p (lands q p e).0);
    why = why;
  }
    where
      by_top_lem : (p : ℕ) → Used os n p → cell (p + 1) ≡ own_at (H + 1) cs p → W p
      by_top_lem p u e =
          by_test (top_at cs p)
          (λ t. self (u, t) (omega (arith, own_top (H + 1) (get_or cs p 0) t, a p u, is p u)))
          (λ f. none (omega (arith, own-none (H + 1) (get_or cs p 0) f, a p u, is p u)))

      given : (p : ℕ) → Used os n p → G p → W p
      given p u (inl z) = none (omega (arith, a p u, is p u, low p u, blank_at (p + 1) (omega (arith, low p u))))
      given p u (inr (inl (i, l, t, z))) = by_top_lem p u (let e : place_at os i ≡ p = omega arith in rw e at z)
      given p u (inr (inr (i, k, l, m, t, z))) =
          let v : Used os n (place_at os i) = (i, l, refl) in
          let e : LinkedTo (place_at os i) p = record { from = v; which = k; live = m; to = omega arith } in
          link (place_at os i) e (omega (arith, same_drop (place_at os i) p e, a p u, is p u, is (place_at os i) v))

      why : (p : ℕ) → W p
      why p = used_or cs os n p (λ u. given p u (all_met b (H + 1) ks ls cs os blank n (p + 1))) (λ u z. none z)

  local→agree : L → Agree
  local→agree w p u = le_antisymm (most (all_met b (H + 1) ks ls cs os blank n (p + 1))) (least (w.why p))
    where
      own-le : own_at (H + 1) cs p ≤ height_at cs p
      own-le =
          by_test (top_at cs p)
          (λ t. omega (arith, own_top (H + 1) (get_or cs p 0) t, w.own p (u, t), is p u))
          (λ f. omega (arith, own-none (H + 1) (get_or cs p 0) f))

      most : G p → cell (p + 1) ≤ height_at cs p
      most (inl z) = omega (arith, blank_at (p + 1) (omega (arith, low p u)))
      most (inr (inl (i, l, t, z))) =
          let e : place_at os i ≡ p = omega arith in let y : cell (p + 1) ≡ own_at (H + 1) cs p = rw e at z in omega (arith, own-le)
      most (inr (inr (i, k, l, m, t, z))) =
          let v : Used os n (place_at os i) = (i, l, refl) in
          let e : LinkedTo (place_at os i) p = record { from = v; which = k; live = m; to = omega arith } in
          omega (arith, same_drop (place_at os i) p e, w.from (place_at os i) p e, is p u, is (place_at os i) v)

      least : W p → height_at cs p ≤ cell (p + 1)
      least (none z) = omega (arith, is p u)
      least (self (v, t) z) = omega (arith, own_top (H + 1) (get_or cs p 0) t, gets_own p u, is p u)
      least (link q e z) = omega (arith, same_drop q p e, gets_link q p e, is p u, is q e.from)

  -- only used places are reached
  reached : {t p : ℕ} → Path LinkedTo t p → Used os n t → Used os n p
  reached w u = along (Used os n) (λ x y e v. (lands x y e).0) w u

  -- the heights of all places, free ones too
  heights_all : Heights b H ks ls cs os n → (p : ℕ) → IsHeight LinkedTo (round_at ks) T H p (h p)
  heights_all i p =
      used_or cs os n p
      (λ u. rw (is p u) (i p u))
      (λ u z. record { bound = λ t to w. absurd (u (reached w to.0)); met = inl z })

  -- sound: where the test holds the heights are those by paths
  pub heights_sound : heights_hold b (H + 1) ks ls cs os n ≡ true → Heights b H ks ls cs os n
  unfolding heights_hold agrees
  heights_sound t p u =
      rw (is p u) at (local→paths LinkedTo (round_at ks) down T H h (agree→local agree) p)
    where
      agree : Agree
      agree p (i, l, e) = rw e at (eqb-true (cell (place_at os i + 1)) (height_at cs (place_at os i)) (every_elim n _ t i l))

  -- and complete: where they are, the test holds
  pub heights_complete : Heights b H ks ls cs os n → heights_hold b (H + 1) ks ls cs os n ≡ true
  unfolding heights_hold agrees
  heights_complete i =
      let a : Agree = local→agree (paths→local LinkedTo (round_at ks) down T H h (heights_all i)) in
      every_intro n _ (λ j l. eq-eqb _ _ (a (place_at os j) (j, l, refl)))
