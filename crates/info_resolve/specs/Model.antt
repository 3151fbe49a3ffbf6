-- The tests of a resolution as one number (01: 'Refusals' 5, 6, 9 to 12).
use Rattle.std.specs.Prelude.{ℕ, zero, suc, ◌+◌, ◌*◌, ◌<◌, ◌≡◌, List, Bool, not, ◌||◌, cond, eqb, length}
use Rattle.std.proofs.Math.Path.{refl, sym, ap, ap₂}
use Rattle.std.proofs.Common.{◌∙◌, arith}
use Rattle.std.proofs.Math.Bool.{true, false}
use borrow.Author.Tests.{eqb-true, eq-eqb, ne_eqb, not-true, not-false, lt-ltb, le-ltb}
use Rattle.laws.specs.Test.{same_or}
use Rattle.laws.specs.Lists.{has}
use Rattle.spec.specs.Store as store
use Rattle.spec.specs.Store.{Resolution, Point, Store, resolved, links}
use Rattle.spec.specs.Rules.{well_formed, dangling, counts_as_started}
use Rattle.spec.specs.Chain.{Out, good, refuse}
use Rattle.spec.specs.Calls.{resolved_as, resolving, resolve_at, do_resolve}
use Rattle.models.specs.Info.{info_of}
use Rattle.models.specs.Digest.{Fit}
use Rattle.models.specs.Parts.{id_of}
use Rattle.models.specs.Tables.{round_at, status_at, Used}
use Rattle.models.specs.declared.info.PointInfo.{PointInfo}
use Rattle.models.specs.declared.parts.PointId.{PointId}
use Rattle.commit_state.specs.View.{point_at}
use Rattle.commit_state.specs.declared.state.State.{State}
use Rattle.tables_test.specs.View.{view, seen_used}
use Rattle.tables_test.specs.Edges.{resolved_is}
use Rattle.dag_round_points.specs.Model.{Ready, id_words, or_else}
use Rattle.dag_round_points.specs.Codes.{unless}
use Rattle.dag_round_points.specs.Point.{point_code, place_for, point_used, point-round}
use Rattle.dag_round_points.specs.RefinesPoint.{point_is}
use Rattle.info_checks.specs.Form.{Shaped, formed_shaped}
use Rattle.info_checks.specs.Dangling.{any_dangling}
use Rattle.info_checks.specs.Refines.{dangling_resolution}

-- 10, 11, 12 or 0, of the point at place q
unfoldable pub info_code : State → List ℕ → List ℕ → ℕ → PointInfo → List ℕ → ℕ
info_code s ks os q info rs =
    let r = round_at ks q in
    cond (eqb (status_at ks q) 0) (cond (well_formed r (info_of info rs)) (cond (any_dangling s ks os rs 1 r 0 info.includes || any_dangling s ks os rs 2 r info.includes info.witness) 12 0) 11) 10

-- 5, 6, 5, 9, 10, 11, 12 or 0
unfoldable pub resolve_code : State → List ℕ → List ℕ → PointId → PointInfo → List ℕ → ℕ
resolve_code s ks os i info rs = or_else (point_code s ks os i) (info_code s ks os (place_for s ks os i) info rs)

-- one law for each way out of the code
module _ (s : State) (ks os : List ℕ) (q : ℕ) (info : PointInfo) (rs : List ℕ) where
  pub info_resolved : (status_at ks q ≡ 0 → ⊥) → 10 ≡ info_code s ks os q info rs
  unfolding info_code
  info_resolved d = rw (ne_eqb (status_at ks q) 0 d) refl

  -- the point is of round r
  module _ (r : ℕ) (is : round_at ks q ≡ r) (z : status_at ks q ≡ 0) (f : Bool) (e : f ≡ well_formed r (info_of info rs)) where
    pub info_unformed : not f ≡ true → 11 ≡ info_code s ks os q info rs
    unfolding info_code
    info_unformed h = rw (eq-eqb (status_at ks q) 0 z, is, sym e ∙ not-true f h) refl

    -- the two kinds of links
    pub info_links : not f ≡ false → (a b : Bool) → a ≡ any_dangling s ks os rs 1 r 0 info.includes → b ≡ any_dangling s ks os rs 2 r info.includes info.witness → cond (a || b) 12 0 ≡ info_code s ks os q info rs
    unfolding info_code
    info_links h a b x y = rw (eq-eqb (status_at ks q) 0 z, is, sym e ∙ not-false f h, sym x, sym y) refl

    -- the links are as many as it says
    pub info_shaped : not f ≡ false → Shaped info rs
    info_shaped h = formed_shaped info rs r (sym e ∙ not-false f h)

-- the first kind decides, or the second
pub first-dangling : (a b : Bool) → a ≡ true → ◌≡◌ {A = ℕ} 12 (cond (a || b) 12 0)
first-dangling a b h = rw h refl

pub next-dangling : (a b : Bool) → a ≡ false → b ≡ true → ◌≡◌ {A = ℕ} 12 (cond (a || b) 12 0)
next-dangling a b g h = rw (g, h) refl

pub none-dangling : (a b : Bool) → a ≡ false → b ≡ false → ◌≡◌ {A = ℕ} 0 (cond (a || b) 12 0)
none-dangling a b g h = rw (g, h) refl

-- a chain of tests before another
later : {A : Type 0} (n m : ℕ) (o p : Out A) → (n ≡ 0 → o ≡ unless m p) → unless n o ≡ unless (or_else n m) p
unfolding unless or_else
later zero m o p h = h refl
later (suc n) m o p h = refl

module _ (s : State) (ks ls cs os : List ℕ) (fk : Fit ks) (fl : Fit ls) (h : counts_as_started (view s ks ls cs os) ≡ true) (info : PointInfo) (rs : List ℕ) (fr : Fit rs) where
  abbrev v : Store
  v = view s ks ls cs os

  -- what is given
  abbrev t : Resolution
  t = info_of info rs

  module _ (q : ℕ) (u : Used os s.count q) where
    point : v.pt q ≡ point_at ks ls cs q
    unfolding view
    point = seen_used ks ls cs os s.count q u

    -- whether it is resolved
    resolved_by : resolved (v.pt q) ≡ not (eqb (status_at ks q) 0)
    resolved_by =
        ap resolved point ∙ (resolved_is ks ls cs q
        ∙ same_or (status_at ks q) 0 (λ e. rw (eq-eqb (status_at ks q) 0 e) (le-ltb 0 (status_at ks q) (omega arith))) (λ d. rw (ne_eqb (status_at ks q) 0 d) (lt-ltb 0 (status_at ks q) (omega arith))))

    round_is : store.round_at v q ≡ round_at ks q
    unfolding point_at
    round_is = ap (λ (p : Point). p.id.round) point

    -- 10, 11 and 12
    resolving_is : resolving v t q ≡ unless (info_code s ks os q info rs) (good (resolve_at v t q))
    unfolding resolving info_code refuse unless
    resolving_is =
        ap₂ (λ (a : Bool) (x : ℕ). refuse a 10 (refuse (not (well_formed x t)) 11 (refuse (has (dangling v x) (links (resolved_as true t (v.pt q)))) 12 (good (resolve_at v t q))))) resolved_by round_is
        ∙ by (eqb (status_at ks q) 0) (well_formed (round_at ks q) t) (λ e. e)
      where
        by : (a b : Bool) → (b ≡ true → well_formed (round_at ks q) t ≡ true)
            → refuse (not a) 10 (refuse (not b) 11 (refuse (has (dangling v (round_at ks q)) (links (resolved_as true t (v.pt q)))) 12 (good (resolve_at v t q))))
            ≡ unless (cond a (cond b (cond (any_dangling s ks os rs 1 (round_at ks q) 0 info.includes || any_dangling s ks os rs 2 (round_at ks q) info.includes info.witness) 12 0) 11) 10) (good (resolve_at v t q))
        by false b e = refl
        by true false e = refl
        by true true e = ap (λ (w : Bool). refuse w 12 (good (resolve_at v t q))) (dangling_resolution s ks ls cs os rs fk fl fr h (round_at ks q) (fk (q * 8 + 0)) info (e refl) (v.pt q)) ∙ last (any_dangling s ks os rs 1 (round_at ks q) 0 info.includes || any_dangling s ks os rs 2 (round_at ks q) info.includes info.witness)
          where
            last : (w : Bool) → refuse w 12 (good (resolve_at v t q)) ≡ unless (cond w 12 0) (good (resolve_at v t q))
            last true = refl
            last false = refl

  -- the call's tests in all
  pub resolve_is : (i : PointId) → Fit (id_words i) → do_resolve v (id_of i) t ≡ unless (resolve_code s ks os i info rs) (good (resolve_at v t (place_for s ks os i)))
  unfolding do_resolve resolve_code
  resolve_is i fi =
      point_is s ks ls cs os i fk fl h fi (resolving v t)
      ∙ later (point_code s ks os i) (info_code s ks os (place_for s ks os i) info rs) (resolving v t (place_for s ks os i)) (good (resolve_at v t (place_for s ks os i)))
      (λ z. resolving_is (place_for s ks os i) (point_used s ks os i z))

-- the place of a point is one of the table's, and the point there is of the id's round
pub place_there : (s : State) (ks os : List ℕ) (i : PointId) (q : ℕ) → Ready s ks os → point_code s ks os i ≡ 0 → q ≡ place_for s ks os i → (q < length os) × (round_at ks q ≡ i.round.0)
place_there s ks os i q r z f = let (j, l, g) = point_used s ks os i z in (omega (arith, r.3 j l, g, f), ap (round_at ks) f ∙ point-round s ks os i z)

-- what the tests say that none of them refuses
pub record Accepted (s : State) (ks os : List ℕ) (q : ℕ) (info : PointInfo) (rs : List ℕ) : Type 0 where
  pub unresolved : status_at ks q ≡ 0
  pub formed : well_formed (round_at ks q) (info_of info rs) ≡ true
  pub includes : any_dangling s ks os rs 1 (round_at ks q) 0 info.includes ≡ false
  pub witness : any_dangling s ks os rs 2 (round_at ks q) info.includes info.witness ≡ false

pub info_accepted : (s : State) (ks os : List ℕ) (q : ℕ) (info : PointInfo) (rs : List ℕ) → info_code s ks os q info rs ≡ 0 → Accepted s ks os q info rs
unfolding info_code
info_accepted s ks os q info rs e =
    let (a, b, c, d) = by (eqb (status_at ks q) 0) (well_formed (round_at ks q) (info_of info rs)) (any_dangling s ks os rs 1 (round_at ks q) 0 info.includes) (any_dangling s ks os rs 2 (round_at ks q) info.includes info.witness) e in
    record { unresolved = eqb-true _ _ a; formed = b; includes = c; witness = d }
  where
    by : (a b c d : Bool) → ◌≡◌ {A = ℕ} (cond a (cond b (cond (c || d) 12 0) 11) 10) 0 → (a ≡ true) × (b ≡ true) × (c ≡ false) × (d ≡ false)
    by false b c d e = absurd (omega arith)
    by true false c d e = absurd (omega arith)
    by true true true d e = absurd (omega arith)
    by true true false true e = absurd (omega arith)
    by true true false false e = (refl, refl, refl, refl)
