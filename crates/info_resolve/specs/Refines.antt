-- The tables that a resolution leaves are read as the store that it leaves (01: cert.rs).
use Rattle.std.specs.Prelude.{ℕ, zero, suc, ◌*◌, ◌≤◌, ◌<◌, ◌≡◌, List, Bool, true, false, ◌≢◌, eqb, leb, length, get_or, set}
use Rattle.std.proofs.Math.Path.{refl, ap, subst}
use Rattle.std.proofs.Common.{sym, ◌∙◌, arith}
use Rattle.std.proofs.lemmas.List.{set-get_or}
use Rattle.std.proofs.lemmas.Bool.{lt-leb}
use Rattle.laws.specs.Test.{same_or}
use Rattle.spec.specs.Store.{Flags, word}
use Rattle.spec.specs.Rules.{well_formed, counts_as_started}
use Rattle.spec.specs.Calls.{resolved_as, resolve_at}
use Rattle.models.specs.Info.{info_of}
use Rattle.models.specs.Cert.{flags_of, height_of, linked}
use Rattle.models.specs.Digest.{Fit}
use Rattle.models.specs.Tables.{round_at, status_at, Used}
use Rattle.models.specs.DagPoint.{case_of, has_info}
use Rattle.models.specs.declared.dag_point.DagPoint.{DagPoint}
use Rattle.models.specs.declared.info.PointInfo.{PointInfo}
use Rattle.tables_heights.specs.View.{height_at, top_at}
use Rattle.models.specs.Live.{reach, reach_live, reach-unresolved}
use Rattle.tables_heights.specs.Refines.{Leads}
use Rattle.commit_state.specs.declared.state.State.{State}
use Rattle.tables_test.specs.Model.{shape, shape_says, places_says, rounds_says}
use Rattle.tables_test.specs.View.{view, seen_at, regular}
use Rattle.tables_test.specs.Same.{Same, same_target}
use Rattle.tables_test.specs.Whole.{low_of_lem}
use Rattle.tables_test.specs.Refines.{Started, counted}
use Rattle.cert_certify.specs.Model.{traversed}
use Rattle.cert_certify.specs.Sane.{Rooted, Placed}
use Rattle.dag_round_points.specs.Model.{Ready}
use Rattle.dag_round_points.specs.Tests.{ready}
use Rattle.cert_certify.specs.Settled.{cert_small, rooted, placed, settled_from}
use Rattle.cert_certify.specs.On.{still_tops, still_met, still_on}
use Rattle.info_checks.specs.Dangling.{any_dangling}
use Rattle.info_checks.specs.Form.{formed}
use Rattle.info_store.specs.Model.{stored_keys, stored_links}
use Rattle.info_store.specs.Flags.{cert_of, deps_set, cert_height, cert_flags}
use Rattle.info_store.specs.Ranged.{Ranged}
use Rattle.info_store.specs.Refines.{status-own, keys_other, keys_kept, links-other, cert_own, cert_other, regular_resolution, shape_resolution, resolution_pt}
use Rattle.std.specs.Prelude.{None, Option, Some}

-- the links of a place depend on its words alone
leads-same : (b : ℕ) (ks ks2 ls ls2 os : List ℕ) (n p x : ℕ) → Same ks 8 p ks2 → Same ls 328 p ls2 → Leads b ks ls os n p x → Leads b ks2 ls2 os n p x
unfolding reach
leads-same b ks ks2 ls ls2 os n p x hk hl e =
    let small : e.which < 64 = ((reach_live b ks p e.which).0 e.live).1 in
    record {
      from = e.from;
      which = e.which;
      live = subst (λ m. e.which < m) (sym (rw (hk 6 (omega arith), hk 0 (omega arith)) refl)) e.live;
      to = same_target ls ls2 p hl e.which small ∙ e.to;
    }

-- the certificate words after a resolution
unfoldable pub resolved_certs : State → List ℕ → List ℕ → List ℕ → List ℕ → ℕ → PointInfo → List ℕ → List ℕ
resolved_certs s ks ls cs os q info rs = traversed s.bottom.0 (stored_keys ks q info) (stored_links s ks ls os q info rs) (deps_set cs q info.status) q

-- what `resolve_at` needs
abbrev pub Resolvable : State → List ℕ → List ℕ → List ℕ → List ℕ → ℕ → PointInfo → List ℕ → Type 0
Resolvable s ks ls cs os q info rs =
    (Ready s ks os × (length ls ≡ length os * 328) × (length cs ≡ length os) × (q < length os) × (get_or cs q 0 < 65536) × (s.bottom.0 ≤ 4_000_000_000))
    × (well_formed (round_at ks q) (info_of info rs) ≡ true)
    × ((length (stored_keys ks q info) ≡ length (deps_set cs q info.status) * 8) × (length (stored_links s ks ls os q info rs) ≡ length (deps_set cs q info.status) * 328)
    × Placed s.bottom.0 (stored_keys ks q info) (stored_links s ks ls os q info rs) (deps_set cs q info.status) q)

-- a point of this case has links
unfoldable has_links : Option DagPoint → Bool
has_links (Some p) = has_info p
has_links None = false

-- by its status, which is above 0
links_is : (n : ℕ) → 0 < n → has_links (case_of n) ≡ leb n 3
unfolding has_links case_of has_info
links_is zero l = absurd (omega arith)
links_is (suc zero) l = refl
links_is (suc (suc zero)) l = refl
links_is (suc (suc (suc zero))) l = refl
links_is (suc (suc (suc (suc zero)))) l = refl
links_is (suc (suc (suc (suc (suc zero))))) l = refl
links_is (suc (suc (suc (suc (suc (suc n)))))) l = sym (lt-leb (suc (suc (suc (suc (suc (suc n)))))) 3 (omega arith))

-- the code's steps: r is the case of the status
module _ (cs : List ℕ) (q status : ℕ) (r : Option DagPoint) (some : 0 < status) (is : r ≡ case_of status) where
  few : (x : Option DagPoint) → r ≡ x → leb status 3 ≡ has_links x
  few x e = sym (links_is status some) ∙ ap has_links (sym is ∙ e)

  kept : leb status 3 ≡ false → cs ≡ deps_set cs q status
  unfolding deps_set cert_of
  kept l = rw l (sym (set-get_or cs q 0))

  pub deps_nothing : r ≡ None → cs ≡ deps_set cs q status
  unfolding has_links
  deps_nothing e = kept (few None e)

  -- a case without links, and one with them
  module _ (p : DagPoint) (i : Bool) (e : r ≡ Some p) (f : i ≡ has_info p) where
    pub deps_none : i ≡ false → cs ≡ deps_set cs q status
    unfolding has_links
    deps_none h = kept (few (Some p) e ∙ (sym f ∙ h))

    pub deps_set_lem : (w : ℕ) → i ≡ true → w ≡ word (linked (flags_of (get_or cs q 0))) (height_of (get_or cs q 0)) → set cs q w ≡ deps_set cs q status
    unfolding deps_set cert_of has_links
    deps_set_lem w h g = rw (few (Some p) e ∙ (sym f ∙ h), g) refl

-- what the queue of heights needs, of the tables by then
pub placed_by : (s : State) (ks ls cs os : List ℕ) (q : ℕ) (info : PointInfo) (rs us zs ws : List ℕ) → us ≡ stored_keys ks q info → zs ≡ stored_links s ks ls os q info rs → ws ≡ deps_set cs q info.status
    → Resolvable s ks ls cs os q info rs → ((length us ≡ length ws * 8) × (length zs ≡ length ws * 328)) × Placed s.bottom.0 us zs ws q
placed_by s ks ls cs os q info rs us zs ws a b c (e, f, (k, l, p)) = rw (a, b, c) ((k, l), p)

-- the tables as they are handed on
pub settled_by : (s : State) (ks ls cs os : List ℕ) (q : ℕ) (info : PointInfo) (rs us zs ws vs : List ℕ) → us ≡ stored_keys ks q info → zs ≡ stored_links s ks ls os q info rs → ws ≡ deps_set cs q info.status
    → vs ≡ traversed s.bottom.0 us zs ws q → vs ≡ resolved_certs s ks ls cs os q info rs
unfolding resolved_certs
settled_by s ks ls cs os q info rs us zs ws vs a b c e = e ∙ rw (a, b, c) refl

module _ (s : State) (ks ls cs os : List ℕ) (fk : Fit ks) (fl : Fit ls) (h : counts_as_started (view s ks ls cs os) ≡ true) (q : ℕ) (u : Used os s.count q)
    (info : PointInfo) (rs : List ℕ) (g : well_formed (round_at ks q) (info_of info rs) ≡ true)
    (tame1 : any_dangling s ks os rs 1 (round_at ks q) 0 info.includes ≡ false) (tame2 : any_dangling s ks os rs 2 (round_at ks q) info.includes info.witness ≡ false) (range : Ranged info) where
  abbrev us : List ℕ
  us = stored_keys ks q info

  abbrev zs : List ℕ
  zs = stored_links s ks ls os q info rs

  abbrev ws : List ℕ
  ws = deps_set cs q info.status

  abbrev n : ℕ
  n = s.count

  -- what the tables hold before
  t : Started s ks ls cs os
  t = counted s ks ls cs os fk fl h

  small : length os ≤ 4096
  small = places_says _ t.places_ok

  sh : shape us zs ws os ≡ true
  sh = shape_resolution s ks ls cs os fk fl h q u info rs g tame1 tame2 range

  rg : regular s us zs ws os ≡ true
  rg = regular_resolution s ks ls cs os fk fl h q u info rs g tame1 tame2 range

  -- what the queue of heights needs
  pub resolve_placed : (length us ≡ length ws * 8) × (length zs ≡ length ws * 328) × Placed s.bottom.0 us zs ws q
  resolve_placed = placed s us zs ws os q sh rg small u

  -- a place that passed the tests can be resolved
  pub resolvable : Resolvable s ks ls cs os q info rs
  resolvable =
      let (a, b, c) = shape_says ks ls cs os t.shaped in
      let (j, l, e) = u in
      ((ready s ks ls cs os fk fl h, b, c, omega (arith, t.facts.inside j l), cert_small ks ls cs q (t.fits q u), rounds_says s t.rounds_ok), g, resolve_placed)

  -- ---- rounds, heights and tops stay

  rounds : (p : ℕ) → Used os n p → round_at us p ≡ round_at ks p
  rounds p v = keys_kept s ks ls cs os fk fl h q u info rs g p 0 (omega arith)

  status_most : (p : ℕ) → Used os n p → status_at us p ≤ 5
  status_most p v =
      same_or p q
      (λ e. rw e (omega (arith, status-own s ks ls cs os fk fl h q u info rs g, (formed info rs (round_at ks q) g).status)))
      (λ d. omega (arith, keys_other s ks ls cs os fk fl h q u info rs g p d 6 (omega arith), (t.facts.words p v).named.status))

  own : get_or ws q 0 ≡ cert_of info.status (get_or cs q 0)
  own = cert_own s ks ls cs os fk fl h q u info rs g tame1 tame2 range

  other : (p : ℕ) → p ≢ q → get_or ws p 0 ≡ get_or cs p 0
  other p d = cert_other s ks ls cs os fk fl h q u info rs g tame1 tame2 range p d

  heights : (p : ℕ) → height_at ws p ≡ height_at cs p
  unfolding height_of
  heights p = same_or p q (λ e. rw e (ap height_of own ∙ cert_height info.status (get_or cs q 0))) (λ d. ap height_of (other p d))

  tops : (p : ℕ) → top_at ws p ≡ top_at cs p
  unfolding flags_of
  tops p = same_or p q (λ e. rw e (ap (λ (c : ℕ). (flags_of c).top) own ∙ ap (λ (f : Flags). f.top) (cert_flags info.status (get_or cs q 0)))) (λ d. ap (λ (c : ℕ). (flags_of c).top) (other p d))

  -- ---- only q has other links, and it had none

  hk : (p : ℕ) → p ≢ q → Same ks 8 p us
  hk p d = keys_other s ks ls cs os fk fl h q u info rs g p d

  hl : (p : ℕ) → p ≢ q → Same ls 328 p zs
  hl p d = links-other s ks ls cs os fk fl h q u info rs g p d

  less : (p x : ℕ) → p ≢ q → Leads s.bottom.0 us zs os n p x → Leads s.bottom.0 ks ls os n p x
  less p x d = leads-same s.bottom.0 us ks zs ls os n p x (λ j l. sym (hk p d j l)) (λ j l. sym (hl p d j l))

  module _ (z : status_at ks q ≡ 0) where
    more : (p x : ℕ) → Leads s.bottom.0 ks ls os n p x → Leads s.bottom.0 us zs os n p x
    more p x e =
        same_or p q
        (λ d. absurd (let r = reach-unresolved s.bottom.0 ks q z in let l = subst (λ y. e.which < reach s.bottom.0 ks y) d e.live in omega (arith, r, l)))
        (λ d. leads-same s.bottom.0 ks us ls zs os n p x (hk p d) (hl p d) e)

    abbrev H : ℕ
    H = s.commit_history_rounds

    root : Rooted s.bottom.0 ks ls cs os n q
    root = rooted s ks ls cs os q t.shaped t.regulated small u

    -- the view after a resolution
    pub resolved-view : Fit us → Fit zs → view s us zs (resolved_certs s ks ls cs os q info rs) os ≡ resolve_at (view s ks ls cs os) (info_of info rs) q
    unfolding resolved_certs resolve_at view
    resolved-view fu fz =
        settled_from s us zs ws os q sh rg small u fu fz
        (λ p v. subst (λ r. s.bottom.0 ≤ r) (sym (rounds p v)) (low_of_lem s ks ls cs os fk fl t.shaped t.facts.ids p v))
        status_most
        (still_tops s.bottom.0 H ks ls cs os n q root t.facts.heights us zs ws rounds heights tops more less)
        (still_met s.bottom.0 H ks ls cs os n q root t.facts.heights us zs ws rounds heights tops more less)
        (still_on s.bottom.0 H ks ls cs os n q root t.facts.heights us zs ws rounds heights tops more less)
        ks ls cs t.shaped t.regulated
        (λ p. resolved_as (eqb p q) (info_of info rs) ((view s ks ls cs os).pt p))
        points
        (view s ks ls cs os).heights
      where
        points : (p : ℕ) → seen_at us zs ws os n p ≡ resolved_as (eqb p q) (info_of info rs) ((view s ks ls cs os).pt p)
        points p = ap (λ f. f p) (resolution_pt s ks ls cs os fk fl h q u info rs g tame1 tame2 range)
