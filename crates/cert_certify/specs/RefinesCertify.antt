-- The tables that a certificate leaves are read as the store that it leaves (01: cert.rs).
use Prim.Native.Nat.{ℕ, suc, ◌+◌, ◌-◌, ◌≤◌, ◌<◌}
use Rattle.std.specs.Prelude.{◌≡◌, true, ◌≢◌, eqb, length, get_or, set}
use Rattle.std.proofs.Math.Path.{refl, sym, ap}
use Rattle.std.proofs.Common.{◌∙◌, subst, inl, inr, ⊎_elim}
use mathlib.Core.List.{List}
use native.Mathlib.Omega.{arith}
use Rattle.std.proofs.Math.ListN.{length-set}
use Rattle.std.proofs.Math.Seq.{get_or-set_same, get_or-set_other, set-get_or}
use borrow.Author.Tests.{eq-eqb, ne_eqb}
use Rattle.laws.specs.Test.{same_or}
use Rattle.spec.specs.Store.{Flags, word}
use Rattle.spec.specs.Paths.{here}
use Rattle.spec.specs.Rules.{counts_as_started}
use Rattle.spec.specs.Chain.{good}
use Rattle.spec.specs.Calls.{set_top, certify_at, do_certify}
use Rattle.models.specs.Parts.{id_of}
use Rattle.models.specs.Cert.{flags_of, height_of, topped, word_of}
use Rattle.models.specs.Digest.{Fit}
use Rattle.models.specs.Tables.{Used, used_is, target_at, dist}
use Rattle.models.specs.declared.parts.PointId.{PointId}
use Rattle.models.specs.Live.{reach}
use Rattle.tables_heights.specs.View.{height_at}
use Rattle.tables_heights.specs.Refines.{Top, Heights}
use Rattle.commit_state.specs.View.{point_at}
use Rattle.commit_state.specs.declared.state.State.{State}
use Rattle.tables_test.specs.Model.{shape, shape_says, places_says, conf_says}
use Rattle.tables_test.specs.View.{regular, seen_at, view}
use Rattle.tables_test.specs.Whole.{low_of_lem}
use Rattle.tables_test.specs.Refines.{Started, counted}
use Rattle.dag_round_points.specs.Model.{id_words}
use Rattle.dag_round_points.specs.Codes.{unless}
use Rattle.cert_certify.specs.Sane.{Rooted}
use Rattle.cert_certify.specs.Refines.{Tops, Met, OnBut}
use Rattle.dag_round_points.specs.Point.{point_code, place_for}
use Rattle.dag_round_points.specs.RefinesPoint.{point_is}
use Rattle.cert_certify.specs.Word.{flags_word, height-word, word_small}
use Rattle.cert_certify.specs.Settled.{cert_small, shape-certs, regular-certs, rooted, placed, settled_from}
use Rattle.cert_certify.specs.On.{handed_on}
use Rattle.cert_certify.specs.Model.{traversed}
use Rattle.cert_certify.specs.Queue.{traversed-same}
use Rattle.cert_certify.specs.ModelCertify.{topped_certs, certified_certs, Certifiable}

module _ (s : State) (ks ls cs os : List ℕ) (fk : Fit ks) (fl : Fit ls) (h : counts_as_started (view s ks ls cs os) ≡ true) where
  -- the number of used places
  abbrev n : ℕ
  n = s.count

  -- a top's height, less 1
  abbrev H : ℕ
  H = s.commit_history_rounds

  -- what the tables hold
  t : Started s ks ls cs os
  t = counted s ks ls cs os fk fl h

  -- at most 4,096 places
  small : length os ≤ 4096
  small = places_says _ t.places_ok

  -- a top's height fits
  most : H ≤ 255
  most = conf_says _ _ t.conf_ok

  module _ (q : ℕ) (u : Used os s.count q) where
    -- its word lies in the table
    there : q < length cs
    there = let (i, l, e) = u in omega (arith, t.facts.inside i l, (shape_says ks ls cs os t.shaped).2)

    -- a used place can be certified
    pub certifiable : Certifiable s ks ls cs q
    certifiable =
        let (a, b, p) = placed s ks ls cs os q t.shaped t.regulated small u in
        ((a, b, there, cert_small ks ls cs q (t.fits q u), most), p)

    -- the flags with the top bit
    abbrev flags : Flags
    flags = topped (flags_of (get_or cs q 0))

    -- the certificate words with q as a top
    abbrev ds : List ℕ
    ds = topped_certs s cs q

    -- as many of them
    long : length ds ≡ length cs
    unfolding topped_certs
    long = length-set cs q _

    -- the word of q
    own : get_or ds q 0 ≡ word flags (H + 1)
    unfolding topped_certs
    own = get_or-set_same cs q _ 0 there

    -- the others stay
    other : (p : ℕ) → p ≢ q → get_or ds p 0 ≡ get_or cs p 0
    unfolding topped_certs
    other p d = get_or-set_other cs q p _ 0 d

    -- their heights too
    height-other : (p : ℕ) → p ≢ q → height_at ds p ≡ height_at cs p
    height-other p d = rw (other p d) refl

    -- q has a top's height
    height-own : height_at ds q ≡ suc H
    unfolding height_of
    height-own = ap height_of own ∙ (height-word flags (H + 1) (omega (arith, most)) ∙ omega arith)

    -- q's flags
    flags_own : flags_of (get_or ds q 0) ≡ flags
    flags_own = ap flags_of own ∙ flags_word flags (H + 1) (omega (arith, most))

    -- words of 16 bits
    fit : (p : ℕ) → Used os n p → get_or ds p 0 < 65536
    fit p x =
        same_or p q
        (λ e. rw (e, own) (word_small flags (H + 1) (omega (arith, most))))
        (λ d. rw (other p d) (cert_small ks ls cs p (t.fits p x)))

    -- the shape stays
    shape-after : shape ks ls ds os ≡ true
    shape-after = shape-certs s ks ls cs ds os t.shaped t.regulated small long fit

    -- the tables are regular
    regular-after : regular s ks ls ds os ≡ true
    regular-after = regular-certs s ks ls cs ds os t.shaped t.regulated small long fit

    -- the heights before are those of paths
    heights_are : Heights s.bottom.0 H ks ls cs os n
    heights_are = t.facts.heights

    -- q is a top
    top_own : Top ds os n q
    unfolding flags_of topped
    top_own = (u, ap (λ (f : Flags). f.top) flags_own)

    -- a top stays one
    top_stays : (x : ℕ) → Top cs os n x → Top ds os n x
    top_stays x (y, e) = same_or x q (λ d. subst (Top ds os n) (sym d) top_own) (λ d. (y, rw (other x d) e))

    -- no place but q becomes one
    top_was : (x : ℕ) → x ≢ q → Top ds os n x → Top cs os n x
    top_was x d (y, e) = (y, rw (other x d) at e)

    -- no height is above a top's
    capped : (p : ℕ) → Used os n p → height_at cs p ≤ suc H
    capped p x = ⊎_elim (λ e. omega arith) (λ (y, to, w, e). omega arith) (heights_are p x).met

    -- so no height falls
    rises : (p : ℕ) → Used os n p → height_at cs p ≤ height_at ds p
    rises p x = same_or p q (λ e. rw e (omega (arith, height-own, capped q u))) (λ d. omega (arith, height-other p d))

    -- every top has a top's height
    tops : Tops H ds os n
    tops x to =
        same_or x q
        (λ e. rw e (omega (arith, height-own)))
        (λ d. omega (arith, height-other x d, (heights_are x to.0).bound x (top_was x d to) here))

    -- every height is what some top gives
    met : Met s.bottom.0 H ks ls ds os n
    met p x =
        same_or p q
        (λ e. rw e (inr (q, top_own, here, omega (arith, height-own))))
        (λ d. rw (other p d) (⊎_elim inl (λ (y, to, w, e). inr (y, top_stays y to, w, e)) (heights_are p x).met))

    -- the tables before, with their links
    root : Rooted s.bottom.0 ks ls cs os n q
    root = rooted s ks ls cs os q t.shaped t.regulated small u

    -- every place but q has
    but : OnBut q s.bottom.0 ks ls ds os n
    but p x d e =
        let y = (root.falls p e.which x e.from e.live e.to).0 in
        omega (arith, height-other p d, handed_on s.bottom.0 H ks ls cs os n q root heights_are p x e, rises x y)

    -- the points, with q as a top
    points : (p : ℕ) → seen_at ks ls ds os n p ≡ set_top (eqb p q) ((view s ks ls cs os).pt p)
    unfolding view seen_at point_at set_top topped
    points p =
        same_or p q
        (λ e. rw (e, eq-eqb q q refl, (used_is os n q).1 u, flags_own) refl)
        (λ d. rw (ne_eqb p q d, other p d) refl)

    -- the view after a certificate
    pub certified-view : view s ks ls (certified_certs s ks ls cs q) os ≡ certify_at (view s ks ls cs os) q
    unfolding certified_certs certify_at
    certified-view =
        settled_from s ks ls ds os q shape-after regular-after small u fk fl (low_of_lem s ks ls cs os fk fl t.shaped t.facts.ids) (λ p x. (t.facts.words p x).named.status) tops met but ks ls cs t.shaped t.regulated
        (λ p. set_top (eqb p q) ((view s ks ls cs os).pt p)) points (view s ks ls cs os).heights

    -- a top holds a top's height, and its word has the top bit
    own-word : Top cs os n q → word (topped (flags_of (get_or cs q 0))) (H + 1) ≡ get_or cs q 0
    unfolding topped flags_of height_of
    own-word to =
        let e : H + 1 ≡ height_at cs q = omega (arith, capped q u, (heights_are q u).bound q to here) in
        let f : topped (flags_of (get_or cs q 0)) ≡ flags_of (get_or cs q 0) = λ j. record { top = sym to.1 j; started = (flags_of (get_or cs q 0)).started; completed = (flags_of (get_or cs q 0)).completed; committed = (flags_of (get_or cs q 0)).committed } in
        (λ j. word (f j) (e j)) ∙ word_of (get_or cs q 0) (cert_small ks ls cs q (t.fits q u))

    -- "A second certificate changes nothing.": every word stays
    pub certified-again : Top cs os n q → certified_certs s ks ls cs q ≡ cs
    unfolding certified_certs topped_certs
    certified-again to =
        ap (λ (x : List ℕ). traversed s.bottom.0 ks ls x q) (ap (set cs q) (own-word to) ∙ set-get_or cs q 0)
        ∙ traversed-same s.bottom.0 ks ls cs q (λ k l z. on k l z)
      where
        on : (k : ℕ) → k < reach s.bottom.0 ks q → 0 < target_at ls q k → height_at cs q ≤ height_at cs (target_at ls q k - 1) + dist k
        on k l z =
            let x : ℕ = target_at ls q k - 1 in
            let e : target_at ls q k ≡ suc x = omega arith in
            omega (arith, (root.falls q k x u l e).1, handed_on s.bottom.0 H ks ls cs os n q root heights_are q x (record { from = u; which = k; live = l; to = e }))

  -- the call 'certify': refused with a number, or the store after it
  pub certify_is : (i : PointId) → Fit (id_words i) → do_certify (view s ks ls cs os) (id_of i) ≡ unless (point_code s ks os i) (good (certify_at (view s ks ls cs os) (place_for s ks os i)))
  unfolding do_certify
  certify_is i fi = point_is s ks ls cs os i fk fl h fi (λ q. good (certify_at (view s ks ls cs os) q))
