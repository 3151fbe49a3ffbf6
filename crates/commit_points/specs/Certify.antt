-- A point is certified (01: cert.rs, 'Refusals' 5, 6, 9).
use Rattle.std.specs.Prelude.{ℕ, ◌≡◌, Bool, not, true, false}
use Rattle.std.proofs.Math.Path.{refl, sym}
use Rattle.std.proofs.Common.{◌∙◌, ap}
use mathlib.Core.List.{List, []}
use Rattle.spec.specs.Store.{Store}
use Rattle.spec.specs.Rules.{counts_as_started}
use Rattle.spec.specs.Calls.{certify, perform, is_start, buffer_of, certify_at}
use Rattle.models.specs.Digest.{Fit}
use Rattle.models.specs.Parts.{id_of}
use Rattle.models.specs.declared.parts.PointId.{PointId}
use Rattle.tables_test.specs.Model.{passed}
use Rattle.dag_round_points.specs.Codes.{unless-numbered, found, found_at, found_passed, found-refused}
use Rattle.dag_round_points.specs.Model.{id_words}
use Rattle.dag_round_points.specs.Point.{point_code, place_for, point_used}
use Rattle.cert_certify.specs.ModelCertify.{certified_certs, Certifiable}
use Rattle.cert_certify.specs.RefinesCertify.{certifiable, certified-view, certified-again, certify_is}
use Rattle.tables_heights.specs.View.{top_at}
use Rattle.models.specs.Refusal.{numbered, numbered-passed}
use Rattle.models.specs.declared.refusal.Refusal.{Refusal}
use Rattle.models.specs.declared.refusal.Refusal.TheVariants.{Number}
use Rattle.commit_answer.specs.Answer.{Tables, tables, view_of, Left, left, left-same, Did, refusal, unless_refused, done_with, left-refused, left-done, tested, tested_no, tested_by, tested-yes, call-tested, did_done}
use Rattle.commit_answer.specs.declared.answer.Outcome.{Outcome}
use Rattle.std.specs.Prelude.{Err, Ok}
use Rattle.models.specs.Refusal.{Check}
use Rattle.dag_round_points.specs.Codes.{Found}

-- the tables after it, if it isn't refused
abbrev pub certified_tables : PointId → Tables → Tables
certified_tables i d = tables d.state d.keys d.links (certified_certs d.state d.keys d.links d.certs (place_for d.state d.keys d.order i)) d.order

-- what it leaves
abbrev pub certify_left : PointId → Tables → Left
certify_left i d = unless_refused (tested (counts_as_started (view_of d)) (numbered (point_code d.state d.keys d.order i))) d (done_with (certified_tables i d))

module _ (i : PointId) (d : Tables) (fk : Fit d.keys) (fl : Fit d.links) (fi : Fit (id_words i)) where
  abbrev q : ℕ
  q = place_for d.state d.keys d.order i

  abbrev check : Check
  check = tested (counts_as_started (view_of d)) (numbered (point_code d.state d.keys d.order i))

  -- it does 01's call
  certify_did : (x : Left) → x ≡ certify_left i d → Did (certify (id_of i)) (certify_left i) d x
  unfolding is_start buffer_of perform
  certify_did =
      let t : Store = certify_at (view_of d) q in
      did_done (certify (id_of i)) (certify_left i) d (certified_tables i d) check refl refl t
      (call-tested (view_of d) (certify (id_of i)) _ _ t refl refl refl (λ h. certify_is d.state d.keys d.links d.certs d.order fk fl h i fi ∙ unless-numbered _ _))
      (λ e. let (h, z) = tested-yes _ _ e in certified-view d.state d.keys d.links d.certs d.order fk fl h q (point_used d.state d.keys d.order i (numbered-passed _ z)))

  -- "A second certificate changes nothing.": of a top the call is done, and leaves state and tables word for word
  pub certify-again : counts_as_started (view_of d) ≡ true → point_code d.state d.keys d.order i ≡ 0 → top_at d.certs q ≡ true → certify_left i d ≡ done_with d
  unfolding tested numbered
  certify-again h z to =
      let u = point_used d.state d.keys d.order i z in
      sym (left-done check d (done_with (certified_tables i d)) (rw (h, z) refl) (done_with d)
      (ap (λ (cs : List ℕ). done_with (tables d.state d.keys d.links cs d.order)) (sym (certified-again d.state d.keys d.links d.certs d.order fk fl h q u (u, to)))))

  -- ---- one law for each way out of the code, and for what it is given

  abbrev Does : Left → Type 0
  Does = Did (certify (id_of i)) (certify_left i) d

  refused_by : (w : Refusal) → check ≡ Err w → (o : Outcome) → o ≡ refusal d.state w → Does (left o d.keys d.links d.certs d.order [])
  refused_by w t o f = certify_did _ (left-refused check d (done_with (certified_tables i d)) w t o f)

  module _ (r : Bool) (e : r ≡ counts_as_started (view_of d)) where
    pub certify-unstarted : not r ≡ true → (o : Outcome) → o ≡ refusal d.state (Number 2) → Does (left o d.keys d.links d.certs d.order [])
    certify-unstarted h = refused_by (Number 2) (tested_no _ _ r e h)

    module _ (h : not r ≡ false) (f : Found) (g : f ≡ found (point_code d.state d.keys d.order i) q) where
      pub certify-refused : (w : Refusal) → f ≡ Err w → (o : Outcome) → o ≡ refusal d.state w → Does (left o d.keys d.links d.certs d.order [])
      certify-refused w k = refused_by w (tested_by _ _ r e h _ (found-refused _ q w (sym g ∙ k)))

      module _ (p : ℕ) (k : f ≡ Ok p) where
        at : (point_code d.state d.keys d.order i ≡ 0) × (p ≡ q)
        at = found_at _ q p (sym g ∙ k)

        pub certify_ready : Certifiable d.state d.keys d.links d.certs p
        certify_ready = rw at.1 (certifiable d.state d.keys d.links d.certs d.order fk fl (passed _ _ e h) q (point_used d.state d.keys d.order i at.0))

        pub certify-done : (cs : List ℕ) → cs ≡ certified_certs d.state d.keys d.links d.certs p → Does (done_with (tables d.state d.keys d.links cs d.order))
        certify-done cs x =
            certify_did _ (left-done check d (done_with (certified_tables i d)) (tested_by _ _ r e h _ (found_passed _ q p (sym g ∙ k))) _
            (left-same refl refl refl refl (x ∙ ap (certified_certs d.state d.keys d.links d.certs) at.1) refl refl))
