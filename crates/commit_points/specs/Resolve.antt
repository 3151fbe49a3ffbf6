-- A point is resolved (01: info.rs, cert.rs, 'Refusals' 5, 6, 9 to 12).
use Rattle.std.specs.Prelude.{ℕ, ◌<◌, ◌≡◌, List, [], Bool, not, true, false, length}
use Rattle.std.proofs.Math.Path.{refl, sym}
use Rattle.std.proofs.Common.{◌∙◌, ap, subst}
use Rattle.spec.specs.Store.{Store}
use Rattle.spec.specs.Rules.{counts_as_started}
use Rattle.spec.specs.Calls.{resolve, perform, is_start, buffer_of, resolve_at}
use Rattle.models.specs.Digest.{Fit}
use Rattle.models.specs.Info.{info_of}
use Rattle.models.specs.Parts.{id_of}
use Rattle.models.specs.Tables.{round_at}
use Rattle.models.specs.declared.info.PointInfo.{PointInfo}
use Rattle.models.specs.declared.parts.PointId.{PointId}
use Rattle.tables_test.specs.Model.{passed}
use Rattle.dag_round_points.specs.Codes.{unless-numbered, numbered-first, numbered_next, found, found_at, found-refused}
use Rattle.dag_round_points.specs.Model.{Ready, id_words, else_zero}
use Rattle.dag_round_points.specs.Point.{point_code, place_for, point_used}
use Rattle.info_store.specs.Model.{stored_keys, stored_links}
use Rattle.info_store.specs.Ranged.{Ranged}
use Rattle.info_resolve.specs.Model.{info_code, resolve_code, place_there, Accepted, info_accepted, resolve_is}
use Rattle.info_resolve.specs.Refines.{resolved_certs, Resolvable, resolvable, resolved-view}
use Rattle.models.specs.Refusal.{numbered, not_failed, numbered-passed}
use Rattle.models.specs.declared.refusal.Refusal.{Refusal}
use Rattle.models.specs.declared.refusal.Refusal.TheVariants.{Number}
use Rattle.commit_answer.specs.Answer.{Tables, tables, view_of, Left, left, left-same, Did, refusal, unless_refused, done_with, left-refused, left-done, tested, tested_no, tested_by, tested-yes, call-tested, did_done}
use Rattle.commit_answer.specs.declared.answer.Outcome.{Outcome}
use Rattle.commit_points.specs.Name.{name_ready}
use Rattle.std.specs.Prelude.{Err, Ok}
use Rattle.models.specs.Refusal.{Check, no_refusal}
use Rattle.dag_round_points.specs.Codes.{Found}

-- the tables after it, if it isn't refused
abbrev pub resolved_tables : PointId → PointInfo → List ℕ → Tables → Tables
resolved_tables i info rs d =
    let q = place_for d.state d.keys d.order i in
    tables d.state (stored_keys d.keys q info) (stored_links d.state d.keys d.links d.order q info rs) (resolved_certs d.state d.keys d.links d.certs d.order q info rs) d.order

-- what it leaves
abbrev pub resolve_left : PointId → PointInfo → List ℕ → Tables → Left
resolve_left i info rs d = unless_refused (tested (counts_as_started (view_of d)) (numbered (resolve_code d.state d.keys d.order i info rs))) d (done_with (resolved_tables i info rs d))

module _ (i : PointId) (info : PointInfo) (rs : List ℕ) (d : Tables) (fk : Fit d.keys) (fl : Fit d.links) (range : Ranged info) (fi : Fit (id_words i)) (fr : Fit rs) where
  abbrev q : ℕ
  q = place_for d.state d.keys d.order i

  abbrev code : ℕ
  code = resolve_code d.state d.keys d.order i info rs

  abbrev check : Check
  check = tested (counts_as_started (view_of d)) (numbered code)

  -- the tests that an accepted one passed
  passes : code ≡ 0 → (point_code d.state d.keys d.order i ≡ 0) × Accepted d.state d.keys d.order q info rs
  unfolding resolve_code
  passes e = let (a, b) = else_zero _ _ e in (a, info_accepted d.state d.keys d.order q info rs b)

  -- the tables that an accepted one leaves hold words
  abbrev Fits : Type 0
  Fits = Fit (stored_keys d.keys q info) × Fit (stored_links d.state d.keys d.links d.order q info rs)

  abbrev Does : Left → Type 0
  Does = Did (resolve (id_of i) (info_of info rs)) (resolve_left i info rs) d

  -- it does 01's call
  resolve_did : (check ≡ no_refusal → Fits) → (x : Left) → x ≡ resolve_left i info rs d → Does x
  unfolding is_start buffer_of perform
  resolve_did fits =
      let t : Store = resolve_at (view_of d) (info_of info rs) q in
      did_done (resolve (id_of i) (info_of info rs)) (resolve_left i info rs) d (resolved_tables i info rs d) check refl refl t
      (call-tested (view_of d) (resolve (id_of i) (info_of info rs)) _ _ t refl refl refl (λ h. resolve_is d.state d.keys d.links d.certs d.order fk fl h info rs fr i fi ∙ unless-numbered _ _))
      (λ e. let (h, z) = tested-yes _ _ e in
      let (p, a) = passes (numbered-passed _ z) in
      let (x, y) = fits e in
      resolved-view d.state d.keys d.links d.certs d.order fk fl h q (point_used d.state d.keys d.order i p) info rs a.formed a.includes a.witness range a.unresolved x y)

  -- ---- one law for each way out of the code, and for what it is given

  refused_by : (w : Refusal) → check ≡ Err w → (o : Outcome) → o ≡ refusal d.state w → Does (left o d.keys d.links d.certs d.order [])
  refused_by w t o f = resolve_did (λ e. absurd (not_failed w (sym t ∙ e))) _ (left-refused check d (done_with (resolved_tables i info rs d)) w t o f)

  module _ (r : Bool) (e : r ≡ counts_as_started (view_of d)) where
    pub resolve-unstarted : not r ≡ true → (o : Outcome) → o ≡ refusal d.state (Number 2) → Does (left o d.keys d.links d.certs d.order [])
    resolve-unstarted h = refused_by (Number 2) (tested_no _ _ r e h)

    module _ (h : not r ≡ false) (f : Found) (g : f ≡ found (point_code d.state d.keys d.order i) q) where
      pub resolve_unnamed : (w : Refusal) → f ≡ Err w → (o : Outcome) → o ≡ refusal d.state w → Does (left o d.keys d.links d.certs d.order [])
      unfolding resolve_code
      resolve_unnamed w k = refused_by w (tested_by _ _ r e h _ (numbered-first _ _ w (found-refused _ q w (sym g ∙ k))))

      module _ (p : ℕ) (k : f ≡ Ok p) where
        at : (point_code d.state d.keys d.order i ≡ 0) × (p ≡ q)
        at = found_at _ q p (sym g ∙ k)

        pub resolve_there : Ready d.state d.keys d.order × ((p < length d.order) × (round_at d.keys p ≡ i.round.0))
        resolve_there = let y = name_ready d fk fl r e h in (y, place_there d.state d.keys d.order i p y at.0 at.1)

        module _ (t : Check) (u : t ≡ numbered (info_code d.state d.keys d.order p info rs)) where
          code_is : numbered code ≡ t
          unfolding resolve_code
          code_is = numbered_next _ _ at.0 ∙ (ap (λ (y : ℕ). numbered (info_code d.state d.keys d.order y info rs)) (sym at.1) ∙ sym u)

          pub resolve-refused : (w : Refusal) → t ≡ Err w → (o : Outcome) → o ≡ refusal d.state w → Does (left o d.keys d.links d.certs d.order [])
          resolve-refused w y = refused_by w (tested_by _ _ r e h _ (code_is ∙ y))

          module _ (y : t ≡ no_refusal) where
            pub resolve_ready : Resolvable d.state d.keys d.links d.certs d.order p info rs × (round_at d.keys p ≡ i.round.0)
            resolve_ready =
                let (x, a) = passes (numbered-passed _ (code_is ∙ y)) in (
                  subst (λ (z : ℕ). Resolvable d.state d.keys d.links d.certs d.order z info rs) (sym at.1) (resolvable d.state d.keys d.links d.certs d.order fk fl (passed _ _ e h) q (point_used d.state d.keys d.order i x) info rs a.formed a.includes a.witness range),
                  resolve_there.1.1,
                )

            pub resolve-done : (ks ls cs : List ℕ) → ks ≡ stored_keys d.keys p info → ls ≡ stored_links d.state d.keys d.links d.order p info rs → cs ≡ resolved_certs d.state d.keys d.links d.certs d.order p info rs → Fit ks → Fit ls
                → Does (done_with (tables d.state ks ls cs d.order))
            resolve-done ks ls cs a b c fa fb =
                let x = a ∙ ap (λ (z : ℕ). stored_keys d.keys z info) at.1 in
                let l = b ∙ ap (λ (z : ℕ). stored_links d.state d.keys d.links d.order z info rs) at.1 in
                let v = c ∙ ap (λ (z : ℕ). resolved_certs d.state d.keys d.links d.certs d.order z info rs) at.1 in
                resolve_did (λ z. (subst Fit x fa, subst Fit l fb)) _ (left-done check d (done_with (resolved_tables i info rs d)) (tested_by _ _ r e h _ (code_is ∙ y)) _ (left-same refl refl x l v refl refl))
