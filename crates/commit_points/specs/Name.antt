-- A point is named (01: parts.rs, 'Refusals' 5 to 8 and 4).
use Rattle.std.specs.Prelude.{ℕ, ◌≡◌, List, [], Bool, not, true, false, length}
use Rattle.std.proofs.Math.Path.{refl}
use Rattle.std.proofs.Common.{sym, ◌∙◌}
use Rattle.spec.specs.Store.{Store}
use Rattle.spec.specs.Rules.{counts_as_started}
use Rattle.spec.specs.Calls.{name, perform, is_start, buffer_of, name_at}
use Rattle.models.specs.Digest.{Fit}
use Rattle.models.specs.Parts.{id_of}
use Rattle.models.specs.declared.parts.PointId.{PointId}
use Rattle.commit_state.specs.declared.state.State.{State}
use Rattle.tables_test.specs.Model.{passed, shape_says}
use Rattle.tables_test.specs.Refines.{shape_of}
use Rattle.dag_round_points.specs.Model.{Ready, id_words, name_code, taken, named_state, named_keys, named_certs, named_order}
use Rattle.dag_round_points.specs.Tests.{ready, name_is}
use Rattle.dag_round_points.specs.Refines.{named-view}
use Rattle.dag_round_points.specs.Codes.{unless-numbered, found, found_at, found_passed, found-refused}
use Rattle.models.specs.Refusal.{numbered, numbered-passed}
use Rattle.models.specs.declared.refusal.Refusal.{Refusal}
use Rattle.models.specs.declared.refusal.Refusal.TheVariants.{Number}
use Rattle.commit_answer.specs.Answer.{Tables, tables, view_of, Left, left, left-same, Did, refusal, unless_refused, done_with, left-refused, left-done, tested, tested_no, tested_by, tested-yes, call-tested, did_done}
use Rattle.commit_answer.specs.declared.answer.Outcome.{Outcome}
use Rattle.std.specs.Prelude.{Err, Ok}
use Rattle.models.specs.Refusal.{Check}
use Rattle.dag_round_points.specs.Codes.{Found}

-- the tables after it, if it isn't refused
abbrev pub named_tables : PointId → Tables → Tables
named_tables i d = tables (named_state d.state) (named_keys d.state d.keys d.order i) d.links (named_certs d.state d.certs d.order) (named_order d.state d.keys d.order i)

-- what it leaves
abbrev pub name_left : PointId → Tables → Left
name_left i d = unless_refused (tested (counts_as_started (view_of d)) (numbered (name_code d.state d.keys d.order i))) d (done_with (named_tables i d))

module _ (d : Tables) (fk : Fit d.keys) (fl : Fit d.links) (r : Bool) (e : r ≡ counts_as_started (view_of d)) (h : not r ≡ false) where
  -- what the code is given where the tables count as started
  pub name_ready : Ready d.state d.keys d.order
  name_ready = ready d.state d.keys d.links d.certs d.order fk fl (passed _ _ e h)

  long : length d.certs ≡ length d.order
  long = (shape_says d.keys d.links d.certs d.order (shape_of d.state d.keys d.links d.certs d.order (passed _ _ e h)).0).2

module _ (i : PointId) (d : Tables) (fk : Fit d.keys) (fl : Fit d.links) (fi : Fit (id_words i)) where
  abbrev q : ℕ
  q = taken d.state d.order

  abbrev check : Check
  check = tested (counts_as_started (view_of d)) (numbered (name_code d.state d.keys d.order i))

  -- it does 01's call
  name_did : (x : Left) → x ≡ name_left i d → Did (name (id_of i)) (name_left i) d x
  unfolding is_start buffer_of perform
  name_did =
      let t : Store = name_at (view_of d) (id_of i) q in
      did_done (name (id_of i)) (name_left i) d (named_tables i d) check refl refl t
      (call-tested (view_of d) (name (id_of i)) _ _ t refl refl refl (λ h. name_is d.state d.keys d.links d.certs d.order i fk fl h fi ∙ unless-numbered _ _))
      (λ e. let (h, z) = tested-yes _ _ e in named-view d.state d.keys d.links d.certs d.order i fk fl h (numbered-passed _ z))

  -- ---- one law for each way out of the code, and for what it is given

  abbrev Does : Left → Type 0
  Does = Did (name (id_of i)) (name_left i) d

  refused_by : (w : Refusal) → check ≡ Err w → (o : Outcome) → o ≡ refusal d.state w → Does (left o d.keys d.links d.certs d.order [])
  refused_by w t o f = name_did _ (left-refused check d (done_with (named_tables i d)) w t o f)

  module _ (r : Bool) (e : r ≡ counts_as_started (view_of d)) where
    pub name-unstarted : not r ≡ true → (o : Outcome) → o ≡ refusal d.state (Number 2) → Does (left o d.keys d.links d.certs d.order [])
    name-unstarted h = refused_by (Number 2) (tested_no _ _ r e h)

    module _ (h : not r ≡ false) (f : Found) (g : f ≡ found (name_code d.state d.keys d.order i) q) where
      pub name-refused : (w : Refusal) → f ≡ Err w → (o : Outcome) → o ≡ refusal d.state w → Does (left o d.keys d.links d.certs d.order [])
      name-refused w k = refused_by w (tested_by _ _ r e h _ (found-refused _ q w (sym g ∙ k)))

      module _ (p : ℕ) (k : f ≡ Ok p) where
        pub name_free : Ready d.state d.keys d.order × ((length d.certs ≡ length d.order) × (name_code d.state d.keys d.order i ≡ 0) × (p ≡ q))
        name_free = let (z, at) = found_at _ q p (sym g ∙ k) in (name_ready d fk fl r e h, (long d fk fl r e h, z, at))

        pub name_done : (s : State) (ks cs os : List ℕ) → s ≡ named_state d.state → ks ≡ named_keys d.state d.keys d.order i → cs ≡ named_certs d.state d.certs d.order → os ≡ named_order d.state d.keys d.order i
            → Does (done_with (tables s ks d.links cs os))
        name_done s ks cs os a b x y = name_did _ (left-done check d (done_with (named_tables i d)) (tested_by _ _ r e h _ (found_passed _ q p (sym g ∙ k))) _ (left-same refl a b refl x y refl))
