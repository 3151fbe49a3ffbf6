-- Links that the store sees are live targets.
use Prim.Native.Nat.{ℕ, suc, ◌+◌, ◌*◌, ◌≤◌, ◌<◌}
use Rattle.std.specs.Prelude.{◌≡◌, ltb}
use Rattle.std.proofs.Math.Path.{refl, sym, ap, subst}
use Rattle.std.proofs.Common.{◌∙◌, ap₂, arith}
use mathlib.Core.List.{List, ◌∷◌}
use Rattle.std.proofs.Math.Bool.{true}
use borrow.Author.Tests.{eq-eqb, ne_eqb, eqb-true, ltb-true, lt-ltb}
use Rattle.laws.specs.Test.{same_or, both, and_l, and_r}
use Rattle.laws.specs.Lists.{has, has_intro, has_elim}
use Rattle.spec.specs.Ids.{Id, fits, links_of}
use Rattle.spec.specs.Store.{links_to, resolved, links}
use Rattle.models.specs.Digest.{Fit, digest_words_lem}
use Rattle.models.specs.Tables.{round_at, author_at, digest_of, status_at, place_at, Used}
use Rattle.dag_round_keys.specs.Key.{key}
use Rattle.dag_round_keys.specs.Sorted.{Sorted, sorted-key}
use Rattle.models.specs.Live.{Live, reach_live}
use Rattle.tables_heights.specs.Refines.{Leads}
use Rattle.tables_links.specs.Named.{Names, Links}
use Rattle.commit_state.specs.View.{point_at, resolution_at, refs_from}
use Rattle.tables_test.specs.Refs.{link_at, links_elim, links_intro}

-- a used place is resolved by its status, and has the links of its words then
module _ (ks ls cs : List ℕ) (p : ℕ) where
  pub resolved_is : resolved (point_at ks ls cs p) ≡ ltb 0 (status_at ks p)
  unfolding resolved point_at resolution_at
  resolved_is = same_or (status_at ks p) 0 (λ e. rw (eq-eqb (status_at ks p) 0 e, e) refl) (λ d. rw (ne_eqb (status_at ks p) 0 d) refl)

  pub links_seen : 0 < status_at ks p → links (point_at ks ls cs p) ≡ links_of (refs_from ls p 0 0 32) (refs_from ls p 32 0 32)
  unfolding point_at resolution_at
  links_seen l = rw (ne_eqb (status_at ks p) 0 (λ e. omega arith)) refl

module _ (b n : ℕ) (ks ls cs os : List ℕ) (sorted : Sorted ks os n) (right : Links b ks ls os n) (low : (q : ℕ) → Used os n q → b ≤ round_at ks q) (fk : Fit ks) (fl : Fit ls) where
  -- a round and a digest are of one place
  pub one_place : (p q : ℕ) → Used os n p → Used os n q → round_at ks p ≡ round_at ks q → digest_of ks p ≡ digest_of ks q → p ≡ q
  unfolding key
  one_place p q (i, l, e) (j, m, f) r d =
      sym e ∙ (ap (place_at os) (sorted-key ks os n i j sorted l m (ap (key ks) e ∙ (ap₂ ◌∷◌ r ((digest_words_lem ks ks (p * 8 + 2) (q * 8 + 2) fk fk).1 d) ∙ ap (key ks) (sym f)))) ∙ f)

  -- link k of the place p names the place q exactly if the store sees it lead there
  abbrev id_of : ℕ → Id
  id_of q = record { round = round_at ks q; author = author_at ks q; digest = digest_of ks q }

  pub names-fits : (p k q : ℕ) → Names ks ls p k q → fits (round_at ks p) (id_of q) (link_at ls p k) ≡ true
  unfolding fits
  names-fits p k q m = both (eq-eqb _ _ m.falls) (both (eq-eqb _ _ m.author) (eq-eqb _ _ m.digest))

  fits-names : (p k q : ℕ) → fits (round_at ks p) (id_of q) (link_at ls p k) ≡ true → Names ks ls p k q
  unfolding fits
  fits-names p k q h = record {
    falls = eqb-true _ _ (and_l _ _ h);
    author = eqb-true _ _ (search (and_l, and_r, h));
    digest = eqb-true _ _ (search (and_l, and_r, h));
  }

  one-target : (p k q x : ℕ) → Used os n q → Used os n x → Names ks ls p k q → Names ks ls p k x → q ≡ x
  one-target p k q x u v m l =
      one_place q x u v (omega (arith, m.falls, l.falls)) (m.digest ∙ sym l.digest)

  pub edge_elim : (p q : ℕ) → Used os n p → Used os n q → status_at ks p ≤ 5 → links_to (point_at ks ls cs p) (point_at ks ls cs q) ≡ true → Leads b ks ls os n p q
  unfolding links_to point_at
  edge_elim p q u v fine h =
      let st : 0 < status_at ks p = ltb-true _ _ (sym (resolved_is ks ls cs p) ∙ and_l _ _ h) in
      let g = subst (λ x. has (fits (round_at ks p) (id_of q)) x ≡ true) (links_seen ks ls cs p st) (and_r true _ (and_r (resolved (point_at ks ls cs p)) _ h)) in
      let (l, m, f) = has_elim (fits (round_at ks p) (id_of q)) _ g in
      let (k, small, t, e) = links_elim ls p l m in
      let named : Names ks ls p k q = fits-names p k q (subst (λ x. fits (round_at ks p) (id_of q) x ≡ true) e f) in
      let live : Live b ks p k = (st, small, omega (arith, named.falls, low q v), fine) in
      let (x, w, a, names) = right p k u live t in
      record { from = u; which = k; live = (reach_live b ks p k).1 live; to = a ∙ ap suc (one-target p k x q w v names named) }

  pub edge_intro : (p q : ℕ) → Leads b ks ls os n p q → Used os n q × (links_to (point_at ks ls cs p) (point_at ks ls cs q) ≡ true)
  unfolding links_to point_at
  edge_intro p q e =
      let k = e.which in
      let live : Live b ks p k = (reach_live b ks p k).0 e.live in
      let (x, w, a, names) = right p k e.from live (omega (arith, e.to)) in
      let same : x ≡ q = omega (arith, e.to) in
      let named : Names ks ls p k q = rw same at names in
      (rw same at w, both (resolved_is ks ls cs p ∙ lt-ltb _ _ live.0) (both refl (has_intro (fits (round_at ks p) (id_of q)) (links (point_at ks ls cs p)) (link_at ls p k) (rw (links_seen ks ls cs p live.0) (links_intro ls p k live.1 (omega (arith, e.to)))) (names-fits p k q named))))
