-- A link into a retained round is known by its target word (01: 'Forms of the Rust', links as 12 tests them).
use Prim.Native.Nat.{ℕ, zero, suc, ◌+◌, ◌*◌, ◌/◌, ◌%◌, ◌<◌, ◌≤◌}
use Rattle.std.specs.Prelude.{◌≡◌, List, true, eqb, ltb}
use Rattle.std.proofs.Common.{sym, ap, ◌∙◌, eqb-true, eq-eqb, ltb-true, lt-ltb}
use Rattle.std.proofs.Math.Path.{subst}
use native.Mathlib.Omega.{arith}
use Rattle.laws.specs.Test.{both, and_l, and_r, same_test}
use Rattle.laws.specs.Scan.{any_intro, any_elim}
use Rattle.models.specs.Digest.{Fit, digest_at}
use Rattle.models.specs.Tables.{round_at, author_at, digest_of, status_at, Used, target_at}
use Rattle.models.specs.Live.{Live}
use Rattle.tables_links.specs.Links.{dig_at}
use Rattle.commit_state.specs.declared.state.State.{State}
use Rattle.tables_test.specs.Edges.{one_place}
use Rattle.tables_test.specs.Whole.{low_of_lem}
use Rattle.tables_test.specs.Refines.{Started}
use Rattle.inspector_references.specs.Refs.{refers_by, refers_at}

-- link k of the 32 from h * 32 on
peer_of_lem : (h k : ℕ) → h < 2 → k < 32 → ((h * 32 + k) / 32 ≡ h) × ((h * 32 + k) % 32 ≡ k)
peer_of_lem zero k l m = (omega arith, omega arith)
peer_of_lem (suc zero) k l m = (omega arith, omega arith)
peer_of_lem (suc (suc h)) k l m = absurd (omega arith)

module _ (s : State) (ks ls cs os : List ℕ) (fk : Fit ks) (fl : Fit ls) (t : Started s ks ls cs os) where
  -- the author of a used place is a peer
  pub author_low : (q : ℕ) → Used os s.count q → author_at ks q < 32
  author_low q u = (t.facts.words q u).named.author

  -- link k of the place q, h + 1 rounds down, leads to a used place
  lead : (q h k : ℕ) → Used os s.count q → 0 < status_at ks q → h < 2 → k < 32 → s.bottom.0 + (1 + h) ≤ round_at ks q → 0 < target_at ls q (h * 32 + k)
      → (p : ℕ) × Used os s.count p × (target_at ls q (h * 32 + k) ≡ suc p) × (round_at ks p + (1 + h) ≡ round_at ks q) × (author_at ks p ≡ k) × (digest_of ks p ≡ digest_at ls (dig_at q (h * 32 + k)))
  lead q h k u st a b r x =
      let (d, m) = peer_of_lem h k a b in
      let live : Live s.bottom.0 ks q (h * 32 + k) = (st, omega arith, subst (λ z. s.bottom.0 + (1 + z) ≤ round_at ks q) (sym d) r, (t.facts.words q u).named.status) in
      let (p, w, e, n) = t.facts.right q (h * 32 + k) u live x in
      (p, w, e, subst (λ z. round_at ks p + (1 + z) ≡ round_at ks q) d n.falls, n.author ∙ m, n.digest)

  -- the place w has a previous point, in a retained round; a point h rounds above w refers to its digest exactly if its link under w's author
  -- leads to the same place
  module _ (w : ℕ) (uw : Used os s.count w) (sw : 0 < status_at ks w) (up : s.bottom.0 < round_at ks w) (there : 0 < target_at ls w (author_at ks w)) where
    abbrev a : ℕ
    a = author_at ks w

    abbrev d : ℕ
    d = digest_at ls (dig_at w a)

    module _ (h q : ℕ) (l : h < 2) (u : Used os s.count q) (st : 0 < status_at ks q) (at : round_at ks q ≡ round_at ks w + h) where
      low : s.bottom.0 + (1 + h) ≤ round_at ks q
      low = omega arith

      pub refers_live : refers_at ls q (h * 32) d ≡ eqb (target_at ls q (h * 32 + a)) (target_at ls w a)
      unfolding refers_at refers_by
      refers_live =
          same_test _ _
          (λ x. let (k, m, y) = any_elim 32 (λ k. refers_by ls q d (h * 32 + k)) x in to k m (ltb-true _ _ (and_l _ _ y)) (eqb-true _ _ (and_r (ltb 0 (target_at ls q (h * 32 + k))) _ y)))
          (λ x. from (eqb-true _ _ x))
        where
          own : (p : ℕ) × Used os s.count p × (target_at ls w a ≡ suc p) × (round_at ks p + 1 ≡ round_at ks w) × (author_at ks p ≡ a) × (digest_of ks p ≡ d)
          own =
              let z : 0 * 32 + a ≡ a = omega arith in
              subst (λ x. (p : ℕ) × Used os s.count p × (target_at ls w x ≡ suc p) × (round_at ks p + 1 ≡ round_at ks w) × (author_at ks p ≡ a) × (digest_of ks p ≡ digest_at ls (dig_at w x))) z
              (lead w 0 a uw sw (omega arith) (author_low w uw) (omega arith) (subst (λ x. 0 < target_at ls w x) (sym z) there))

          to : (k : ℕ) → k < 32 → 0 < target_at ls q (h * 32 + k) → digest_at ls (dig_at q (h * 32 + k)) ≡ d → eqb (target_at ls q (h * 32 + a)) (target_at ls w a) ≡ true
          to k m x e =
              let (p, up, tp, rp, ap', dp) = own in
              let (p', uq, tq, rq, aq, dq) = lead q h k u st l m low x in
              let same : p' ≡ p = one_place s.bottom.0 s.count ks ls cs os t.facts.sorted t.facts.right (low_of_lem s ks ls cs os fk fl t.shaped t.facts.ids) fk fl p' p uq up (omega arith) (dq ∙ (e ∙ sym dp)) in
              let k_is : k ≡ a = sym aq ∙ (ap (author_at ks) same ∙ ap') in
              eq-eqb _ _ (ap (λ z. target_at ls q (h * 32 + z)) (sym k_is) ∙ (tq ∙ (ap suc same ∙ sym tp)))

          from : target_at ls q (h * 32 + a) ≡ target_at ls w a → refers_at ls q (h * 32) d ≡ true
          from e =
              let (p, up, tp, rp, ap', dp) = own in
              let x : 0 < target_at ls q (h * 32 + a) = omega arith in
              let (p', uq, tq, rq, aq, dq) = lead q h a u st l (author_low w uw) low x in
              let same : p' ≡ p = omega arith in
              any_intro 32 (λ k. refers_by ls q d (h * 32 + k)) a (author_low w uw) (both (lt-ltb _ _ x) (eq-eqb _ _ (sym dq ∙ (ap (digest_of ks) same ∙ dp))))
