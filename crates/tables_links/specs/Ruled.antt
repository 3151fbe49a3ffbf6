-- What the tests of bare points and of words say (dag/dag_round.rs).
use Rattle.std.specs.Prelude.{ℕ, ◌/◌, ◌%◌, ◌≤◌, ◌<◌, ◌≡◌, refl, ◌↔◌, Bool, true, not, List, get_or, eqb, ltb}
use Rattle.std.proofs.Common.{sym, ◌∙◌, subst, ap, ⊎_elim}
use native.Mathlib.Omega.{arith}
use borrow.Author.Tests.{eqb-true, eq-eqb, ne_eqb, not-true, ltb-true, lt-ltb, leb-true, le-leb}
use Rattle.laws.specs.Test.{both, clash, and_l, and_r, or_l, or_r, or_cases, same_or, le_or}
use Rattle.laws.specs.Scan.{every, every_elim, every_intro}
use Rattle.models.specs.Live.{reach, reach_live, Live}
use Rattle.tables_links.specs.Bare.{empty_from, bare_at, empty_below, empty_more, empty_elim, by_none, by_full, by_bare}
use Rattle.tables_links.specs.Words.{point_in_range, resolution_in_range, told_fits, words_at, resolution_none, resolution_some}
use Rattle.models.specs.Cert.{flags_of, height_of}
use Rattle.models.specs.Tables.{round_at, author_at, status_at, marks_at, place_at, Used, target_at, dist, evidence_at, proof_round_at, proof_author_at}

-- a test of every position of the order is one of every used place
pub every_used : (os : List ℕ) (n : ℕ) (f : ℕ → Bool) (P : ℕ → Type 0) → ((q : ℕ) → (f q ≡ true) ↔ P q) → (every n (λ i. f (place_at os i)) ≡ true) ↔ ((q : ℕ) → Used os n q → P q)
every_used os n f P x = (
  (λ h q (i, l, e). subst P e ((x (place_at os i)).0 (every_elim n (λ i. f (place_at os i)) h i l))),
  λ r. every_intro n (λ i. f (place_at os i)) (λ i l. (x (place_at os i)).1 (r (place_at os i) (i, l, refl))),
)

-- the links and the evidence of the place q: none of an ill-formed or missing point, none into rounds below 0
pub record Bare (ks ls : List ℕ) (q : ℕ) : Type 0 where
  pub links : (k : ℕ) → 0 < status_at ks q → k < 64 → 0 < target_at ls q k → (status_at ks q ≤ 3) × (dist k ≤ round_at ks q)
  pub evidence : 4 ≤ status_at ks q → evidence_at ls q ≡ 0

module _ (ks ls : List ℕ) (q : ℕ) (status : status_at ks q ≤ 5) where
  bare_elim : bare_at ks ls q ≡ true → Bare ks ls q
  unfolding bare_at
  bare_elim h = record {
    links = λ k r l a. le_or 4 (status_at ks q)
        (λ s. absurd (omega (arith, empty_elim ls q 0 (and_r (eqb (evidence_at ls q) 0) _ (sym (by_bare ks ls q _ s status) ∙ h)) k l a)))
        (λ s. let m : k < reach 0 ks q = empty_elim ls q (reach 0 ks q) (sym (by_full ks ls q _ r (omega arith)) ∙ h) k l a in
        let v : Live 0 ks q k = (reach_live 0 ks q k).0 m in (omega arith, omega arith));
    evidence = λ s. eqb-true _ 0 (and_l (eqb (evidence_at ls q) 0) _ (sym (by_bare ks ls q _ s status) ∙ h));
  }

  bare_intro : Bare ks ls q → bare_at ks ls q ≡ true
  unfolding bare_at empty_from
  bare_intro r =
      same_or (status_at ks q) 0 (λ s. by_none ks ls q _ s)
      (λ s. le_or 4 (status_at ks q)
      (λ f. by_bare ks ls q _ f status ∙ both (eq-eqb _ 0 (r.evidence f)) (every_intro 64 _ (λ k l. le_or (target_at ls q k) 0
      (λ a. empty_more ls q 0 k (omega arith))
      (λ a. absurd (let u = (r.links k (omega arith) l a).0 in omega arith)))))
      (λ f. by_full ks ls q _ (omega arith) (omega arith) ∙ every_intro 64 _ (λ k l. le_or (target_at ls q k) 0
      (λ a. empty_more ls q (reach 0 ks q) k (omega arith))
      (λ a. let u = (r.links k (omega arith) l a).1 in empty_below ls q (reach 0 ks q) k ((reach_live 0 ks q k).1 (omega arith, l, omega arith, status))))))

  -- sound and complete, of a status that 01 has
  pub bare_exact : (bare_at ks ls q ≡ true) ↔ Bare ks ls q
  bare_exact = (bare_elim, bare_intro)

-- status, marks and author of a used place, with the certificate word c: committed only above height 0
pub record Named (s m a c : ℕ) : Type 0 where
  pub status : s ≤ 5
  pub marks : m < 8
  pub author : a < 32
  pub word : c ≤ 65535
  pub committed : c / 4096 % 2 ≡ 1 → 0 < c % 4096

-- evidence of a resolved point, round and author of its top proof
pub record Resolution (e r a : ℕ) : Type 0 where
  pub evidence : e < 4294967296
  pub round : r < 4294967296
  pub author : a < 32

-- the words of the place q
pub record Words (ks ls cs : List ℕ) (q : ℕ) : Type 0 where
  pub named : Named (status_at ks q) (marks_at ks q) (author_at ks q) (get_or cs q 0)
  pub resolution : 0 < status_at ks q → Resolution (evidence_at ls q) (proof_round_at ls q) (proof_author_at ls q)

named_exact : (s m a c : ℕ) → (point_in_range s m a c ≡ true) ↔ Named s m a c
unfolding point_in_range height_of flags_of
named_exact s m a c = (
  (λ h. record {
    status = leb-true _ _ (search (and_l, and_r));
    marks = ltb-true _ _ (search (and_l, and_r));
    author = ltb-true _ _ (search (and_l, and_r));
    word = leb-true _ _ (search (and_l, and_r));
    committed = λ b. ⊎_elim (λ t. ltb-true _ _ t) (λ t. absurd (clash (eq-eqb (c / 4096 % 2) 1 b) (not-true _ t))) (or_cases (ltb 0 (c % 4096)) (not (eqb (c / 4096 % 2) 1)) (search (and_l, and_r)));
  }),
  λ w. both (le-leb _ _ w.status) (both (lt-ltb _ _ w.marks) (both (lt-ltb _ _ w.author) (both (le-leb _ _ w.word) (same_or (c / 4096 % 2) 1
      (λ b. or_l _ (not (eqb (c / 4096 % 2) 1)) (lt-ltb _ _ (w.committed b)))
      (λ b. or_r (ltb 0 (c % 4096)) _ (ap not (ne_eqb (c / 4096 % 2) 1 b))))))),
)

resolution_exact : (e r a : ℕ) → (resolution_in_range e r a ≡ true) ↔ Resolution e r a
unfolding resolution_in_range
resolution_exact e r a = (
  (λ h. record {
    evidence = ltb-true _ _ (search (and_l, and_r));
    round = ltb-true _ _ (search (and_l, and_r));
    author = ltb-true _ _ (search (and_l, and_r));
  }),
  λ w. both (lt-ltb _ _ w.evidence) (both (lt-ltb _ _ w.round) (lt-ltb _ _ w.author)),
)

-- sound and complete
pub words_exact : (ks ls cs : List ℕ) (q : ℕ) → (words_at ks ls cs q ≡ true) ↔ Words ks ls cs q
unfolding words_at told_fits
words_exact ks ls cs q = (
  (λ h. let n = (named_exact _ _ _ _).0 (and_l (point_in_range (status_at ks q) (marks_at ks q) (author_at ks q) (get_or cs q 0)) _ h) in record {
    named = n;
    resolution = λ s. (resolution_exact _ _ _).0 (sym (resolution_some _ _ _ _ s n.status) ∙ and_r (point_in_range (status_at ks q) (marks_at ks q) (author_at ks q) (get_or cs q 0)) _ h);
  }),
  λ w. both ((named_exact _ _ _ _).1 w.named) (same_or (status_at ks q) 0 (λ s. resolution_none _ _ _ _ s) (λ s. resolution_some _ _ _ _ (omega arith) w.named.status ∙ (resolution_exact _ _ _).1 (w.resolution (omega arith)))),
)
