-- The references owed that the code sends are those of 01, if rows, places and sets are what 01 says (01: inspector.rs, `take_events`).
use Rattle.std.specs.Prelude.{ℕ, ◌≤◌, ◌<◌, ◌≡◌, refl, Bool, true, false, ◌&&◌, length, take}
use Rattle.std.proofs.Math.Path.{sym, ap}
use Rattle.std.proofs.Common.{ap₂, ◌∙◌, arith, length-take-le, get_or-take}
use mathlib.Core.List.{List, [], ◌∷◌, ◌++◌, map}
use Rattle.std.proofs.Math.Dec.{eqb}
use Rattle.std.proofs.Math.ListN.{get_or}
use borrow.Author.Tests.{eqb-true}
use Rattle.laws.specs.Test.{by_test, and_yes}
use Rattle.laws.specs.Lists.{keep, keep_in, get_d_in, up_to}
use Rattle.laws.specs.Peers.{member}
use Rattle.spec.specs.Ids.{Id}
use Rattle.spec.specs.Store.{Entry, Memory, Store, id_at}
use Rattle.spec.specs.Inspect.{of, is_trusted, places_in, reported, proofs, authored_then, authored_now, not_referenced, ids_of, no_inclusion, only_if, no_inclusions}
use Rattle.spec.specs.Inspection.{place_elim}
use Rattle.models.specs.Digest.{Fit}
use Rattle.models.specs.Tables.{author_at, Used}
use Rattle.commit_state.specs.declared.state.State.{State}
use Rattle.tables_test.specs.View.{view}
use Rattle.tables_test.specs.Refines.{Started}
use Rattle.answer_bytes.specs.Bytes.{place_id}
use Rattle.back_history.specs.RefinesNeeded.{named_used}
use Rattle.inspector_references.specs.Referring.{row_author, row_digest}
use Rattle.inspector_events.specs.Told.{one_if, passing}
use Rattle.inspector_events.specs.Passing.{upto_same, map-twice, passing-keep}
use Rattle.inspector_signers.specs.Signers.{row_id, row_passes, row_ids, point_ids, signer_of, signers_of}
use Rattle.inspector_events.specs.Refines.{id_used}

-- the first n rows hold the entries es (z stands for none)
pub record RowsHold (z : Entry) (rs : List ℕ) (n : ℕ) (es : List Entry) : Type 0 where
  pub size : length es ≡ n
  pub authors : (k : ℕ) → k < n → row_author rs k ≡ (get_or es k z).author
  pub digests : (k : ℕ) → k < n → row_digest rs k ≡ (get_or es k z).digest

-- the signers to blame, and the sets of the rows, at round r with the memory m
pub record SetsHold (z : Entry) (ss : List ℕ) (sg n : ℕ) (m : Memory) (v : Store) (r : ℕ) : Type 0 where
  pub signers : (a : ℕ) → a < 32 → member sg a ≡ not_referenced m v r a
  pub sets : (a k : ℕ) → a < 32 → k < n → member (get_or ss k 0) a ≡ (not_referenced m v r a && reported m.entries v r a (get_or m.entries k z))

-- those that pass both tests
keep-twice : {A : Type 0} (f g : A → Bool) (l : List A) → keep g (keep f l) ≡ keep (λ a. g a && f a) l
unfolding keep
keep-twice f g [] = refl
keep-twice f g (x ∷ xs) =
    by_test (f x)
    (λ y. by_test (g x) (λ z. rw (y, z) (ap (λ l. x ∷ l) (keep-twice f g xs))) (λ z. rw (y, z) (keep-twice f g xs)))
    (λ y. by_test (g x) (λ z. rw (y, z) (keep-twice f g xs)) (λ z. rw (y, z) (keep-twice f g xs)))

module _ (s : State) (ks ls cs os : List ℕ) (fk : Fit ks) (fl : Fit ls) (t : Started s ks ls cs os) (r : ℕ) where
  -- the store
  abbrev v : Store
  v = view s ks ls cs os

  -- the trusted points of the round
  abbrev qs : List ℕ
  qs = keep (is_trusted v) (places_in v r)

  module _ (ps : List ℕ) (n : ℕ) (l : n ≤ length ps) (is : take n ps ≡ qs) where
    -- they are as many
    size : length qs ≡ n
    size = ap length (sym is) ∙ length-take-le n ps l

    -- place k is the k-th
    same : (k : ℕ) → k < n → get_or ps k 0 ≡ get_or qs k 0
    same k h = sym (get_or-take n ps k 0 h) ∙ ap (λ x. get_or x k 0) is

    -- it is a used one, of the round
    at : (k : ℕ) → k < n → Used os s.count (get_or qs k 0) × ((id_at v (get_or qs k 0)).round ≡ r)
    at k h =
        let (a, b) = place_elim v r (get_or qs k 0) ((keep_in (is_trusted v) (places_in v r) (get_or qs k 0)).0 (get_d_in qs k 0 (omega (arith, h, size)))).0 in
        (named_used s ks ls cs os fk fl t (get_or qs k 0) a, b)

    -- its id
    id_at_lem : (k : ℕ) → k < n → place_id ks (get_or ps k 0) ≡ id_at v (get_or qs k 0)
    id_at_lem k h = ap (place_id ks) (same k h) ∙ id_used s ks ls cs os fk fl t (get_or qs k 0) (at k h).0

    -- a signer's points of the round
    pub points_are : (a : ℕ) → point_ids ks ps n a ≡ ids_of r a (authored_now v r a)
    unfolding authored_now
    points_are a =
        passing-keep 0 n (λ j. get_or ps j 0) (λ q. eqb (author_at ks q) a) (place_id ks) (λ q. eqb (id_at v q).author a) (λ q. record { round = r; author = a; digest = (id_at v q).digest }) qs size
        (λ k h. ap (λ (i : Id). eqb i.author a) (id_at_lem k h))
        (λ k h y. id_at_lem k h ∙ (λ i. record { round = (at k h).1 i; author = eqb-true (id_at v (get_or qs k 0)).author a y i; digest = (id_at v (get_or qs k 0)).digest }))
        ∙ (ap (map (λ q. record { round = r; author = a; digest = (id_at v q).digest })) (keep-twice (is_trusted v) (λ q. eqb (id_at v q).author a) (places_in v r))
        ∙ sym (map-twice (λ d. record { round = r; author = a; digest = d }) (λ q. (id_at v q).digest) (keep (of (is_trusted v) v a) (places_in v r))))

    module _ (m : Memory) (z : Entry) (rs ss : List ℕ) (c sg : ℕ) (rows : RowsHold z rs c m.entries) (held : SetsHold z ss sg c m v r) (a : ℕ) where
      -- its points in the memory
      then_are : row_ids rs ss c m.last a false ≡ ids_of m.last a (authored_then m.entries a)
      unfolding authored_then row_passes
      then_are =
          passing-keep z c (λ j. j) (row_passes rs ss a false) (row_id rs m.last) (λ e. eqb e.author a) (λ e. record { round = m.last; author = a; digest = e.digest }) m.entries rows.size
          (λ k h. ap (λ x. eqb x a) (rows.authors k h))
          (λ k h y. λ i. record { round = m.last; author = (rows.authors k h ∙ eqb-true (get_or m.entries k z).author a y) i; digest = rows.digests k h i })
          ∙ sym (map-twice (λ d. record { round = m.last; author = a; digest = d }) (λ (e : Entry). e.digest) (keep (λ e. eqb e.author a) m.entries))

      -- the proofs against it
      proofs_are : a < 32 → not_referenced m v r a ≡ true → row_ids rs ss c m.last a true ≡ map (λ e. record { round = m.last; author = e.author; digest = e.digest }) (proofs m.entries v r a)
      unfolding proofs row_passes
      proofs_are b y =
          passing-keep z c (λ j. j) (row_passes rs ss a true) (row_id rs m.last) (reported m.entries v r a) (λ e. record { round = m.last; author = e.author; digest = e.digest }) m.entries rows.size
          (λ k h. held.sets a k b h ∙ and_yes y refl)
          (λ k h x. λ i. record { round = m.last; author = rows.authors k h i; digest = rows.digests k h i })

      -- its event, or none
      signer_is : a < 32 → one_if (member sg a) (signer_of ks ps n rs ss c m.last a) ≡ no_inclusions v (record { memory = m; round = r }) a
      unfolding one_if signer_of no_inclusions only_if
      signer_is b =
          ap (λ x. one_if x (signer_of ks ps n rs ss c m.last a)) (held.signers a b)
          ∙ by_test (not_referenced m v r a)
          (λ y. rw y (ap₂ (λ xs ys. no_inclusion a xs ys ∷ []) (ap₂ ◌++◌ then_are (points_are a)) (proofs_are b y)))
          (λ y. rw y refl)

    -- those of all signers of the round
    pub signers_are : (m : Memory) (z : Entry) (rs ss : List ℕ) (c sg : ℕ) → RowsHold z rs c m.entries → SetsHold z ss sg c m v r
        → signers_of ks ps n rs ss c m.last sg 32 ≡ up_to 32 (no_inclusions v (record { memory = m; round = r }))
    unfolding passing
    signers_are m z rs ss c sg rows held =
        upto_same 32 (λ a. one_if (member sg a) (signer_of ks ps n rs ss c m.last a)) (no_inclusions v (record { memory = m; round = r })) (λ a b. signer_is m z rs ss c sg rows held a b)
