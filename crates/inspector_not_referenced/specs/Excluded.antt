-- The signers that are reported by one row (01: inspector.rs, `exclude_witness`).
use Rattle.std.specs.Prelude.{ℕ, suc, ◌<◌, ◌≡◌, Bool, true, false, ◌&&◌, cond, eqb, ltb, drop}
use Rattle.std.proofs.Math.Path.{refl, sym, ap}
use Rattle.std.proofs.Common.{◌∙◌, arith}
use mathlib.Core.List.{List}
use Rattle.std.proofs.Math.Bool.{not}
use Rattle.std.proofs.Math.Option.{none, some}
use borrow.Author.Tests.{eq-eqb, ne_eqb, lt-ltb, le-ltb}
use Rattle.laws.specs.Test.{same_or, and_no_r}
use Rattle.laws.specs.Lists.{has, keep}
use Rattle.laws.specs.Peers.{member}
use Rattle.spec.specs.Store.{Store, Entry}
use Rattle.spec.specs.Rules.{counts_as_started}
use Rattle.spec.specs.Inspect.{is_trusted, places_in, witnessed_by, reported}
use Rattle.spec.specs.Inspection.{Ascending, is_unreferenced, is_last_unreferenced}
use Rattle.spec.proofs.Inspection.{reported_at}
use Rattle.models.specs.Digest.{Fit}
use Rattle.commit_state.specs.declared.state.State.{State}
use Rattle.tables_test.specs.View.{view}
use Rattle.inspector_references.specs.Sets.{without, none-member, without-member}
use Rattle.inspector_references.specs.Trusted.{Listed}
use Rattle.inspector_references.specs.Referring.{row_previous, row_signed, row_peers, referring_by, Retained, witnessed_is}
use Rattle.inspector_rows.specs.Rows.{entry_at, entries_of, entries-length, entries_at}
use Rattle.inspector_not_referenced.specs.Later.{owed_later, later_is}

unfoldable pub excluded : List ℕ → List ℕ → List ℕ → ℕ → Bool → List ℕ → ℕ → ℕ → ℕ
excluded ks ls l m live rs n k = cond (eqb (row_peers rs k) 0) 0 (cond (eqb (row_previous rs k) 0) 0 (without (without (row_peers rs k) (referring_by ks ls l m 32 live rs k)) (owed_later rs n k)))

-- the steps of the code
module _ (ks ls l : List ℕ) (m : ℕ) (live : Bool) (rs : List ℕ) (n k : ℕ) where
  pub excluded_empty : row_peers rs k ≡ 0 → 0 ≡ excluded ks ls l m live rs n k
  unfolding excluded
  excluded_empty e = rw (eq-eqb (row_peers rs k) 0 e) refl

  module _ (some_peers : row_peers rs k ≡ 0 → ⊥) where
    pub excluded-none : row_previous rs k ≡ 0 → 0 ≡ excluded ks ls l m live rs n k
    unfolding excluded
    excluded-none e = rw (ne_eqb (row_peers rs k) 0 some_peers, eq-eqb (row_previous rs k) 0 e) refl

    pub excluded-some : (x y z r : ℕ) → (row_previous rs k ≡ 0 → ⊥) → x ≡ referring_by ks ls l m 32 live rs k → y ≡ owed_later rs n k → z ≡ without (row_peers rs k) x → r ≡ without z y → r ≡ excluded ks ls l m live rs n k
    unfolding excluded
    excluded-some x y z r d e f g h = rw (ne_eqb (row_peers rs k) 0 some_peers, ne_eqb (row_previous rs k) 0 d, ← e, ← f, ← g) h

module _ (s : State) (ks ls cs os : List ℕ) (fk : Fit ks) (fl : Fit ls) (h : counts_as_started (view s ks ls cs os) ≡ true) (x : ℕ) (l : List ℕ) (m : ℕ) (live : Bool)
    (here : Listed l m (keep (is_trusted (view s ks ls cs os)) (places_in (view s ks ls cs os) x)))
    (rs : List ℕ) (n k : ℕ) (low : k < n) (from : live ≡ true → Retained s ks ls os x 1 rs k) (rises : Ascending (entries_of rs n)) where
  abbrev v : Store
  v = view s ks ls cs os

  -- they are those whom 01 reports by its entry
  pub reported_is : (a : ℕ) → member (excluded ks ls l m live rs n k) a ≡ reported (entries_of rs n) v x a (entry_at rs k)
  unfolding excluded entry_at is_last_unreferenced
  reported_is a =
      same_or (row_peers rs k) 0
      (λ e. rw (eq-eqb (row_peers rs k) 0 e) (none-member a ∙ sym (at ∙ ap (λ y. member y a && last) e ∙ ap (λ y. y && last) (none-member a))))
      (λ d. rw (ne_eqb (row_peers rs k) 0 d) (same_or (row_previous rs k) 0
      (λ e. rw (eq-eqb (row_previous rs k) 0 e) (none-member a ∙ sym (at ∙ (ap (λ y. member (row_peers rs k) a && is_last_unreferenced v x a later (cond y (some (row_signed rs k)) none)) (le-ltb 0 (row_previous rs k) (omega arith)) ∙ and_no_r (member (row_peers rs k) a) refl))))
      (λ f. rw (ne_eqb (row_previous rs k) 0 f)
      (without-member (without (row_peers rs k) (referring_by ks ls l m 32 live rs k)) (owed_later rs n k) a
      ∙ (ap (λ y. y && not (member (owed_later rs n k) a)) (without-member (row_peers rs k) (referring_by ks ls l m 32 live rs k) a)
      ∙ ((λ i. (member (row_peers rs k) a && not (witnessed_is s ks ls cs os fk fl h live x rs k (omega arith) l m here a from i)) && not (later_is rs n k a low i))
      ∙ (and_assoc (member (row_peers rs k) a) (not (witnessed_by v x a (row_signed rs k))) (not (has (is_unreferenced a (row_signed rs k)) later))
      ∙ sym (at ∙ ap (λ y. member (row_peers rs k) a && is_last_unreferenced v x a later (cond y (some (row_signed rs k)) none)) (lt-ltb 0 (row_previous rs k) (omega arith))))))))))
    where
      es : List Entry
      es = entries_of rs n

      later : List Entry
      later = drop (suc k) es

      last : Bool
      last = is_last_unreferenced v x a later (cond (ltb 0 (row_previous rs k)) (some (row_signed rs k)) none)

      at : reported es v x a (entry_at rs k) ≡ (member (row_peers rs k) a && last)
      at =
          ap (reported es v x a) (sym (entries_at rs n k (entry_at rs k) low))
          ∙ (reported_at v x a es k (entry_at rs k) (omega (arith, low, entries-length rs n)) rises
          ∙ ap (λ (e : Entry). e.unreferenced_by a && is_last_unreferenced v x a later e.previous) (entries_at rs n k (entry_at rs k) low))

      and_assoc : (b c d : Bool) → ((b && c) && d) ≡ (b && (c && d))
      and_assoc true c d = refl
      and_assoc false c d = refl
