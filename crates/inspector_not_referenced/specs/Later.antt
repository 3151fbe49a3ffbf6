-- The signers that later rows report for the previous point of row k (01: "the greater proof digest is reported").
use Rattle.std.specs.Prelude.{ℕ, suc, ◌+◌, ◌-◌, ◌<◌, ◌≡◌, refl, List, Bool, true, false, ◌&&◌, cond, eqb, ltb, drop}
use Rattle.std.proofs.Math.Path.{sym}
use Rattle.std.proofs.Common.{ap, ◌∙◌, arith, add-one, lt-ltb, le-ltb}
use Rattle.std.proofs.Math.Option.{none, some}
use Rattle.laws.specs.Test.{and_no, and_yes}
use Rattle.laws.specs.Scan.{any_same}
use Rattle.laws.specs.Lists.{has}
use Rattle.laws.specs.Peers.{member}
use Rattle.spec.specs.Inspect.{holds}
use Rattle.spec.specs.Inspection.{is_unreferenced}
use Rattle.inspector_references.specs.Sets.{union_of, union_member}
use Rattle.inspector_references.specs.Referring.{row_previous, row_signed, row_peers}
use Rattle.inspector_rows.specs.Rows.{entry_at, entries_of, has-entries}

-- row j has a previous point, with the digest of row k's
unfoldable pub same_previous : List ℕ → ℕ → ℕ → Bool
same_previous rs k j = ltb 0 (row_previous rs j) && eqb (row_signed rs j) (row_signed rs k)

-- the union of the sets of such rows after row k, of n
unfoldable pub owed_later : List ℕ → ℕ → ℕ → ℕ
owed_later rs n k = union_of (λ i. same_previous rs k (k + 1 + i)) (λ i. row_peers rs (k + 1 + i)) (n - (k + 1))

-- the steps of the code
module _ (rs : List ℕ) (k j : ℕ) where
  pub same_none : row_previous rs j ≡ 0 → false ≡ same_previous rs k j
  unfolding same_previous
  same_none e = sym (and_no _ (le-ltb 0 (row_previous rs j) (omega arith)))

  pub same_some : (b : Bool) → (row_previous rs j ≡ 0 → ⊥) → b ≡ eqb (row_signed rs j) (row_signed rs k) → b ≡ same_previous rs k j
  unfolding same_previous
  same_some b d e = e ∙ sym (and_yes (lt-ltb 0 (row_previous rs j) (omega arith)) refl)

-- of an entry of row j
holds-cond : (b : Bool) (x d : ℕ) → holds (cond b (some x) none) d ≡ (b && eqb x d)
unfolding holds
holds-cond true x d = refl
holds-cond false x d = refl

-- they are the later entries by which a still has to refer to that digest
pub later_is : (rs : List ℕ) (n k a : ℕ) → k < n → member (owed_later rs n k) a ≡ has (is_unreferenced a (row_signed rs k)) (drop (suc k) (entries_of rs n))
unfolding owed_later same_previous entry_at
later_is rs n k a l =
    union_member (λ i. same_previous rs k (k + 1 + i)) (λ i. row_peers rs (k + 1 + i)) (n - (k + 1)) a
    ∙ (any_same (n - (k + 1)) _ _ (λ i b. turn (ltb 0 (row_previous rs (k + 1 + i)) && eqb (row_signed rs (k + 1 + i)) (row_signed rs k)) (member (row_peers rs (k + 1 + i)) a)
    ∙ ap (λ x. member (row_peers rs (k + 1 + i)) a && x) (sym (holds-cond (ltb 0 (row_previous rs (k + 1 + i))) (row_signed rs (k + 1 + i)) (row_signed rs k))))
    ∙ (sym (has-entries rs (is_unreferenced a (row_signed rs k)) n (k + 1) (omega arith)) ∙ ap (λ x. has (is_unreferenced a (row_signed rs k)) (drop x (entries_of rs n))) (add-one k)))
  where
    turn : (x y : Bool) → (x && y) ≡ (y && x)
    turn true true = refl
    turn true false = refl
    turn false true = refl
    turn false false = refl
