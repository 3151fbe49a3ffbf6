-- The calls of points as records.
use Prim.Native.Nat.{ℕ, suc, ◌+◌, ◌<◌}
use Rattle.std.specs.Prelude.{◌≡◌, refl, List, [], ◌∷◌, map, Bool, true, ◌&&◌, get_or}
use Rattle.std.proofs.Math.Path.{sym, ap₂}
use Rattle.std.proofs.Common.{ap, ◌∙◌, length-append}
use Rattle.std.proofs.Math.ListN.{length}
use Rattle.laws.specs.Test.{and-true}
use Rattle.laws.specs.Lists.{all}
use Rattle.laws.specs.Bytes.{written}
use Rattle.spec.specs.Ids.{Id, id_bytes}
use Rattle.spec.specs.Calls.{name, certify, commit}
use Rattle.trace.specs.Write.{field, field_bytes, fits_field, id_then, fields_of, kind_byte, sayable}
use Rattle.trace.proofs.ReadBack.{size, fields_length, fields_append, lists_back}
use Rattle.trace_write.specs.Puts.{Said}
use Rattle.trace_write.specs.Fields.{fit_none, fit_more, fit_append, put_id}

-- ---- name and certify

pub name_said : (i : Id) → Said (name i) 3 (all fits_field (id_then i [])) 37 (id_then i [])
unfolding kind_byte sayable fields_of size
name_said i = record { kind = refl; fields = refl; fit = refl; size = λ _. sym (fields_length (id_then i [])) }

pub certify_said : (i : Id) → Said (certify i) 5 (all fits_field (id_then i [])) 37 (id_then i [])
unfolding kind_byte sayable fields_of size
certify_said i = record { kind = refl; fields = refl; fit = refl; size = λ _. sym (fields_length (id_then i [])) }

-- ---- commit

-- bytes fit
bytes_fit : (l : List ℕ) → ((p : ℕ) → get_or l p 0 < 256) → true ≡ all fits_field (map (field 1) l)
bytes_fit [] h = fit_none
bytes_fit (x ∷ l) h = fit_more 1 x (map (field 1) l) true (h 0) (bytes_fit l (λ p. h (suc p)))

bytes_are : (l : List ℕ) → ((p : ℕ) → get_or l p 0 < 256) → field_bytes (map (field 1) l) ≡ l
bytes_are l h = lists_back l (sym (bytes_fit l h))

module _ (i : Id) (l : List ℕ) (h : (p : ℕ) → get_or l p 0 < 256) where
  pub commit_said : (room : List ℕ) (f : Bool) → f ≡ all fits_field (id_then i []) → Said (commit i l room) 6 f (37 + length l) (id_then i (map (field 1) l))
  unfolding kind_byte sayable fields_of size
  commit_said room f e = record {
    kind = refl;
    fields = refl;
    fit = e ∙ (sym (and-true _) ∙ (ap (λ (x : Bool). all fits_field (id_then i []) && x) (bytes_fit l h) ∙ sym (fit_append (id_then i []) (map (field 1) l))));
    size = λ _. sym (ap length (fields_append (id_then i []) (map (field 1) l)) ∙ (length-append (field_bytes (id_then i [])) _ ∙ ap₂ ◌+◌ (fields_length (id_then i [])) (ap length (bytes_are l h))));
  }

  pub commit-put : (b b₁ d : List ℕ) (at e : ℕ) → b₁ ≡ written b at (id_bytes i) → e ≡ at + 37 → d ≡ written b₁ e l → d ≡ written b at (field_bytes (id_then i (map (field 1) l)))
  commit-put b b₁ d at e p n q = put_id b b₁ d at e i (map (field 1) l) p n (q ∙ ap (written b₁ e) (sym (bytes_are l h)))
