-- Fields one after another: that they fit, and their bytes in a buffer.
use Rattle.std.specs.Prelude.{ℕ, ◌+◌, ◌^◌, ◌<◌, ◌≡◌, refl, List, [], ◌∷◌, ◌++◌, Bool, true, ◌&&◌, length}
use Rattle.std.proofs.Common.{sym, ap, ◌∙◌, append_assoc, arith, length-append, lt-ltb}
use Rattle.laws.specs.Test.{and_yes, and_assoc}
use Rattle.laws.specs.Lists.{all}
use Rattle.laws.specs.Bytes.{be, be-length, written, and_then}
use Rattle.spec.specs.Ids.{Id, id_bytes}
use Rattle.trace.specs.Write.{Field, field, field_bytes, fits_field, id_then}
use Rattle.trace.proofs.ReadBack.{fields_append}

pub fit_none : true ≡ all fits_field []
unfolding all
fit_none = refl

-- a field that fits leaves it to the others
pub fit_more : (w n : ℕ) (fs : List Field) (b : Bool) → n < 256 ^ w → b ≡ all fits_field fs → b ≡ all fits_field (field w n ∷ fs)
unfolding all fits_field
fit_more w n fs b h l = sym (and_yes (lt-ltb n (256 ^ w) h) (sym l))

pub put-none : (b : List ℕ) (at : ℕ) → b ≡ written b at (field_bytes [])
unfolding field_bytes written
put-none b at = refl

pub put-more : (b b₁ d : List ℕ) (at e w v : ℕ) (fs : List Field) → b₁ ≡ written b at (be w v) → e ≡ at + w → d ≡ written b₁ e (field_bytes fs) → d ≡ written b at (field_bytes (field w v ∷ fs))
unfolding field_bytes
put-more b b₁ d at e w v fs p i q = and_then b b₁ d at e (be w v) (field_bytes fs) w (be-length w v) i p q

-- one group of fields after another
pub put_fields : (b b₁ d : List ℕ) (at e n : ℕ) (fs gs : List Field) → length (field_bytes fs) ≡ n → e ≡ at + n → b₁ ≡ written b at (field_bytes fs) → d ≡ written b₁ e (field_bytes gs)
    → d ≡ written b at (field_bytes (fs ++ gs))
put_fields b b₁ d at e n fs gs l i p q = and_then b b₁ d at e (field_bytes fs) (field_bytes gs) n l i p q ∙ ap (written b at) (sym (fields_append fs gs))

-- both groups fit
pub fit_append : (fs gs : List Field) → all fits_field (fs ++ gs) ≡ (all fits_field fs && all fits_field gs)
unfolding all
fit_append [] gs = refl
fit_append (f ∷ fs) gs = ap (λ (x : Bool). fits_field f && x) (fit_append fs gs) ∙ and_assoc (fits_field f) (all fits_field fs) (all fits_field gs)

-- a number that is told otherwise
pub put_as : (b d : List ℕ) (at w v u : ℕ) → v ≡ u → d ≡ written b at (be w v) → d ≡ written b at (be w u)
put_as b d at w v u e p = p ∙ ap (λ (x : ℕ). written b at (be w x)) e

-- the last
pub put_last : (b d : List ℕ) (at w v : ℕ) → d ≡ written b at (be w v) → d ≡ written b at (field_bytes (field w v ∷ []))
put_last b d at w v p = put-more b d d at (at + w) w v [] p refl (put-none d (at + w))

id-size : (i : Id) → length (id_bytes i) ≡ 37
unfolding id_bytes
id-size i = omega (arith, length-append (be 4 i.round) (be 1 i.author ++ be 32 i.digest), length-append (be 1 i.author) (be 32 i.digest), be-length 4 i.round, be-length 1 i.author, be-length 32 i.digest)

pub put_id : (b b₁ d : List ℕ) (at e : ℕ) (i : Id) (fs : List Field) → b₁ ≡ written b at (id_bytes i) → e ≡ at + 37 → d ≡ written b₁ e (field_bytes fs) → d ≡ written b at (field_bytes (id_then i fs))
unfolding field_bytes id_bytes
put_id b b₁ d at e i fs p n q =
    and_then b b₁ d at e (id_bytes i) (field_bytes fs) 37 (id-size i) n p q ∙ ap (written b at) (append_assoc (be 4 i.round) _ _ ∙ ap (λ (l : List ℕ). be 4 i.round ++ l) (append_assoc (be 1 i.author) _ _))
