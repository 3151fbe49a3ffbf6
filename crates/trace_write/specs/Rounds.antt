-- The calls of rounds as records.
use Rattle.std.specs.Prelude.{ℕ, ◌+◌, ◌^◌, ◌<◌, ◌≡◌, refl, List, [], ◌∷◌, Bool, true, false, not, ◌&&◌, eqb, ltb}
use Rattle.std.proofs.Common.{sym, ap, ◌∙◌, arith, lt-ltb, le-ltb, ne_eqb, eq-eqb}
use Rattle.std.proofs.Math.Option.{Option, none, some}
use Rattle.laws.specs.Test.{le_or, same_or, and_no, and_no_r, not_yes}
use Rattle.laws.specs.Lists.{all}
use Rattle.laws.specs.Bytes.{written}
use Rattle.spec.specs.Store.{bit}
use Rattle.spec.specs.Calls.{StartArgs, start, reset_all, round, gap_question, remove, drop}
use Rattle.models.specs.declared.parts.Round.{Round}
use Rattle.stats.specs.Ranges.{since_of}
use Rattle.commit_state.specs.Back.{used_of}
use Rattle.trace.specs.Write.{Field, field, field_bytes, fits_field, used_byte, start_fields, remove_fields, fields_of, kind_byte, is255, sayable}
use Rattle.trace.proofs.ReadBack.{size, fields_length}
use Rattle.trace_write.specs.Puts.{Said}
use Rattle.trace_write.specs.Fields.{fit_none, fit_more, put_fields}
use Rattle.std.specs.Prelude as rust
use Rattle.std.specs.Prelude.{None, Some}

pub gap_said : Said gap_question 9 true 0 []
unfolding kind_byte sayable fields_of size
gap_said = record { kind = refl; fields = refl; fit = fit_none; size = λ _. sym (fields_length []) }

pub reset_said : Said reset_all 10 true 0 []
unfolding kind_byte sayable fields_of size
reset_said = record { kind = refl; fields = refl; fit = fit_none; size = λ _. sym (fields_length []) }

pub drop_said : (r : ℕ) → r < 2 ^ 32 → Said (drop r) 8 true 4 (field 4 r ∷ [])
unfolding kind_byte sayable fields_of size
drop_said r h = record { kind = refl; fields = refl; fit = fit_more _ _ _ _ h fit_none; size = λ _. sym (fields_length (field 4 r ∷ [])) }

pub round_said : (r p : ℕ) → r < 2 ^ 32 → p < 2 ^ 32 → Said (round r p) 2 true 8 (field 4 r ∷ field 4 p ∷ [])
unfolding kind_byte sayable fields_of size
round_said r p h l = record { kind = refl; fields = refl; fit = fit_more _ _ _ _ h (fit_more _ _ _ _ l fit_none); size = λ _. sym (fields_length (field 4 r ∷ field 4 p ∷ [])) }

-- "`stats_since` after flag 0 .. written 0"
unfoldable pub since_flag : Option ℕ → ℕ
since_flag none = 0
since_flag (some r) = 1

unfoldable pub since_round : Option ℕ → ℕ
since_round none = 0
since_round (some r) = r

pub remove_said : (r : ℕ) (from : Option ℕ) (room : List ℕ) → r < 2 ^ 32 → since_round from < 2 ^ 32 → Said (remove r from room) 7 true 9 (field 4 r ∷ field 1 (since_flag from) ∷ field 4 (since_round from) ∷ [])
unfolding kind_byte sayable fields_of remove_fields since_flag since_round size
remove_said r none room h l = record { kind = refl; fields = refl; fit = fit_more _ _ _ _ h (fit_more _ _ _ _ (omega arith) (fit_more _ _ _ _ l fit_none)); size = λ _. sym (fields_length (field 4 r ∷ field 1 0 ∷ field 4 0 ∷ [])) }
remove_said r (some x) room h l = record { kind = refl; fields = refl; fit = fit_more _ _ _ _ h (fit_more _ _ _ _ (omega arith) (fit_more _ _ _ _ l fit_none)); size = λ _. sym (fields_length (field 4 r ∷ field 1 1 ∷ field 4 x ∷ [])) }

pub since_none : (s : (rust.Option Round)) → s ≡ None → (0 ≡ since_flag (since_of s)) × (0 ≡ since_round (since_of s))
unfolding since_flag since_round since_of
since_none s e = rw e (refl, refl)

pub since_from : (s : (rust.Option Round)) (first : Round) → s ≡ Some first → (1 ≡ since_flag (since_of s)) × (first.0 ≡ since_round (since_of s))
unfolding since_flag since_round since_of
since_from s first e = rw e (refl, refl)

-- ---- start

-- "a used author of 255", which none is written as, and those that no byte holds
unfoldable pub used_fits : Option ℕ → Bool
used_fits none = true
used_fits (some a) = ltb a 255

flag_small : (b : Bool) → bit 1 b < 256
flag_small true = omega arith
flag_small false = omega arith

-- the last field of a start, and that it can be said
used_fit : (u : Option ℕ) → used_fits u ≡ (not (is255 u) && all fits_field (field 1 (used_byte u) ∷ []))
unfolding used_fits is255 used_byte all fits_field
used_fit none = refl
used_fit (some a) =
    le_or a 254 (λ l. rw (lt-ltb a 255 (omega arith), ne_eqb a 255 (λ e. omega arith), lt-ltb a 256 (omega arith)) refl)
    (λ l. rw (le-ltb a 255 (omega arith)) (same_or a 255 (λ e. sym (and_no _ (not_yes (eq-eqb a 255 e)))) (λ d. sym (and_no_r (not (eqb a 255)) (and_no _ (le-ltb a 256 (omega arith)))))))

pub start_said : (a : StartArgs) (f : Bool) → f ≡ used_fits a.used → a.conf.genesis < 2 ^ 32 → a.conf.history_rounds < 2 ^ 32 → a.conf.deduplicate_rounds < 2 ^ 32 → a.bottom < 2 ^ 32 → a.peers < 2 ^ 32
    → Said (start a) 1 f 22 (start_fields a)
unfolding kind_byte sayable fields_of start_fields size
start_said a f u g h d b p = record {
  kind = refl;
  fields = refl;
  fit = u ∙ used_fit a.used ∙ ap (λ (x : Bool). not (is255 a.used) && x) (fit_more _ _ _ _ g (fit_more _ _ _ _ h (fit_more _ _ _ _ d (fit_more _ _ _ _ b (fit_more _ _ _ _ p (fit_more _ _ _ _ (flag_small a.after_gap) refl))))));
  size = λ _. sym (fields_length (start_fields a));
}

pub used_none : (u : (rust.Option ℕ)) → u ≡ None → (true ≡ used_fits (used_of u)) × (255 ≡ used_byte (used_of u))
unfolding used_fits used_byte used_of
used_none u e = rw e (refl, refl)

pub used_some : (u : (rust.Option ℕ)) (a : ℕ) → u ≡ Some a → (ltb a 255 ≡ used_fits (used_of u)) × (a ≡ used_byte (used_of u))
unfolding used_fits used_byte used_of
used_some u a e = rw e (refl, refl)

-- its fields in two groups
unfoldable pub start_first : StartArgs → List Field
start_first a = field 4 a.conf.genesis ∷ field 4 a.conf.history_rounds ∷ field 4 a.conf.deduplicate_rounds ∷ []

unfoldable pub start_last : StartArgs → List Field
start_last a = field 4 a.bottom ∷ field 4 a.peers ∷ field 1 (bit 1 a.after_gap) ∷ field 1 (used_byte a.used) ∷ []

pub start-put : (a : StartArgs) (b b₁ b₂ : List ℕ) (e : ℕ) → e ≡ 6 + 12 → b₁ ≡ written b 6 (field_bytes (start_first a)) → b₂ ≡ written b₁ e (field_bytes (start_last a)) → b₂ ≡ written b 6 (field_bytes (start_fields a))
unfolding start_first start_last start_fields size
start-put a b b₁ b₂ e i p q = put_fields b b₁ b₂ 6 e 12 (start_first a) (start_last a) (fields_length (start_first a)) i p q
