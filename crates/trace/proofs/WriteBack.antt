-- What was read is written as it stood, but for what is unread (02: N5).
use Rattle.std.specs.Prelude.{ℕ, zero, suc, ◌+◌, ◌-◌, ◌*◌, ◌/◌, ◌%◌, ◌^◌, ◌<◌, ◌≤◌, ◌≡◌, refl, List, [], ◌∷◌, ◌++◌, map, true, false, not, eqb, leb, length, get_or, take, drop}
use Rattle.std.proofs.Common.{sym, ap, ap₂, ◌∙◌, subst, append-nil, arith, add-zero, length-take, length-drop, take-append-drop, length-take-le, get_or-take, get_or-drop, eq-eqb, ne_eqb, eqb-true, lt-ltb, le-leb, leb-true}
use Rattle.std.proofs.lemmas.Bool.{false≢true}
use Rattle.std.proofs.Math.Option.{Option, none, some}
use Rattle.std.proofs.Math.ListN.{get_or-eq_default}
use Rattle.laws.specs.Test.{both, and_l, and_r, not_yes, le_or, by_test, cond_yes, cond_no, same_or}
use Rattle.laws.specs.Lists.{all}
use Rattle.laws.specs.Bytes.{be, be-length, be-bytes, Below, value, number, number_same, number_fits, value-be-fits}
use Rattle.spec.specs.Store.{bit}
use Rattle.spec.specs.Chain.{good}
use Rattle.spec.specs.Walk.{refuse-good, refuse_back}
use Rattle.spec.specs.Calls.{Call}
use Rattle.spec.proofs.Demand3Second.{good-same}
use Rattle.models.specs.Digest.{words, words-length}
use Rattle.trace.specs.Numbers.{number_at, id_at, words_append}
use Rattle.trace.specs.Head.{links_in, size_of, fields_fit, fits-length, version_ok, rest_at, whole_at, part, fields_at, whole_elim}
use Rattle.trace.specs.Links.{words_right}
use Rattle.trace.specs.Codes.{Found, read_at}
use Rattle.trace.specs.Kinds.{Kind, kind_of, kind_ok}
use Rattle.trace.specs.Kinds as kind
use Rattle.trace.specs.Fields.{used_in, start_in, since_in, links_from, payload_from, resolution_in, call_by}
use Rattle.trace.specs.Write.{Field, field, field_bytes, fits_field, id_then, used_byte, start_fields, link_fields, marks_byte, resolve_fields, remove_fields, fields_of, kind_byte, is255, sayable, fields_in, record_bytes, record_of}
use Rattle.trace.proofs.ReadBack.{byte_is, words-own, fields_append, lists_back, not_no}

-- every element is a byte
abbrev pub AllBytes : List ℕ → Type 0
AllBytes f = (p : ℕ) → get_or f p 0 < 256

-- a part of bytes is bytes
bytes-taken : (bs : List ℕ) (n p : ℕ) → AllBytes bs → get_or (take n bs) p 0 < 256
bytes-taken bs n p h =
    le_or n p
    (λ l. rw (get_or-eq_default (take n bs) 0 {n = p} (omega (arith, length-take n bs))) (omega arith))
    (λ l. rw (get_or-take n bs p 0 l) (h p))

pub bytes-part : (bs : List ℕ) (a b : ℕ) → AllBytes bs → AllBytes (part bs a b)
bytes-part bs a b h p = bytes-taken (drop a bs) (b - a) p (λ q. rw (get_or-drop a bs q 0) (h _))

words-bytes : (f : List ℕ) (p m : ℕ) → AllBytes f → Below 256 (words f p m)
unfolding words
words-bytes f p zero h = tt
words-bytes f p (suc m) h = (h p, words-bytes f (p + 1) m h)

-- a number that was read fits, and its bytes are those that it was read from
pub number-below : (f : List ℕ) (p m : ℕ) → AllBytes f → number_at f p m < 256 ^ m
unfolding number_at value
number-below f p m h = subst (λ (n : ℕ). number 256 0 (words f p m) < 256 ^ n) (words-length f p m) (once (number 256 0 (words f p m)) (256 ^ length (words f p m)) (number_fits 256 0 1 (words f p m) (words-bytes f p m h) (omega arith)))
  where
    once : (x y : ℕ) → x < 1 * y → x < y
    once x y k = omega arith

pub number-bytes : (f : List ℕ) (p m : ℕ) → AllBytes f → be m (number_at f p m) ≡ words f p m
unfolding number_at value
number-bytes f p m h =
    number_same 256 0 (be m (number_at f p m)) (words f p m) (be-length m _ ∙ sym (words-length f p m)) (be-bytes m _) (words-bytes f p m h) (value-be-fits m (number_at f p m) (number-below f p m h))

-- the first n
words_front : (f : List ℕ) (n : ℕ) → n ≤ length f → words f 0 n ≡ take n f
words_front f n l =
    ap₂ (λ (g : List ℕ) (k : ℕ). words g 0 k) (sym (take-append-drop n f)) (sym (length-take-le n f l)) ∙ words-own (take n f) (drop n f)

words-all : (f : List ℕ) (n : ℕ) → n ≡ length f → words f 0 n ≡ f
words-all f n e = ap (words f 0) e ∙ (ap (λ (g : List ℕ). words g 0 (length f)) (sym (append-nil f)) ∙ words-own f [])

-- ---- fields cut out of bytes

unfoldable cut_as : List ℕ → List ℕ → ℕ → List Field
cut_as [] f p = []
cut_as (w ∷ ws) f p = field w (number_at f p w) ∷ cut_as ws f (p + w)

unfoldable sum : List ℕ → ℕ
sum [] = 0
sum (w ∷ ws) = w + sum ws

cut_fits : (ws f : List ℕ) (p : ℕ) → AllBytes f → all fits_field (cut_as ws f p) ≡ true
unfolding cut_as all fits_field
cut_fits [] f p h = refl
cut_fits (w ∷ ws) f p h = both (lt-ltb _ _ (number-below f p w h)) (cut_fits ws f (p + w) h)

cut-bytes : (ws f : List ℕ) (p : ℕ) → AllBytes f → field_bytes (cut_as ws f p) ≡ words f p (sum ws)
unfolding cut_as sum field_bytes words
cut-bytes [] f p h = refl
cut-bytes (w ∷ ws) f p h = ap₂ ◌++◌ (number-bytes f p w h) (cut-bytes ws f (p + w) h) ∙ words_append f p w (sum ws) (p + w) refl

-- ---- the fields of each kind

id-cut : (f : List ℕ) (fs : List Field) → id_then (id_at f 0) fs ≡ cut_as (4 ∷ 1 ∷ 32 ∷ []) f 0 ++ fs
unfolding id_at cut_as
id-cut f fs = λ k. field 4 (number_at f 0 4) ∷ field 1 (byte_is f 4 k) ∷ field 32 (number_at f 5 32) ∷ fs

-- what is unread is as it is written: "a flag is no only at 0, and yes is written 1; further mark bits, and `stats_since` after flag 0, are
-- written 0 and unread"
unfoldable pub Normal : Kind → List ℕ → Type 0
Normal kind.Start f = get_or f 20 0 ≤ 1
Normal kind.Round f = Unit {0}
Normal kind.Name f = Unit {0}
Normal kind.Resolve f = get_or f 38 0 < 8
Normal kind.Certify f = Unit {0}
Normal kind.Commit f = Unit {0}
Normal kind.Remove f = (get_or f 4 0 ≤ 1) × (get_or f 4 0 ≡ 0 → number_at f 5 4 ≡ 0)
Normal kind.Drop f = Unit {0}
Normal kind.Gap f = Unit {0}
Normal kind.Reset f = Unit {0}
Normal kind.Outlook f = Unit {0}
Normal kind.Broken f = Unit {0}

-- a flag, a used author and marks, written as they were read
flag_as : (x : ℕ) → x ≤ 1 → bit 1 (not (eqb x 0)) ≡ x
flag_as zero l = refl
flag_as (suc zero) l = refl
flag_as (suc (suc x)) l = absurd (omega arith)

used_as : (x : ℕ) → used_byte (used_in x) ≡ x
unfolding used_byte used_in
used_as x = by_test (eqb x 255) (λ e. ap used_byte (cond_yes _ _ _ e refl) ∙ sym (eqb-true x 255 e)) (λ e. ap used_byte (cond_no _ _ _ e refl))

marks_as : (x : ℕ) → x < 8 → bit 1 (eqb (x % 2) 1) + bit 2 (eqb (x / 2 % 2) 1) + bit 4 (eqb (x / 4 % 2) 1) ≡ x
marks_as zero l = refl
marks_as (suc zero) l = refl
marks_as (suc (suc zero)) l = refl
marks_as (suc (suc (suc zero))) l = refl
marks_as (suc (suc (suc (suc zero)))) l = refl
marks_as (suc (suc (suc (suc (suc zero))))) l = refl
marks_as (suc (suc (suc (suc (suc (suc zero)))))) l = refl
marks_as (suc (suc (suc (suc (suc (suc (suc zero))))))) l = refl
marks_as (suc (suc (suc (suc (suc (suc (suc (suc x)))))))) l = absurd (omega arith)

start-cut : (f : List ℕ) → get_or f 20 0 ≤ 1 → start_fields (start_in f) ≡ cut_as (4 ∷ 4 ∷ 4 ∷ 4 ∷ 4 ∷ 1 ∷ 1 ∷ []) f 0
unfolding start_fields start_in cut_as
start-cut f l =
    λ k. field 4 (number_at f 0 4) ∷ field 4 (number_at f 4 4) ∷ field 4 (number_at f 8 4) ∷ field 4 (number_at f 12 4) ∷ field 4 (number_at f 16 4) ∷ field 1 ((flag_as (get_or f 20 0) l ∙ byte_is f 20) k) ∷ field 1 ((used_as (get_or f 21 0) ∙ byte_is f 21) k) ∷ []

remove-cut : (f : List ℕ) → Normal kind.Remove f → remove_fields (number_at f 0 4) (since_in f) ≡ cut_as (4 ∷ 1 ∷ 4 ∷ []) f 0
unfolding remove_fields since_in cut_as Normal
remove-cut f (l, z) =
    same_or (get_or f 4 0) 0
    (λ e. ap (remove_fields (number_at f 0 4)) (cond_no _ _ none (not_zero e) refl) ∙ (λ k. field 4 (number_at f 0 4) ∷ field 1 ((sym e ∙ byte_is f 4) k) ∷ field 4 (sym (z e) k) ∷ []))
    (λ n. ap (remove_fields (number_at f 0 4)) (cond_yes _ _ (some (number_at f 5 4)) (is_some n) refl) ∙ (λ k. field 4 (number_at f 0 4) ∷ field 1 ((one (get_or f 4 0) l n ∙ byte_is f 4) k) ∷ field 4 (number_at f 5 4) ∷ []))
  where
    not_zero : get_or f 4 0 ≡ 0 → not (eqb (get_or f 4 0) 0) ≡ false
    not_zero e = ap not (eq-eqb _ 0 e)

    is_some : (get_or f 4 0 ≡ 0 → ⊥) → not (eqb (get_or f 4 0) 0) ≡ true
    is_some n = ap not (ne_eqb _ 0 n)

    one : (x : ℕ) → x ≤ 1 → (x ≡ 0 → ⊥) → 1 ≡ x
    one x l n = omega arith

links-cut : (f : List ℕ) (p n : ℕ) → AllBytes f → (field_bytes (link_fields (links_from f p n)) ≡ words f p (n * 33)) × (all fits_field (link_fields (links_from f p n)) ≡ true)
unfolding link_fields links_from field_bytes all fits_field words
links-cut f p zero h = (refl, refl)
links-cut f p (suc n) h =
    let t = links-cut f (p + 33) n h in (
      ap₂ ◌++◌ (ap (be 1) (byte_is f p) ∙ number-bytes f p 1 h) (ap₂ ◌++◌ (number-bytes f (p + 1) 32 h) t.0 ∙ words_append f (p + 1) 32 (n * 33) (p + 33) (omega arith))
          ∙ (words_append f p 1 (32 + n * 33) (p + 1) refl ∙ ap (words f p) (up n)),
      both (lt-ltb _ _ (h p)) (both (lt-ltb _ _ (number-below f (p + 1) 32 h)) t.1),
    )
  where
    up : (n : ℕ) → 1 + (32 + n * 33) ≡ suc n * 33
    up n = omega arith

all_both : (fs gs : List Field) → all fits_field fs ≡ true → all fits_field gs ≡ true → all fits_field (fs ++ gs) ≡ true
unfolding all
all_both [] gs h g = g
all_both (f ∷ fs) gs h g = both (and_l (fits_field f) (all fits_field fs) h) (all_both fs gs (and_r (fits_field f) (all fits_field fs) h) g)

abbrev front_widths : List ℕ
front_widths = 4 ∷ 1 ∷ 32 ∷ 1 ∷ 1 ∷ 4 ∷ 1 ∷ 32 ∷ 4 ∷ 1 ∷ 1 ∷ []

-- as many links as were counted
from_length : (f : List ℕ) (p n : ℕ) → length (links_from f p n) ≡ n
unfolding links_from
from_length f p zero = refl
from_length f p (suc n) = ap suc (from_length f (p + 33) n)

abbrev tail_of : List ℕ → List Field
tail_of f =
    link_fields (links_from f 82 (get_or f 80 0)) ++ (link_fields (links_from f (82 + get_or f 80 0 * 33) (get_or f 81 0)) ++ cut_as (4 ∷ 4 ∷ []) f (payload_from f))

resolve-cut : (f : List ℕ) → get_or f 38 0 < 8 → resolve_fields (id_at f 0) (resolution_in f) ≡ cut_as front_widths f 0 ++ tail_of f
unfolding resolve_fields resolution_in id_at cut_as marks_byte
resolve-cut f l =
    λ k. field 4 (number_at f 0 4) ∷ field 1 (byte_is f 4 k) ∷ field 32 (number_at f 5 32) ∷ field 1 (byte_is f 37 k) ∷ field 1 ((marks_as (get_or f 38 0) l ∙ byte_is f 38) k)
    ∷ field 4 (number_at f 39 4) ∷ field 1 (byte_is f 43 k) ∷ field 32 (number_at f 44 32) ∷ field 4 (number_at f 76 4)
    ∷ field 1 ((from_length f 82 (get_or f 80 0) ∙ byte_is f 80) k) ∷ field 1 ((from_length f (82 + get_or f 80 0 * 33) (get_or f 81 0) ∙ byte_is f 81) k) ∷ tail_of f

tail_fits : (f : List ℕ) → AllBytes f → all fits_field (tail_of f) ≡ true
tail_fits f h =
    all_both (link_fields (links_from f 82 (get_or f 80 0))) _ (links-cut f 82 (get_or f 80 0) h).1
    (all_both (link_fields (links_from f (82 + get_or f 80 0 * 33) (get_or f 81 0))) _ (links-cut f (82 + get_or f 80 0 * 33) (get_or f 81 0) h).1 (cut_fits (4 ∷ 4 ∷ []) f (payload_from f) h))

tail_bytes_lem : (f : List ℕ) → AllBytes f → field_bytes (tail_of f) ≡ words f 82 (8 + 33 * links_in f)
unfolding links_in sum
tail_bytes_lem f h =
    fields_append (link_fields (links_from f 82 a)) _
    ∙ (ap₂ ◌++◌ (links-cut f 82 a h).0 (fields_append (link_fields (links_from f (82 + a * 33) b)) (cut_as (4 ∷ 4 ∷ []) f (payload_from f))
    ∙ (ap₂ ◌++◌ (links-cut f (82 + a * 33) b h).0 (cut-bytes (4 ∷ 4 ∷ []) f (payload_from f) h) ∙ words_append f (82 + a * 33) (b * 33) 8 (payload_from f) (from a b)))
    ∙ (words_append f 82 (a * 33) (b * 33 + 8) (82 + a * 33) refl ∙ ap (words f 82) (up a b)))
  where
    a : ℕ
    a = get_or f 80 0

    b : ℕ
    b = get_or f 81 0

    from : (m n : ℕ) → 82 + 33 * (m + n) ≡ 82 + m * 33 + n * 33
    from m n = omega arith

    up : (m n : ℕ) → m * 33 + (n * 33 + 8) ≡ 8 + 33 * (m + n)
    up m n = omega arith

-- ---- a call that was read

-- what is written of the call of a kind byte and its fields: they themselves
pub record WriteBack (k : ℕ) (f room : List ℕ) : Type 0 where
  pub kind_same : kind_byte (call_by (kind_of k) f room) ≡ k
  pub can : sayable (call_by (kind_of k) f room) ≡ true
  pub fields_fit : all fits_field (fields_of (call_by (kind_of k) f room)) ≡ true
  pub same : fields_in (call_by (kind_of k) f room) ≡ f

used_can : (x : ℕ) → not (is255 (used_in x)) ≡ true
unfolding is255 used_in
used_can x = by_test (eqb x 255) (λ e. ap (λ (u : Option ℕ). not (is255 u)) (cond_yes _ _ _ e refl)) (λ e. ap (λ (u : Option ℕ). not (is255 u)) (cond_no _ _ _ e refl) ∙ ap not e)

listed : (l : List ℕ) → AllBytes l → all fits_field (map (field 1) l) ≡ true
unfolding all fits_field
listed [] h = refl
listed (x ∷ l) h = both (lt-ltb x 256 (h 0)) (listed l (λ p. h (suc p)))

-- fields that are cut out of f, all of it
module _ (f : List ℕ) (h : AllBytes f) (ws : List ℕ) (fs : List Field) (e : fs ≡ cut_as ws f 0) (l : sum ws ≡ length f) where
  cut_all : (all fits_field fs ≡ true) × (field_bytes fs ≡ f)
  cut_all = (ap (all fits_field) e ∙ cut_fits ws f 0 h, ap field_bytes e ∙ (cut-bytes ws f 0 h ∙ words-all f (sum ws) l))

id-all : (f : List ℕ) → AllBytes f → length f ≡ 37 → (all fits_field (id_then (id_at f 0) []) ≡ true) × (field_bytes (id_then (id_at f 0) []) ≡ f)
unfolding sum
id-all f h l = cut_all f h (4 ∷ 1 ∷ 32 ∷ []) (id_then (id_at f 0) []) (id-cut f [] ∙ append-nil _) (sym l)

commit_all_lem : (f : List ℕ) → AllBytes f → 37 ≤ length f → (all fits_field (id_then (id_at f 0) (map (field 1) (drop 37 f))) ≡ true) × (field_bytes (id_then (id_at f 0) (map (field 1) (drop 37 f))) ≡ f)
unfolding sum
commit_all_lem f h l =
    let ls = listed (drop 37 f) (λ p. rw (get_or-drop 37 f p 0) (h _)) in (
      ap (all fits_field) (id-cut f (map (field 1) (drop 37 f))) ∙ all_both (cut_as (4 ∷ 1 ∷ 32 ∷ []) f 0) (map (field 1) (drop 37 f)) (cut_fits (4 ∷ 1 ∷ 32 ∷ []) f 0 h) ls,
      ap field_bytes (id-cut f (map (field 1) (drop 37 f)))
          ∙ (fields_append (cut_as (4 ∷ 1 ∷ 32 ∷ []) f 0) (map (field 1) (drop 37 f))
          ∙ (ap₂ ◌++◌ (cut-bytes (4 ∷ 1 ∷ 32 ∷ []) f 0 h ∙ words_front f 37 l) (lists_back (drop 37 f) ls) ∙ take-append-drop 37 f)),
    )

resolve-all : (f : List ℕ) → AllBytes f → get_or f 38 0 < 8 → length f ≡ 90 + 33 * links_in f → (all fits_field (resolve_fields (id_at f 0) (resolution_in f)) ≡ true) × (field_bytes (resolve_fields (id_at f 0) (resolution_in f)) ≡ f)
unfolding sum
resolve-all f h m l = (
  ap (all fits_field) (resolve-cut f m) ∙ all_both (cut_as front_widths f 0) (tail_of f) (cut_fits front_widths f 0 h) (tail_fits f h),
  ap field_bytes (resolve-cut f m)
      ∙ (fields_append (cut_as front_widths f 0) (tail_of f)
      ∙ (ap₂ ◌++◌ (cut-bytes front_widths f 0 h) (tail_bytes_lem f h) ∙ (words_append f 0 82 (8 + 33 * links_in f) 82 refl ∙ words-all f (82 + (8 + 33 * links_in f)) (omega (arith, l))))),
)

none_left : (f : List ℕ) → length f ≡ 0 → [] ≡ f
none_left [] e = refl
none_left (x ∷ f) e = absurd (omega arith)

-- "a trace so written" is the trace that was read, where what is unread is as it is written
pub write_back : (k : ℕ) (f room : List ℕ) → kind_ok k ≡ true → fields_fit k f ≡ true → AllBytes f → Normal (kind_of k) f → WriteBack k f room
unfolding kind_ok fields_fit kind_of call_by kind_byte sayable fields_of Normal size_of field_bytes all cut_as sum start_in
write_back zero f room o l h n = absurd (false≢true o)
write_back (suc zero) f room o l h n = let t = cut_all f h (4 ∷ 4 ∷ 4 ∷ 4 ∷ 4 ∷ 1 ∷ 1 ∷ []) (start_fields (start_in f)) (start-cut f n) (sym (fits-length kind.Start f l)) in record { kind_same = refl; can = used_can (get_or f 21 0); fields_fit = t.0; same = t.1 }
write_back (suc (suc zero)) f room o l h n = let t = cut_all f h (4 ∷ 4 ∷ []) (field 4 (number_at f 0 4) ∷ field 4 (number_at f 4 4) ∷ []) refl (sym (fits-length kind.Round f l)) in record { kind_same = refl; can = refl; fields_fit = t.0; same = t.1 }
write_back (suc (suc (suc zero))) f room o l h n = let t = id-all f h (fits-length kind.Name f l) in record { kind_same = refl; can = refl; fields_fit = t.0; same = t.1 }
write_back (suc (suc (suc (suc zero)))) f room o l h n = let t = resolve-all f h n (fits-length kind.Resolve f l) in record { kind_same = refl; can = refl; fields_fit = t.0; same = t.1 }
write_back (suc (suc (suc (suc (suc zero))))) f room o l h n = let t = id-all f h (fits-length kind.Certify f l) in record { kind_same = refl; can = refl; fields_fit = t.0; same = t.1 }
write_back (suc (suc (suc (suc (suc (suc zero)))))) f room o l h n = let t = commit_all_lem f h (omega (arith, fits-length kind.Commit f l)) in record { kind_same = refl; can = refl; fields_fit = t.0; same = t.1 }
write_back (suc (suc (suc (suc (suc (suc (suc zero))))))) f room o l h n = let t = cut_all f h (4 ∷ 1 ∷ 4 ∷ []) (remove_fields (number_at f 0 4) (since_in f)) (remove-cut f n) (sym (fits-length kind.Remove f l)) in record { kind_same = refl; can = refl; fields_fit = t.0; same = t.1 }
write_back (suc (suc (suc (suc (suc (suc (suc (suc zero)))))))) f room o l h n = let t = cut_all f h (4 ∷ []) (field 4 (number_at f 0 4) ∷ []) refl (sym (fits-length kind.Drop f l)) in record { kind_same = refl; can = refl; fields_fit = t.0; same = t.1 }
write_back (suc (suc (suc (suc (suc (suc (suc (suc (suc zero))))))))) f room o l h n = record { kind_same = refl; can = refl; fields_fit = refl; same = none_left f (fits-length kind.Gap f l) }
write_back (suc (suc (suc (suc (suc (suc (suc (suc (suc (suc zero)))))))))) f room o l h n = record { kind_same = refl; can = refl; fields_fit = refl; same = none_left f (fits-length kind.Reset f l) }
write_back (suc (suc (suc (suc (suc (suc (suc (suc (suc (suc (suc k))))))))))) f room o l h n = absurd (above k (leb-true (suc (suc (suc (suc (suc (suc (suc (suc (suc (suc (suc k))))))))))) 10 (and_r (leb 1 (suc (suc (suc (suc (suc (suc (suc (suc (suc (suc (suc k)))))))))))) _ o)))
  where
    above : (k : ℕ) → (suc (suc (suc (suc (suc (suc (suc (suc (suc (suc (suc k))))))))))) ≤ 10 → ⊥
    above k e = omega arith

-- ---- a record that was read

-- n words from p on
words-part : (f : List ℕ) (p n : ℕ) → p + n ≤ length f → words f p n ≡ take n (drop p f)
words-part f p n l =
    ap₂ (λ (g : List ℕ) (q : ℕ). words g q n) (sym (take-append-drop p f)) (sym (add-zero p) ∙ ap (λ (q : ℕ). q + 0) (sym (length-take-le p f (omega arith))))
    ∙ (words_right (take p f) (drop p f) _ 0 n refl ∙ words_front (drop p f) n (omega (arith, length-drop p f)))

-- a record that is read has been whole, of a known version and kind, and of the length of its kind
pub record ReadOf (room bs : List ℕ) (p : ℕ) (x : Found) : Type 0 where
  pub whole : whole_at bs p ≡ true
  pub version : get_or bs (p + 4) 0 ≡ 1
  pub kind_known : kind_ok (get_or bs (p + 5) 0) ≡ true
  pub fit : fields_fit (get_or bs (p + 5) 0) (fields_at bs p) ≡ true
  pub what : x.what ≡ call_by (kind_of (get_or bs (p + 5) 0)) (fields_at bs p) room
  pub end : x.end ≡ p + 4 + rest_at bs p

pub read_of : (room bs : List ℕ) (p : ℕ) (x : Found) → read_at room bs p ≡ good x → ReadOf room bs p x
unfolding read_at version_ok
read_of room bs p x e =
    let a = refuse-good _ 26 _ x e in
    let b = refuse-good _ 27 _ x a.1 in
    let c = refuse-good _ 26 _ x b.1 in
    let v = not_no _ b.0 in
    let g = good-same _ x c.1 in
    record {
      whole = not_no _ a.0;
      version = eqb-true _ 1 (and_l _ _ v);
      kind_known = and_r (eqb (get_or bs (p + 4) 0) 1) _ v;
      fit = not_no _ c.0;
      what = ap (λ (y : Found). y.what) (sym g);
      end = ap (λ (y : Found). y.end) (sym g);
    }

-- the record is its parts
record_is : (bs : List ℕ) (p : ℕ) → AllBytes bs → whole_at bs p ≡ true → get_or bs (p + 4) 0 ≡ 1 → record_bytes (get_or bs (p + 5) 0) (fields_at bs p) ≡ part bs p (p + 4 + rest_at bs p)
unfolding words
record_is bs p h w v =
    let (u, m, t) = whole_elim bs p w in
    let r : ℕ = rest_at bs p in
    let n : ℕ = r - 2 in
    let f : List ℕ = fields_at bs p in
    let e : p + 4 + r - (p + 6) ≡ n = omega arith in
    let fs : f ≡ words bs (p + 6) n = ap (λ (k : ℕ). take k (drop (p + 6) bs)) e ∙ sym (words-part bs (p + 6) n (omega arith)) in
    let q : 2 + length f ≡ r = ap (λ (l : List ℕ). 2 + length l) fs ∙ (ap (λ (k : ℕ). 2 + k) (words-length bs (p + 6) n) ∙ back r u) in
    let a : be 4 (2 + length f) ≡ words bs p 4 = ap (be 4) q ∙ number-bytes bs p 4 h in
    let b : (1 ∷ get_or bs (p + 5) 0 ∷ f) ≡ words bs (p + 4) (2 + n) = ap₂ (λ (y : ℕ) (l : List ℕ). y ∷ get_or bs (p + 5) 0 ∷ l) (sym v) fs ∙ (heads (p + 4) (p + 5) (p + 6) n (omega arith) (omega arith)) in
    ap₂ ◌++◌ a b ∙ (words_append bs p 4 (2 + n) (p + 4) refl ∙ (words-part bs p (4 + (2 + n)) (omega arith) ∙ ap (λ (k : ℕ). take k (drop p bs)) (size_is p r u)))
  where
    back : (r : ℕ) → 2 ≤ r → 2 + (r - 2) ≡ r
    back r u = omega arith

    heads : (x y z n : ℕ) → y ≡ x + 1 → z ≡ y + 1 → (get_or bs x 0 ∷ get_or bs y 0 ∷ words bs z n) ≡ words bs x (2 + n)
    heads x y z n a b = ap₂ (λ (i j : ℕ). get_or bs x 0 ∷ get_or bs i 0 ∷ words bs j n) a (b ∙ ap (λ (i : ℕ). i + 1) a) ∙ words_append bs x 2 n (x + 1 + 1) (omega arith)

    size_is : (p r : ℕ) → 2 ≤ r → 4 + (2 + (r - 2)) ≡ p + 4 + r - p
    size_is p r u = omega arith

-- reading, then writing, gives the record again, where what is unread is as it is written; no such record fails to be written
pub writes_back : (room bs : List ℕ) (p : ℕ) (x : Found) → AllBytes bs → read_at room bs p ≡ good x → Normal (kind_of (get_or bs (p + 5) 0)) (fields_at bs p) → record_of x.what ≡ good (part bs p x.end)
unfolding record_of
writes_back room bs p x h e n =
    let o = read_of room bs p x e in
    let (u, m, t) = whole_elim bs p o.whole in
    let k : ℕ = get_or bs (p + 5) 0 in
    let f : List ℕ = fields_at bs p in
    let c : Call = call_by (kind_of k) f room in
    let w = write_back k f room o.kind_known o.fit (bytes-part bs (p + 6) (p + 4 + rest_at bs p) h) n in
    let s : 2 + length f ≤ 4096 = omega (arith, m, length-take (p + 4 + rest_at bs p - (p + 6)) (drop (p + 6) bs)) in
    let l : 2 + length (fields_in c) ≤ 4096 = subst (λ (g : List ℕ). 2 + length g ≤ 4096) (sym w.same) s in
    ap record_of o.what
    ∙ (refuse_back _ 26 _ (not_yes (both w.can (both w.fields_fit (le-leb _ 4096 l))))
    ∙ ap good (ap₂ record_bytes w.kind_same w.same ∙ (record_is bs p h o.whole o.version ∙ ap (part bs p) (sym o.end))))
