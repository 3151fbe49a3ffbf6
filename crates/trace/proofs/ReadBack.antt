-- What is written reads back (02: N5).
use Prim.Native.Nat.{ℕ, zero, suc, ◌+◌, ◌-◌, ◌*◌, ◌/◌, ◌%◌, ◌^◌, ◌<◌, ◌≤◌}
use Rattle.std.specs.Prelude.{◌≡◌, Bool, true, false, not, ◌&&◌, cond, leb, ltb, get_or, take, drop}
use Rattle.std.proofs.Math.Path.{refl, sym, ap, ap₂}
use Rattle.std.proofs.Common.{◌∙◌, add-zero, zero-add, mod-eq_of_lt, length-append, take_at, drop_at, eq-eqb, le-leb, leb-true, ltb-true}
use mathlib.Core.List.{List, [], ◌∷◌, ◌++◌, map, append_assoc}
use Rattle.std.proofs.lemmas.Bool.{false≢true, lt-leb}
use Rattle.std.proofs.Math.Option.{Option, none, some}
use native.Mathlib.Omega.{arith}
use Rattle.std.proofs.Math.Dec.{eqb}
use Rattle.std.proofs.Math.ListN.{length}
use Rattle.std.proofs.lemmas.List.{get_or_at}
use Rattle.laws.specs.Test.{both, and_l, and_r, not_yes, cond_no, clash}
use Rattle.laws.specs.Lists.{all}
use Rattle.laws.specs.Bytes.{be, be-length, value, number, value-be-fits}
use Rattle.spec.specs.Ids.{Id, Ref}
use Rattle.spec.specs.Store.{Resolution, bit}
use Rattle.spec.specs.Chain.{Out, good}
use Rattle.spec.specs.Walk.{then-good, refuse-good, refuse_back}
use Rattle.spec.proofs.Demand3Second.{good-same}
use Rattle.spec.specs.Calls.{Call, StartArgs, start, reset_all, round, name, resolve, certify, gap_question, commit, outlook, remove, drop as drop_to}
use Rattle.models.specs.Digest.{words}
use Rattle.trace.specs.Numbers.{number_at, id_at}
use Rattle.trace.specs.Head.{links_in, size_of, fits, fields_fit, version_ok, rest_at, whole_at, fields_at, whole_intro}
use Rattle.trace.specs.Fields.{used_in, start_in, since_in, links_from, payload_from, resolution_in, call_by}
use Rattle.trace.specs.Links.{words_right}
use Rattle.trace.specs.Kinds.{kind_of, kind_ok}
use Rattle.trace.specs.Codes.{Found, read_at, more, go_on, trace_from, trace_in}
use Rattle.trace.specs.Write.{Field, field, field_bytes, fits_field, id_then, used_byte, start_fields, link_fields, marks_byte, resolve_fields, remove_fields, fields_of, kind_byte, is255, sayable, fields_in, record_bytes, record_of, records_of, lending}

-- ---- a number where it was written

-- the first words are the first list
pub words-own : (xs ys : List ℕ) → words (xs ++ ys) 0 (length xs) ≡ xs
unfolding words
words-own [] ys = refl
words-own (x ∷ xs) ys = ap (λ (l : List ℕ). x ∷ l) (words_right (x ∷ []) (xs ++ ys) 1 0 (length xs) refl ∙ words-own xs ys)

-- at p, after xs
pub number_at_lem : (f xs ys : List ℕ) (m n p : ℕ) → f ≡ xs ++ (be m n ++ ys) → length xs ≡ p → n < 256 ^ m → number_at f p m ≡ n
unfolding number_at
number_at_lem f xs ys m n p e l h =
    ap (λ (g : List ℕ). value 0 (words g p m)) e
    ∙ (ap (value 0) (words_right xs (be m n ++ ys) p 0 m (sym l ∙ sym (add-zero (length xs))))
    ∙ (ap (λ (k : ℕ). value 0 (words (be m n ++ ys) 0 k)) (sym (be-length m n)) ∙ (ap (value 0) (words-own (be m n) ys) ∙ value-be-fits m n h)))

-- one byte is the number in it
pub byte_is : (f : List ℕ) (p : ℕ) → get_or f p 0 ≡ number_at f p 1
unfolding number_at words value number
byte_is f p = sym (zero-add (get_or f p 0))

-- ---- fields

-- the bytes of many fields
unfoldable pub size : List Field → ℕ
size [] = 0
size (f ∷ fs) = f.width + size fs

pub fields_length : (fs : List Field) → length (field_bytes fs) ≡ size fs
unfolding field_bytes size
fields_length [] = refl
fields_length (f ∷ fs) = length-append (be f.width f.number) (field_bytes fs) ∙ ap₂ ◌+◌ (be-length f.width f.number) (fields_length fs)

pub fields_append : (fs gs : List Field) → field_bytes (fs ++ gs) ≡ field_bytes fs ++ field_bytes gs
unfolding field_bytes
fields_append [] gs = refl
fields_append (f ∷ fs) gs =
    ap (λ (l : List ℕ). be f.width f.number ++ l) (fields_append fs gs) ∙ sym (append_assoc (be f.width f.number) (field_bytes fs) (field_bytes gs))

-- the k-th, and what stands before it
nth : List Field → ℕ → Field
nth [] k = field 0 0
nth (f ∷ fs) zero = f
nth (f ∷ fs) (suc k) = nth fs k

before : List Field → ℕ → ℕ
before [] k = 0
before (f ∷ fs) zero = 0
before (f ∷ fs) (suc k) = f.width + before fs k

after_first : (f : Field) (fs : List Field) (p m : ℕ) → number_at (field_bytes (f ∷ fs)) (f.width + p) m ≡ number_at (field_bytes fs) p m
unfolding number_at field_bytes
after_first f fs p m =
    ap (value 0) (words_right (be f.width f.number) (field_bytes fs) (f.width + p) p m (ap (λ (k : ℕ). k + p) (sym (be-length f.width f.number))))

field_nth : (fs : List Field) (k : ℕ) → all fits_field fs ≡ true → number_at (field_bytes fs) (before fs k) (nth fs k).width ≡ (nth fs k).number
unfolding number_at words value number before nth all fits_field field_bytes
field_nth [] k h = refl
field_nth (f ∷ fs) zero h = number_at_lem (field_bytes (f ∷ fs)) [] (field_bytes fs) f.width f.number 0 refl refl (ltb-true _ _ (and_l _ _ h))
field_nth (f ∷ fs) (suc k) h = after_first f fs (before fs k) (nth fs k).width ∙ field_nth fs k (and_r (fits_field f) _ h)

byte_nth : (fs : List Field) (k : ℕ) → (nth fs k).width ≡ 1 → all fits_field fs ≡ true → get_or (field_bytes fs) (before fs k) 0 ≡ (nth fs k).number
byte_nth fs k e h = byte_is (field_bytes fs) (before fs k) ∙ (ap (number_at (field_bytes fs) (before fs k)) (sym e) ∙ field_nth fs k h)

-- ---- the fields of each kind

-- an id at the front
id_back : (i : Id) (fs : List Field) → all fits_field (id_then i fs) ≡ true → id_at (field_bytes (id_then i fs)) 0 ≡ i
unfolding id_at before nth
id_back i fs h = λ k. record { round = field_nth (id_then i fs) 0 h k; author = byte_nth (id_then i fs) 1 refl h k; digest = field_nth (id_then i fs) 2 h k }

flag_back : (b : Bool) → not (eqb (bit 1 b) 0) ≡ b
flag_back true = refl
flag_back false = refl

-- "used author (1; 255 for none)", which no author is
used_back : (u : Option ℕ) → is255 u ≡ false → used_in (used_byte u) ≡ u
unfolding used_in used_byte is255
used_back none h = refl
used_back (some a) h = cond_no _ _ _ h refl

start_back : (a : StartArgs) → is255 a.used ≡ false → all fits_field (start_fields a) ≡ true → start_in (field_bytes (start_fields a)) ≡ a
unfolding start_in start_fields before nth
start_back a n h = λ k. record {
  conf = record { genesis = field_nth (start_fields a) 0 h k; history_rounds = field_nth (start_fields a) 1 h k; deduplicate_rounds = field_nth (start_fields a) 2 h k };
  bottom = field_nth (start_fields a) 3 h k;
  peers = field_nth (start_fields a) 4 h k;
  after_gap = gap k;
  used = who k;
}
  where
    gap : not (eqb (get_or (field_bytes (start_fields a)) 20 0) 0) ≡ a.after_gap
    gap = ap (λ (x : ℕ). not (eqb x 0)) (byte_nth (start_fields a) 5 refl h) ∙ flag_back a.after_gap

    who : used_in (get_or (field_bytes (start_fields a)) 21 0) ≡ a.used
    who = ap used_in (byte_nth (start_fields a) 6 refl h) ∙ used_back a.used n

since_back : (r : ℕ) (x : Option ℕ) → all fits_field (remove_fields r x) ≡ true → (number_at (field_bytes (remove_fields r x)) 0 4 ≡ r) × (since_in (field_bytes (remove_fields r x)) ≡ x) × (length (field_bytes (remove_fields r x)) ≡ 9)
unfolding since_in remove_fields before nth size
since_back r none h = (field_nth (remove_fields r none) 0 h, ap (λ (x : ℕ). cond (not (eqb x 0)) (some (number_at (field_bytes (remove_fields r none)) 5 4)) none) (byte_nth (remove_fields r none) 1 refl h), fields_length (remove_fields r none))
since_back r (some y) h = (
  field_nth (remove_fields r (some y)) 0 h,
  ap (λ (x : ℕ). cond (not (eqb x 0)) (some (number_at (field_bytes (remove_fields r (some y))) 5 4)) none) (byte_nth (remove_fields r (some y)) 1 refl h) ∙ ap some (field_nth (remove_fields r (some y)) 2 h),
  fields_length (remove_fields r (some y)),
)

-- the place lists: a byte each
byte_field : (x : ℕ) → x < 256 → be 1 x ≡ x ∷ []
unfolding be
byte_field x h = ap (λ (y : ℕ). y ∷ []) (mod-eq_of_lt h)

pub lists_back : (l : List ℕ) → all fits_field (map (field 1) l) ≡ true → field_bytes (map (field 1) l) ≡ l
unfolding all fits_field field_bytes
lists_back [] h = refl
lists_back (x ∷ l) h = ap₂ ◌++◌ (byte_field x (ltb-true x 256 (and_l _ _ h))) (lists_back l (and_r (ltb x (256 ^ 1)) _ h))

-- ---- resolutions

marks_back : (a b c : Bool) → let m = bit 1 a + bit 2 b + bit 4 c in (eqb (m % 2) 1 ≡ a) × (eqb (m / 2 % 2) 1 ≡ b) × (eqb (m / 4 % 2) 1 ≡ c)
marks_back true true true = (refl, refl, refl)
marks_back true true false = (refl, refl, refl)
marks_back true false true = (refl, refl, refl)
marks_back true false false = (refl, refl, refl)
marks_back false true true = (refl, refl, refl)
marks_back false true false = (refl, refl, refl)
marks_back false false true = (refl, refl, refl)
marks_back false false false = (refl, refl, refl)

-- 33 bytes a link
links-size : (rs : List Ref) → length (field_bytes (link_fields rs)) ≡ 33 * length rs
unfolding link_fields field_bytes size
links-size [] = refl
links-size (r ∷ rs) = fields_length (link_fields (r ∷ rs)) ∙ more_of (size (link_fields rs)) (length rs) (sym (fields_length (link_fields rs)) ∙ links-size rs)
  where
    more_of : (m n : ℕ) → m ≡ 33 * n → 1 + (32 + m) ≡ 33 * suc n
    more_of m n e = omega arith

-- the first of many links, and where the next one stands
module _ (r : Ref) (rs : List Ref) (f xs ys : List ℕ) (p : ℕ) (e : f ≡ xs ++ (field_bytes (link_fields (r ∷ rs)) ++ ys)) (l : length xs ≡ p) where
  link-one : f ≡ xs ++ (be 1 r.peer ++ (be 32 r.digest ++ (field_bytes (link_fields rs) ++ ys)))
  unfolding link_fields field_bytes
  link-one =
      e ∙ ap (λ (z : List ℕ). xs ++ z) (append_assoc (be 1 r.peer) (be 32 r.digest ++ field_bytes (link_fields rs)) ys ∙ ap (λ (z : List ℕ). be 1 r.peer ++ z) (append_assoc (be 32 r.digest) (field_bytes (link_fields rs)) ys))

  link-two : f ≡ (xs ++ be 1 r.peer) ++ (be 32 r.digest ++ (field_bytes (link_fields rs) ++ ys))
  link-two = link-one ∙ sym (append_assoc xs (be 1 r.peer) _)

  link-three : f ≡ ((xs ++ be 1 r.peer) ++ be 32 r.digest) ++ (field_bytes (link_fields rs) ++ ys)
  link-three = link-two ∙ sym (append_assoc (xs ++ be 1 r.peer) (be 32 r.digest) _)

  link-next : length (xs ++ be 1 r.peer) ≡ p + 1
  link-next = length-append xs (be 1 r.peer) ∙ ap₂ ◌+◌ l (be-length 1 r.peer)

  link_last : length ((xs ++ be 1 r.peer) ++ be 32 r.digest) ≡ p + 33
  link_last = length-append (xs ++ be 1 r.peer) (be 32 r.digest) ∙ (ap₂ ◌+◌ link-next (be-length 32 r.digest) ∙ on p)
    where
      on : (q : ℕ) → q + 1 + 32 ≡ q + 33
      on q = omega arith

  link-peer : r.peer < 256 ^ 1 → get_or f p 0 ≡ r.peer
  link-peer h = byte_is f p ∙ number_at_lem f xs _ 1 r.peer p link-one l h

  link_digest : r.digest < 256 ^ 32 → number_at f (p + 1) 32 ≡ r.digest
  link_digest h = number_at_lem f (xs ++ be 1 r.peer) _ 32 r.digest (p + 1) link-two link-next h

-- the links from p on
links_at : (rs : List Ref) (f xs ys : List ℕ) (p : ℕ) → f ≡ xs ++ (field_bytes (link_fields rs) ++ ys) → length xs ≡ p → all fits_field (link_fields rs) ≡ true → links_from f p (length rs) ≡ rs
unfolding links_from link_fields all fits_field
links_at [] f xs ys p e l h = refl
links_at (r ∷ rs) f xs ys p e l h =
    let g = and_r (ltb r.peer (256 ^ 1)) _ h in
    let a = link-peer r rs f xs ys p e l (ltb-true _ _ (and_l _ _ h)) in
    let d = link_digest r rs f xs ys p e l (ltb-true _ _ (and_l _ _ g)) in
    let t = links_at rs f ((xs ++ be 1 r.peer) ++ be 32 r.digest) ys (p + 33) (link-three r rs f xs ys p e l) (link_last r rs f xs ys p e l) (and_r (ltb r.digest (256 ^ 32)) _ g) in
    λ k. record { peer = a k; digest = d k } ∷ t k

pub all_append : (fs gs : List Field) → all fits_field (fs ++ gs) ≡ true → (all fits_field fs ≡ true) × (all fits_field gs ≡ true)
unfolding all
all_append [] gs h = (refl, h)
all_append (f ∷ fs) gs h = let (x, y) = all_append fs gs (and_r (fits_field f) _ h) in (both (and_l (fits_field f) (all fits_field (fs ++ gs)) h) x, y)

-- the 82 bytes before the links, and what follows them
abbrev front_fields : Id → Resolution → List Field
front_fields i t =
    id_then i (field 1 t.status ∷ field 1 (marks_byte t) ∷ id_then t.top_proof (field 4 t.evidence ∷ field 1 (length t.includes) ∷ field 1 (length t.witness) ∷ []))

abbrev pay_fields : Resolution → List Field
pay_fields t = field 4 t.payload_len ∷ field 4 t.payload_bytes ∷ []

abbrev link_bytes : List Ref → List ℕ
link_bytes rs = field_bytes (link_fields rs)

module _ (i : Id) (t : Resolution) where
  shape : field_bytes (resolve_fields i t) ≡ field_bytes (front_fields i t) ++ (link_bytes t.includes ++ (link_bytes t.witness ++ field_bytes (pay_fields t)))
  unfolding resolve_fields
  shape =
      fields_append (front_fields i t) (link_fields t.includes ++ (link_fields t.witness ++ pay_fields t))
      ∙ ap (λ (z : List ℕ). field_bytes (front_fields i t) ++ z) (fields_append (link_fields t.includes) (link_fields t.witness ++ pay_fields t) ∙ ap (λ (z : List ℕ). link_bytes t.includes ++ z) (fields_append (link_fields t.witness) (pay_fields t)))

  front_size : length (field_bytes (front_fields i t)) ≡ 82
  unfolding size
  front_size = fields_length (front_fields i t)

  module _ (h : all fits_field (resolve_fields i t) ≡ true) where
    -- all fields fit, in parts
    parts_fit : (all fits_field (link_fields t.includes) ≡ true) × (all fits_field (link_fields t.witness) ≡ true) × (all fits_field (pay_fields t) ≡ true)
    unfolding resolve_fields
    parts_fit =
        let a = (all_append (front_fields i t) (link_fields t.includes ++ (link_fields t.witness ++ pay_fields t)) h).1 in
        let b = all_append (link_fields t.includes) (link_fields t.witness ++ pay_fields t) a in
        let c = all_append (link_fields t.witness) (pay_fields t) b.1 in
        (b.0, c.0, c.1)

    -- the numbers of links
    counts_back : (get_or (field_bytes (resolve_fields i t)) 80 0 ≡ length t.includes) × (get_or (field_bytes (resolve_fields i t)) 81 0 ≡ length t.witness)
    unfolding resolve_fields before nth
    counts_back = (byte_nth (resolve_fields i t) 9 refl h, byte_nth (resolve_fields i t) 10 refl h)

    includes_back : links_from (field_bytes (resolve_fields i t)) 82 (length t.includes) ≡ t.includes
    includes_back = links_at t.includes _ (field_bytes (front_fields i t)) (link_bytes t.witness ++ field_bytes (pay_fields t)) 82 shape front_size parts_fit.0

    -- where the witness begins
    second : field_bytes (resolve_fields i t) ≡ (field_bytes (front_fields i t) ++ link_bytes t.includes) ++ (link_bytes t.witness ++ field_bytes (pay_fields t))
    second = shape ∙ sym (append_assoc (field_bytes (front_fields i t)) (link_bytes t.includes) _)

    second_size : length (field_bytes (front_fields i t) ++ link_bytes t.includes) ≡ 82 + length t.includes * 33
    second_size = length-append (field_bytes (front_fields i t)) (link_bytes t.includes) ∙ (ap₂ ◌+◌ front_size (links-size t.includes) ∙ turn (length t.includes))
      where
        turn : (n : ℕ) → 82 + 33 * n ≡ 82 + n * 33
        turn n = omega arith

    witness_back : links_from (field_bytes (resolve_fields i t)) (82 + length t.includes * 33) (length t.witness) ≡ t.witness
    witness_back = links_at t.witness _ (field_bytes (front_fields i t) ++ link_bytes t.includes) (field_bytes (pay_fields t)) (82 + length t.includes * 33) second second_size parts_fit.1

    -- where N2's numbers begin
    third : field_bytes (resolve_fields i t) ≡ ((field_bytes (front_fields i t) ++ link_bytes t.includes) ++ link_bytes t.witness) ++ field_bytes (pay_fields t)
    third = second ∙ sym (append_assoc (field_bytes (front_fields i t) ++ link_bytes t.includes) (link_bytes t.witness) (field_bytes (pay_fields t)))

    third_size : length ((field_bytes (front_fields i t) ++ link_bytes t.includes) ++ link_bytes t.witness) ≡ 82 + 33 * (length t.includes + length t.witness)
    third_size = length-append (field_bytes (front_fields i t) ++ link_bytes t.includes) (link_bytes t.witness) ∙ (ap₂ ◌+◌ second_size (links-size t.witness) ∙ turn (length t.includes) (length t.witness))
      where
        turn : (m n : ℕ) → 82 + m * 33 + 33 * n ≡ 82 + 33 * (m + n)
        turn m n = omega arith

    payload_at_lem : payload_from (field_bytes (resolve_fields i t)) ≡ 82 + 33 * (length t.includes + length t.witness)
    unfolding links_in
    payload_at_lem = ap₂ (λ (x y : ℕ). 82 + 33 * (x + y)) counts_back.0 counts_back.1

    len_back : number_at (field_bytes (resolve_fields i t)) (82 + 33 * (length t.includes + length t.witness)) 4 ≡ t.payload_len
    unfolding field_bytes all fits_field
    len_back = number_at_lem _ ((field_bytes (front_fields i t) ++ link_bytes t.includes) ++ link_bytes t.witness) (be 4 t.payload_bytes ++ []) 4 t.payload_len _ third third_size (ltb-true _ _ (and_l _ _ parts_fit.2))

    bytes_back : number_at (field_bytes (resolve_fields i t)) (82 + 33 * (length t.includes + length t.witness) + 4) 4 ≡ t.payload_bytes
    unfolding field_bytes all fits_field
    bytes_back =
        number_at_lem _ (((field_bytes (front_fields i t) ++ link_bytes t.includes) ++ link_bytes t.witness) ++ be 4 t.payload_len) [] 4 t.payload_bytes _
        (third ∙ sym (append_assoc ((field_bytes (front_fields i t) ++ link_bytes t.includes) ++ link_bytes t.witness) (be 4 t.payload_len) (be 4 t.payload_bytes ++ [])))
        (length-append ((field_bytes (front_fields i t) ++ link_bytes t.includes) ++ link_bytes t.witness) (be 4 t.payload_len) ∙ ap₂ ◌+◌ third_size (be-length 4 t.payload_len))
        (ltb-true _ _ (and_l _ _ (and_r (fits_field (field 4 t.payload_len)) _ parts_fit.2)))

    -- the fields of a resolution
    resolve_back : (id_at (field_bytes (resolve_fields i t)) 0 ≡ i) × (resolution_in (field_bytes (resolve_fields i t)) ≡ t)
    unfolding resolution_in resolve_fields id_at before nth marks_byte
    resolve_back = (
      id_back i _ h,
      λ k. record {
        status = byte_nth (resolve_fields i t) 3 refl h k;
        proof = (ap (λ (m : ℕ). eqb (m % 2) 1) marks ∙ bits.0) k;
        trigger = (ap (λ (m : ℕ). eqb (m / 2 % 2) 1) marks ∙ bits.1) k;
        cause = (ap (λ (m : ℕ). eqb (m / 4 % 2) 1) marks ∙ bits.2) k;
        top_proof = record { round = field_nth (resolve_fields i t) 5 h k; author = byte_nth (resolve_fields i t) 6 refl h k; digest = field_nth (resolve_fields i t) 7 h k };
        evidence = field_nth (resolve_fields i t) 8 h k;
        includes = (ap (links_from F 82) counts_back.0 ∙ includes_back) k;
        witness = (ap₂ (λ (x y : ℕ). links_from F (82 + x * 33) y) counts_back.0 counts_back.1 ∙ witness_back) k;
        payload_len = (ap (λ (p : ℕ). number_at F p 4) payload_at_lem ∙ len_back) k;
        payload_bytes = (ap (λ (p : ℕ). number_at F (p + 4) 4) payload_at_lem ∙ bytes_back) k;
      },
    )
      where
        F : List ℕ
        F = field_bytes (resolve_fields i t)

        marks : get_or (field_bytes (resolve_fields i t)) 38 0 ≡ marks_byte t
        marks = byte_nth (resolve_fields i t) 4 refl h

        bits : (eqb (marks_byte t % 2) 1 ≡ t.proof) × (eqb (marks_byte t / 2 % 2) 1 ≡ t.trigger) × (eqb (marks_byte t / 4 % 2) 1 ≡ t.cause)
        bits = marks_back t.proof t.trigger t.cause

    resolve-size : length (field_bytes (resolve_fields i t)) ≡ 90 + 33 * links_in (field_bytes (resolve_fields i t))
    unfolding links_in size
    resolve-size =
        ap length third ∙ (length-append ((field_bytes (front_fields i t) ++ link_bytes t.includes) ++ link_bytes t.witness) (field_bytes (pay_fields t)) ∙ (ap₂ ◌+◌ third_size (fields_length (pay_fields t)) ∙ (turn (length t.includes) (length t.witness) ∙ sym (ap₂ (λ (x y : ℕ). 90 + 33 * (x + y)) counts_back.0 counts_back.1))))
      where
        turn : (m n : ℕ) → 82 + 33 * (m + n) + 8 ≡ 90 + 33 * (m + n)
        turn m n = omega arith

-- ---- a call

-- what is read of the fields that a call is written as
pub record CallBack (room : List ℕ) (c : Call) : Type 0 where
  pub known_kind : kind_ok (kind_byte c) ≡ true
  pub fit : fields_fit (kind_byte c) (fields_in c) ≡ true
  pub same : call_by (kind_of (kind_byte c)) (fields_in c) room ≡ lending room c

id-size : (i : Id) → length (field_bytes (id_then i [])) ≡ 37
unfolding size
id-size i = fields_length (id_then i [])

not_back : (b : Bool) → not b ≡ true → b ≡ false
not_back true h = sym h
not_back false h = refl

-- a call that isn't refused is read back; its buffer isn't in it
pub call_back : (room : List ℕ) (c : Call) → sayable c ≡ true → all fits_field (fields_of c) ≡ true → CallBack room c
unfolding sayable kind_ok kind_byte fields_fit fits size_of fields_of kind_of call_by lending size before nth start_fields field_bytes
call_back room (start a) w h = record {
  known_kind = refl;
  fit = eq-eqb _ 22 (fields_length (start_fields a));
  same = ap start (start_back a (not_back (is255 a.used) w) h);
}
call_back room reset_all w h = record { known_kind = refl; fit = refl; same = refl }
call_back room (round r peers) w h = record {
  known_kind = refl;
  fit = eq-eqb _ 8 (fields_length (fields_of (round r peers)));
  same = ap₂ round (field_nth (fields_of (round r peers)) 0 h) (field_nth (fields_of (round r peers)) 1 h);
}
call_back room (name i) w h = record { known_kind = refl; fit = eq-eqb _ 37 (id-size i); same = ap name (id_back i [] h) }
call_back room (resolve i t) w h = record { known_kind = refl; fit = eq-eqb _ _ (resolve-size i t h); same = ap₂ resolve (resolve_back i t h).0 (resolve_back i t h).1 }
call_back room (certify i) w h = record { known_kind = refl; fit = eq-eqb _ 37 (id-size i); same = ap certify (id_back i [] h) }
call_back room gap_question w h = record { known_kind = refl; fit = refl; same = refl }
call_back room (commit i l b) w h = record {
  known_kind = refl;
  fit = eq-eqb _ _ (long (length (field_bytes (id_then i (map (field 1) l)))) (length (field_bytes (id_then i []))) (length (field_bytes (map (field 1) l))) (ap length front ∙ length-append (field_bytes (id_then i [])) _) (id-size i));
  same = ap₂ (λ (x : Id) (y : List ℕ). commit x y room) (id_back i _ h) (ap (drop 37) front ∙ (drop_at (field_bytes (id_then i [])) _ 37 (id-size i) ∙ lists_back l (all_append (id_then i []) (map (field 1) l) h).1));
}
  where
    front : field_bytes (id_then i (map (field 1) l)) ≡ field_bytes (id_then i []) ++ field_bytes (map (field 1) l)
    front = fields_append (id_then i []) (map (field 1) l)

    long : (n m k : ℕ) → n ≡ m + k → m ≡ 37 → n ≡ 37 + (n - 37)
    long n m k e g = omega arith
call_back room (outlook i b) w h = absurd (false≢true w)
call_back room (remove r from b) w h = let (x, y, z) = since_back r from h in record { known_kind = refl; fit = eq-eqb _ 9 z; same = ap₂ (λ (u : ℕ) (v : Option ℕ). remove u v room) x y }
call_back room (drop_to r) w h = record { known_kind = refl; fit = eq-eqb _ 4 (fields_length (fields_of (drop_to r))); same = ap drop_to (field_nth (fields_of (drop_to r)) 0 h) }

-- ---- a record

-- what a record that is written has
pub record Written (c : Call) (r : List ℕ) : Type 0 where
  pub can : sayable c ≡ true
  pub fields_fit : all fits_field (fields_of c) ≡ true
  pub rest_fits : 2 + length (fields_in c) ≤ 4096
  pub bytes : r ≡ record_bytes (kind_byte c) (fields_in c)

pub not_no : (b : Bool) → not b ≡ false → b ≡ true
not_no true h = refl
not_no false h = absurd (clash refl h)

pub record_written : (c : Call) (r : List ℕ) → record_of c ≡ good r → Written c r
unfolding record_of
record_written c r e =
    let t = refuse-good _ 26 (good (record_bytes (kind_byte c) (fields_in c))) r e in
    let h = not_no _ t.0 in
    let g = and_r (sayable c) _ h in
    record { can = and_l _ _ h; fields_fit = and_l _ _ g; rest_fits = leb-true _ _ (and_r (all fits_field (fields_of c)) _ g); bytes = sym (good-same _ _ t.1) }

-- its length
pub record_size_lem : (k : ℕ) (f : List ℕ) → length (record_bytes k f) ≡ 4 + (2 + length f)
record_size_lem k f = length-append (be 4 (2 + length f)) (1 ∷ k ∷ f) ∙ (ap (λ (n : ℕ). n + suc (suc (length f))) (be-length 4 (2 + length f)) ∙ up (length f))
  where
    up : (n : ℕ) → 4 + suc (suc n) ≡ 4 + (2 + n)
    up n = omega arith

module _ (k : ℕ) (f xs ys : List ℕ) (p : ℕ) (l : length xs ≡ p) (m : 2 + length f ≤ 4096) where
  -- the record, in parts
  cut : xs ++ (record_bytes k f ++ ys) ≡ xs ++ (be 4 (2 + length f) ++ (1 ∷ k ∷ (f ++ ys)))
  cut = ap (λ (z : List ℕ). xs ++ z) (append_assoc (be 4 (2 + length f)) (1 ∷ k ∷ f) ys)

  rest_back : rest_at (xs ++ (record_bytes k f ++ ys)) p ≡ 2 + length f
  rest_back = number_at_lem _ xs (1 ∷ k ∷ (f ++ ys)) 4 (2 + length f) p cut l (omega arith)

  head_size : length (xs ++ be 4 (2 + length f)) ≡ p + 4
  head_size = length-append xs _ ∙ ap₂ ◌+◌ l (be-length 4 (2 + length f))

  after_head : xs ++ (record_bytes k f ++ ys) ≡ (xs ++ be 4 (2 + length f)) ++ (1 ∷ k ∷ (f ++ ys))
  after_head = cut ∙ sym (append_assoc xs (be 4 (2 + length f)) (1 ∷ k ∷ (f ++ ys)))

  version_back : get_or (xs ++ (record_bytes k f ++ ys)) (p + 4) 0 ≡ 1
  version_back = ap (λ (z : List ℕ). get_or z (p + 4) 0) after_head ∙ get_or_at (xs ++ be 4 (2 + length f)) 1 (k ∷ (f ++ ys)) 0 (p + 4) head_size

  after-version : xs ++ (record_bytes k f ++ ys) ≡ ((xs ++ be 4 (2 + length f)) ++ (1 ∷ [])) ++ (k ∷ (f ++ ys))
  after-version = after_head ∙ sym (append_assoc (xs ++ be 4 (2 + length f)) (1 ∷ []) (k ∷ (f ++ ys)))

  version-size : length ((xs ++ be 4 (2 + length f)) ++ (1 ∷ [])) ≡ p + 5
  version-size = length-append (xs ++ be 4 (2 + length f)) (1 ∷ []) ∙ (ap (λ (n : ℕ). n + 1) head_size ∙ on p)
    where
      on : (n : ℕ) → n + 4 + 1 ≡ n + 5
      on n = omega arith

  kind_back : get_or (xs ++ (record_bytes k f ++ ys)) (p + 5) 0 ≡ k
  kind_back = ap (λ (z : List ℕ). get_or z (p + 5) 0) after-version ∙ get_or_at ((xs ++ be 4 (2 + length f)) ++ (1 ∷ [])) k (f ++ ys) 0 (p + 5) version-size

  after-kind : xs ++ (record_bytes k f ++ ys) ≡ (((xs ++ be 4 (2 + length f)) ++ (1 ∷ [])) ++ (k ∷ [])) ++ (f ++ ys)
  after-kind = after-version ∙ sym (append_assoc ((xs ++ be 4 (2 + length f)) ++ (1 ∷ [])) (k ∷ []) (f ++ ys))

  kind-size : length (((xs ++ be 4 (2 + length f)) ++ (1 ∷ [])) ++ (k ∷ [])) ≡ p + 6
  kind-size = length-append ((xs ++ be 4 (2 + length f)) ++ (1 ∷ [])) (k ∷ []) ∙ (ap (λ (n : ℕ). n + 1) version-size ∙ on p)
    where
      on : (n : ℕ) → n + 5 + 1 ≡ n + 6
      on n = omega arith

  total : length (xs ++ (record_bytes k f ++ ys)) ≡ p + 6 + length (f ++ ys)
  total = ap length after-kind ∙ (length-append (((xs ++ be 4 (2 + length f)) ++ (1 ∷ [])) ++ (k ∷ [])) (f ++ ys) ∙ ap (λ (n : ℕ). n + length (f ++ ys)) kind-size)

  whole_back : whole_at (xs ++ (record_bytes k f ++ ys)) p ≡ true
  whole_back = whole_intro _ p (omega (arith, rest_back)) (omega (arith, rest_back, m)) (omega (arith, rest_back, total, length-append f ys))

  fields_back : fields_at (xs ++ (record_bytes k f ++ ys)) p ≡ f
  fields_back =
      ap₂ (λ (n : ℕ) (z : List ℕ). take n z) (num (length f) p (rest_at (xs ++ (record_bytes k f ++ ys)) p) rest_back) (ap (drop (p + 6)) after-kind ∙ drop_at (((xs ++ be 4 (2 + length f)) ++ (1 ∷ [])) ++ (k ∷ [])) (f ++ ys) (p + 6) kind-size)
      ∙ take_at f ys (length f) refl
    where
      num : (n q r : ℕ) → r ≡ 2 + n → q + 4 + r - (q + 6) ≡ n
      num n q r e = omega arith

-- a record whose parts are known
read_good : (room bs f : List ℕ) (p k : ℕ) → whole_at bs p ≡ true → get_or bs (p + 4) 0 ≡ 1 → get_or bs (p + 5) 0 ≡ k → fields_at bs p ≡ f → rest_at bs p ≡ 2 + length f → kind_ok k ≡ true → fields_fit k f ≡ true
    → read_at room bs p ≡ good (record { what = call_by (kind_of k) f room; end = p + 4 + (2 + length f) })
unfolding read_at version_ok
read_good room bs f p k w ve ke fe re h g =
    refuse_back _ 26 _ (not_yes w)
    ∙ (refuse_back _ 27 _ (not_yes (ap₂ (λ (a b : ℕ). eqb a 1 && kind_ok b) ve ke ∙ h))
    ∙ (refuse_back _ 26 _ (not_yes (ap₂ fields_fit ke fe ∙ g)) ∙ (λ i. good (record { what = call_by (kind_of (ke i)) (fe i) room; end = p + 4 + re i }))))

-- "a trace so written reads back as its calls": one record, wherever it stands
pub reads_back : (room : List ℕ) (c : Call) (r xs ys : List ℕ) (p : ℕ) → record_of c ≡ good r → length xs ≡ p → read_at room (xs ++ (r ++ ys)) p ≡ good (record { what = lending room c; end = p + length r })
reads_back room c r xs ys p e l =
    let w = record_written c r e in
    let k = kind_byte c in
    let f = fields_in c in
    let m = w.rest_fits in
    let b = call_back room c w.can w.fields_fit in
    let q : length r ≡ 4 + (2 + length f) = ap length w.bytes ∙ record_size_lem k f in
    ap (λ (z : List ℕ). read_at room (xs ++ (z ++ ys)) p) w.bytes
    ∙ (read_good room _ f p k (whole_back k f xs ys p l m) (version_back k f xs ys p l m) (kind_back k f xs ys p l m) (fields_back k f xs ys p l m) (rest_back k f xs ys p l m) b.known_kind b.fit
    ∙ (λ i. good (record { what = b.same i; end = ends p (length f) (length r) q i })))
  where
    ends : (p n m : ℕ) → m ≡ 4 + (2 + n) → p + 4 + (2 + n) ≡ p + m
    ends p n m e = omega arith

-- ---- a trace

-- its next call
pub trace_more : (n : ℕ) (room bs : List ℕ) (p : ℕ) (f : Found) → leb (length bs) p ≡ false → read_at room bs p ≡ good f → trace_from (suc n) room bs p ≡ more f.what (trace_from n room bs f.end)
unfolding trace_from go_on
trace_more n room bs p f h e = ap₂ (λ (b : Bool) (o : Out Found). go_on b o (λ g. more g.what (trace_from n room bs g.end))) h e

-- no byte is left
pub trace_end : (n : ℕ) (room bs : List ℕ) (p : ℕ) → leb (length bs) p ≡ true → trace_from n room bs p ≡ record { calls = []; ended = 0 }
unfolding trace_from go_on
trace_end zero room bs p h = refl
trace_end (suc n) room bs p h = ap (λ (b : Bool). go_on b (read_at room bs p) (λ g. more g.what (trace_from n room bs g.end))) h

-- records one after another are the calls, and nothing ends them but their end
pub trace_from_lem : (n : ℕ) (room : List ℕ) (cs : List Call) (rs xs : List ℕ) (p : ℕ) → records_of cs ≡ good rs → length xs ≡ p → length cs ≤ n → trace_from n room (xs ++ rs) p ≡ record { calls = map (lending room) cs; ended = 0 }
unfolding records_of more
trace_from_lem n room [] rs xs p e l m =
    let q : 0 ≡ length rs = ap length (good-same [] rs e) in
    trace_end n room (xs ++ rs) p (le-leb (length (xs ++ rs)) p (omega (arith, length-append xs rs, q)))
trace_from_lem zero room (c ∷ cs) rs xs p e l m = absurd (omega arith)
trace_from_lem (suc n) room (c ∷ cs) rs xs p e l m =
    let (r, a, b) = then-good _ _ _ e in
    let (zs, d, g) = then-good _ _ _ b in
    let q : rs ≡ r ++ zs = sym (good-same _ _ g) in
    let w = record_written c r a in
    let long : length r ≡ 4 + (2 + length (fields_in c)) = ap length w.bytes ∙ record_size_lem (kind_byte c) (fields_in c) in
    let t : length (xs ++ (r ++ zs)) ≡ p + (length r + length zs) = length-append xs (r ++ zs) ∙ ap₂ ◌+◌ l (length-append r zs) in
    ap (λ (z : List ℕ). trace_from (suc n) room (xs ++ z) p) q
    ∙ (trace_more n room (xs ++ (r ++ zs)) p _ (lt-leb (length (xs ++ (r ++ zs))) p (omega (arith, t, long))) (reads_back room c r xs zs p a l)
    ∙ ap (more (lending room c)) (ap (λ (z : List ℕ). trace_from n room z (p + length r)) (sym (append_assoc xs r zs)) ∙ trace_from_lem n room cs zs (xs ++ r) (p + length r) d (length-append xs r ∙ ap (λ (k : ℕ). k + length r) l) (omega arith)))

-- no record is empty
enough : (cs : List Call) (rs : List ℕ) → records_of cs ≡ good rs → length cs ≤ length rs
unfolding records_of
enough [] rs e = omega arith
enough (c ∷ cs) rs e =
    let (r, a, b) = then-good _ _ _ e in
    let (zs, d, g) = then-good _ _ _ b in
    let w = record_written c r a in
    let long : length r ≡ 4 + (2 + length (fields_in c)) = ap length w.bytes ∙ record_size_lem (kind_byte c) (fields_in c) in
    let t : length rs ≡ length r + length zs = ap length (sym (good-same _ _ g)) ∙ length-append r zs in
    omega (arith, enough cs zs d, long, t)

-- "a trace so written reads back as its calls"
pub trace_back : (room : List ℕ) (cs : List Call) (rs : List ℕ) → records_of cs ≡ good rs → trace_in room rs ≡ record { calls = map (lending room) cs; ended = 0 }
unfolding trace_in
trace_back room cs rs e = trace_from_lem (length rs) room cs rs [] 0 e refl (enough cs rs e)
