-- What is unread in a record changes no call, and comes out as it is written (02: N5).
use Rattle.std.specs.Prelude.{ℕ, zero, suc, ◌+◌, ◌-◌, ◌*◌, ◌/◌, ◌%◌, ◌<◌, ◌≤◌, ◌≡◌, refl, List, ◌∷◌, ◌++◌, Bool, true, false, not, cond, ◌≢◌, eqb, length, get_or, take, drop, set, replicate}
use Rattle.std.proofs.Common.{sym, ap, ap₂, ◌∙◌, subst, arith, length-append, length-set, length-take, get_or-append-add, get_or-set_same, get_or-set_other, get_or-take, eq-eqb, le-leb}
use Rattle.std.proofs.Math.Option.{Option, none, some}
use Rattle.std.proofs.lemmas.List.{length-replicate, get_or-replicate}
use Rattle.std.proofs.Math.ListN.{get_or-append, get_or-eq_default}
use Rattle.std.proofs.Math.Seq.{set_out}
use Rattle.laws.specs.Test.{both, not_yes, same_or, le_or, cond_no}
use Rattle.laws.specs.Bytes.{value, number}
use Rattle.spec.specs.Store.{bit}
use Rattle.spec.specs.Chain.{good}
use Rattle.spec.specs.Walk.{refuse_back}
use Rattle.spec.specs.Calls.{Call, start, resolve, remove}
use Rattle.models.specs.Digest.{words}
use Rattle.trace.specs.Numbers.{number_at, id_at}
use Rattle.trace.specs.Head.{links_in, size_of, fits, fields_fit, fits-length, rest_at, fields_at, whole_elim}
use Rattle.trace.specs.Kinds.{Kind, kind_of}
use Rattle.trace.specs.Kinds as kind
use Rattle.trace.specs.Fields.{flag_in, used_in, start_in, since_in, links_from, resolution_in, call_by}
use Rattle.trace.specs.Codes.{Found, read_at}
use Rattle.trace.specs.Write.{fields_in, record_bytes, record_of}
use Rattle.trace.proofs.WriteBack.{AllBytes, bytes-part, Normal, write_back, read_of}

-- ---- bytes that agree but at some places

words-agree : (f g : List ℕ) (p m : ℕ) → ((q : ℕ) → p ≤ q → q < p + m → get_or f q 0 ≡ get_or g q 0) → words f p m ≡ words g p m
unfolding words
words-agree f g p zero h = refl
words-agree f g p (suc m) h = ap₂ ◌∷◌ (h p (omega arith) (omega arith)) (words-agree f g (p + 1) m (λ q l u. h q (omega arith) (omega arith)))

number-agree : (f g : List ℕ) (p m : ℕ) → ((q : ℕ) → p ≤ q → q < p + m → get_or f q 0 ≡ get_or g q 0) → number_at f p m ≡ number_at g p m
unfolding number_at
number-agree f g p m h = ap (value 0) (words-agree f g p m h)

links-agree : (f g : List ℕ) (p n : ℕ) → ((q : ℕ) → p ≤ q → get_or f q 0 ≡ get_or g q 0) → links_from f p n ≡ links_from g p n
unfolding links_from
links-agree f g p zero h = refl
links-agree f g p (suc n) h =
    ap₂ ◌∷◌ (λ k. record { peer = h p (omega arith) k; digest = number-agree f g (p + 1) 32 (λ q l u. h q (omega arith)) k }) (links-agree f g (p + 33) n (λ q l. h q (omega arith)))

-- ---- what each kind leaves unread

-- "a flag is no only at 0, and yes is written 1; further mark bits, and `stats_since` after flag 0, are written 0 and unread"
unfoldable pub normal : Kind → List ℕ → List ℕ
normal kind.Start f = set f 20 (bit 1 (flag_in f 20))
normal kind.Round f = f
normal kind.Name f = f
normal kind.Resolve f = set f 38 (get_or f 38 0 % 8)
normal kind.Certify f = f
normal kind.Commit f = f
normal kind.Remove f = elim (flag_in f 4) [ true ↦ set f 4 1 | false ↦ take 4 f ++ replicate 5 0 ]
normal kind.Drop f = f
normal kind.Gap f = f
normal kind.Reset f = f
normal kind.Outlook f = f
normal kind.Broken f = f

flag_said : (b : Bool) → not (eqb (bit 1 b) 0) ≡ b
flag_said true = refl
flag_said false = refl

start_unread : (f : List ℕ) → length f ≡ 22 → start_in (normal kind.Start f) ≡ start_in f
unfolding start_in normal
start_unread f l =
    let x : ℕ = bit 1 (flag_in f 20) in
    let a : (q : ℕ) → q ≢ 20 → get_or (set f 20 x) q 0 ≡ get_or f q 0 = λ q n. get_or-set_other f 20 q x 0 n in
    let num : (p : ℕ) → p + 4 ≤ 20 → number_at (set f 20 x) p 4 ≡ number_at f p 4 = λ p m. number-agree (set f 20 x) f p 4 (λ q i j. a q (λ e. omega arith)) in
    let s : not (eqb (get_or (set f 20 x) 20 0) 0) ≡ flag_in f 20 = ap (λ (y : ℕ). not (eqb y 0)) (get_or-set_same f 20 x 0 (omega arith)) ∙ flag_said (flag_in f 20) in
    λ k. record {
      conf = record { genesis = num 0 (omega arith) k; history_rounds = num 4 (omega arith) k; deduplicate_rounds = num 8 (omega arith) k };
      bottom = num 12 (omega arith) k;
      peers = num 16 (omega arith) k;
      after_gap = s k;
      used = used_in (a 21 (λ e. omega arith) k);
    }

resolve_unread : (f : List ℕ) → 90 ≤ length f → (id_at (normal kind.Resolve f) 0 ≡ id_at f 0) × (resolution_in (normal kind.Resolve f) ≡ resolution_in f) × (links_in (normal kind.Resolve f) ≡ links_in f)
unfolding id_at resolution_in normal links_in
resolve_unread f l =
    let x : ℕ = get_or f 38 0 % 8 in
    let g : List ℕ = set f 38 x in
    let a : (q : ℕ) → q ≢ 38 → get_or g q 0 ≡ get_or f q 0 = λ q n. get_or-set_other f 38 q x 0 n in
    let low : (p m : ℕ) → p + m ≤ 38 → number_at g p m ≡ number_at f p m = λ p m u. number-agree g f p m (λ q i j. a q (λ e. omega arith)) in
    let high : (p m : ℕ) → 39 ≤ p → number_at g p m ≡ number_at f p m = λ p m u. number-agree g f p m (λ q i j. a q (λ e. omega arith)) in
    let s : get_or g 38 0 ≡ x = get_or-set_same f 38 x 0 (omega arith) in
    let i : get_or g 80 0 ≡ get_or f 80 0 = a 80 (λ e. omega arith) in
    let w : get_or g 81 0 ≡ get_or f 81 0 = a 81 (λ e. omega arith) in
    let at : 82 + 33 * (get_or g 80 0 + get_or g 81 0) ≡ 82 + 33 * (get_or f 80 0 + get_or f 81 0) = ap₂ (λ (y z : ℕ). 82 + 33 * (y + z)) i w in (
      λ k. record { round = low 0 4 (omega arith) k; author = a 4 (λ e. omega arith) k; digest = low 5 32 (omega arith) k },
      λ k. record {
        status = a 37 (λ e. omega arith) k;
        proof = (ap (λ (y : ℕ). eqb (y % 2) 1) s ∙ ap (λ (y : ℕ). eqb y 1) (bit_0 (get_or f 38 0))) k;
        trigger = (ap (λ (y : ℕ). eqb (y / 2 % 2) 1) s ∙ ap (λ (y : ℕ). eqb y 1) (bit_1 (get_or f 38 0))) k;
        cause = (ap (λ (y : ℕ). eqb (y / 4 % 2) 1) s ∙ ap (λ (y : ℕ). eqb y 1) (bit_2 (get_or f 38 0))) k;
        top_proof = record { round = high 39 4 (omega arith) k; author = a 43 (λ e. omega arith) k; digest = high 44 32 (omega arith) k };
        evidence = high 76 4 (omega arith) k;
        includes = (ap (links_from g 82) i ∙ links-agree g f 82 (get_or f 80 0) (λ q u. a q (λ e. omega arith))) k;
        witness = (ap₂ (λ (y z : ℕ). links_from g (82 + y * 33) z) i w ∙ links-agree g f (82 + get_or f 80 0 * 33) (get_or f 81 0) (λ q u. a q (λ e. omega arith))) k;
        payload_len = (ap (λ (p : ℕ). number_at g p 4) at ∙ high (82 + 33 * (get_or f 80 0 + get_or f 81 0)) 4 (omega arith)) k;
        payload_bytes = (ap (λ (p : ℕ). number_at g (p + 4) 4) at ∙ high (82 + 33 * (get_or f 80 0 + get_or f 81 0) + 4) 4 (omega arith)) k;
      },
      ap₂ ◌+◌ i w,
    )
  where
    bit_0 : (y : ℕ) → y % 8 % 2 ≡ y % 2
    bit_0 y = omega arith

    bit_1 : (y : ℕ) → y % 8 / 2 % 2 ≡ y / 2 % 2
    bit_1 y = omega arith

    bit_2 : (y : ℕ) → y % 8 / 4 % 2 ≡ y / 4 % 2
    bit_2 y = omega arith

-- of a remove without `stats_since` five zero bytes stand after the round
abbrev zeros : ℕ → List ℕ
zeros n = replicate n 0

zeros-length : (n : ℕ) → length (zeros n) ≡ n
zeros-length n = length-replicate {A = ℕ} n 0

zero_tail : (n j : ℕ) → ◌≡◌ {A = ℕ} (get_or (zeros n) j 0) 0
zero_tail n j = le_or n j (λ l. get_or-eq_default (zeros n) 0 {n = j} (omega (arith, zeros-length n))) (λ l. get_or-replicate {A = ℕ} n j 0 0 l)

module _ (f : List ℕ) (l : length f ≡ 9) where
  tail_front : (q : ℕ) → q < 4 → get_or (take 4 f ++ zeros 5) q 0 ≡ get_or f q 0
  tail_front q u = get_or-append (take 4 f) (zeros 5) 0 q (omega (arith, length-take 4 f)) ∙ get_or-take 4 f q 0 u

  tail_zero : (q : ℕ) → 4 ≤ q → get_or (take 4 f ++ zeros 5) q 0 ≡ 0
  tail_zero q u =
      let e : q ≡ length (take 4 f) + (q - 4) = omega (arith, length-take 4 f) in
      ap (λ (i : ℕ). get_or (take 4 f ++ zeros 5) i 0) e ∙ (get_or-append-add (take 4 f) (zeros 5) (q - 4) 0 ∙ zero_tail 5 (q - 4))

  tail_length : length (take 4 f ++ zeros 5) ≡ 9
  tail_length = length-append (take 4 f) (zeros 5) ∙ (omega (arith, length-take 4 f, zeros-length 5))

zero_number : (f : List ℕ) (p : ℕ) → ((q : ℕ) → p ≤ q → get_or f q 0 ≡ 0) → number_at f p 4 ≡ 0
unfolding number_at words value number
zero_number f p h = rw (h p (omega arith), h (p + 1) (omega arith), h (p + 1 + 1) (omega arith), h (p + 1 + 1 + 1) (omega arith)) refl

-- all of it at once
pub record Unread (k : Kind) (f room : List ℕ) : Type 0 where
  pub call_same : call_by k (normal k f) room ≡ call_by k f room
  pub fits_same : fits k (normal k f) ≡ true
  pub is_normal : Normal k (normal k f)
  pub bytes : AllBytes (normal k f)
  pub length_same : length (normal k f) ≡ length f

set-bytes : (f : List ℕ) (i x : ℕ) → x < 256 → AllBytes f → AllBytes (set f i x)
set-bytes f i x l h p =
    same_or p i
    (λ e. le_or (length f) i (λ u. rw (set_out f i x u) (h p)) (λ u. rw (e, get_or-set_same f i x 0 u) l))
    (λ n. rw (get_or-set_other f i p x 0 n) (h p))

bit_byte : (b : Bool) → (bit 1 b < 256) × (bit 1 b ≤ 1)
bit_byte true = (omega arith, omega arith)
bit_byte false = (omega arith, omega arith)

unread_same : (k : Kind) (f room : List ℕ) → normal k f ≡ f → fits k f ≡ true → Normal k f → AllBytes f → Unread k f room
unread_same k f room e l n h = record {
  call_same = ap (λ (g : List ℕ). call_by k g room) e;
  fits_same = ap (fits k) e ∙ l;
  is_normal = subst (Normal k) (sym e) n;
  bytes = subst AllBytes (sym e) h;
  length_same = ap length e;
}

remove_unread : (f room : List ℕ) → length f ≡ 9 → AllBytes f → (b : Bool) → flag_in f 4 ≡ b → Unread kind.Remove f room
unfolding call_by since_in normal fits size_of Normal
remove_unread f room l h true e =
    let g : List ℕ = set f 4 1 in
    let j : normal kind.Remove f ≡ set f 4 1 = ap (λ (b : Bool). elim b [ true ↦ set f 4 1 | false ↦ take 4 f ++ zeros 5 ]) e in
    let a : (q : ℕ) → q ≢ 4 → get_or g q 0 ≡ get_or f q 0 = λ q n. get_or-set_other f 4 q 1 0 n in
    let s : get_or g 4 0 ≡ 1 = get_or-set_same f 4 1 0 (omega arith) in
    let r : number_at g 0 4 ≡ number_at f 0 4 = number-agree g f 0 4 (λ q i u. a q (λ c. omega arith)) in
    let t : number_at g 5 4 ≡ number_at f 5 4 = number-agree g f 5 4 (λ q i u. a q (λ c. omega arith)) in
    let o : flag_in g 4 ≡ true = ap (λ (y : ℕ). not (eqb y 0)) s in
    let z : cond (flag_in g 4) (some (number_at g 5 4)) none ≡ cond (flag_in f 4) (some (number_at f 5 4)) none = ap₂ (λ (b : Bool) (y : ℕ). cond b (some y) none) (o ∙ sym e) t in
    record {
      call_same = ap (λ (x : List ℕ). call_by kind.Remove x room) j ∙ ap₂ (λ (x : ℕ) (y : Option ℕ). remove x y room) r z;
      fits_same = ap (fits kind.Remove) j ∙ eq-eqb _ 9 (length-set f 4 1 ∙ l);
      is_normal = subst (Normal kind.Remove) (sym j) (omega (arith, s), λ c. absurd (omega (arith, s)));
      bytes = subst AllBytes (sym j) (set-bytes f 4 1 (omega arith) h);
      length_same = ap length j ∙ length-set f 4 1;
    }
remove_unread f room l h false e =
    let g : List ℕ = take 4 f ++ zeros 5 in
    let j : normal kind.Remove f ≡ g = ap (λ (b : Bool). elim b [ true ↦ set f 4 1 | false ↦ take 4 f ++ zeros 5 ]) e in
    let s : get_or g 4 0 ≡ 0 = tail_zero f l 4 (omega arith) in
    let r : number_at g 0 4 ≡ number_at f 0 4 = number-agree g f 0 4 (λ q i u. tail_front f l q (omega arith)) in
    let o : flag_in g 4 ≡ false = ap (λ (y : ℕ). not (eqb y 0)) s in
    let z : cond (flag_in g 4) (some (number_at g 5 4)) none ≡ cond (flag_in f 4) (some (number_at f 5 4)) none = cond_no _ _ none o refl ∙ sym (cond_no _ _ none e refl) in
    record {
      call_same = ap (λ (x : List ℕ). call_by kind.Remove x room) j ∙ ap₂ (λ (x : ℕ) (y : Option ℕ). remove x y room) r z;
      fits_same = ap (fits kind.Remove) j ∙ eq-eqb _ 9 (tail_length f l);
      is_normal = subst (Normal kind.Remove) (sym j) (omega (arith, s), λ _. zero_number g 5 (λ q u. tail_zero f l q (omega arith)));
      bytes = subst AllBytes (sym j) (λ q. le_or 4 q (λ u. rw (tail_zero f l q u) (omega arith)) (λ u. rw (tail_front f l q u) (h q)));
      length_same = ap length j ∙ (tail_length f l ∙ sym l);
    }

pub unread : (k : Kind) (f room : List ℕ) → fits k f ≡ true → AllBytes f → Unread k f room
unfolding call_by normal fits size_of Normal
unread kind.Start f room l h =
    let n = fits-length kind.Start f l in
    let x : ℕ = bit 1 (flag_in f 20) in
    record {
      call_same = ap start (start_unread f n);
      fits_same = eq-eqb _ 22 (length-set f 20 x ∙ n);
      is_normal = subst (λ (y : ℕ). y ≤ 1) (sym (get_or-set_same f 20 x 0 (omega (arith, n)))) (bit_byte (flag_in f 20)).1;
      bytes = set-bytes f 20 x (bit_byte (flag_in f 20)).0 h;
      length_same = length-set f 20 x;
    }
unread kind.Round f room l h = unread_same kind.Round f room refl l tt h
unread kind.Name f room l h = unread_same kind.Name f room refl l tt h
unread kind.Resolve f room l h =
    let n = fits-length kind.Resolve f l in
    let x : ℕ = get_or f 38 0 % 8 in
    let (a, b, c) = resolve_unread f (omega (arith, n)) in
    record {
      call_same = ap₂ resolve a b;
      fits_same = eq-eqb _ _ (length-set f 38 x ∙ (n ∙ ap (λ (m : ℕ). 90 + 33 * m) (sym c)));
      is_normal = subst (λ (y : ℕ). y < 8) (sym (get_or-set_same f 38 x 0 (omega (arith, n)))) (omega arith);
      bytes = set-bytes f 38 x (omega arith) h;
      length_same = length-set f 38 x;
    }
unread kind.Certify f room l h = unread_same kind.Certify f room refl l tt h
unread kind.Commit f room l h = unread_same kind.Commit f room refl l tt h
unread kind.Remove f room l h = remove_unread f room (fits-length kind.Remove f l) h (flag_in f 4) refl
unread kind.Drop f room l h = unread_same kind.Drop f room refl l tt h
unread kind.Gap f room l h = unread_same kind.Gap f room refl l tt h
unread kind.Reset f room l h = unread_same kind.Reset f room refl l tt h
unread kind.Outlook f room l h = unread_same kind.Outlook f room refl l tt h
unread kind.Broken f room l h = unread_same kind.Broken f room refl l tt h

-- whatever record was read, its call is written, and as the same bytes but for what is unread
pub writes_normal : (room bs : List ℕ) (p : ℕ) (x : Found) → AllBytes bs → read_at room bs p ≡ good x
    → record_of x.what ≡ good (record_bytes (get_or bs (p + 5) 0) (normal (kind_of (get_or bs (p + 5) 0)) (fields_at bs p)))
unfolding record_of fields_fit
writes_normal room bs p x h e =
    let o = read_of room bs p x e in
    let (u, m, t) = whole_elim bs p o.whole in
    let k : ℕ = get_or bs (p + 5) 0 in
    let f : List ℕ = fields_at bs p in
    let g : List ℕ = normal (kind_of k) f in
    let c : Call = call_by (kind_of k) g room in
    let y = unread (kind_of k) f room o.fit (bytes-part bs (p + 6) (p + 4 + rest_at bs p) h) in
    let w = write_back k g room o.kind_known y.fits_same y.bytes y.is_normal in
    let s : 2 + length f ≤ 4096 = omega (arith, m, length-take (p + 4 + rest_at bs p - (p + 6)) (drop (p + 6) bs)) in
    let l : 2 + length (fields_in c) ≤ 4096 = subst (λ (z : List ℕ). 2 + length z ≤ 4096) (sym w.same) (subst (λ (n : ℕ). 2 + n ≤ 4096) (sym y.length_same) s) in
    ap record_of (o.what ∙ sym y.call_same)
    ∙ (refuse_back _ 26 _ (not_yes (both w.can (both w.fields_fit (le-leb _ 4096 l)))) ∙ ap good (ap₂ record_bytes w.kind_same w.same))
