-- An input played in parts: what is read of it is played as if it stood in one place (02: N5).
use Rattle.std.specs.Prelude.{◌≡◌, ℕ, suc, ◌+◌, ◌-◌, ◌%◌, ◌^◌, ◌<◌, ◌≤◌, Bool, true, false, not, ◌&&◌, List, [], ◌∷◌, ◌++◌, length, take, drop, ◌==◌, ◌≢◌, slice_index, slice_range, slice_set, refl}
use Rattle.std.proofs.Common.{sym, ap, ap₂, subst, ◌∙◌, append_assoc, append-nil, arith, add-one, length-append, length-take, length-drop, take-append-drop, length-take-le, drop_at, drop-drop, drop-set-lt, get_or-drop, take-suc, take-suc-set, take-take, take-add, zero-add, eqb-true, eq-eqb, ne_eqb}
use Rattle.std.proofs.Math.Seq.{drop-append-add}
use borrow.Rule.Slice.PartMut.{mid_of, put_mid, same_len_mid, take_put}
use Rattle.laws.specs.Test.{by_test, clash, and_l, and_r}
use Rattle.commit_state.specs.declared.state.State.{State}
use Rattle.commit_answer.specs.Answer.{Tables, tables}
use Rattle.trace.specs.Head.{code_at, least_left}
use Rattle.trace.specs.Within.{code_behind}
use Rattle.play_calls.specs.Room.{zeros}
use Rattle.play.specs.Runs.{Runs, none_yet, runs_on, Ends}

-- n bytes are held in d, those of b that were held before as they were: h of them
abbrev pub Refilled : List ℕ → ℕ → ℕ → List ℕ → Type 0
Refilled b h n d = (h ≤ n) × (n ≤ length d) × (take h d ≡ take h b)

-- With the bytes h held and so many before them, `from`, more of the input was read, into a buffer of so many bytes, `size`, and played. b, c: the
-- tables before and after; base: the offset in the input of the first byte that was not played, in 64 bits; code: the number that the record there is
-- refused with, 0 for none; more: whether bytes are left to be read or played; rest: what is held then.
-- read: what was read. last: whether the input ended with it; then the buffer, from the byte `first` on, wasn't full. runs: the records of all of it, up to
-- `at`, were played. refused: before the input's end as many bytes are there as a record may have. ended: if it doesn't go on and no record is refused,
-- the input has ended, and all of it is played.
pub record Fed (w : Bool) (room : List ℕ) (size : ℕ) (h : List ℕ) (from : ℕ) (b c : Tables) (base code : ℕ) (more : Bool) (rest : List ℕ) : Type 0 where
  pub read : List ℕ
  pub first : ℕ
  pub last : Bool
  pub said : List ℕ
  pub at : ℕ
  pub runs : Runs w room (h ++ read) b at said c
  pub inside : at ≤ length (h ++ read)
  pub kept : rest ≡ drop at (h ++ read)
  pub offset : base ≡ (from + at) % 2 ^ 64
  pub short : last ≡ true → (first ≤ at) × (length (h ++ read) - first < size)
  pub refused : (code ≢ 0) → (least_left last ≤ length (h ++ read) - at) × (code ≡ code_at w (h ++ read) at)
  pub ended : more ≡ false → code ≡ 0 → (last ≡ true) × (at ≡ length (h ++ read))

-- ---- laws

-- what is read stands behind what is held
pub refilled : (b ys : List ℕ) (h r : ℕ) → h ≤ length b → r ≤ length ys → length ys ≡ length (mid_of h (length b - h) b) → Refilled b h (h + r) (put_mid h (length b - h) b ys)
refilled b ys h r l k e = (omega arith, omega (arith, same_len_mid h (length b - h) b ys e, length-take (length b - h) (drop h b), length-drop h b), take_put h (length b - h) b ys l)

-- the first i bytes of d are those of b from `from` on, and the others are b's
abbrev pub Moving : List ℕ → ℕ → ℕ → List ℕ → Type 0
Moving b from i d = (take i d ≡ take i (drop from b)) × (drop i d ≡ drop i b)

pub moving_more : (b d : List ℕ) (from i n : ℕ) → length d ≡ length b → Moving b from i d → i < n - from → n ≤ length b → Moving b from (i + 1) (slice_set d i (slice_index d (from + i)))
moving_more b d from i n l (e, f) k m = (firsts, ap (λ (j : ℕ). drop j (slice_set d i v)) (add-one i) ∙ (drop-set-lt (suc i) d i v (omega arith) ∙ (ap (λ (j : ℕ). drop j d) (sym (add-one i)) ∙ (sym (drop-drop 1 i d) ∙ (ap (drop 1) f ∙ drop-drop 1 i b)))))
  where
    v : ℕ
    v = slice_index d (from + i)

    same : v ≡ slice_index (drop from b) i
    same =
        ap (λ (j : ℕ). slice_index d j) (swap from i) ∙ (sym (get_or-drop i d from 0) ∙ (ap (λ (x : List ℕ). slice_index x from) f ∙ (get_or-drop i b from 0 ∙ (ap (λ (j : ℕ). slice_index b j) (swap i from) ∙ sym (get_or-drop from b i 0)))))
      where
        swap : (a c : ℕ) → a + c ≡ c + a
        swap a c = omega arith

    firsts : take (i + 1) (slice_set d i v) ≡ take (i + 1) (drop from b)
    firsts =
        ap (λ (j : ℕ). take j (slice_set d i v)) (add-one i)
        ∙ (take-suc-set d i v (omega arith)
        ∙ (ap₂ (λ (x : List ℕ) (y : ℕ). x ++ (y ∷ [])) e same
        ∙ (sym (take-suc (drop from b) i 0 (omega (arith, length-drop from b))) ∙ ap (λ (j : ℕ). take j (drop from b)) (sym (add-one i)))))

pub moving_end : (b d : List ℕ) (from i n : ℕ) → Moving b from i d → i ≤ n - from → n - from ≤ i → take (n - from) d ≡ slice_range b from n
moving_end b d from i n (e, f) k m =
    let z : n - from ≡ i = omega arith in
    ap (λ (j : ℕ). take j d) z ∙ (e ∙ ap (λ (j : ℕ). take j (drop from b)) (sym z))

-- whether it goes on, by the ways out of the code
module _ (code left : ℕ) (last : Bool) where
  pub on_refused : (code ≢ 0) → false ≡ (code == 0 && not (last && left == 0))
  on_refused n = rw (ne_eqb code 0 n) refl

  pub on_last : code ≡ 0 → last ≡ true → not (left == 0) ≡ (code == 0 && not (last && left == 0))
  on_last z t = rw (z, t) refl

  pub on_more : code ≡ 0 → last ≡ false → true ≡ (code == 0 && not (last && left == 0))
  on_more z f = rw (z, f) refl

-- nothing yet
pub fed_none : (w : Bool) (room : List ℕ) (size : ℕ) (s t : State) (ks ls cs os rest : List ℕ) → t ≡ s → rest ≡ [] → Fed w room size [] 0 (tables s ks ls cs os) (tables t ks ls cs os) 0 0 true rest
fed_none w room size s t ks ls cs os rest g e = record {
  read = [];
  first = 0;
  last = false;
  said = [];
  at = 0;
  runs = subst (λ (u : State). Runs w room [] (tables s ks ls cs os) 0 [] (tables u ks ls cs os)) (sym g) none_yet;
  inside = omega arith;
  kept = e;
  offset = refl;
  short = λ t. absurd (clash t refl);
  refused = λ n. absurd (n refl);
  ended = λ f. absurd (clash refl f);
}

-- a part of what is held
part_is : (n a : ℕ) (d : List ℕ) → a ≤ n → a ≤ length d → slice_range d a n ≡ drop a (take n d)
part_is n a d l k =
    sym (drop_at (take a d) (slice_range d a n) a (length-take-le a d k))
    ∙ ap (drop a) (sym (take-add a (n - a) d) ∙ ap (λ (i : ℕ). take i d) (back n a l))
  where
    back : (n a : ℕ) → a ≤ n → a + (n - a) ≡ n
    back n a l = omega arith

-- it doesn't go on, and no record is refused: the input has ended, and nothing is left
last_left : (l code : ℕ) (last more : Bool) → more ≡ false → code ≡ 0 → more ≡ (code == 0 && not (last && l == 0)) → (last ≡ true) × (l ≡ 0)
last_left l code last more y q m = (and_l last (l == 0) both_are, eqb-true l 0 (and_r last (l == 0) both_are))
  where
    both_are : (last && l == 0) ≡ true
    both_are = by_test (last && l == 0) (λ t. t) (λ f. absurd (clash (m ∙ ap₂ (λ (u v : Bool). u && not v) (eq-eqb code 0 q) f) y))

-- the part that is in the buffer
module _ (w : Bool) (room b d : List ℕ) (h n : ℕ) (g : Refilled b h n d) where
  -- what was read
  abbrev got : List ℕ
  got = drop h (take n d)

  whole : take h b ++ got ≡ take n d
  whole = ap (λ (l : List ℕ). l ++ got) (sym g.2 ∙ sym (take-take h n d g.0)) ∙ take-append-drop h (take n d)

  pub fed_part : (from at base code size : ℕ) (more last : Bool) (c e : Tables) (t rest : List ℕ) (room2 most : ℕ) → Runs w room (take n d) c at t e → Ends w (take n d) last room2 most at code → (last ≡ true → n < size)
      → base ≡ (from + at) % 2 ^ 64 → more ≡ (code == 0 && not (last && n - at == 0)) → rest ≡ slice_range d at n → Fed w room size (take h b) from c e base code more rest
  fed_part from at base code size more last c e t rest room2 most r (i, j, k) s f m z = record {
    read = got;
    first = 0;
    last = last;
    said = t;
    at = at;
    runs = subst (λ (l : List ℕ). Runs w room l c at t e) (sym whole) r;
    inside = subst (λ (l : List ℕ). at ≤ length l) (sym whole) i;
    kept = z ∙ (part_is n at d (omega (arith, i, length-take n d)) (omega (arith, i, length-take n d)) ∙ ap (drop at) (sym whole));
    offset = f;
    short = λ y. (omega arith, omega (arith, s y, ap length whole, length-take n d));
    refused = λ y. subst (λ (l : List ℕ). (least_left last ≤ length l - at) × (code ≡ code_at w l at)) (sym whole) (k y);
    ended = λ y q. let (u, v) = last_left (n - at) code last more y q m in (u, all at n (length (take n d)) (length-take-le n d g.1) i v ∙ ap length (sym whole));
  }
    where
      all : (a n l : ℕ) → l ≡ n → a ≤ l → n - a ≡ 0 → a ≡ l
      all a n l e k z = omega arith

-- one part after another
module _ (w : Bool) (h i m n : ℕ) (e : i ≡ h) (g : n ≡ m) (b c d : Tables) (base base2 code code2 : ℕ) (more more2 : Bool) (rest rest2 : List ℕ) where
  pub fed_more : Fed w (zeros h) m [] 0 b c base code more rest → Fed w (zeros i) n rest base c d base2 code2 more2 rest2 → Fed w (zeros h) m [] 0 b d base2 code2 more2 rest2
  fed_more x y0 = record {
    read = x.read ++ y.read;
    first = x.at + y.first;
    last = y.last;
    said = x.said ++ y.said;
    at = x.at + y.at;
    runs = subst (λ (l : List ℕ). Runs w (zeros h) l b (x.at + y.at) (x.said ++ y.said) d) (sym joined) (subst (λ (k : ℕ). Runs w (zeros h) (zs ++ xs) b (k + y.at) (x.said ++ y.said) d) size goes);
    inside = subst (λ (l : List ℕ). x.at + y.at ≤ length l) (sym joined) (omega (arith, length-append zs xs, size, y.inside));
    kept = y.kept ∙ (sym (drop-append-add zs xs y.at) ∙ (ap (λ (k : ℕ). drop (k + y.at) (zs ++ xs)) size ∙ ap (drop (x.at + y.at)) (sym joined)));
    offset = y.offset ∙ wraps x.at y.at base x.offset;
    short = λ t. let (k, l) = y.short t in (omega arith, omega (arith, l, length-append zs xs, size, ap length joined));
    refused = λ z. subst (λ (l : List ℕ). (least_left y.last ≤ length l - (x.at + y.at)) × (code2 ≡ code_at w l (x.at + y.at))) (sym joined)
        (behind _ _ _ _ _ (y.refused z).0 (length-append zs xs ∙ ap (λ (k : ℕ). k + length xs) size), (y.refused z).1 ∙ (sym (code_behind zs xs y.at w) ∙ ap (λ (k : ℕ). code_at w (zs ++ xs) (k + y.at)) size));
    ended = λ f z. let (u, v) = y.ended f z in (u, omega (arith, v, length-append zs xs, size, ap length joined));
  }
    where
      y : Fed w (zeros h) m rest base c d base2 code2 more2 rest2
      y = subst (λ (j : ℕ). Fed w (zeros h) j rest base c d base2 code2 more2 rest2) g (subst (λ (j : ℕ). Fed w (zeros j) n rest base c d base2 code2 more2 rest2) e y0)

      zs : List ℕ
      zs = take x.at x.read

      xs : List ℕ
      xs = rest ++ y.read

      size : length zs ≡ x.at
      size = length-take-le x.at x.read x.inside

      joined : x.read ++ y.read ≡ zs ++ xs
      joined = ap (λ (l : List ℕ). l ++ y.read) (sym (take-append-drop x.at x.read)) ∙ (append_assoc zs (drop x.at x.read) y.read ∙ ap (λ (l : List ℕ). zs ++ (l ++ y.read)) (sym x.kept))

      grown : Runs w (zeros h) (x.read ++ y.read) b x.at x.said c
      grown = subst (λ (k : ℕ). Runs w (zeros h) (x.read ++ y.read) b k x.said c) (zero-add x.at) (runs_on w (zeros h) [] x.read y.read b b c x.at [] x.said x.runs none_yet)

      goes : Runs w (zeros h) (zs ++ xs) b (length zs + y.at) (x.said ++ y.said) d
      goes =
          subst (λ (l : List ℕ). Runs w (zeros h) (zs ++ l) b (length zs + y.at) (x.said ++ y.said) d) (append-nil xs)
          (runs_on w (zeros h) zs xs [] b c d y.at x.said y.said y.runs
          (subst (λ (l : List ℕ). Runs w (zeros h) (zs ++ l) b (length zs) x.said c) (sym (append-nil xs))
          (subst (λ (k : ℕ). Runs w (zeros h) (zs ++ xs) b k x.said c) (sym size) (subst (λ (l : List ℕ). Runs w (zeros h) l b x.at x.said c) joined grown))))

      behind : (k l a b n : ℕ) → k ≤ l - a → n ≡ b + l → k ≤ n - (b + a)
      behind k l a b n u v = omega arith

      wraps : (i j k : ℕ) → k ≡ (0 + i) % 2 ^ 64 → (k + j) % 2 ^ 64 ≡ (0 + (i + j)) % 2 ^ 64
      wraps i j k e = omega arith
