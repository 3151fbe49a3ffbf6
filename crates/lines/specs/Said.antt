-- One law for each way out of the code.
use Prim.Native.Nat.{ℕ, zero, suc, ◌+◌, ◌-◌, ◌*◌, ◌≤◌, ◌<◌}
use Rattle.std.specs.Prelude.{◌≡◌, Bool, true, false, length, get_or, take, drop}
use Rattle.std.proofs.Math.Path.{refl, subst}
use Rattle.std.proofs.Common.{sym, ap, ◌∙◌, add-one, zero-add, drop-cons, ne_eqb}
use mathlib.Core.List.{List, [], ◌∷◌, ◌++◌, append-nil}
use native.Mathlib.Omega.{arith}
use Rattle.laws.specs.Lists.{joined}
use Rattle.laws.specs.Test.{same_or}
use Rattle.laws.specs.Bytes.{value, number}
use Rattle.spec.specs.Store.{Store}
use Rattle.spec.specs.Rules.{counts_as_started}
use Rattle.spec.specs.Calls as calls
use Rattle.spec.specs.Calls.{number_of}
use Rattle.spec.specs.Demand.{finished}
use Rattle.models.specs.Digest.{words}
use Rattle.models.specs.Refusal.{refusal_of}
use Rattle.models.specs.declared.refusal.Refusal.{Refusal}
use Rattle.commit_state.specs.declared.state.State.{State}
use Rattle.tables_test.specs.View.{view}
use Rattle.commit_answer.specs.Answer.{answer_of}
use Rattle.commit_answer.specs.declared.answer.Answer.{Answer}
use Rattle.commit_answer.specs.declared.answer.Answer.TheVariants as answer
use Rattle.trace.specs.Numbers.{number_at}
use Rattle.lines.specs.Lines.{anchor_line, refused_line, rounds_line, refusal_lines, last_line, end_lines, named, anchor_word, refused_word, rounds_word, space, newline, line_text, text, text-append, field, points_at, record_length, next_at, line_at, lines_at, said_anchors, said_text, said_lines, HoldsFrom, Holds}
use Rattle.lines.specs.Put.{Put, put-none, put_then}

-- ---- a line from its parts

module _ (b b₁ b₂ b₃ : List ℕ) (at e f r : ℕ) where
  pub refused-put : (n : ℕ) → Put b at (named refused_word n) e b₁ → Put b₁ e newline r b₂ → Put b at (line_text (refused_line n)) r b₂
  unfolding line_text
  refused-put n x y = put_then b at _ _ e r b₁ b₂ x y

  pub rounds-put : (bottom top : ℕ) → Put b at (named rounds_word bottom) e b₁ → Put b₁ e (named space top) f b₂ → Put b₂ f newline r b₃ → Put b at (line_text (rounds_line bottom top)) r b₃
  unfolding line_text
  rounds-put bottom top x y z = put_then b at _ _ e r b₁ b₃ x (put_then b₁ e _ _ f r b₂ b₃ y z)

  pub anchor-put : (round author points g : ℕ) (b₄ : List ℕ) → Put b at (named anchor_word round) e b₁ → Put b₁ e (named space author) f b₂ → Put b₂ f (named space points) g b₃ → Put b₃ g newline r b₄
      → Put b at (line_text (anchor_line round author points)) r b₄
  unfolding line_text
  anchor-put round author points g b₄ x y z w = put_then b at _ _ e r b₁ b₄ x (put_then b₁ e _ _ f r b₂ b₄ y (put_then b₂ f _ _ g r b₃ b₄ z w))

-- ---- the anchors of an answer, by cases

module _ (a : Answer) where
  pub anchors-done : a ≡ answer.Done → 0 ≡ finished (answer_of a)
  unfolding finished answer_of
  anchors-done e = rw e refl

  pub anchors_said : (y : Bool) → a ≡ answer.Flag y → 0 ≡ finished (answer_of a)
  unfolding finished answer_of
  anchors_said y e = rw e refl

  pub anchors-handed : (n : ℕ) → a ≡ answer.Anchors n → n ≡ finished (answer_of a)
  unfolding finished answer_of
  anchors-handed n e = rw e refl

  pub anchors-refused : (w : Refusal) (n : ℕ) → a ≡ answer.Refused w n → n ≡ finished (answer_of a)
  unfolding finished answer_of
  anchors-refused w n e = rw e refl

module _ (k n : ℕ) (a : calls.Answer) where
  pub records_commit : k ≡ 6 → n ≡ finished a → n ≡ said_anchors k a
  unfolding said_anchors
  records_commit e h = rw e h

  pub records_none : (k ≡ 6 → ⊥) → 0 ≡ said_anchors k a
  unfolding said_anchors
  records_none d = rw (ne_eqb k 6 d) refl

-- ---- the refusal of an answer

module _ (a : Answer) (b : List ℕ) (at : ℕ) where
  abbrev Refuses : ℕ → List ℕ → Type 0
  Refuses r b' = Put b at (text (refusal_lines (answer_of a))) r b' × (r ≤ at + 19)

  pub refusal-done : a ≡ answer.Done → Refuses at b
  unfolding text joined refusal_lines answer_of
  refusal-done e = rw e (put-none b at, omega arith)

  pub refusal_said : (y : Bool) → a ≡ answer.Flag y → Refuses at b
  unfolding text joined refusal_lines answer_of
  refusal_said y e = rw e (put-none b at, omega arith)

  pub refusal-handed : (n : ℕ) → a ≡ answer.Anchors n → Refuses at b
  unfolding text joined refusal_lines answer_of
  refusal-handed n e = rw e (put-none b at, omega arith)

  pub refusal-refused : (w : Refusal) (m n r : ℕ) (b' : List ℕ) → a ≡ answer.Refused w m → n ≡ number_of (refusal_of w) → Put b at (line_text (refused_line n)) r b' × (r ≤ at + 19) → Refuses r b'
  unfolding text joined refusal_lines answer_of
  refusal-refused w m n r b' e h p = rw (e, ← h, append-nil (line_text (refused_line n))) p

-- ---- the records of a buffer

-- the code's numbers are those that are taken
words_are : (v : List ℕ) (p m : ℕ) → p + m ≤ length v → words v p m ≡ take m (drop p v)
unfolding words
words_are v p zero l = refl
words_are v p (suc m) l = ap (λ (x : List ℕ). get_or v p 0 ∷ x) (words_are v (p + 1) m (omega arith) ∙ ap (λ (n : ℕ). take m (drop n v)) (add-one p)) ∙ ap (take (suc m)) (sym (drop-cons v p 0 (omega arith)))

field-number : (v : List ℕ) (p m : ℕ) → p + m ≤ length v → number_at v p m ≡ field v p m
unfolding number_at
field-number v p m l = ap (value 0) (words_are v p m l)

field_byte : (v : List ℕ) (p : ℕ) → p < length v → get_or v p 0 ≡ field v p 1
unfolding value number words
field_byte v p l = sym (zero-add (get_or v p 0)) ∙ ap (value 0) (words_are v p 1 (omega arith))

-- the lines from a record on: `left` of them, of the records in v from `from` on, are to be put into b from `next` on, and all n will
-- have been put into b₀ from `at` on
pub record Putting (v : List ℕ) (n : ℕ) (b₀ : List ℕ) (at left from next : ℕ) (b : List ℕ) : Type 0 where
  pub holds : HoldsFrom left v from
  pub near : next ≤ at + from
  pub inside : from ≤ length v
  pub same : length b ≡ length b₀
  pub rest : (r : ℕ) (b' : List ℕ) → Put b next (text (lines_at left v from)) r b' → Put b₀ at (text (lines_at n v 0)) r b'

pub putting_start : (v : List ℕ) (n : ℕ) (b : List ℕ) (at : ℕ) → Holds n v → Putting v n b at n 0 at b
unfolding Holds
putting_start v n b at h = record { holds = h; near = omega arith; inside = omega arith; same = refl; rest = λ r b' p. p }

module _ (v : List ℕ) (n : ℕ) (b₀ : List ℕ) (at : ℕ) where
  pub putting_end : (left from next : ℕ) (b : List ℕ) → left ≤ 0 → Putting v n b₀ at left from next b → Put b₀ at (text (lines_at n v 0)) next b × (next ≤ at + length v)
  unfolding text joined lines_at
  putting_end zero from next b l i = (i.rest next b (put-none b next), omega (arith, i.near, i.inside))
  putting_end (suc left) from next b l i = absurd (omega arith)

  -- the record is there
  putting_there : (left from next : ℕ) (b : List ℕ) → 0 < left → Putting v n b₀ at left from next b → from + record_length (points_at v from) ≤ length v
  unfolding HoldsFrom next_at
  putting_there zero from next b l i = absurd (omega arith)
  putting_there (suc left) from next b l i = i.holds.0

  module _ (left from next : ℕ) (b : List ℕ) (l : 0 < left) (i : Putting v n b₀ at left from next b) where
    pub putting_head : from + 99 ≤ length v
    putting_head = omega (arith, putting_there left from next b l i)

    pub putting_room : at + length v ≤ length b₀ → next + 33 ≤ length b
    putting_room h = omega (arith, putting_there left from next b l i, i.near, i.same)

    pub putting_fits : (points : ℕ) → points ≡ number_at v (from + 79) 4 → from + 99 + points * 82 ≤ length v
    unfolding points_at
    putting_fits points e = let w = putting_there left from next b l i in let q : points ≡ field v (from + 79) 4 = e ∙ field-number v (from + 79) 4 (omega arith) in omega arith

  -- one line more
  pub putting_step : (left from next : ℕ) (b : List ℕ) → 0 < left → Putting v n b₀ at left from next b
      → (round author points : ℕ) → round ≡ number_at v from 4 → author ≡ get_or v (from + 4) 0 → points ≡ number_at v (from + 79) 4
      → (e : ℕ) (b₁ : List ℕ) → length b₁ ≡ length b → Put b next (line_text (anchor_line round author points)) e b₁ × (e ≤ next + 33) → Putting v n b₀ at (left - 1) (from + 99 + points * 82) e b₁
  unfolding HoldsFrom next_at text joined lines_at line_at points_at
  putting_step zero from next b l i round author points er ea ep e b₁ s (p, f) = absurd (omega arith)
  putting_step (suc left) from next b l i round author points er ea ep e b₁ s (p, f) = subst (λ k. Putting v n b₀ at k (from + 99 + points * 82) e b₁) one_less (record {
    holds = subst (HoldsFrom left v) goes i.holds.1;
    near = omega (arith, i.near, f);
    inside = putting_fits (suc left) from next b l i points ep;
    same = s ∙ i.same;
    rest = λ r b' q. i.rest r b' (put_then b next (line_text (line_at v from)) (text (lines_at left v (next_at v from))) e r b₁ b' line (subst (λ k. Put b₁ e (text (lines_at left v k)) r b') (sym goes) q));
  })
    where
      one_less : left ≡ suc left - 1
      one_less = omega arith

      head : from + 99 ≤ length v
      head = putting_head (suc left) from next b l i

      read : points ≡ field v (from + 79) 4
      read = ep ∙ field-number v (from + 79) 4 (omega arith)

      goes : from + record_length (field v (from + 79) 4) ≡ from + 99 + points * 82
      goes = omega (arith, read)

      line : Put b next (line_text (anchor_line (field v from 4) (field v (from + 4) 1) (field v (from + 79) 4))) e b₁
      line = subst (λ x. Put b next (line_text x) e b₁) same p
        where
          same : anchor_line round author points ≡ anchor_line (field v from 4) (field v (from + 4) 1) (field v (from + 79) 4)
          same = λ k. anchor_line ((er ∙ field-number v from 4 (omega arith)) k) ((ea ∙ field_byte v (from + 4) (omega arith)) k) (read k)

-- ---- a call

module _ (k n : ℕ) (a : calls.Answer) (v : List ℕ) (is : n ≡ said_anchors k a) where
  pub said_holds : (k ≡ 6 → Holds (finished a) v) → Holds n v
  unfolding said_anchors Holds HoldsFrom
  said_holds h = rw is (same_or k 6 (λ e. rw e (h e)) (λ d. rw (ne_eqb k 6 d) tt))

  pub said_put : (b b₁ b₂ : List ℕ) (at e r : ℕ) → Put b at (text (lines_at n v 0)) e b₁ → Put b₁ e (text (refusal_lines a)) r b₂ → Put b at (said_text k a v) r b₂
  unfolding said_text said_lines
  said_put b b₁ b₂ at e r x y = rw (text-append, ← is) (put_then b at (text (lines_at n v 0)) (text (refusal_lines a)) e r b₁ b₂ x y)

-- ---- the end

module _ (s : State) (ks ls cs os : List ℕ) (r : Bool) (is : r ≡ counts_as_started (view s ks ls cs os)) where
  pub rounds-started : r ≡ true → rounds_line s.bottom.0 s.top.0 ≡ last_line (view s ks ls cs os)
  unfolding last_line view
  rounds-started h = rw (← is, h) refl

  pub rounds-none : r ≡ false → rounds_line 0 0 ≡ last_line (view s ks ls cs os)
  unfolding last_line
  rounds-none h = rw (← is, h) refl

module _ (code : ℕ) (b : List ℕ) where
  pub code_none : code ≡ 0 → Put b 0 (text (end_lines code)) 0 b
  unfolding text joined end_lines
  code_none e = rw e (put-none b 0)

  pub code_put : (code ≡ 0 → ⊥) → (r : ℕ) (b' : List ℕ) → Put b 0 (line_text (refused_line code)) r b' → Put b 0 (text (end_lines code)) r b'
  unfolding text joined end_lines
  code_put d r b' p = rw (ne_eqb code 0 d, append-nil (line_text (refused_line code))) p

  pub end_put : (b₁ b₂ : List ℕ) (e r bottom top : ℕ) (s : Store) → rounds_line bottom top ≡ last_line s → Put b 0 (text (end_lines code)) e b₁ → Put b₁ e (line_text (rounds_line bottom top)) r b₂ → Put b 0 (text (end_lines code ++ (last_line s ∷ []))) r b₂
  unfolding text joined
  end_put b₁ b₂ e r bottom top s is x y = rw (text-append (end_lines code) (last_line s ∷ []), ← is, append-nil (line_text (rounds_line bottom top))) (put_then b 0 (text (end_lines code)) (line_text (rounds_line bottom top)) e r b₁ b₂ x y)
