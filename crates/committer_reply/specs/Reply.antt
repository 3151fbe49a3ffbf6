-- Answers as they cross the C boundary.
use Rattle.std.specs.Prelude.{ℕ, ◌≡◌, Bool, cond}
use Rattle.std.proofs.Math.Path.{refl}
use Rattle.spec.specs.Chain as chain
use Rattle.spec.specs.Calls as calls
use Rattle.spec.specs.Calls.{number_of}
use Rattle.models.specs.declared.parts.Round.{Round}
use Rattle.models.specs.Refusal.{refusal_of}
use Rattle.models.specs.declared.refusal.Refusal.{Refusal}
use Rattle.models.specs.declared.refusal.Refusal.TheVariants as why
use Rattle.commit_state.specs.declared.state.State.{State}
use Rattle.commit_answer.specs.Answer.{answer_of}
use Rattle.commit_answer.specs.declared.answer.Answer.TheVariants as answer
use Rattle.commit_answer.specs.declared.answer.Outcome.{Outcome}
use Rattle.committer_reply.specs.declared.reply.Reply.{Reply}

-- the numbers of an answer of 01: the refusal's (0 for none), 1 for yes, the anchors handed out or finished, the round of a conflict
pub record Numbers : Type 0 where
  pub refused : ℕ
  pub said : ℕ
  pub anchors : ℕ
  pub conflict : ℕ

unfoldable pub round_in : chain.Refusal → ℕ
round_in (chain.number n) = 0
round_in (chain.conflict r) = r

unfoldable pub numbers_of : calls.Answer → Numbers
numbers_of calls.done = record { refused = 0; said = 0; anchors = 0; conflict = 0 }
numbers_of (calls.flag b) = record { refused = 0; said = cond b 1 0; anchors = 0; conflict = 0 }
numbers_of (calls.anchors n) = record { refused = 0; said = 0; anchors = n; conflict = 0 }
numbers_of (calls.refused w n) = record { refused = number_of w; said = 0; anchors = n; conflict = round_in w }

abbrev pub numbers_in : Reply → Numbers
numbers_in r = record { refused = r.refused; said = r.said; anchors = r.anchors; conflict = r.conflict }

unfoldable pub reply_of : Outcome → Reply
reply_of o =
    let n = numbers_of (answer_of o.answer) in
    record { refused = n.refused; said = n.said; anchors = n.anchors; conflict = n.conflict; state = o.state }

-- ---- laws

-- by cases on the answer, and on the refusal
module _ (w : Refusal) where
  pub round-none : (n : ℕ) → w ≡ why.Number n → 0 ≡ round_in (refusal_of w)
  unfolding round_in refusal_of
  round-none n e = rw e refl

  pub round_is : (r : Round) → w ≡ why.Conflict r → r.0 ≡ round_in (refusal_of w)
  unfolding round_in refusal_of
  round_is r e = rw e refl

abbrev reply : ℕ → ℕ → ℕ → ℕ → State → Reply
reply n y a c s = record { refused = n; said = y; anchors = a; conflict = c; state = s }

module _ (o : Outcome) where
  pub reply-done : o.answer ≡ answer.Done → reply 0 0 0 0 o.state ≡ reply_of o
  unfolding reply_of numbers_of answer_of
  reply-done e = rw (e, reply_of) refl

  pub reply_said : (b : Bool) (y : ℕ) → o.answer ≡ answer.Flag b → y ≡ cond b 1 0 → reply 0 y 0 0 o.state ≡ reply_of o
  unfolding reply_of numbers_of answer_of
  reply_said b y e h = rw (e, h, reply_of) refl

  pub reply-handed : (n : ℕ) → o.answer ≡ answer.Anchors n → reply 0 0 n 0 o.state ≡ reply_of o
  unfolding reply_of numbers_of answer_of
  reply-handed n e = rw (e, reply_of) refl

  pub reply-refused : (w : Refusal) (n k r : ℕ) → o.answer ≡ answer.Refused w n → k ≡ number_of (refusal_of w) → r ≡ round_in (refusal_of w) → reply k 0 n r o.state ≡ reply_of o
  unfolding reply_of numbers_of answer_of
  reply-refused w n k r e f g = rw (e, f, g, reply_of) refl
