-- What a call for C has done.
use Rattle.std.specs.Prelude.{ℕ, ◌≡◌, refl, List, true}
use Rattle.std.proofs.Common.{sym, ap, subst, ◌∙◌}
use Rattle.spec.specs.Calls as calls
use Rattle.spec.specs.Calls.{buffer_of}
use Rattle.commit_answer.specs.Answer.{Tables, tables, view_of, Left, left, outcome_of, answer_of, nothing_done, Did}
use Rattle.commit_answer.specs.declared.answer.Answer.{Answer}
use Rattle.commit_answer.specs.declared.answer.Answer.TheVariants as answer
use Rattle.commit_answer.specs.declared.answer.Outcome.{Outcome}
use Rattle.committer_reply.specs.declared.reply.Reply.{Reply}
use Rattle.committer_reply.specs.Reply.{Numbers, numbers_of, numbers_in, reply_of}

-- What a call for C has done. c, m, d: the call, its model and the tables before it, as in Did; e, b: the tables and the buffer after it.
-- reply: the numbers of 01's answer. did: the call's own record, of the answer that the model gives.
pub record Replies (c : calls.Call) (m : Tables → Left) (d : Tables) (r : Reply) (e : Tables) (b : List ℕ) : Type 0 where
  pub reply : numbers_in r ≡ numbers_of (calls.call (view_of d) c).answer
  pub did : Did c m d (record { answer = (m d).answer; tables = e; buffer = b })

-- ---- laws

-- what the reply of an outcome says
pub replies : (c : calls.Call) (m : Tables → Left) (d : Tables) (o : Outcome) (ks ls cs os b : List ℕ) (r : Reply) → r ≡ reply_of o → Did c m d (left o ks ls cs os b) → Replies c m d r (tables r.state ks ls cs os) b
unfolding reply_of outcome_of
replies c m d o ks ls cs os b r f h =
    rw f (record {
      reply = ap (λ (y : calls.Outcome). numbers_of y.answer) h.answer;
      did = subst (λ (a : Answer). Did c m d (record { answer = a; tables = tables o.state ks ls cs os; buffer = b })) (ap (λ (x : Left). x.answer) h.words) h;
    })

-- of a call made with u, which equals v
pub replies_with : {A : Type 0} (c : A → calls.Call) (m : A → Tables → Left) (u v : A) → u ≡ v → (d : Tables) (o : Outcome) (ks ls cs os b : List ℕ) (r : Reply) → r ≡ reply_of o
    → Did (c u) (m u) d (left o ks ls cs os b) → Replies (c v) (m v) d r (tables r.state ks ls cs os) b
replies_with {A} c m u v e d o ks ls cs os b r f h = subst (λ (z : A). Replies (c z) (m z) d r (tables r.state ks ls cs os) b) e (replies (c u) (m u) d o ks ls cs os b r f h)

-- nothing was done, by the numbers: refused, or no anchor handed out, and none finished
idle_is : (a : Answer) → (((numbers_of (answer_of a)).refused ≡ 0 → ⊥) → (numbers_of (answer_of a)).anchors ≡ 0 → nothing_done a ≡ true)
unfolding numbers_of answer_of nothing_done
idle_is answer.Done n z = absurd (n refl)
idle_is (answer.Flag b) n z = absurd (n refl)
idle_is (answer.Anchors k) n z = absurd (n refl)
idle_is (answer.Refused w k) n z = rw z refl

-- a refused call that finished no anchor leaves all as it was
pub refused_kept : (c : calls.Call) (m : Tables → Left) (d : Tables) (r : Reply) (e : Tables) (b : List ℕ) → Replies c m d r e b → (r.refused ≡ 0 → ⊥) → r.anchors ≡ 0 → (e ≡ d) × (b ≡ buffer_of c)
unfolding outcome_of
refused_kept c m d r e b h n z =
    let k : numbers_in r ≡ numbers_of (answer_of (m d).answer) = h.reply ∙ sym (ap (λ (y : calls.Outcome). numbers_of y.answer) h.did.answer) in
    h.did.kept (idle_is (m d).answer (λ y. n (ap (λ (x : Numbers). x.refused) k ∙ y)) (sym (ap (λ (x : Numbers). x.anchors) k) ∙ z))
