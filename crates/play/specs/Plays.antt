-- What a record that is played does.
use Rattle.std.specs.Prelude.{ℕ, ◌+◌, ◌<◌, ◌≡◌, refl, List, [], Bool, true, false, cond, get_or}
use Rattle.std.proofs.Common.{ap, subst, ◌∙◌}
use Rattle.laws.specs.Test.{clash}
use Rattle.models.specs.Digest.{Fit}
use Rattle.commit_answer.specs.Answer.{Tables, tables, left, Did}
use Rattle.commit_answer.specs.declared.answer.Answer.TheVariants.{Done}
use Rattle.commit_answer.specs.declared.answer.Outcome.{Outcome}
use Rattle.trace.specs.Kinds.{Kind, known, kind_of}
use Rattle.trace.specs.Head.{part, fields_at, code_at, head_at, head_good}
use Rattle.trace.specs.Fields.{call_by}
use Rattle.trace.proofs.WriteBack.{bytes-part}
use Rattle.trace.specs.declared.head.Record.{Record}
use Rattle.play_calls.specs.Calls.{takes_buffer, model_by}

-- What is done for a kind and its fields f. room: the buffer that its call is lent, if it takes one; d, e: the tables before and after it;
-- o: the outcome; v: the buffer after it. made: the record of its call. broken: all stays for a broken record.
pub record Makes (k : Kind) (f room : List ℕ) (d : Tables) (o : Outcome) (e : Tables) (v : List ℕ) : Type 0 where
  pub made : known k ≡ true → Did (call_by k f room) (model_by k f room) d (record { answer = o.answer; tables = e; buffer = cond (takes_buffer k) v [] })
  pub broken : known k ≡ false → (o.answer ≡ Done) × (e ≡ d)

-- What a record that is played does, and what the machine's types give, so that no theorem about a run has a premise about widths. words: those
-- of the keys and the links fit 64 bits. bytes: the fields are bytes.
pub record Plays (k : Kind) (f room : List ℕ) (d : Tables) (o : Outcome) (e : Tables) (v : List ℕ) : Type 0 where
  pub makes : Makes k f room d o e v
  pub words : Fit d.keys × Fit d.links
  pub bytes : (p : ℕ) → get_or f p 0 < 256

-- the record of bs at p makes e of the tables d, and leaves v in the buffer; w: whether the bench's outlook is known
abbrev pub PlaysAt : Bool → List ℕ → List ℕ → ℕ → Tables → Outcome → Tables → List ℕ → Type 0
PlaysAt w room bs p d o e v = Plays (kind_of (head_at w bs p).kind) (part bs (head_at w bs p).from (head_at w bs p).end) room d o e v

-- the buffer u before it, v after it: only a call that takes it changes it
abbrev pub Still : Kind → List ℕ → List ℕ → Type 0
Still k u v = takes_buffer k ≡ false → v ≡ u

-- ---- laws

module _ (k j : Kind) (f room : List ℕ) (d : Tables) (v : List ℕ) (o : Outcome) (e : k ≡ j) where
  -- a call that is made
  pub makes_call : (ks ls cs os : List ℕ) → known j ≡ true → Did (call_by j f room) (model_by j f room) d (left o ks ls cs os (cond (takes_buffer j) v []))
      → Makes k f room d o (tables o.state ks ls cs os) v
  makes_call ks ls cs os y h = rw e (record { made = λ _. h; broken = λ n. absurd (clash y n) })

-- none, for a broken record
pub makes_none : (k j : Kind) (f room v : List ℕ) (d : Tables) (o : Outcome) → k ≡ j → known j ≡ false → o ≡ record { answer = Done; state = d.state }
    → Makes k f room d o (tables o.state d.keys d.links d.certs d.order) v
makes_none k j f room v d o e n g = rw (g, e) (record { made = λ y. absurd (clash y n); broken = λ _. (refl, refl) })

-- the buffer stays for a kind that doesn't take it, and nothing is said of one that does
pub still_yes : (k j : Kind) (u v : List ℕ) → k ≡ j → takes_buffer j ≡ true → Still k u v
still_yes k j u v e h n = absurd (clash (ap takes_buffer e ∙ h) n)

-- the record that was found
pub plays_head : (w : Bool) (room bs : List ℕ) (p : ℕ) (r : Record) (d e : Tables) (v : List ℕ) (o : Outcome) → r ≡ head_at w bs p → Fit d.keys → Fit d.links → ((q : ℕ) → get_or bs q 0 < 256)
    → Makes (kind_of r.kind) (part bs r.from r.end) room d o e v → PlaysAt w room bs p d o e v
plays_head w room bs p r d e v o g fk fl fb m = record {
  makes = subst (λ (h : Record). Makes (kind_of h.kind) (part bs h.from h.end) room d o e v) g m;
  words = (fk, fl);
  bytes = bytes-part bs (head_at w bs p).from (head_at w bs p).end fb;
}

pub still_head : (w : Bool) (bs : List ℕ) (p : ℕ) (r : Record) (u v : List ℕ) → r ≡ head_at w bs p → Still (kind_of r.kind) u v → Still (kind_of (head_at w bs p).kind) u v
still_head w bs p r u v g m = subst (λ (h : Record). Still (kind_of h.kind) u v) g m

-- one that isn't refused
pub plays_good : (w : Bool) (room bs : List ℕ) (p : ℕ) (d e : Tables) (v : List ℕ) (o : Outcome) → code_at w bs p ≡ 0 → PlaysAt w room bs p d o e v → Plays (kind_of (get_or bs (p + 5) 0)) (fields_at bs p) room d o e v
plays_good w room bs p d e v o z m = subst (λ (h : Record). Plays (kind_of h.kind) (part bs h.from h.end) room d o e v) (head_good bs p (code_at w bs p) z) m
