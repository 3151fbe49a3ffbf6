-- The chain of anchors as the code holds it: newest first, in an array (01: back.rs, 'Chain').
use Rattle.std.specs.Prelude.{ℕ, zero, suc, ◌+◌, ◌-◌, ◌<◌, ◌≤◌, ◌≡◌, List, [], ◌∷◌, length, get_or, set, replicate}
use Rattle.std.proofs.Math.Path.{refl}
use Rattle.std.proofs.Common.{arith, add-one, get_or-set_same, get_or-set_other}
use borrow.Author.Tests.{lt-ltb, le-ltb}
use Rattle.spec.specs.Chain as chain
use Rattle.spec.specs.Chain.{Out, bad, good, then, refuse, unlinked, check_oldest}
use Rattle.models.specs.Refusal.{refusal_of}
use Rattle.models.specs.declared.refusal.Refusal.{Refusal}
use Rattle.models.specs.declared.refusal.Refusal.TheVariants.{Number}
use Rattle.back_walk.specs.declared.EnqueuedAnchor.{EnqueuedAnchor}
use Rattle.back_walk.specs.Refines.{enqueued_of}
use Rattle.back_chain.specs.declared.Chain.{Chain}
use Rattle.std.specs.Prelude.{Result, Ok, Err}

-- an entry that no anchor has
abbrev pub no_enqueued : EnqueuedAnchor
no_enqueued = record { anchor = 0; proof = 0; prev_proof_round = record { 0 = 0 } }

-- no anchors
abbrev pub no_anchors : Chain
no_anchors = record { count = 0; list = replicate 512 no_enqueued }

-- what a walk yields: its anchors, unless it is refused
abbrev pub Chained : Type 0
Chained = Result Chain Refusal

-- the first n entries, oldest first
unfoldable pub chain_of : List EnqueuedAnchor → ℕ → List chain.EnqueuedAnchor
chain_of l zero = []
chain_of l (suc n) = enqueued_of (get_or l n no_enqueued) ∷ chain_of l n

-- the chain as the definitions': its anchors, or the refusal
unfoldable pub chain_out : Chained → Out (List chain.EnqueuedAnchor)
chain_out (Ok c) = good (chain_of c.list c.count)
chain_out (Err r) = bad (refusal_of r)

pub out_good : (x : Chained) (c : Chain) → x ≡ Ok c → chain_out x ≡ good (chain_of c.list c.count)
unfolding chain_out
out_good x c z = rw z refl

pub out_bad : (x : Chained) (r : Refusal) → x ≡ Err r → chain_out x ≡ bad (refusal_of r)
unfolding chain_out
out_bad x r e = rw e refl

-- ---- the list

-- entries from n on don't show
chain_off : (l : List EnqueuedAnchor) (e : EnqueuedAnchor) (m n : ℕ) → n ≤ m → chain_of (set l m e) n ≡ chain_of l n
unfolding chain_of
chain_off l e m zero h = refl
chain_off l e m (suc n) h = rw (get_or-set_other l m n e no_enqueued (λ d. omega arith), chain_off l e m n (omega arith)) refl

pub chain_more : (l : List EnqueuedAnchor) (e : EnqueuedAnchor) (n : ℕ) → n < length l → chain_of (set l n e) (n + 1) ≡ enqueued_of e ∷ chain_of l n
unfolding chain_of
chain_more l e n h = rw (add-one n, chain_of, get_or-set_same l n e no_enqueued h, chain_off l e n n (omega arith)) refl

pub chain-none : (l : List EnqueuedAnchor) → chain_of l 0 ≡ []
unfolding chain_of
chain-none l = refl

sub-one : (n : ℕ) → suc n - 1 ≡ n
sub-one n = omega arith

-- the oldest one first
pub chain_head : (l : List EnqueuedAnchor) (n : ℕ) → 0 < n → chain_of l n ≡ enqueued_of (get_or l (n - 1) no_enqueued) ∷ chain_of l (n - 1)
unfolding chain_of
chain_head l zero h = absurd (omega arith)
chain_head l (suc n) h = rw (sub-one n) refl

-- ---- 19

module _ (low : ℕ) (x : Chained) where
  -- what a walk is refused with stays
  pub check_bad : (r : Refusal) → x ≡ Err r → chain_out x ≡ then (chain_out x) (check_oldest low)
  check_bad r e = rw (out_bad x r e) refl

module _ (low : ℕ) (c : Chain) where
  -- the code's chain, tested
  abbrev oldest_checked : Out (List chain.EnqueuedAnchor)
  oldest_checked = then (chain_out (Ok c)) (check_oldest low)

  pub check_none : c.count ≡ 0 → chain_out (Ok c) ≡ oldest_checked
  unfolding chain_out check_oldest unlinked refuse
  check_none e = rw (e, chain-none c.list) refl

  module _ (some : (c.count ≡ 0 → ⊥)) where
    -- the oldest entry
    abbrev last : EnqueuedAnchor
    last = get_or c.list (c.count - 1) no_enqueued

    pub check_apart : low < last.prev_proof_round.0 → chain_out (Err (Number 19)) ≡ oldest_checked
    unfolding chain_out check_oldest unlinked refuse refusal_of
    check_apart l = rw (chain_head c.list c.count (omega arith), lt-ltb low last.prev_proof_round.0 l) refl

    pub check_on : last.prev_proof_round.0 ≤ low → chain_out (Ok c) ≡ oldest_checked
    unfolding chain_out check_oldest unlinked refuse
    check_on l = rw (chain_head c.list c.count (omega arith), le-ltb low last.prev_proof_round.0 l) refl
