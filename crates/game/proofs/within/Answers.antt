use Rattle.std.specs.Prelude.{ℕ, ◌≡◌, true, bit_and}
use Rattle.std.specs.Int.{bit_at}
use Rattle.std.proofs.Common.{ap, ◌∙◌, arith, eq-eqb, eqb-true}
use Rattle.std.proofs.lemmas.Nat.{and_le_l}
use Rattle.std.proofs.lemmas.Nat.Bits.{bit_at_and, same_from_bits_below}
use Rattle.laws.specs.Test.{same_test, same_or, only_elim, only_intro}
use Rattle.laws.specs.Scan.{every_elim, every_intro}
use Rattle.laws.specs.Peers.{member}
use Rattle.spec.specs.Game.{within}
use Rattle.game.proofs.within.Goals as goal

-- a peer that the intersection keeps is in both
kept : (a b k : ℕ) → bit_and a b ≡ a → member a k ≡ true → member b k ≡ true
unfolding member
kept a b k e t = eq-eqb _ _ (omega (arith, bit_at_and a b k, ap (λ (x : ℕ). bit_at x k) e, eqb-true (bit_at a k) 1 t))

-- a peer of both is kept
meets : (a b k : ℕ) → (member a k ≡ true → member b k ≡ true) → bit_at (bit_and a b) k ≡ bit_at a k
unfolding member
meets a b k f =
    bit_at_and a b k
    ∙ same_or (bit_at a k) 1 (λ e. omega (arith, eqb-true (bit_at b k) 1 (f (eq-eqb _ _ e)))) (λ n. omega arith)

pub returns : goal.returns
unfolding within
returns c =
    let a = c.args.a in
    let b = c.args.b in
    same_test _ _
    (λ e. every_intro 32 _ (λ k l. only_intro _ _ (kept a b k (eqb-true _ _ e))))
    (λ e. eq-eqb _ _ (same_from_bits_below 32 (bit_and a b) a (omega (arith, and_le_l a b, c.ranges.a.fits)) c.ranges.a.fits
    (λ k l. meets a b k (only_elim _ _ (every_elim 32 _ e k l)))))
