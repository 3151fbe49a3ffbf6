-- A record written into a buffer, and the order of the refusals (02: N5).
use Rattle.std.specs.Prelude.{ℕ, ◌+◌, ◌<◌, ◌≤◌, ◌≡◌, List, [], ◌++◌, Bool, ltb, length, drop}
use Rattle.std.proofs.Common.{ap, ◌∙◌, arith, lt-ltb, le-ltb}
use Rattle.laws.specs.Bytes.{written, written_is}
use Rattle.spec.specs.Chain as chain
use Rattle.spec.specs.Chain.{Out, bad, good, then, refuse}
use Rattle.spec.specs.Calls.{Call, number_of}
use Rattle.trace.specs.Codes.{read_at}
use Rattle.trace.specs.Write.{record_of, put_record}

-- 26 whatever the buffer: "then with 21 a short buffer"
pub put-bad : (b : List ℕ) (c : Call) (r : chain.Refusal) → record_of c ≡ bad r → put_record b c ≡ bad r
unfolding put_record
put-bad b c r e = ap (λ (o : Out (List ℕ)). then o (λ x. refuse (ltb (length b) (length x)) 21 (good (written b 0 x)))) e

pub put_short : (b : List ℕ) (c : Call) (r : List ℕ) → record_of c ≡ good r → length b < length r → put_record b c ≡ bad (chain.number 21)
unfolding put_record refuse
put_short b c r e l =
    ap (λ (o : Out (List ℕ)). then o (λ x. refuse (ltb (length b) (length x)) 21 (good (written b 0 x)))) e ∙ ap (λ (y : Bool). refuse y 21 (good (written b 0 r))) (lt-ltb _ _ l)

-- else the record stands at the buffer's front, and what is behind it stays
pub put-good : (b : List ℕ) (c : Call) (r : List ℕ) → record_of c ≡ good r → length r ≤ length b → put_record b c ≡ good (r ++ drop (length r) b)
unfolding put_record refuse
put-good b c r e l =
    ap (λ (o : Out (List ℕ)). then o (λ x. refuse (ltb (length b) (length x)) 21 (good (written b 0 x)))) e
    ∙ (ap (λ (y : Bool). refuse y 21 (good (written b 0 r))) (le-ltb _ _ l) ∙ ap good (written_is b 0 r (omega arith) ∙ ap (λ (n : ℕ). r ++ drop n b) (front (length r))))
  where
    front : (n : ℕ) → 0 + n ≡ n
    front n = omega arith

-- the number that a record is refused with, 0 for none
abbrev pub code_in : List ℕ → ℕ
code_in bs = elim (read_at [] bs 0) [ bad r ↦ number_of r | good f ↦ 0 ]
