use native.Mathlib.Omega.{arith}
use Rattle.info_checks.specs.Form.{not_shaped}
use Rattle.info_checks.proofs.well_formed.Goals as goal

pub returns-then-i-gt-PEERS_MAX : goal.returns-then-i-gt-PEERS_MAX
returns-then-i-gt-PEERS_MAX c = not_shaped _ _ _ (λ h. omega (arith, h.0, c.if-i-gt-PEERS_MAX.true))

pub returns-then-w-gt-PEERS_MAX : goal.returns-then-w-gt-PEERS_MAX
returns-then-w-gt-PEERS_MAX c = not_shaped _ _ _ (λ h. omega (arith, h.1, c.if-w-gt-PEERS_MAX.true))

pub returns-then-refs-i : goal.returns-then-refs-i
returns-then-refs-i c = not_shaped _ _ _ (λ h. c.if-refs-i.true h.2)
