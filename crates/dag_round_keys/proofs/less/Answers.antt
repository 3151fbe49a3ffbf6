use Rattle.std.proofs.Common.{sym, ◌∙◌, arith, le-ltb, ne_eqb}
use Rattle.dag_round_keys.specs.Key.{key, before-next, before_here}
use Rattle.dag_round_keys.specs.Digest.{digest_before}
use Rattle.dag_round_keys.proofs.less.Goals as goal

pub returns-then-u-v : goal.returns-then-u-v
unfolding key
returns-then-u-v c = sym (before_here _ _ _ _ (λ e. omega (arith, c.if-u-v.true)))

pub returns-then-u-v-2 : goal.returns-then-u-v-2
unfolding key
returns-then-u-v-2 c =
    c.digest_less.ensures
    ∙ (sym (digest_before _ _ _ _ (λ p. (c.type_inv.a p).fits) (λ p. (c.type_inv.b p).fits)) ∙ sym (before-next _ _ _ _ c.if-u-v-2.true))

pub returns-else-u-v-2 : goal.returns-else-u-v-2
unfolding key
returns-else-u-v-2 c = ne_eqb _ _ c.if-u-v-2.false ∙ sym (before_here _ _ _ _ c.if-u-v-2.false ∙ le-ltb _ _ c.if-u-v.false)
