use Rattle.std.proofs.Common.{ℕ, List, ◌+◌, ◌*◌, ◌-◌, ◌≤◌, ◌≡◌, ap, ◌∙◌, arith}
use Rattle.info_checks.specs.Form.{peer_at}
use Rattle.info_store.specs.Model.{link_put, links_put, links-more, links_end}
use Rattle.info_store.proofs.put_links.Goals as goal

pub loop-j-init : goal.loop-j-init
unfolding links_put
loop-j-init c = let e : c.args.from - c.args.from ≡ 0 = omega arith in rw e

pub overflow_add-base : goal.overflow_add-base
overflow_add-base c =
    let j = c.loop-j.j in
    let e : c.args.from + (j - c.args.from) ≡ j = omega arith in
    omega (arith, c.requires.q_in_bounds, rw e at (c.requires.peers (j - c.args.from) (omega arith)), c.slot-peer.ensures)

pub put_link-requires : goal.put_link-requires
put_link-requires c =
    let j = c.loop-j.j in
    let e : c.args.from + (j - c.args.from) ≡ j = omega arith in
    let p = rw e at (c.requires.peers (j - c.args.from) (omega arith)) in
    (omega (arith, c.requires.q_in_bounds), omega (arith, c.requires.q_in_bounds, p, c.slot-peer.ensures), omega (arith, c.requires.q_in_bounds))

-- link j written, after those before it
more : (f : ℕ → ℕ) (ls gs ts : List ℕ) (q b : ℕ) (rs : List ℕ) (from j k w : ℕ) → from ≤ j → gs ≡ links_put f ls q b rs from (j - from) → k ≡ b + peer_at rs j → w ≡ f j → ts ≡ link_put gs q k w rs j → ts ≡ links_put f ls q b rs from (j + 1 - from)
more f ls gs ts q b rs from j k w l h x y z =
    let e : from + (j - from) ≡ j = omega arith in
    let n : j + 1 - from ≡ j - from + 1 = omega arith in
    rw n (links-more f ls gs ts q b rs from (j - from) k w h (rw e x) (rw e y) (rw e z))

pub loop-j-preserved : goal.loop-j-preserved
loop-j-preserved c =
    let k = ap (◌+◌ ((c.args.d - 1) * 32)) (c.slot-peer.ensures ∙ c.peer.ensures) in
    more _ _ _ _ _ _ _ c.args.from c.loop-j.j _ _ (omega arith) c.loop-j.invariant k c.target_word-to.ensures c.put_link.ensures

pub returns : goal.returns
returns c = links_end _ _ _ _ _ _ c.args.from (c.loop-j.j - c.args.from) c.args.m c.loop-j.invariant (omega arith) (omega arith)
