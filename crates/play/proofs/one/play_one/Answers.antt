use mathlib.Core.Path.{refl, ap, ◌∙◌}
use Rattle.trace.specs.Kinds as kind
use Rattle.trace.specs.Kinds.{kind_of}
use Rattle.trace.specs.Head.{head_inside, head_code}
use Rattle.trace.specs.declared.head.Record.{Record}
use Rattle.play.specs.Plays.{plays_head, makes_none, still_head}
use Rattle.play.specs.Sized.{sized_head, head_beyond, head_after, head_moves}
use borrow.Author.Rules.{rules}
use Rattle.play.proofs.one.play_one.Goals as goal

pub returns-then-bytes-at : goal.returns-then-bytes-at
unfolding kind_of
returns-then-bytes-at c = let e = head_beyond _ _ _ c.if-bytes-at.true in record { code = (ap (λ (x : Record). x.code) e ∙ head_code _ _ _, ap (λ (x : Record). x.kind) e); end = (ap (λ (x : Record). x.end) e, head_after _ _ _ _ e, λ l. l); plays = plays_head _ _ _ _ _ _ _ _ _ e (λ p. (c.slice_known-1.given p).fits) (λ p. (c.slice_known-2-1.given p).fits) (λ p. (c.shared_slice_known-1.given p).fits) (makes_none _ kind.Broken _ _ _ _ _ refl refl c.unmade.ensures); still = still_head _ _ _ _ _ _ e (λ _. refl); moves = head_moves _ _ _ _ e }

pub slice_bounds-play_known-count : goal.slice_bounds-play_known-count
slice_bounds-play_known-count c = (head_inside _ _ _ _ c.record_at-found.ensures c.if-bytes-at.false).0

pub slice_bounds-play_known-start : goal.slice_bounds-play_known-start
slice_bounds-play_known-start c = (head_inside _ _ _ _ c.record_at-found.ensures c.if-bytes-at.false).0

pub slice_bounds-play_known-end : goal.slice_bounds-play_known-end
slice_bounds-play_known-end c = (head_inside _ _ _ _ c.record_at-found.ensures c.if-bytes-at.false).1

pub play_known-outcome-requires : goal.play_known-outcome-requires
play_known-outcome-requires c = sized_head _ _ _ _ c.record_at-found.ensures

pub returns : goal.returns
returns c = let e = c.record_at-found.ensures in record { code = (ap (λ (x : Record). x.code) e ∙ head_code _ _ _, ap (λ (x : Record). x.kind) e); end = (ap (λ (x : Record). x.end) e, head_after _ _ _ _ e, λ _. (head_inside _ _ _ _ e c.if-bytes-at.false).1); plays = plays_head _ _ _ _ _ _ _ _ _ e (λ p. (c.slice_known-1.given p).fits) (λ p. (c.slice_known-2-1.given p).fits) (λ p. (c.shared_slice_known-1.given p).fits) c.play_known-outcome.ensures.makes; still = still_head _ _ _ _ _ _ e c.play_known-outcome.ensures.still; moves = head_moves _ _ _ _ e }
