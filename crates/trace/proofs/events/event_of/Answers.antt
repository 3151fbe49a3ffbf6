use Rattle.trace.specs.Events.{event_of, event_beyond, event_kind, event_none}
use Rattle.trace.proofs.events.event_of.Goals as goal

pub returns-then-b-at : goal.returns-then-b-at
returns-then-b-at c = event_beyond _ _ c.if-b-at.true

pub returns-in-1 : goal.returns-in-1
unfolding event_of
returns-in-1 c = event_kind _ _ _ _ 1 c.byte_of-kind.ensures.0 c.in-1.is c.single_of.ensures

pub returns-in-2 : goal.returns-in-2
unfolding event_of
returns-in-2 c = event_kind _ _ _ _ 2 c.byte_of-kind.ensures.0 c.in-2.is c.single_of-in-2.ensures

pub returns-in-3 : goal.returns-in-3
unfolding event_of
returns-in-3 c = event_kind _ _ _ _ 3 c.byte_of-kind.ensures.0 c.in-3.is c.single_of-in-3.ensures

pub returns-in-4 : goal.returns-in-4
unfolding event_of
returns-in-4 c = event_kind _ _ _ _ 4 c.byte_of-kind.ensures.0 c.in-4.is c.equivocated_of.ensures

pub returns-in-5 : goal.returns-in-5
unfolding event_of
returns-in-5 c = event_kind _ _ _ _ 5 c.byte_of-kind.ensures.0 c.in-5.is c.no_inclusion_of.ensures

pub returns-in_default : goal.returns-in_default
returns-in_default c = event_none _ _ _ c.byte_of-kind.ensures.0 c.in_default.in_default-own.rest.0.0.0.0.1 c.in_default.in_default-own.rest.0.0.0.1 c.in_default.in_default-own.rest.0.0.1 c.in_default.in_default-own.rest.0.1 c.in_default.in_default-own.rest.1
