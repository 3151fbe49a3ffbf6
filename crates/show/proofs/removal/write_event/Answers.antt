use Rattle.std.proofs.Common.{Some}
use Rattle.trace.specs.declared.events.Event.TheVariants.{Single, Equivocated, EvidenceNoInclusion}
use Rattle.trace.specs.Events.{Fits, event_fits}
use Rattle.show.proofs.removal.write_event.Goals as goal

pub write_single-requires : goal.write_single-requires
unfolding Fits
write_single-requires c =
    let v = c.in-Some-Single in
    event_fits _ _ _ (Some (Single v.kind)) v.ensures (cc)

pub write_equivocated-requires : goal.write_equivocated-requires
unfolding Fits
write_equivocated-requires c =
    let v = c.in-Some-Equivocated in
    event_fits _ _ _ (Some (Equivocated v.author v.round v.count)) v.ensures (cc)

pub write_no_inclusion-requires : goal.write_no_inclusion-requires
unfolding Fits
write_no_inclusion-requires c =
    let v = c.in-Some-EvidenceNoInclusion in
    event_fits _ _ _ (Some (EvidenceNoInclusion v.signer v.blamed v.proofs)) v.ensures (cc)
