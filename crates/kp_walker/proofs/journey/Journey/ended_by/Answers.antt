use Rattle.kp_walker.proofs.journey.Journey.ended_by.Goals as goal

-- the packet was translated
pub returns-in-Dnat-Translating-clause-ended : goal.returns-in-Dnat-Translating-clause-ended
returns-in-Dnat-Translating-clause-ended g c lists =
    rw (c.in-Dnat-Translating.is-0, c.in-Dnat-Translating.is-1) (c.send_to.ensures.sent lists)
