use Rattle.kp_settle_laws.proofs.Events as laws
use Rattle.kp_settle_laws.proofs.controlled_between_syncs.Goals as goal

pub returns-clause-at_first : goal.returns-clause-at_first
returns-clause-at_first c = laws.controlled_at_first

pub returns-clause-more : goal.returns-clause-more
returns-clause-more c = laws.more_are_picked

pub returns-clause-objects : goal.returns-clause-objects
returns-clause-objects c = laws.objects_touch c.known_events.ensures

pub returns-clause-slices : goal.returns-clause-slices
returns-clause-slices c = laws.slices_touch
