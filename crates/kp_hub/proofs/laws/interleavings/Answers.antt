use Rattle.kp_hub.proofs.HubRuns.{new_hubs_stand_at_the_start, feeds_are_steps, syncs_are_steps, refusals_are_steps, walks_are_reads}
use Rattle.kp_hub.proofs.laws.interleavings.Goals as goal

pub returns-clause-first : goal.returns-clause-first
returns-clause-first c = new_hubs_stand_at_the_start

pub returns-clause-feeds : goal.returns-clause-feeds
returns-clause-feeds c = feeds_are_steps

pub returns-clause-accepted : goal.returns-clause-accepted
returns-clause-accepted c =
    syncs_are_steps c.interleavings.ensures.history c.interleavings.ensures.published c.sync_records.ensures.only c.sync_records.ensures.counts c.sync_records.ensures.stay c.joined_runs.ensures.join

pub returns-clause-refused : goal.returns-clause-refused
returns-clause-refused c =
    refusals_are_steps c.interleavings.ensures.history c.interleavings.ensures.published c.sync_records.ensures.only c.sync_records.ensures.counts c.sync_records.ensures.stay c.joined_runs.ensures.join

pub returns-clause-walks : goal.returns-clause-walks
returns-clause-walks c = walks_are_reads
