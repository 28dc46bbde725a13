use Rattle.std.proofs.Common.{sym, ◌∙◌, ap}
use Rattle.kp_walker.specs.Journeys.{stage_of, journey_of}
use Rattle.kp_walker.specs.Progress.{state_of}
use Rattle.kp_walker.specs.Flow.{outcome_of}
use Rattle.kp_walker.proofs.Steps.{ended_taken}
use Rattle.kp_walker.proofs.journey.Journey.after_hook.Goals as goal

-- the way is the last of the trail by then
pub returns-in-Ended-clause-hook : goal.returns-in-Ended-clause-hook
returns-in-Ended-clause-hook g c j o before lists start came on =
    let old = c.args.self.now in
    let way = g.R.Recorder.way old.recorder in
    ended_taken g.R.Recorder.keeps (stage_of c.args.stage) c.args.progress.ending
    (state_of old.header c.args.progress lists) way (g.R.Recorder.trail c.end_hook.new.self)
    (journey_of g.R.Recorder.trail old before) (journey_of g.R.Recorder.trail c.ended_by.new.self lists) j o start
    (sym (ap (λ flow. outcome_of old.header flow c.args.progress way lists) c.in-Ended.is) ∙ came)
    c.end_hook.ensures.trail (c.ended_by.ensures.ended lists)
