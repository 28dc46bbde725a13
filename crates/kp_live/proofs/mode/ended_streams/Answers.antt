use Rattle.std.proofs.Common.{◌≡◌, ◌++◌, None, map, length, take, drop, ap, sym, subst, ◌∙◌, arith}
use Rattle.std.specs.Prelude.{IfOk, IfSome, OnOk, replicate, slice_get}
use Rattle.std.specs.List.{AllByRecursion, filter}
use Rattle.kp_hub.specs.Known.{new_worker}
use Rattle.kp_run_defs.specs.LiveLines.{is_line_of}
use Rattle.kp_streams.specs.Streams.{reading_in}
use Rattle.kp_live.specs.Runs.{HaveEnded}
use Rattle.kp_live.specs.Streams.{IsAtStart, RunsOn}
use Rattle.kp_live.proofs.Together.{all_ok, have_ended, length_new, of_queue, same_lengths, written_back}
use Rattle.kp_live.proofs.mode.ended_streams.Goals as goal

-- there are as many workers as feeders
pub streams_of-requires : goal.streams_of-requires
streams_of-requires g c = record {
  workers =
      c.requires.workers
      ∙ ap (λ n. replicate n new_worker)
      (sym (ap (λ l. length l) c.requires.feeders
      ∙ length_new g.J.Sharing.queue g.J.Sharing.streams));
}

-- all feed the hub's queue
pub run_all-requires-clause-queue : goal.run_all-requires-clause-queue
run_all-requires-clause-queue g c κs within =
    of_queue (λ s. s.standing) (λ s. map (λ l. l.now) s.lines.items) g.J.Publication.start
    (reading_in c.args.lines.now) g.J.Sharing.queue g.J.Sharing.streams
    c.in_ok-streams.streams.items c.as_mut_slice-2.result.now
    (c.in_ok-streams.ensures.feeders ∙ c.requires.feeders)
    (ap (map (λ s. s.standing))
    (c.as_mut_slice-2.ensures.value
    ∙ written_back c.cut_lines.new.streams c.in_ok-streams.streams.items
    c.as_mut_slice.result.now c.in_ok-streams.streams.len c.as_mut_slice.ensures.len
    (same_lengths (λ s. s.standing) c.cut_lines.new.streams c.as_mut_slice.result.now
    c.in_ok-cut_lines.ensures.standing))
    ∙ c.in_ok-cut_lines.ensures.standing
    ∙ ap (map (λ s. s.standing)) c.as_mut_slice.ensures.value)

-- what is left of them
pub returns : goal.returns
returns g c =
    let r = reading_in c.args.lines.now in
    let J = g.J.Sharing in
    let ss = c.in_ok-streams.streams.items in
    let len = c.in_ok-streams.streams.len in
    let ds = c.cut_lines.new.streams in
    let cs = c.as_mut_slice-2.result.now in
    let fs = c.run_all.new.streams in
    let long = c.run_all.auto.streams in
    let cut_is = written_back ds ss c.as_mut_slice.result.now len c.as_mut_slice.ensures.len
    (same_lengths (λ s. s.standing) ds c.as_mut_slice.result.now
    c.in_ok-cut_lines.ensures.standing) in
    let kept : length fs ≡ length cs = omega (arith, long) in
    let back = written_back fs (take len (ds ++ drop (length ds) ss)) cs len
    c.as_mut_slice-2.ensures.len kept in
    all_ok c.take_apart.result
    (λ e. e.feeders ≡ map (λ s. s.standing.feeder) fs)
    (λ e. e.workers.items ≡ map (λ s. s.standing.worker) fs)
    (λ e. e.answers.items ≡ map (λ s. s.standing.answers) fs)
    (λ e. HaveEnded g.J.Publication.start r J.queue J.streams e.feeders e.workers.items
    e.answers.items) (AllByRecursion (λ s. s.refused ≡ None) fs)
    (λ e a b d w. have_ended (λ s. s.standing) (λ s. map (λ l. l.now) s.lines.items)
    g.J.Publication.start r J.queue J.streams ss cs
    (c.in_ok-streams.ensures.feeders ∙ c.requires.feeders)
    (ap (map (λ s. s.standing)) (c.as_mut_slice-2.ensures.value ∙ cut_is)
    ∙ c.in_ok-cut_lines.ensures.standing
    ∙ ap (map (λ s. s.standing)) c.as_mut_slice.ensures.value)
    (λ s. s.refused) fs
    (subst (λ cf. AllByRecursion (λ s. IsAtStart cf s.standing) ss) c.config.ensures
    c.in_ok-streams.ensures.new)
    (λ i. subst (λ l. IfSome (slice_get l i)
    (λ x. map (λ l. l.now) x.lines.items ≡ filter (is_line_of i) c.args.lines.now.lines.items))
    (sym (c.as_mut_slice-2.ensures.value ∙ cut_is))
    (subst (λ ls. IfSome (slice_get ds i)
    (λ x. map (λ l. l.now) x.lines.items ≡ filter (is_line_of i) ls)) c.lines.ensures
    (c.in_ok-cut_lines.ensures.lines i))) kept
    (λ i. subst (λ cf. IfSome (slice_get cs i) (λ s. IfSome (slice_get fs i)
    (λ t. t.refused ≡ None
    → RunsOn g.J.Publication.start cf (map (λ l. l.now) s.lines.items) s.standing t.standing)))
    (sym c.requires.config) (c.run_all.ensures i)) w e.feeders e.workers.items e.answers.items a b
    d)
    (subst (λ l. IfOk c.take_apart.result (λ e. e.feeders ≡ map (λ s. s.standing.feeder) l)) back
    c.take_apart.ensures.feeders)
    (subst (λ l. IfOk c.take_apart.result (λ e. e.workers.items
    ≡ map (λ s. s.standing.worker) l)) back c.take_apart.ensures.workers)
    (subst (λ l. IfOk c.take_apart.result (λ e. e.answers.items
    ≡ map (λ s. s.standing.answers) l)) back c.take_apart.ensures.answers)
    (subst (λ l. OnOk c.take_apart.result (AllByRecursion (λ s. s.refused ≡ None) l)) back
    c.take_apart.ensures.whole)
