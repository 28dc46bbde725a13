use Rattle.std.proofs.Common.{◌≡◌, [], ◌∷◌, ◌++◌, None, length, map, ap, sym, subst, ◌∙◌, arith, rules}
use Rattle.std.specs.List.{AllByRecursion}
use Rattle.std.specs.Option.{option_to_list}
use Rattle.kp_feed.specs.Feeding.{AreWhole}
use Rattle.kp_plane.specs.Parts.{table_in}
use Rattle.kp_publish.specs.declared.entry.Entry.TheVariants.{End}
use Rattle.kp_publish.specs.Entries.{records_of}
use Rattle.kp_hub.specs.Finishing.{CoversAll}
use Rattle.kp_hub.specs.Growing.{IsDone}
use Rattle.kp_hub.specs.State.{HubState, IsRefusal}
use Rattle.kp_hub.specs.Syncs.{clash_after}
use Rattle.kp_hub.specs.Taken.{note_of, plane_of, records_at}
use Rattle.kp_hub.proofs.HandedOut.{closed_ended, closed_records, ends, left_whole, notes_length, records_are, whole_journal}
use Rattle.kp_hub.proofs.state.Held.into_finished.Goals as goal

pub invariant_of-result : goal.invariant_of-result
invariant_of-result g c =
    let s = c.self.inside in
    let now = c.close-closed.new.publisher in
    let journal : c.in-Ok-Ok.journal ≡ s.intake.journal = search rules in
    let notes : c.in-Ok-Ok.notes ≡ map note_of (records_at g.J.Sharing.config s.intake) = search rules in
    let closed : now.newest ≡ s.publisher.newest ++ End ∷ [] = search rules in
    let shown : now.published ≡ now.newest = search rules in
    record {
      closed = closed_ended s.publisher.newest now.published (shown ∙ closed);
      records = closed_records s.publisher.newest now.published (shown ∙ closed)
          ∙ (subst (λ (h : HubState). records_of h.outlet.newest ≡ records_at g.J.Sharing.config h.taken) (sym c.self.view_is) c.requires.records
          ∙ records_are g.J.Sharing.config s.intake c.in-Ok-Ok.journal c.in-Ok-Ok.notes c.into_parts-taker.ensures.exact journal notes);
    }

pub returns-in-Ok-Ok-clause-end : goal.returns-in-Ok-Ok-clause-end
returns-in-Ok-Ok-clause-end g c =
    let s = c.self.inside in
    let journal : c.in-Ok-Ok.journal ≡ s.intake.journal = search rules in
    let notes : c.in-Ok-Ok.notes ≡ map note_of (records_at g.J.Sharing.config s.intake) = search rules in
    let table : c.in-Ok-Ok.table ≡ table_in (plane_of g.J.Sharing.config s.intake) = search rules in
    ends g.J.Sharing.config s.intake c.in-Ok-Ok.journal c.in-Ok-Ok.notes c.into_parts-taker.ensures.exact journal notes
    c.into_parts-taker.ensures.few c.from_vec.result c.args.clash c.in-Ok-Ok.table table
    (subst (AllByRecursion (IsRefusal g.J.Sharing.config s.intake.journal)) (sym c.from_vec.ensures) c.self.invariant.2.keeps.refusals)
    (subst (λ (h : HubState). c.args.clash ≡ clash_after g.J.Sharing.config h.taken.journal) (sym c.self.view_is) c.requires.clash)
    (subst (λ (h : HubState). c.args.clash ≡ None → CoversAll h.taken) (sym c.self.view_is) c.requires.covers)

pub returns-in-Ok-Ok-clause-order : goal.returns-in-Ok-Ok-clause-order
returns-in-Ok-Ok-clause-order g c =
    let s = c.self.inside in
    let journal : c.in-Ok-Ok.journal ≡ s.intake.journal = search rules in (
      option_to_list s.intake.waits ++ c.finish.ensures.0,
      subst (λ (h : HubState). AreWhole (c.in-Ok-Ok.journal ++ (option_to_list s.intake.waits ++ c.finish.ensures.0)) h.taken.ended g.J.Sharing.streams)
          c.self.view_is
          (left_whole g.J.Sharing.queue s.intake c.into_parts-taker.result.0 c.new.result c.in-Ok-Ok.journal c.finish.ensures.0 g.J.Sharing.streams
          c.into_parts-taker.ensures.taker c.new.ensures journal c.self.invariant.2.feeders c.finish.ensures.2),
    )

pub returns-in-Ok-Ok-clause-whole : goal.returns-in-Ok-Ok-clause-whole
returns-in-Ok-Ok-clause-whole g c =
    let s = c.self.inside in
    let journal : c.in-Ok-Ok.journal ≡ s.intake.journal = search rules in
    λ room. subst (λ (h : HubState). AreWhole c.in-Ok-Ok.journal h.taken.ended g.J.Sharing.streams) c.self.view_is
    (whole_journal g.J.Sharing.config s.intake c.in-Ok-Ok.journal g.J.Sharing.streams
    (subst (λ (h : HubState). IsDone g.J.Sharing.config h.taken) (sym c.self.view_is) c.requires.done) journal c.self.invariant.2.feeders room)

pub returns-in-Ok-Ok-clause-accepted : goal.returns-in-Ok-Ok-clause-accepted
returns-in-Ok-Ok-clause-accepted g c =
    let s = c.self.inside in
    let journal : c.in-Ok-Ok.journal ≡ s.intake.journal = search rules in
    let notes : c.in-Ok-Ok.notes ≡ map note_of (records_at g.J.Sharing.config s.intake) = search rules in
    let all = notes_length g.J.Sharing.config s.intake c.in-Ok-Ok.journal c.in-Ok-Ok.notes c.into_parts-taker.ensures.exact journal notes in
    let same : length s.intake.counts ≡ length c.args.self.taken.counts = ap (λ (h : HubState). length h.taken.counts) c.self.view_is in
    let few = c.requires.untold in omega (arith, all, same, few)
