use Rattle.std.proofs.Common.{◌≡◌, List, [], ◌∷◌, ◌++◌, ap, ◌∙◌}
use Rattle.kp_hub.specs.declared.notes.Origin.{Origin}
use Rattle.kp_hub.specs.Taken.{fed_of}
use Rattle.kp_hub.proofs.Journals.{fed_snoc}
use Rattle.kp_hub.proofs.next.accept.Goals as goal

pub returns-in-Ok-clause-journal : goal.returns-in-Ok-clause-journal
returns-in-Ok-clause-journal c =
    let o : Origin = record { feeder = c.args.fed.feeder; number = c.args.fed.number } in
    let os = c.args.origins.now.items in
    let origins : c.push_reserved.new.self.items ≡ os ++ o ∷ [] =
    c.push_reserved.ensures.items ∙ ap (λ (l : List Origin). l ++ o ∷ []) c.reserve.ensures.items in
    (λ i. fed_of (origins i) (c.in-Ok.ensures.ok i).events)
    ∙ fed_snoc os c.args.plane.now.events o c.args.fed.event c.requires.origins
