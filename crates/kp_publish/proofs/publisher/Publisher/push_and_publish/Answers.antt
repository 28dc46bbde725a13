use Rattle.std.proofs.Common.{ap, ◌∙◌}
use Rattle.kp_publish.specs.Entries.{is_ended}
use Rattle.kp_publish.proofs.Beginnings.{open_snoc}
use Rattle.kp_publish.proofs.publisher.Publisher.push_and_publish.Goals as goal

pub publish-requires : goal.publish-requires
publish-requires g c =
    let keeps = c.self.inside.copies in record {
      «open» = ap is_ended c.in-Ok.ensures.ok ∙ open_snoc keeps.newest c.args.next (ap (λ k. is_ended k.newest) c.self.view_is ∙ c.requires.open);
    }
