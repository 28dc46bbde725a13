use Rattle.std.proofs.Common.{ap, ◌∙◌}
use Rattle.std.specs.FinMap as finite
use Rattle.kp_store.proofs.hashed.Hashed.get.Goals as goal

pub returns : goal.returns
returns g c = c.named.ensures ∙ ap (λ m. finite.get m (g.K.Name.key_of c.args.name.now)) c.self.view_is
