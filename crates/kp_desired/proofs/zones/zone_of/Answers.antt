use Rattle.std.proofs.Common.{refl, sym, ap, option_copied, option_and_then, ◌∙◌}
use Rattle.kp_desired.proofs.NodeNames.{zone-found}
use Rattle.kp_desired.proofs.zones.zone_of.Goals as goal

pub returns-in-Some : goal.returns-in-Some
returns-in-Some c =
    c.as_ref.ensures.value
    ∙ sym (zone-found c.args.nodes.now.entries c.args.name.now _ (λ b. refl) (option_copied c.get.result) c.get.ensures.value
    ∙ ap (λ got. option_and_then (λ n. n.now.zone) (option_copied got)) c.in-Some.is)

pub returns-in-None : goal.returns-in-None
returns-in-None c =
    sym (zone-found c.args.nodes.now.entries c.args.name.now _ (λ b. refl) (option_copied c.get.result) c.get.ensures.value
    ∙ ap (λ got. option_and_then (λ n. n.now.zone) (option_copied got)) c.in-None.is)
