use Rattle.std.proofs.Common.{not, filter, rules, ◌∙◌}
use Rattle.std.proofs.lemmas.Fn.{filter_same}
use Rattle.kp_base.specs.contracts.key.PortKeyPartialEq.TheImpl as key_eq
use Rattle.kp_base.proofs.KeyOrder.{port_key_ties}
use Rattle.kp_object_defs.specs.PortInfo.{PortInfo}
use Rattle.kp_vmap.proofs.ports.take_port.Goals as goal

pub returns : goal.returns
returns c =
    let key = c.args.key.now in
    let before = c.args.ports.now.items in
    filter_same _ (λ (i : PortInfo). not (key_eq.ghosts.eq i.key key)) _
    (λ x b f called. (search rules, search rules)) before c.retain.new.self.items
    c.retain.ensures.filtered
    ∙ (λ j. filter (λ (i : PortInfo). not (port_key_ties i.key key j)) before)
