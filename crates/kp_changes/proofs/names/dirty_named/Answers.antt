use Rattle.std.proofs.Common.{ap, sym, ◌∙◌, option_copied, option_map}
use Rattle.kp_base.specs.Keys.{port_key_cmp}
use Rattle.kp_base.proofs.KeyOrder.{port_key_matches}
use Rattle.kp_object_defs.proofs.InOrder.{shown-lookup}
use Rattle.kp_changes.proofs.names.dirty_named.Goals as goal

pub returns-in-Some : goal.returns-in-Some
returns-in-Some c =
    ap (λ o. option_map (λ v. v.now) (option_copied o)) (sym c.in-Some.is)
    ∙ ap (option_map (λ v. v.now)) c.get.ensures.value
    ∙ shown-lookup port_key_cmp c.args.name.now _
    (λ b. port_key_matches c.args.name.now b.now) c.args.dirty.now.entries

pub returns-in-None : goal.returns-in-None
returns-in-None c =
    ap (λ o. option_map (λ v. v.now) (option_copied o)) (sym c.in-None.is)
    ∙ ap (option_map (λ v. v.now)) c.get.ensures.value
    ∙ shown-lookup port_key_cmp c.args.name.now _
    (λ b. port_key_matches c.args.name.now b.now) c.args.dirty.now.entries
