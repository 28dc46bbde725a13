use Rattle.std.proofs.Common.{rules, ◌≡◌, ℕ, ap, sym, subst, ◌∙◌}
use Rattle.std.specs.Prelude.{Result, Err, IfErr}
use Rattle.kp_full_table.specs.Faults.{TellsClash}
use Rattle.kp_full_table.specs.declared.fault.TableFault.{TableFault}
use Rattle.kp_full_table.specs.declared.fault.TableFault.TheVariants.{NoMemory}
use Rattle.kp_hub.specs.State.{HubState}
use Rattle.kp_hub.specs.Syncs.{Fails, clash_after}
use Rattle.kp_hub.proofs.Refused.{refused, unpublished}
use Rattle.kp_hub.proofs.state.Held.record.Goals as goal

pub returns-in_err-publish-in-Ok-clause-err : goal.returns-in_err-publish-in-Ok-clause-err
returns-in_err-publish-in-Ok-clause-err g c =
    let is : c.from_residual.result ≡ Err (NoMemory c.in_err-publish-in-Ok.field-0.0) = search rules in
    subst (λ (r : Result ℕ TableFault). IfErr r (λ fault.
    Fails g.J.Sharing.config fault c.args.self.now c.publish.new.self)) (sym is)
    (unpublished g.J.Sharing.config c.args.self.now c.make.new.self c.publish.new.self
    c.in-Ok.ensures.no_clash c.in-Ok.ensures.ok c.in_err-publish-in-Ok.ensures.cause
    c.publish.ensures.stays)

pub refuse-requires : goal.refuse-requires
refuse-requires g c =
    ap (λ (h : HubState). clash_after g.J.Sharing.config h.taken.journal)
    c.in-Err-ChainClash.ensures.err
    ∙ subst (TellsClash (clash_after g.J.Sharing.config c.args.self.now.taken.journal))
    c.in-Err-ChainClash.field-0-is c.in-Err-ChainClash.ensures.clash

pub returns-in_ok-refuse-in-Err-ChainClash-clause-err :
    goal.returns-in_ok-refuse-in-Err-ChainClash-clause-err
returns-in_ok-refuse-in-Err-ChainClash-clause-err g c =
    refused g.J.Sharing.config c.in-Err-ChainClash.clash c.args.self.now c.make.new.self
    c.refuse.new.self c.in-Err-ChainClash.ensures.err
    (subst (TellsClash (clash_after g.J.Sharing.config c.args.self.now.taken.journal))
    c.in-Err-ChainClash.field-0-is c.in-Err-ChainClash.ensures.clash)
    c.in_ok-refuse-in-Err-ChainClash.ensures.ok
