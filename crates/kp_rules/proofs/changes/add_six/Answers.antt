use Rattle.std.proofs.Common.{◌++◌, ◌∙◌, append-nil, ap, sym}
use Rattle.kp_base.specs.declared.address.Family.TheVariants.{V6}
use Rattle.kp_rules.proofs.OtherFamily.{no_changes_of}
use Rattle.kp_rules.proofs.changes.add_six.Goals as goal

-- without chains of IPv6 nothing is added
pub returns-then-not-has_six-2 : goal.returns-then-not-has_six-2
returns-then-not-has_six-2 c =
    sym (ap (λ es. c.args.edits.now.items ++ es)
    (no_changes_of V6 c.args.before.now.chains c.args.after.now.chains
    (c.has_six.ensures c.if-not-has_six.true)
    (c.has_six-then-not-has_six.ensures c.if-not-has_six-2.true))
    ∙ append-nil c.args.edits.now.items)
