use Rattle.std.specs.List.{filter}
use Rattle.kp_types.specs.declared.chain.PortChain.TheVariants.{Svc}
use Rattle.kp_table_defs.specs.Rebuild.{is_of_kind}
use Rattle.kp_full_table.proofs.KeySteps.{next_piece}
use Rattle.kp_full_table.proofs.keys.add_by_kind.Goals as goal

pub loop-kind-preserved : goal.loop-kind-preserved
loop-kind-preserved c =
    next_piece (λ kind. filter (is_of_kind kind) c.args.own.now) c.args.kinds.now
    c.loop-kind.kind-index Svc _ _ _ c.loop-kind-test.true c.loop-kind.invariant
    c.in_ok-add_of_kind.ensures
