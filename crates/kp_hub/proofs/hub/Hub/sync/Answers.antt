use Rattle.std.proofs.Common.{◌≡◌, ℕ, Result, Err, IfErr, sym, subst, rules}
use Rattle.kp_full_table.specs.declared.fault.TableFault.{TableFault}
use Rattle.kp_hub.specs.Syncs.{IsClashOfSome}
use Rattle.kp_hub.proofs.Syncing.{tells_some}
use Rattle.kp_hub.proofs.hub.Hub.sync.Goals as goal

pub returns-in_err-synced-clause-clash : goal.returns-in_err-synced-clause-clash
returns-in_err-synced-clause-clash g c =
    let is : c.from_residual.result ≡ Err c.in_err-synced.field-0.0 = search rules in
    subst (λ (r : Result ℕ TableFault). IfErr r (IsClashOfSome g.J.Sharing.config)) (sym is)
    (tells_some g.J.Sharing.config _ _ c.in_err-synced.field-0.0 c.in_err-synced.ensures.err)
