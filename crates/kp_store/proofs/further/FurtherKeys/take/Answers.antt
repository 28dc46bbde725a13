use Rattle.std.proofs.Common.{rules, sym, ap, ◌∙◌}
use Rattle.std.specs.FinMap as finite
use Rattle.kp_store.specs.contracts.further.FurtherKeys.{the_view}
use Rattle.kp_store.proofs.Buckets.{none_taken}
use Rattle.kp_store.proofs.further.FurtherKeys.take.Goals as goal
use Rattle.kp_store.proofs.further.FurtherKeys.take.Goals.{in-Some, in-None}

pub returns : goal.returns
returns c =
    elim c.match-self.branch [
      | in-Some w ↦ search rules
      | in-None w ↦
          ap the_view w.self-inside-is
          ∙ ap (λ o. the_view (record { keys = o })) w.in-None.is
          ∙ sym (none_taken c.args.key.now)
          ∙ ap (λ o. finite.remove (the_view (record { keys = o })) c.args.key.now) (sym w.in-None.is)
          ∙ ap (λ m. finite.remove m c.args.key.now) c.self.view_is
    ]
