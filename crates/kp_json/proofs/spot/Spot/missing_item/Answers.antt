use Rattle.std.proofs.Common.{subst, ℕ, List}
use Rattle.kp_json.specs.Answers.{IsFault, fault_at}
use Rattle.kp_json.specs.declared.fault.Why.TheVariants.{Missing}
use Rattle.kp_json.proofs.Ways.{way_path-Item}
use Rattle.kp_json.proofs.spot.Spot.missing_item.Goals as goal

-- the path of one step more
pub returns : goal.returns
returns c = subst (λ (q : List ℕ). IsFault c.fault_of.result (fault_at Missing q)) (way_path-Item _ c.args.i) c.fault_of.ensures
