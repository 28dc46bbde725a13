use Rattle.std.proofs.Common.{◌≡◌, map, ap, ◌∙◌, Bor}
use Rattle.std.proofs.lemmas.Result.{IfOk-weaker}
use Rattle.kp_types.specs.declared.slice.Slice.{Slice}
use Rattle.kp_controller.specs.Clashing.{names_near}
use Rattle.kp_controller.proofs.managed.names_near.Goals as goal

pub returns : goal.returns
returns c =
    IfOk-weaker c.names_of.result
    (λ ns. ns ≡ map (λ (s : Slice). s.key.name)
    (map (λ (s : Bor Slice). s.now) c.as_slice.result.now))
    (λ ns. ns ≡ names_near c.args.service.now c.args.slices.now) (λ ns same.
    same
    ∙ ap (map (λ (s : Slice). s.key.name))
    (ap (map (λ (s : Bor Slice). s.now)) c.as_slice.ensures.value ∙ c.in_ok-found.ensures.found))
    c.names_of.ensures
