use Rattle.std.proofs.Common.{◌≡◌, true, map, ap, ◌∙◌}
use Rattle.std.specs.List.{list_all}
use Rattle.std.proofs.lemmas.Result.{IfOk-weaker}
use Rattle.kp_object_defs.specs.Entries.{counted_once, is_of_family}
use Rattle.kp_object_laws.specs.ListLaws.{are_in_order}
use Rattle.kp_object_laws.proofs.Lists.{counted_in_order}
use Rattle.kp_object_laws.proofs.OneFamily.{entries_of_family}
use Rattle.kp_category.proofs.entries.candidates_of.Goals as goal

pub returns-clause-family : goal.returns-clause-family
returns-clause-family c =
    IfOk-weaker c.counted_once.result (λ cs. cs ≡ counted_once c.in_ok-found.found.items) (λ cs. list_all (is_of_family c.args.family) cs ≡ true)
    (λ cs same.
    ap (list_all (is_of_family c.args.family)) (same ∙ ap counted_once c.in_ok-found.ensures)
    ∙ entries_of_family c.args.family c.args.node.now c.args.port.now c.as_slice.result.now (map (λ s. s.now) c.args.slices.now))
    c.counted_once.ensures

pub returns-clause-in_order : goal.returns-clause-in_order
returns-clause-in_order c =
    IfOk-weaker c.counted_once.result (λ cs. cs ≡ counted_once c.in_ok-found.found.items) (λ cs. are_in_order cs ≡ true)
    (λ cs same. ap are_in_order same ∙ counted_in_order c.in_ok-found.found.items)
    c.counted_once.ensures
