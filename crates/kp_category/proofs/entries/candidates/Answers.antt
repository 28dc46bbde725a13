use Rattle.std.proofs.Common.{List, ◌++◌, map, ap, sym, ◌∙◌, append-nil}
use Rattle.kp_base.specs.declared.address.Family.{Family}
use Rattle.kp_base.specs.declared.address.Family.TheVariants.{V4, V6}
use Rattle.kp_types.specs.declared.lists.Candidate.{Candidate}
use Rattle.kp_object_defs.specs.Entries.{candidates_from, counted_once}
use Rattle.kp_object_laws.specs.ListLaws.{are_in_order}
use Rattle.kp_object_laws.proofs.FamilyEntries.{both_in_order}
use Rattle.kp_object_laws.proofs.Lists.{counted_in_order}
use Rattle.kp_object_laws.proofs.OneFamily.{entries_of_family}
use Rattle.kp_category.proofs.entries.candidates.Goals as goal

pub returns-clause-ok : goal.returns-clause-ok
returns-clause-ok c =
    let slices = map (λ s. s.now) c.args.slices.now in
    let of : Family → List Candidate =
    λ f. counted_once (candidates_from f c.args.node.now c.args.port.now c.args.wanted.now slices) in
    c.from_vec.ensures ∙ c.in_ok-append.ensures.items
    ∙ (λ i. (c.into_vec-both.ensures ∙ c.in_ok-candidates_of.ensures.ok) i
    ++ (c.into_vec.ensures ∙ c.in_ok-six.ensures.ok) i)
    ∙ ap (λ six. of V4 ++ six) (sym (append-nil (of V6)))

pub returns-clause-in_order : goal.returns-clause-in_order
returns-clause-in_order c =
    let node = c.args.node.now in
    let port = c.args.port.now in
    let wanted = c.args.wanted.now in
    let slices = map (λ s. s.now) c.args.slices.now in
    ap are_in_order (returns-clause-ok c)
    ∙ both_in_order (λ f. counted_once (candidates_from f node port wanted slices))
    (λ f. entries_of_family f node port wanted slices)
    (λ f. counted_in_order (candidates_from f node port wanted slices))
