use Rattle.std.proofs.Common.{◌≡◌, List, Some, map, filter, length, slice_get, rules, sym, ap, ◌∙◌, Bor}
use Rattle.std.proofs.lemmas.Bool.{ltb-false, ltb-true}
use Rattle.std.proofs.lemmas.Option.{slice_get-get_or}
use Rattle.std.proofs.lemmas.Result.{IfOk-weaker}
use Rattle.std.specs.FinMap as finite
use Rattle.kp_lemmas.proofs.ListFacts.{filter_within}
use Rattle.kp_lemmas.proofs.Members.{none_pass}
use Rattle.kp_types.specs.declared.pod.Pod.{Pod}
use Rattle.kp_object_defs.specs.Desired.{selects}
use Rattle.kp_object_defs.specs.Objects.{Objects}
use Rattle.kp_store.specs.Indexes.{is_among}
use Rattle.kp_store.specs.Tags.{tags_of_pod}
use Rattle.kp_store.specs.contracts.tags.PodTagPartialEq.TheImpl as tag_eq
use Rattle.kp_store.specs.contracts.tags.PodTagEq.TheImpl.Laws as tag_laws
use Rattle.kp_store.proofs.Selected.{has_term, none_selected}
use Rattle.kp_store.proofs.objects.Objects.pods_selected.Goals as goal

pub returns-in_ok-found-in-Some : goal.returns-in_ok-found-in-Some
returns-in_ok-found-in-Some c =
    let s = c.args.service.now in
    let i = c.in_ok-rarest.rarest in
    let pair = c.in-Some.pair.now in
    let pairs = c.as_slice.result.now in
    let pods = finite.values c.self.inside.pods in
    let there : slice_get pairs i ≡ Some pair = slice_get-get_or pairs i pair (ltb-true i (length pairs) (sym c.in-Some.ensures.lookup.0)) ∙ ap Some (sym c.in-Some.ensures.lookup.1) in
    IfOk-weaker c.pods_selected.result _ _ (λ ps is.
    is
    ∙ ap (λ (xs : List (Bor Pod)). filter (selects s) (map (λ p. p.now) xs)) c.as_slice-in-Some.ensures.value
    ∙ ap (filter (selects s)) c.in_ok-found-in-Some.ensures
    ∙ ap (λ l. filter (selects s) (filter (λ p. is_among tag_eq.ghosts.eq (tags_of_pod p) l) pods)) c.in_ok-label-in-Some.ensures
    ∙ filter_within _ (selects s) (has_term tag_eq.ghosts.eq tag_laws.laws-law s pair i (search rules)) pods
    ∙ ap (λ (o : Objects). filter (selects s) (finite.values o.pods)) c.self.view_is) c.pods_selected.ensures

pub returns-in-None : goal.returns-in-None
returns-in-None c =
    let i = c.in_ok-rarest.rarest in
    let pairs = c.as_slice.result.now in
    let past = ltb-false i (length pairs) (sym c.in-None.ensures.lookup.0) in
    ap (map (λ p. p.now)) c.new.ensures.items ∙ sym (none_pass (selects c.args.service.now) (none_selected c.args.service.now i c.in_ok-rarest.ensures.within (search rules)) (finite.values c.args.self.now.pods))
