use Rattle.std.proofs.Common.{◌≡◌, ◌||◌, ◌∷◌, ◌++◌, [], Bool, true, List, ℕ, false, drop, refl, sym, ap, ◌∙◌}
use Rattle.std.specs.FinMap as finite
use Rattle.std.proofs.lemmas.Bool.{or_right}
use Rattle.std.proofs.lemmas.List.{drop_all}
use Rattle.kp_store.specs.Numbers.{numbers_of, start_of}
use Rattle.kp_store.specs.LookUps.{selects_if}
use Rattle.kp_store.specs.Paths.{any_leads, has_tag}
use Rattle.kp_store.specs.contracts.tags.ServiceTagPartialEq.TheImpl as tag_eq
use Rattle.kp_store.specs.contracts.tags.ServiceTagEq.TheImpl.Laws as tag_laws
use Rattle.kp_store.proofs.Leading.{lead_nowhere, led_at, or_none, same_truth}
use Rattle.kp_store.proofs.Ordered.{none_before}
use Rattle.kp_store.proofs.selecting.selecting.Goals as goal

pub loop-number-init : goal.loop-number-init
loop-number-init c =
    let services = c.args.services.now in
    let pod = c.args.pod.now in (
      (λ k there. let e : true ≡ false = sym there ∙ ap (λ m. finite.contains_key m k) c.new-keys.ensures ∙ none_before k in absurd (cc)),
      (λ k selected.
          or_right (finite.contains_key c.new-keys.result k) (any_leads (has_tag services k) c.push.new.self.items c.as_slice-number-items.result.now)
          ((λ i. any_leads (has_tag services k) ((c.in_ok-push.ensures.items ∙ (λ i. c.in_ok-paths.ensures.items i ++ c.start_of.ensures i ∷ [])) i) ((c.as_slice-number-items.ensures.value ∙ c.in_ok-numbers.ensures ∙ ap numbers_of c.as_slice.ensures) i))
          ∙ led_at tag_eq.ghosts.eq tag_laws.laws-law pod (finite.get services k) selected)),
    )

pub returns : goal.returns
returns c = λ k.
    let services = c.args.services.now in
    same_truth (finite.contains_key c.loop-number.keys k) (selects_if c.args.pod.now (finite.get services k))
    (c.loop-number.invariant.0 k)
    (λ selected.
    sym (or_none (finite.contains_key c.loop-number.keys k) (any_leads (has_tag services k) c.loop-number.paths.items (drop c.loop-number.number-index c.as_slice-number-items.result.now))
    (ap (any_leads (has_tag services k) c.loop-number.paths.items) (drop_all c.loop-number.number-index c.as_slice-number-items.result.now c.loop-number-test.false) ∙ lead_nowhere (has_tag services k) c.loop-number.paths.items))
    ∙ c.loop-number.invariant.1 k selected)
