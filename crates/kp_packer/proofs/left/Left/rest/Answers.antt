use Rattle.std.proofs.Common.{rules, ◌≡◌, ◌++◌, ◌∷◌, [], None, take, sym, ap, ◌∙◌}
use Rattle.std.proofs.lemmas.List.{take_more, map-append}
use Rattle.kp_packer.specs.Views.{shown, left_in}
use Rattle.kp_packer.proofs.Places.{left-push, left-push_none}
use Rattle.kp_packer.proofs.left.Left.rest.Goals.{in-Some+in_ok-push, in_default}
use Rattle.kp_packer.proofs.left.Left.rest.Goals as goal

pub loop-place-preserved : goal.loop-place-preserved
loop-place-preserved c =
    let places = c.as_slice-place-items.result.now in
    let i = c.loop-place.place-index in
    let front = take_more places i c.place-item.result c.loop-place-test.true ∙ ap (λ y. take i places ++ y ∷ []) (sym c.place-item.is) in
    elim c.match-place.branch [
      | in-Some+in_ok-push w ↦
          let after : c.match-place.rest.items ≡ c.loop-place.rest.items ++ w.in-Some.endpoint ∷ [] = search rules in
          ap shown after
          ∙ map-append (λ b. b.now) c.loop-place.rest.items (w.in-Some.endpoint ∷ [])
          ∙ ap (λ l. l ++ w.in-Some.endpoint.now ∷ []) c.loop-place.invariant
          ∙ sym (ap left_in (front ∙ ap (λ y. take i places ++ y ∷ []) w.in-Some.is) ∙ left-push (take i places) w.in-Some.endpoint)
      | in_default w ↦
          let none : c.place-item.result ≡ None = search rules in
          ap (λ v. shown v.items) w.rest-is ∙ c.loop-place.invariant ∙ sym (ap left_in (front ∙ ap (λ y. take i places ++ y ∷ []) none) ∙ left-push_none (take i places))
    ]
