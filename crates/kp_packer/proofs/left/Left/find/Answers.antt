use Rattle.std.proofs.Common.{rules, ◌≡◌, true, false, Some, None, slice_get, option_map, option_and_then, sym, ap, ◌∙◌}
use Rattle.kp_object_defs.specs.Packing.{is_entry_of, same_option}
use Rattle.kp_base.specs.Net.{same_address}
use Rattle.kp_packer.specs.Views.{place_in}
use Rattle.kp_packer.proofs.Places.{candidate, no_candidate, other_address, one_left, only_one, its_entry}
use Rattle.kp_packer.proofs.left.Left.find.Goals as goal

pub returns-in_err-pod-clause-found : goal.returns-in_err-pod-clause-found
returns-in_err-pod-clause-found c =
    let entries = c.args.self.now.by_pod.entries in
    let places = c.args.self.now.places.items in
    let pod : c.args.entry.now.pod ≡ None = search rules in
    let none : c.from_residual.result ≡ None = search rules in
    ap (option_map (λ f. f.1.now)) none ∙ sym (no_candidate entries places c.requires.own c.args.entry.now (ap (candidate entries places) pod))

pub returns-in_err-place-clause-found : goal.returns-in_err-place-clause-found
returns-in_err-place-clause-found c =
    let entries = c.args.self.now.by_pod.entries in
    let places = c.args.self.now.places.items in
    let pod : c.args.entry.now.pod ≡ Some c.in_ok-pod.pod.now = search rules in
    let place : place_in entries c.in_ok-pod.pod.now ≡ None = search rules in
    let none : c.from_residual-in_err-place.result ≡ None = search rules in
    ap (option_map (λ f. f.1.now)) none
    ∙ sym (no_candidate entries places c.requires.own c.args.entry.now
    (ap (candidate entries places) pod ∙ ap (option_and_then (λ k. option_and_then (λ o. o) (slice_get places k))) place))

pub returns-in_err-endpoint-clause-found : goal.returns-in_err-endpoint-clause-found
returns-in_err-endpoint-clause-found c =
    let entries = c.args.self.now.by_pod.entries in
    let places = c.args.self.now.places.items in
    let pod : c.args.entry.now.pod ≡ Some c.in_ok-pod.pod.now = search rules in
    let place : place_in entries c.in_ok-pod.pod.now ≡ Some c.in_ok-place.field-0.now = search rules in
    let at : option_and_then (λ o. o) (slice_get places c.in_ok-place.field-0.now) ≡ None = search rules in
    let none : c.from_residual-in_err-endpoint.result ≡ None = search rules in
    ap (option_map (λ f. f.1.now)) none
    ∙ sym (no_candidate entries places c.requires.own c.args.entry.now
    (ap (candidate entries places) pod ∙ ap (option_and_then (λ k. option_and_then (λ o. o) (slice_get places k))) place ∙ at))

pub returns-then-ne-clause-found : goal.returns-then-ne-clause-found
returns-then-ne-clause-found c =
    let entries = c.args.self.now.by_pod.entries in
    let places = c.args.self.now.places.items in
    let pod : c.args.entry.now.pod ≡ Some c.in_ok-pod.pod.now = search rules in
    let place : place_in entries c.in_ok-pod.pod.now ≡ Some c.in_ok-place.field-0.now = search rules in
    let at : option_and_then (λ o. o) (slice_get places c.in_ok-place.field-0.now) ≡ Some c.in_ok-endpoint.endpoint = search rules in
    let other : same_option same_address c.args.entry.now.address c.in_ok-endpoint.endpoint.now.entry.address ≡ false = search rules in
    sym (other_address entries places c.requires.own c.args.entry.now c.in_ok-endpoint.endpoint
    (ap (candidate entries places) pod ∙ ap (option_and_then (λ k. option_and_then (λ o. o) (slice_get places k))) place ∙ at) other)

pub returns-clause-entry : goal.returns-clause-entry
returns-clause-entry c =
    let entries = c.args.self.now.by_pod.entries in
    let places = c.args.self.now.places.items in
    let pod : c.args.entry.now.pod ≡ Some c.in_ok-pod.pod.now = search rules in
    let place : place_in entries c.in_ok-pod.pod.now ≡ Some c.in_ok-place.field-0.now = search rules in
    let at : slice_get places c.in_ok-place.field-0.now ≡ Some (Some c.in_ok-endpoint.endpoint) = search rules in
    let same : same_option same_address c.args.entry.now.address c.in_ok-endpoint.endpoint.now.entry.address ≡ true = search rules in
    its_entry entries places c.requires.own c.args.entry.now c.in_ok-pod.pod.now c.in_ok-place.field-0.now c.in_ok-endpoint.endpoint pod place at same

pub returns-clause-found : goal.returns-clause-found
returns-clause-found c =
    let entries = c.args.self.now.by_pod.entries in
    let places = c.args.self.now.places.items in
    let at : slice_get places c.in_ok-place.field-0.now ≡ Some (Some c.in_ok-endpoint.endpoint) = search rules in
    let fits = returns-clause-entry c in
    sym (one_left (is_entry_of c.args.entry.now) places c.in_ok-place.field-0.now c.in_ok-endpoint.endpoint at fits
    (only_one entries places c.requires.own c.args.entry.now c.in_ok-place.field-0.now c.in_ok-endpoint.endpoint at fits))
