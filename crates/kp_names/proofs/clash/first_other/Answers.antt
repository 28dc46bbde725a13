use Rattle.std.proofs.Common.{◌≡◌, true, false, IfSome, length, refl, sym, ap, ◌∙◌, subst}
use Rattle.std.proofs.lemmas.Option.{same_Some, slice_get_read}
use Rattle.kp_choice_defs.specs.Names.{chain_name, same_chain_key}
use Rattle.kp_names.specs.Places.{other_of, IsWithin}
use Rattle.kp_names.proofs.Clashes.{other_is}
use Rattle.kp_names.proofs.SameKeys.{chain_key_same}
use Rattle.kp_names.proofs.clash.first_other.Goals as goal

pub returns-then-eq-clause-value : goal.returns-then-eq-clause-value
returns-then-eq-clause-value c k at =
    let keys = c.args.keys.now in
    let places = c.in_ok-namesakes.namesakes in
    let inside = subst (λ o. IfSome o (IsWithin (length keys))) c.in_ok-namesakes.was c.requires.within in
    let first = slice_get_read keys (length keys) places.first c.index-keys-namesakes.result refl inside.0 c.index-keys-namesakes.is in
    let here = slice_get_read keys (length keys) c.args.place c.index-keys-place.result refl c.requires.place c.index-keys-place.is in
    let key : k ≡ c.index-keys-place.result = same_Some k c.index-keys-place.result (sym at ∙ here) in
    other_is (chain_name 0) keys places k c.index-keys-namesakes.result true first
    (ap (λ x. same_chain_key x c.index-keys-namesakes.result) key ∙ sym (chain_key_same c.index-keys-place.result c.index-keys-namesakes.result) ∙ sym c.eq.ensures ∙ c.if-eq.true)
    ∙ ap (λ o. other_of keys o k) (sym c.in_ok-namesakes.was)

pub returns-else-eq-clause-value : goal.returns-else-eq-clause-value
returns-else-eq-clause-value c k at =
    let keys = c.args.keys.now in
    let places = c.in_ok-namesakes.namesakes in
    let inside = subst (λ o. IfSome o (IsWithin (length keys))) c.in_ok-namesakes.was c.requires.within in
    let first = slice_get_read keys (length keys) places.first c.index-keys-namesakes.result refl inside.0 c.index-keys-namesakes.is in
    let here = slice_get_read keys (length keys) c.args.place c.index-keys-place.result refl c.requires.place c.index-keys-place.is in
    let key : k ≡ c.index-keys-place.result = same_Some k c.index-keys-place.result (sym at ∙ here) in
    other_is (chain_name 0) keys places k c.index-keys-namesakes.result false first
    (ap (λ x. same_chain_key x c.index-keys-namesakes.result) key ∙ sym (chain_key_same c.index-keys-place.result c.index-keys-namesakes.result) ∙ sym c.eq.ensures ∙ c.if-eq.false)
    ∙ ap (λ o. other_of keys o k) (sym c.in_ok-namesakes.was)
