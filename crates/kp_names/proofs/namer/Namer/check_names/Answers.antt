use Rattle.std.proofs.Common.{◌<◌, Some, IfSome, length, option_and_then, refl, sym, ap, ◌∙◌, subst}
use Rattle.std.proofs.lemmas.Option.{same_Some, slice_get_read}
use Rattle.kp_choice_defs.specs.Names.{chain_name, first_clash}
use Rattle.kp_names.specs.Places.{clash_at}
use Rattle.kp_names.proofs.Clashes.{clash_of}
use Rattle.kp_names.proofs.namer.Namer.check_names.Goals as goal

-- the fault has the keys at the places, and their name
pub returns-in_ok-copy-in-Some-2-clause-clash : goal.returns-in_ok-copy-in-Some-2-clause-clash
returns-in_ok-copy-in-Some-2-clause-clash c =
    let keys = c.as_slice-keys.result.now in
    let name = chain_name c.args.self.now in
    let inside = subst (λ o. IfSome o (λ p. (p.0 < length keys) × (p.1 < length keys))) c.in-Some.is c.in_ok-first_places.ensures.within in
    let named = slice_get_read keys (length keys) c.in-Some.first c.index-keys-first.result refl inside.0 c.index-keys-first.is in
    let first = slice_get_read keys (length keys) c.in-Some.first c.index-keys-first-in-Some.result refl inside.0 c.index-keys-first-in-Some.is in
    let second = slice_get_read keys (length keys) c.in-Some.second c.index-keys-second.result refl inside.1 c.index-keys-second.is in
    let same = same_Some c.index-keys-first.result c.index-keys-first-in-Some.result (sym named ∙ first) in
    ap (first_clash name) (sym c.as_slice-keys.ensures)
    ∙ sym c.in_ok-first_places.ensures.ok
    ∙ ap (option_and_then (clash_at name keys)) c.in-Some.is
    ∙ clash_of name keys c.in-Some.first c.in-Some.second c.index-keys-first-in-Some.result c.index-keys-second.result first second
    ∙ (λ i. Some (record { name = sym (c.chain_name.ensures ∙ ap name same) i; first = sym c.in_ok-copy-in-Some.ensures i; second = sym c.in_ok-copy-in-Some-2.ensures i }))
