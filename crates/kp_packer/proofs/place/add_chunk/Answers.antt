use Rattle.std.proofs.Common.{rules, ◌≡◌, ◌∙◌, ◌++◌, ◌∷◌, [], ap, map, take}
use Rattle.std.proofs.lemmas.List.{map-append}
use Rattle.kp_packer.specs.Views.{shown}
use Rattle.kp_packer.proofs.place.add_chunk.Goals as goal

pub returns : goal.returns
returns c =
    let made = c.args.made.now.items in
    let chunk = c.in_ok-from_slice.field-0 in
    let pushed : c.push.new.self.items ≡ made ++ chunk ∷ [] = search rules in
    let taken : chunk.items ≡ take c.args.most c.args.left.now = search rules in
    ap (map (λ v. shown v.items)) pushed
    ∙ map-append (λ v. shown v.items) made (chunk ∷ [])
    ∙ ap (λ l. map (λ v. shown v.items) made ++ shown l ∷ []) taken
