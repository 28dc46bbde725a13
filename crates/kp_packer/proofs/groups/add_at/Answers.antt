use Rattle.std.proofs.Common.{rules, ◌≡◌, ◌∙◌, ◌<◌, ◌++◌, ◌∷◌, [], IfSome, map, length, get_or, slice_set, ap, sym, subst}
use Rattle.std.proofs.lemmas.List.{map-append, map-set, get_or-map}
use Rattle.kp_packer.specs.Views.{shown, added_at}
use Rattle.kp_packer.proofs.groups.add_at.Goals as goal

pub returns-in_ok-push : goal.returns-in_ok-push
returns-in_ok-push g c =
    let lists = c.args.lists.now.items in
    let i = c.in-Some.place in
    let old = c.index_mut.result.now in
    let within : i < length lists = subst (λ o. IfSome o (λ j. j < length lists)) c.in-Some.is c.requires.within in
    let pushed : c.push.new.self.items ≡ old.items ++ c.args.value ∷ [] = search rules in
    let before : shown old.items ≡ get_or (map (λ v. shown v.items) lists) i [] = ap (λ v. shown v.items) c.index_mut.ensures.value ∙ sym (get_or-map (λ v. shown v.items) lists i old [] within) in
    map-set (λ v. shown v.items) lists i c.push.new.self
    ∙ ap (slice_set (map (λ v. shown v.items) lists) i)
    (ap shown pushed ∙ map-append (λ b. b.now) old.items (c.args.value ∷ []) ∙ ap (λ l. l ++ c.args.value.now ∷ []) before)
    ∙ sym (ap (λ o. added_at o c.args.value.now (map (λ v. shown v.items) lists)) c.in-Some.is)
