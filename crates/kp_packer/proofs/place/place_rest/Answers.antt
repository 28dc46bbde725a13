use Rattle.std.proofs.Common.{rules, ◌≡◌, ◌≤◌, ◌∙◌, ◌++◌, ◌∷◌, [], Some, None, cond, ap, sym, map, length, arith}
use Rattle.std.specs.List.{list_any}
use Rattle.std.proofs.lemmas.List.{map-append, length-map}
use Rattle.kp_object_defs.specs.Packing as spec
use Rattle.kp_packer.specs.Views.{shown, filling_of}
use Rattle.std.proofs.lemmas.Option.{cond_some}
use Rattle.kp_packer.proofs.Placing.{last_in_one, last_alone, when_none}
use Rattle.kp_packer.proofs.place.place_rest.Goals as goal

pub returns-in_ok-fill_first-in-Some : goal.returns-in_ok-fill_first-in-Some
returns-in_ok-fill_first-in-Some c =
    let left = shown c.args.rest.now in
    let fs = map filling_of c.args.placed.now.fills.items in
    let made = map (λ v. shown v.items) c.args.placed.now.made.items in
    let most = c.args.most in
    let count : length left ≡ length c.args.rest.now = length-map c.args.rest.now (λ b. b.now) in
    let found : cond (list_any (spec.has_room most (length c.args.rest.now)) fs) (Some (spec.fullest most (length c.args.rest.now) fs)) None ≡ Some c.in-Some.size = search rules in
    let told = cond_some (list_any (spec.has_room most (length c.args.rest.now)) fs) (spec.fullest most (length c.args.rest.now) fs) c.in-Some.size found in
    let some : 1 ≤ length c.args.rest.now = search rules in
    sym (last_in_one most fs left (omega (arith, some, count)) (omega (arith, c.requires.few, count))
    (ap (λ n. list_any (spec.has_room most n) fs) count ∙ told.0)
    (map filling_of c.fill_first.new.fills.items)
    (c.in_ok-fill_first-in-Some.ensures ∙ (λ i. spec.give_first (spec.is_as_full most (sym count i) ((sym told.1 ∙ ap (λ n. spec.fullest most n fs) (sym count)) i)) left fs))
    made)

pub returns-in_ok-push-in-None : goal.returns-in_ok-push-in-None
returns-in_ok-push-in-None c =
    let left = shown c.args.rest.now in
    let fs = map filling_of c.args.placed.now.fills.items in
    let made = map (λ v. shown v.items) c.args.placed.now.made.items in
    let most = c.args.most in
    let count : length left ≡ length c.args.rest.now = length-map c.args.rest.now (λ b. b.now) in
    let found : cond (list_any (spec.has_room most (length c.args.rest.now)) fs) (Some (spec.fullest most (length c.args.rest.now) fs)) None ≡ None = search rules in
    let room = when_none (list_any (spec.has_room most (length c.args.rest.now)) fs) (spec.fullest most (length c.args.rest.now) fs) found in
    let some : 1 ≤ length c.args.rest.now = search rules in
    let new = c.in_ok-from_slice-in-None.field-0 in
    let pushed : c.push.new.self.items ≡ c.args.placed.now.made.items ++ new ∷ [] = search rules in
    let taken : new.items ≡ c.args.rest.now = search rules in
    (λ i. record { fillings = fs; made = (ap (map (λ v. shown v.items)) pushed ∙ map-append (λ v. shown v.items) c.args.placed.now.made.items (new ∷ []) ∙ ap (λ l. made ++ shown l ∷ []) taken) i })
    ∙ sym (last_alone most fs left (omega (arith, some, count)) (omega (arith, c.requires.few, count)) (ap (λ n. list_any (spec.has_room most n) fs) count ∙ room) made)
