use Rattle.std.proofs.Common.{◌≡◌, ◌+◌, ◌-◌, [], ◌∷◌, ◌++◌, take, sym, ap, ◌∙◌, arith}
use Rattle.std.proofs.lemmas.List.{take_more}
use Rattle.serde_json.specs.Find.{get_member}
use Rattle.kp_packet_lines.specs.Plain.{members_of}
use Rattle.kp_packet_lines.proofs.Members.{found_last, found_before}
use Rattle.kp_packet_lines.proofs.object.PlainObject.member.Goals as goal

pub returns-then-is_text : goal.returns-then-is_text
returns-then-is_text c =
    let xs = c.args.self.now.members.items in
    let i = c.loop-left.left - 1 in
    let m = c.index-member.result.now in
    let next : c.loop-left.left ≡ i + 1 = omega arith in
    let front : take c.loop-left.left xs ≡ take i xs ++ m ∷ [] = ap (λ k. take k xs) next ∙ take_more xs i m (omega arith) ∙ ap (λ y. take i xs ++ y ∷ []) (sym c.index-member.ensures) in
    sym (c.loop-left.invariant.0 ∙ ap (λ ys. get_member c.args.name.now (members_of ys)) front ∙ found_last (take i xs) m c.args.name.now (grind arith))

pub loop-left-preserved : goal.loop-left-preserved
loop-left-preserved c =
    let xs = c.args.self.now.members.items in
    let i = c.loop-left.left - 1 in
    let m = c.index-member.result.now in
    let next : c.loop-left.left ≡ i + 1 = omega arith in
    let front : take c.loop-left.left xs ≡ take i xs ++ m ∷ [] = ap (λ k. take k xs) next ∙ take_more xs i m (omega arith) ∙ ap (λ y. take i xs ++ y ∷ []) (sym c.index-member.ensures) in
    (c.loop-left.invariant.0 ∙ ap (λ ys. get_member c.args.name.now (members_of ys)) front ∙ found_before (take i xs) m c.args.name.now (grind arith), omega arith)
