use Rattle.std.proofs.Common.{◌≡◌, [], ◌∷◌, ◌++◌, true, false, bytes_eq, sym, ap, ◌∙◌, arith}
use Rattle.serde_json.specs.Find.{get_member}
use Rattle.kp_packet_lines.specs.Plain.{members_of}
use Rattle.kp_packet_lines.proofs.Members.{found_last, found_before}
use Rattle.kp_packet_lines.proofs.object.PlainObject.into_member.Goals as goal

pub returns-then-is_text : goal.returns-then-is_text
returns-then-is_text c =
    let name = c.args.name.now in
    let m = c.in-Some.member in
    let items : c.members.members.items ≡ c.pop.new.self.items ++ m ∷ [] = c.in-Some.ensures.items in
    let same : bytes_eq m.0.now name ≡ true = grind arith in
    sym (c.members.invariant ∙ ap (λ ms. get_member name (members_of ms)) items ∙ found_last c.pop.new.self.items m name same)

pub members-preserved-else-is_text : goal.members-preserved-else-is_text
members-preserved-else-is_text c =
    let name = c.args.name.now in
    let m = c.in-Some.member in
    let items : c.members.members.items ≡ c.pop.new.self.items ++ m ∷ [] = c.in-Some.ensures.items in
    let other : bytes_eq m.0.now name ≡ false = grind arith in
    c.members.invariant ∙ ap (λ ms. get_member name (members_of ms)) items ∙ found_before c.pop.new.self.items m name other

pub members-preserved : goal.members-preserved
members-preserved c =
    let name = c.args.name.now in
    let m = c.in-Some.member in
    let items : c.members.members.items ≡ c.pop.new.self.items ++ m ∷ [] = c.in-Some.ensures.items in
    let other : bytes_eq m.0.now name ≡ false = grind arith in
    c.members.invariant ∙ ap (λ ms. get_member name (members_of ms)) items ∙ found_before c.pop.new.self.items m name other
