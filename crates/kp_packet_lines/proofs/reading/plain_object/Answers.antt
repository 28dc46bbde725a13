use Rattle.std.proofs.Common.{◌≡◌, [], ◌∷◌, sym, subst, ◌∙◌, arith}
use Rattle.json.specs.Lex.{tokens}
use Rattle.json.specs.Reads.{token_of}
use Rattle.json.specs.Token.{Token}
use Rattle.kp_lemmas.proofs.Results.{of_if_ok}
use Rattle.kp_packet_lines.specs.Plain.{members_of}
use Rattle.kp_packet_lines.specs.Reading.{HasMembers}
use Rattle.kp_packet_lines.proofs.Tokens.{object_read}
use Rattle.kp_packet_lines.proofs.reading.plain_object.Goals as goal

pub returns-in-None : goal.returns-in-None
returns-in-None c =
    let text = c.args.text.now in
    let all = c.in_ok-reader.reader in
    let after = c.next.new.self in
    let ms = members_of c.in_ok-members.members.items in
    let begun : all ≡ tokens text = of_if_ok (λ r. r ≡ tokens text) c.new.result all c.new.ensures.ok c.in_ok-reader.ensures.value in
    let first : all ≡ token_of c.in-Some-BeginObject.field-0 ∷ after = grind arith in
    let is : all ≡ Token.begin_object ∷ after = grind (arith, first) in
    let none : c.members_here.new.reader ≡ [] = grind arith in
    object_read text after ms (sym begun ∙ is) (subst (λ rest. HasMembers after ms rest) none c.in_ok-members.ensures)
