use Rattle.std.proofs.Common.{◌≡◌, ◌∷◌, sym, subst, arith}
use Rattle.json.specs.Token.{Token}
use Rattle.json.specs.Reads.{token_of}
use Rattle.serde_json.specs.Data.{number, unsigned}
use Rattle.kp_packet_lines.specs.Reading.{BeginsWith}
use Rattle.kp_packet_lines.proofs.Tokens.{whole_first}
use Rattle.kp_packet_lines.proofs.reading.number_here.Goals as goal

pub returns-then-whole-clause-value : goal.returns-then-whole-clause-value
returns-then-whole-clause-value c =
    let rest = c.next.new.self in
    let first : c.args.reader.now ≡ token_of c.in_ok-digits.field-0 ∷ rest = grind arith in
    let is : c.args.reader.now ≡ Token.number c.in-Number.digits.now ∷ rest = grind (arith, first) in
    let n = c.in_ok-whole.whole in
    subst (λ ts. BeginsWith 125 ts (number (unsigned n)) rest) (sym is) (whole_first 125 c.in-Number.digits.now n rest c.in_ok-whole.ensures)
