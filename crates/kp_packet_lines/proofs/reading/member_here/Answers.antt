use Rattle.std.proofs.Common.{◌≡◌, ◌∷◌, sym, subst, arith}
use Rattle.json.specs.Token.{Token}
use Rattle.json.specs.Reads.{token_of}
use Rattle.serde_json.specs.Data.{array, boolean, number, string, unsigned}
use Rattle.kp_packet_lines.specs.Plain.{whole_items}
use Rattle.kp_packet_lines.specs.Reading.{BeginsWith}
use Rattle.kp_packet_lines.proofs.Tokens.{flag_first, list_first, string_first, whole_first}
use Rattle.kp_packet_lines.proofs.reading.member_here.Goals as goal

pub returns-in-String-clause-value : goal.returns-in-String-clause-value
returns-in-String-clause-value c =
    let rest = c.next.new.self in
    let first : c.args.reader.now ≡ token_of c.in_ok-text.field-0 ∷ rest = grind arith in
    let is : c.args.reader.now ≡ Token.string c.in-String.text.now ∷ rest = grind (arith, first) in
    subst (λ ts. BeginsWith 126 ts (string c.in-String.text.now) rest) (sym is) (string_first 126 c.in-String.text.now rest)

pub returns-in_ok-whole_of-in-Number-clause-value : goal.returns-in_ok-whole_of-in-Number-clause-value
returns-in_ok-whole_of-in-Number-clause-value c =
    let rest = c.next.new.self in
    let first : c.args.reader.now ≡ token_of c.in_ok-text.field-0 ∷ rest = grind arith in
    let is : c.args.reader.now ≡ Token.number c.in-Number.digits.now ∷ rest = grind (arith, first) in
    let whole = c.in_ok-whole_of-in-Number in
    subst (λ ts. BeginsWith 126 ts (number (unsigned whole.field-0)) rest) (sym is) (whole_first 126 c.in-Number.digits.now whole.field-0 rest whole.ensures)

pub returns-in-Bool-clause-value : goal.returns-in-Bool-clause-value
returns-in-Bool-clause-value c =
    let rest = c.next.new.self in
    let first : c.args.reader.now ≡ token_of c.in_ok-text.field-0 ∷ rest = grind arith in
    let is : c.args.reader.now ≡ Token.boolean c.in-Bool.flag ∷ rest = grind (arith, first) in
    subst (λ ts. BeginsWith 126 ts (boolean c.in-Bool.flag) rest) (sym is) (flag_first 126 c.in-Bool.flag rest)

pub returns-in_ok-numbers_here-in-BeginArray-clause-value : goal.returns-in_ok-numbers_here-in-BeginArray-clause-value
returns-in_ok-numbers_here-in-BeginArray-clause-value c =
    let rest = c.next.new.self in
    let first : c.args.reader.now ≡ token_of c.in_ok-text.field-0 ∷ rest = grind arith in
    let is : c.args.reader.now ≡ Token.begin_array ∷ rest = grind (arith, first) in
    let found = c.in_ok-numbers_here-in-BeginArray in
    let ds = whole_items found.field-0.numbers in
    let after = c.numbers_here.new.reader in
    subst (λ ts. BeginsWith 126 ts (array ds) after) (sym is) (list_first rest after ds found.ensures.value)
