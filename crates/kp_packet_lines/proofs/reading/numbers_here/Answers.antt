use Rattle.std.proofs.Common.{◌≡◌, ◌-◌, ◌<◌, ◌^◌, [], ◌∷◌, ◌++◌, length, Some, None, if◌then◌else◌, sym, subst, ap, ◌∙◌, arith}
use Rattle.std.proofs.lemmas.List.Elements.{All-push}
use Rattle.std.specs.Prelude.{All}
use Rattle.json.specs.Json.{after_end_array}
use Rattle.serde_json.specs.Data.{number, unsigned}
use Rattle.kp_packet_lines.specs.Plain.{whole_items}
use Rattle.kp_packet_lines.specs.Reading.{BeginsWith, HasItems}
use Rattle.kp_packet_lines.proofs.Tokens.{ItemsSoFar, one_more_item, all_items}
use Rattle.kp_packet_lines.proofs.reading.numbers_here.Goals as goal

pub numbers-preserved : goal.numbers-preserved
numbers-preserved c =
    let ts = c.numbers.reader in
    let found = c.numbers.numbers.items in
    let so_far = c.numbers.invariant in
    let n = so_far.0 in
    let m = c.in_ok-number.number in
    let after = c.number_here.new.reader in
    let going : (after_end_array ts ≡ None) × (c.take_end_array.new.self ≡ ts) = grind arith in
    let begins = subst (λ us. BeginsWith 125 us (number (unsigned m)) after) going.1 c.in_ok-number.ensures.value in
    let less : length after < length ts = subst (λ us. length after < length us) going.1 c.in_ok-number.ensures.shorter in
    let pushed : c.push.new.self.items ≡ found ++ m ∷ [] =
    c.push.ensures.items ∙ ap (λ b. if b then found ++ m ∷ [] else found) (sym c.in_ok-ok.ensures.variant) in (
      n - 1,
      omega (arith, so_far.1, less),
      subst (λ ns. ItemsSoFar c.args.reader.now ns after (n - 1)) (sym pushed) (one_more_item c.args.reader.now found ts after n m (omega (arith, so_far.1, less)) going.0 begins so_far.2),
      subst (λ ns. All (λ k. k < 2 ^ 31) ns) (sym pushed) (All-push (λ k. k < 2 ^ 31) found m so_far.3 c.in_ok-number.ensures.low),
      omega (arith, so_far.4, less),
    )

pub returns-clause-value : goal.returns-clause-value
returns-clause-value c =
    let so_far = c.numbers.invariant in
    let rest = c.take_end_array.new.self in
    let over : after_end_array c.numbers.reader ≡ Some rest = grind arith in
    subst (λ ns. HasItems c.args.reader.now (whole_items ns) rest) (sym c.from_vec.ensures)
    (all_items c.args.reader.now c.numbers.numbers.items c.numbers.reader rest so_far.0 so_far.1 over so_far.2)
