use Rattle.std.proofs.Common.{rules, arith}
use Rattle.std.proofs.lemmas.Bool.Decides.{nat_tests}
use Rattle.kp_words.proofs.Numbers.{too_large}
use Rattle.kp_words.proofs.number.number_within.Goals as goal

pub returns-in-Err : goal.returns-in-Err
returns-in-Err c =
    too_large c.args.least c.args.most c.args.word.now c.parse.result c.in-Err.field-0 c.in-Err.is c.parse.ensures.value.0
    (grind (arith, nat_tests)) (search rules) c.ranges.most.fits
