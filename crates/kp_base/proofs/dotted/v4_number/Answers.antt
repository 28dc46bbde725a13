use Rattle.std.proofs.Common.{option_map, ap, ◌∙◌}
use Rattle.kp_base.specs.Net.{v4_address}
use Rattle.kp_base.proofs.Pieces.{with_last, no_number, one_number, two_numbers, three_numbers}
use Rattle.kp_base.proofs.dotted.v4_number.Goals as goal

pub returns-in_err-a : goal.returns-in_err-a
returns-in_err-a c =
    ap (option_map v4_address) c.from_residual.ensures
    ∙ no_number c.args.text.now c.in_err-a.ensures

pub returns-in_err-b : goal.returns-in_err-b
returns-in_err-b c =
    ap (option_map v4_address) c.from_residual-in_err-b.ensures
    ∙ one_number c.args.text.now c.in_ok-a.a c.in_ok-a.rest.now c.in_ok-a.ensures c.in_err-b.ensures

pub returns-in_err-c : goal.returns-in_err-c
returns-in_err-c c =
    ap (option_map v4_address) c.from_residual-in_err-c.ensures
    ∙ two_numbers c.args.text.now c.in_ok-a.a c.in_ok-a.rest.now c.in_ok-a.ensures c.in_ok-b.b c.in_ok-b.rest.now c.in_ok-b.ensures c.in_err-c.ensures

pub returns-in_err-d : goal.returns-in_err-d
returns-in_err-d c =
    ap (option_map v4_address) c.from_residual-in_err-d.ensures
    ∙ ap (with_last c.in_ok-a.a c.in_ok-b.b c.in_ok-c.c) c.in_err-d.ensures
    ∙ three_numbers c.args.text.now c.in_ok-a.a c.in_ok-a.rest.now c.in_ok-a.ensures c.in_ok-b.b c.in_ok-b.rest.now c.in_ok-b.ensures c.in_ok-c.c c.in_ok-c.rest.now c.in_ok-c.ensures

pub returns : goal.returns
returns c =
    ap (with_last c.in_ok-a.a c.in_ok-b.b c.in_ok-c.c) c.in_ok-d.ensures
    ∙ three_numbers c.args.text.now c.in_ok-a.a c.in_ok-a.rest.now c.in_ok-a.ensures c.in_ok-b.b c.in_ok-b.rest.now c.in_ok-b.ensures c.in_ok-c.c c.in_ok-c.rest.now c.in_ok-c.ensures
