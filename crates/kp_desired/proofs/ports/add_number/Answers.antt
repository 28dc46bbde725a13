use Rattle.std.proofs.Common.{cond, is_some, ap, sym, ◌∙◌}
use Rattle.std.specs.FinMap.{put}
use Rattle.kp_object_defs.proofs.InOrder.{insert-through}
use Rattle.kp_desired.specs.Numbers.{port_name_cmp, named}
use Rattle.kp_desired.proofs.PortNumbers.{keys_match, found-named}
use Rattle.kp_desired.proofs.ports.add_number.Goals as goal

pub returns-then-contains_key : goal.returns-then-contains_key
returns-then-contains_key c =
    let port = c.args.port.now in
    let numbers = named c.args.numbers.now.entries in
    let looked = ap is_some (found-named (port.name, port.proto) _ (keys_match (port.name, port.proto)) c.args.numbers.now.entries) in
    sym (ap (λ b. cond b numbers (put port_name_cmp (port.name, port.proto) port.port numbers)) (sym looked ∙ sym c.contains_key.ensures ∙ c.if-contains_key.true))

pub returns-in-Ok : goal.returns-in-Ok
returns-in-Ok c =
    let port = c.args.port.now in
    let numbers = named c.args.numbers.now.entries in
    let looked = ap is_some (found-named (port.name, port.proto) _ (keys_match (port.name, port.proto)) c.args.numbers.now.entries) in
    ap named c.in-Ok.ensures.entries
    ∙ insert-through port_name_cmp (λ k. (k.0.now, k.1)) (λ n. n) (λ a b. keys_match (a.0.now, a.1) b) c.args.numbers.now.entries _ _
    ∙ sym (ap (λ b. cond b numbers (put port_name_cmp (port.name, port.proto) port.port numbers)) (sym looked ∙ sym c.contains_key.ensures ∙ c.if-contains_key.false))
