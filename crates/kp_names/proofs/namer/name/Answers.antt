use Rattle.std.proofs.Common.{◌-◌, ◌+◌, ◌≤◌, ◌++◌, take, length, sym, ap, ◌∙◌, subst, arith}
use Rattle.kp_types.specs.Chains.{is_chain_name}
use Rattle.kp_names.specs.Quantum.{quantum_text_at}
use Rattle.kp_names.proofs.NameBytes.{name_of_quanta, room_for_second}
use Rattle.kp_names.proofs.Quanta.{name_is}
use Rattle.kp_names.proofs.namer.name.Goals as goal

pub push_quantum-requires-2-clause-room : goal.push_quantum-requires-2-clause-room
push_quantum-requires-2-clause-room c =
    let n = c.min-first.result in
    let m = c.args.length - n in
    let placed = c.push_quantum.ensures ∙ ap (λ l. l ++ take n (quantum_text_at c.args.digest.now 0)) (c.push_str.ensures.bytes ∙ ap (λ l. l ++ c.args.prefix.now) c.new-text.ensures) in
    subst (λ l. length l + m ≤ 28) (sym placed)
    (room_for_second c.args.prefix.now c.args.digest.now n m c.requires.fit (omega (arith, c.min-first.ensures)) (omega (arith, c.min-first.ensures, c.requires.length)))

pub new-requires : goal.new-requires
new-requires c =
    let n = c.min-first.result in
    let m = c.args.length - n in
    let placed = c.push_quantum.ensures ∙ ap (λ l. l ++ take n (quantum_text_at c.args.digest.now 0)) (c.push_str.ensures.bytes ∙ ap (λ l. l ++ c.args.prefix.now) c.new-text.ensures) in
    ap is_chain_name (c.as_str.ensures.value ∙ c.push_quantum-2.ensures ∙ ap (λ l. l ++ take m (quantum_text_at c.args.digest.now 5)) placed)
    ∙ name_of_quanta c.args.prefix.now c.args.digest.now n m c.requires.fit (omega (arith, c.min-first.ensures)) (omega (arith, c.min-first.ensures, c.requires.length))

pub returns : goal.returns
returns c =
    let n = c.min-first.result in
    let m = c.args.length - n in
    let placed = c.push_quantum.ensures ∙ ap (λ l. l ++ take n (quantum_text_at c.args.digest.now 0)) (c.push_str.ensures.bytes ∙ ap (λ l. l ++ c.args.prefix.now) c.new-text.ensures) in
    c.new.ensures ∙ c.as_str.ensures.value ∙ c.push_quantum-2.ensures ∙ ap (λ l. l ++ take m (quantum_text_at c.args.digest.now 5)) placed
    ∙ name_is c.args.prefix.now c.args.digest.now c.args.length n c.min-first.ensures (omega (arith, c.fits-digest, c.told-digest)) c.requires.length
