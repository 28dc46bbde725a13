use Rattle.std.proofs.Common.{◌≡◌, Ok, Err, IsUtf8}
use Rattle.serde_json.specs.Data.{object}
use Rattle.kp_lemmas.proofs.Results.{of_ok}
use Rattle.kp_text_defs.specs.declared.line_refusal.LineRefusal.TheVariants.{Bad}
use Rattle.kp_packet_lines.specs.Plain.{members_in}
use Rattle.kp_packet_lines.proofs.Lines.{line_read}
use Rattle.kp_packet_lines.proofs.line.packet_line.Goals as goal

pub returns-in-Ok : goal.returns-in-Ok
returns-in-Ok c =
    let bytes = c.args.bytes.now in
    let text = c.in_ok-text.text in
    let is = of_ok (λ s. (s.now ≡ bytes) × IsUtf8 bytes) _ c.from_utf8.result text c.from_utf8.ensures c.in_ok-text.ensures.value in
    λ first. line_read bytes text.now (object (members_in c.in_ok-object.object)) first
    (Ok c.in-Ok.line) is.1 is.0 c.in_ok-object.ensures (c.in-Ok.ensures first)

pub returns-in-Err-Refused : goal.returns-in-Err-Refused
returns-in-Err-Refused c =
    let bytes = c.args.bytes.now in
    let text = c.in_ok-text.text in
    let is = of_ok (λ s. (s.now ≡ bytes) × IsUtf8 bytes) _ c.from_utf8.result text c.from_utf8.ensures c.in_ok-text.ensures.value in
    λ first. line_read bytes text.now (object (members_in c.in_ok-object.object)) first
    (Err (Bad c.in-Err-Refused.field)) is.1 is.0 c.in_ok-object.ensures
    (c.in-Err-Refused.ensures first c.in-Err-Refused.field c.in-Err-Refused.field-0-is)
