use Rattle.std.proofs.Common.{◌≡◌, append-nil, sym, ◌∙◌}
use Rattle.kp_run_defs.specs.GenText.{with_packet}
use Rattle.kp_mode_defs.specs.Summing.{summing}
use Rattle.kp_mode.specs.Calls.{covered_by}
use Rattle.kp_mode.proofs.CallLemmas.{answers_none}
use Rattle.kp_modes.proofs.summing.SummingMode.packet.Goals as goal

pub returns : goal.returns
returns c = λ state stands.
    let agree = c.snapshot_of.ensures.decided c.args.number c.args.line.now c.args.lists.now in
    let told = c.in_ok-verdict.ensures in (
      sym (append-nil _),
      told.lists ∙ agree.lists,
      c.add_packet.ensures ∙ (λ i. with_packet ((told.verdict ∙ agree.verdict) i) (stands i)),
    )

pub returns-in_err-verdict : goal.returns-in_err-verdict
returns-in_err-verdict c = λ state stands.
    answers_none _ (λ t. c.args.self.now.totals ≡ t) (Unit {0}) c.args._text.now
    (summing.packet (covered_by c.args.plane.now) c.args.number c.args.line.now c.args.lists.now state)
    c.verdict_of.new.self c.from_residual.result c.from_residual.ensures.1 tt
