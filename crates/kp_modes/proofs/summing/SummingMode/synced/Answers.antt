use Rattle.std.proofs.Common.{append-nil, sym, ◌∙◌}
use Rattle.kp_run_defs.specs.GenText.{with_sync}
use Rattle.kp_modes.proofs.summing.SummingMode.synced.Goals as goal

pub returns : goal.returns
returns c = λ state stands. (
  sym (append-nil _),
  c.add_sync.ensures
      ∙ (λ i. let note = c.requires.noted i in with_sync note.events note.written note.removed (stands i)),
)
