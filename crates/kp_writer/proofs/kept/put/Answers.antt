use Rattle.std.proofs.Common.{sym, ◌∙◌}
use Rattle.std.specs.FinMap as finite
use Rattle.kp_writer.specs.Written.{newest_in}
use Rattle.kp_writer.proofs.Present.{present}
use Rattle.kp_writer.proofs.kept.put.Goals as goal

pub put_back-requires : goal.put_back-requires
put_back-requires c =
    present c.args.blocks.now c.swap.new.self c.in_ok-place.place c.in_ok-back.back c.args.block
    c.in_ok-had.ensures.ok (c.in_ok-back.ensures ∙ sym c.in_ok-place.ensures)

pub returns-in-Ok-clause-newest : goal.returns-in-Ok-clause-newest
returns-in-Ok-clause-newest c =
    c.in-Ok.ensures.newest
    ∙ (λ i. finite.insert (newest_in c.args.ports.now) (c.in_ok-key.ensures i)
    (c.in_ok-known.ensures i))
