use Rattle.std.proofs.Common.{◌++◌, ap, ◌∙◌}
use Rattle.std.specs.Map.Iter.{deref_pair}
use Rattle.std.specs.Option.{option_to_list}
use Rattle.kp_writer.specs.Next.{remove_of}
use Rattle.kp_writer.proofs.MorePlaces.{added_one}
use Rattle.kp_writer.proofs.next.add_removes.Goals as goal

-- one place more
pub loop-at-preserved : goal.loop-at-preserved
loop-at-preserved c =
    added_one deref_pair (remove_of c.args.before.now.chains c.args.table) c.args.edits.now.items
    c.loop-at.edits.items c.add.new.edits.items c.loop-at.yielded (c.in-Some.at, c.in-Some.chain)
    c.loop-at.invariant
    (c.in_ok-add.ensures ∙ ap (λ o. c.loop-at.edits.items ++ option_to_list o)
    c.remove_of.ensures)
