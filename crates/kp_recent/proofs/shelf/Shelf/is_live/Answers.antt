use Rattle.std.proofs.Common.{Some, None, sym, ◌∙◌, ap}
use Rattle.std.specs.Int.NonZero.{non_zero_usize_get}
use Rattle.std.specs.Map.{lookup}
use Rattle.kp_choice_defs.specs.Recent.{is_live, shard_of}
use Rattle.kp_recent.specs.Moments.{has_recent}
use Rattle.kp_recent.proofs.Parts.{part_is, same_part}
use Rattle.kp_recent.proofs.shelf.Shelf.is_live.Goals as goal

-- the part that is found is the one that contracts see
pub returns-in-Some : goal.returns-in-Some
returns-in-Some c =
    let es = c.self.inside.parts.entries in
    let at = ap (λ k. lookup (same_part k) es) (sym c.of.ensures) ∙ sym c.in-Some.ensures.value in
    c.is_live.ensures
    ∙ ap (has_recent c.args.now c.args.seconds c.args.source.now) (sym (part_is (non_zero_usize_get c.self.inside.size) es (shard_of c.args.list.now c.args.source.now) (Some c.in-Some.part.now) at))
    ∙ ap (λ r. is_live r c.args.list.now c.args.source.now c.args.now c.args.seconds) c.self.view_is

pub returns-in-None : goal.returns-in-None
returns-in-None c =
    let es = c.self.inside.parts.entries in
    let at = ap (λ k. lookup (same_part k) es) (sym c.of.ensures) ∙ sym c.in-None.ensures.value in
    ap (has_recent c.args.now c.args.seconds c.args.source.now) (sym (part_is (non_zero_usize_get c.self.inside.size) es (shard_of c.args.list.now c.args.source.now) None at))
    ∙ ap (λ r. is_live r c.args.list.now c.args.source.now c.args.now c.args.seconds) c.self.view_is
