use Rattle.std.proofs.Common.{arith}
use Rattle.kp_links.proofs.Moved.{free_unlinked, moved}
use Rattle.kp_links.proofs.links.Links.move_back.Goals as goal

pub push_back-requires-clause-free : goal.push_back-requires-clause-free
push_back-requires-clause-free c =
    free_unlinked c.args.self.now c.unlink.new.self c.args.row c.unlink.ensures

pub push_back-requires-clause-list_in : goal.push_back-requires-clause-list_in
push_back-requires-clause-list_in c =
    let count = c.unlink.ensures.sized.count in
    omega arith

pub push_back-requires-clause-row_in : goal.push_back-requires-clause-row_in
push_back-requires-clause-row_in c =
    let rows = c.unlink.ensures.sized.rows in
    omega arith

pub returns : goal.returns
returns c =
    moved c.args.self.now c.unlink.new.self c.push_back.new.self c.args.list c.args.row c.unlink.ensures c.push_back.ensures
