use Rattle.std.proofs.Common.{◌≡◌, None, subst}
use Rattle.kp_table_defs.specs.Rebuild.{clash_of}
use Rattle.kp_plane.specs.Parts.{objects_in, settings_in}
use Rattle.kp_plane.proofs.Walks.{sound}
use Rattle.kp_plane.proofs.plane.Plane.decides.Goals as goal

pub returns-clause-ranked : goal.returns-clause-ranked
returns-clause-ranked c =
    (sound c.full_table_ranked_objects.ensures c.hashed_prefixed.ensures c.args.self.now).ranked

pub returns-clause-built_in : goal.returns-clause-built_in
returns-clause-built_in c =
    (sound c.full_table_ranked_objects.ensures c.hashed_prefixed.ensures c.args.self.now).built_in

pub returns-clause-agree : goal.returns-clause-agree
returns-clause-agree c = λ packet drawn lists.
    let p = c.args.self.now in
    c.walk_decides.ensures p.config (objects_in p) packet drawn lists
    (subst (λ q. clash_of (settings_in q) (objects_in q) ≡ None) c.self.view_is
    c.self.invariant.holds.history.no_clash)
