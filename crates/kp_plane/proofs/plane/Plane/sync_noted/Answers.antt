use Rattle.kp_plane.proofs.plane.Plane.sync_noted.Goals as goal

pub returns-clause-no_clash : goal.returns-clause-no_clash
returns-clause-no_clash g c = c.in_ok-note.ensures.record.exact.has_no_clash
