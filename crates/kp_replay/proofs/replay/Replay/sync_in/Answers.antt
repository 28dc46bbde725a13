use Rattle.std.proofs.Common.{◌≡◌}
use Rattle.std.specs.Prelude.{string_bytes}
use Rattle.kp_replay.proofs.ModeLemmas.{stood_before, synced}
use Rattle.kp_replay.proofs.replay.Replay.sync_in.Goals as goal

pub returns-in_ok-push_sync-in-Ok : goal.returns-in_ok-push_sync-in-Ok
returns-in_ok-push_sync-in-Ok g c = λ state follows.
    let r = c.args.self.now in
    let p = c.noted.new.plane in
    let made = c.in-Ok.ensures in
    let kept = c.synced.new.self in
    synced g.M.Mode.mode (g.M.Mode.stands kept) (g.M.Mode.between kept) (kept ≡ c.args.mode.now) r state
    c.args.number (string_bytes c.args.text.now) c.push_sync.new.text c.synced.new.text c.synced.result p
    c.in-Ok.note made.ok made.no_clash made.note c.in_ok-push_sync-in-Ok.ensures.added
    (c.synced.ensures state
    (stood_before (λ config objects. g.M.Mode.stands c.args.mode.now config objects state) r.plane p made.ok follows))
