use Rattle.std.proofs.Common.{refl}
use Rattle.kp_plane.specs.Invariant.{parts_of}
use Rattle.kp_plane.proofs.Between.{covers_within, still_held}
use Rattle.kp_plane.proofs.sync.sync_as.Goals as goal

pub keep-requires : goal.keep-requires
keep-requires g c =
    covers_within (parts_of c.args.config.now c.args.journal.now c.args.history.now)
    c.args.history.now c.requires.history

pub returns-clause-ok : goal.returns-clause-ok
returns-clause-ok g c =
    let p = parts_of c.args.config.now c.args.journal.now c.args.history.now in
    c.in_ok-keep.ensures.ok p refl
    (record { history = c.requires.history; ports = c.next_sync.ensures.ports })
    c.in_ok-next.ensures.next

pub returns-in_err-keep-clause-err : goal.returns-in_err-keep-clause-err
returns-in_err-keep-clause-err g c =
    let p = parts_of c.args.config.now c.args.journal.now c.args.history.now in
    still_held c.from_residual-in_err-keep.result p c.keep.new.history c.keep.new.ports
    (c.in_err-keep.ensures.err p
    (record { history = c.requires.history; ports = c.next_sync.ensures.ports }))
