use Rattle.std.proofs.Common.{◌≡◌, map, take}
use Rattle.kp_choice_defs.specs.Settings.{setting_of}
use Rattle.kp_writer.specs.Own.{left}
use Rattle.kp_writer.proofs.own.leave_all.Given as goal

-- the chains of the ports so far are gone
abbrev pub invariant-loop-info : goal.invariant-loop-info
invariant-loop-info l =
    l.next
    ≡ left (setting_of l.family l.config) l.fn.next (map (λ i. i.now) (take l.info-index l.infos))
