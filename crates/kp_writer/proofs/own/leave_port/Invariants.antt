use Rattle.std.proofs.Common.{◌≡◌, map, take}
use Rattle.std.specs.List.{fold}
use Rattle.kp_choice_defs.specs.Settings.{setting_of}
use Rattle.kp_table_defs.specs.Layout.{place_of_key}
use Rattle.kp_writer.specs.Next.{leave}
use Rattle.kp_writer.proofs.own.leave_port.Given as goal

-- the chains of the keys so far are gone
abbrev pub invariant-loop-key : goal.invariant-loop-key
invariant-loop-key l =
    l.next
    ≡ fold leave l.fn.next
    (map (place_of_key (setting_of l.family l.config)) (take l.key-index l.key-items))
