-- The lines behind an explanation by recent lists that a packet's source can't tell from others.
use Rattle.std.proofs.Common.{◌≡◌, ℕ, ap, sym, ◌∙◌}
use Rattle.kp_types.specs.Setting.{Settings}
use Rattle.kp_types.specs.declared.packet.Packet.{Packet}
use Rattle.kp_choice_defs.specs.Recent.{RecentParts}
use Rattle.kp_object_defs.specs.Objects.{Objects}
use Rattle.kp_part_laws.specs.Unseen.{kept_parts}
use Rattle.kp_part_laws.proofs.Pointwise.{parts_unseen}
use Rattle.kp_path_defs.specs.PathText.{lines_of}
use Rattle.kp_path_laws.specs.UnseenLaws.{LinesUnseen}
use Rattle.kp_workers.specs.Workers.{SeesAs}

pub sees_lines : LinesUnseen → (settings : Settings) (objects : Objects) (line : ℕ)
    (packet : Packet) (own all : RecentParts) → SeesAs packet.source own all
    → lines_of settings objects line packet own ≡ lines_of settings objects line packet all
sees_lines law settings objects line packet own all (keeps, has, same) =
    let unseen = parts_unseen keeps packet.source has in
    sym (law (kept_parts keeps) settings objects line packet own unseen)
    ∙ ap (lines_of settings objects line packet) same
    ∙ law (kept_parts keeps) settings objects line packet all unseen
