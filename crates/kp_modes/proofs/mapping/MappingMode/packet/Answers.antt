use Rattle.std.proofs.Common.{◌≡◌, ◌++◌, ◌⊎◌, inl, ℕ, List, ap, ◌∙◌}
use Rattle.std.specs.Prelude.{string_bytes}
use Rattle.std.proofs.lemmas.Result.{on_ok_weaker}
use Rattle.kp_choice_defs.specs.Recent.{RecentParts}
use Rattle.kp_lemmas.proofs.Results.{err_anyhow, ok_anyhow}
use Rattle.kp_mode.proofs.CallLemmas.{answers}
use Rattle.kp_mode.specs.Calls.{covered_by}
use Rattle.kp_plane.specs.Parts.{objects_in}
use Rattle.kp_vmap_defs.specs.VerdictMap.{map_of}
use Rattle.kp_modes.specs.Mapping.{mapping}
use Rattle.kp_modes.proofs.Mapped.{packet_alike, step_in_part}
use Rattle.kp_modes.proofs.mapping.MappingMode.packet.Goals as goal

-- an answer looks at one part of the recent lists, whatever the map
pub take-requires : goal.take-requires
take-requires c = record {
  local = step_in_part c.args.self.now.map c.args.number c.syncs.result c.args.line.now;
}

pub returns : goal.returns
returns c = λ state stands.
    let p = c.args.plane.now in
    let m = c.args.self.now.map in
    let here = m ≡ map_of p.config (objects_in p) in
    let same = packet_alike p m c.syncs.result c.args.number c.args.line.now c.args.lists.now stands c.syncs.ensures.count in
    answers c.take.result (λ s. here) (here ⊎ here) c.args.text.now c.take.new.text
    (mapping.packet
    (covered_by p) c.args.number c.args.line.now c.args.lists.now state) c.take.new.self
    (on_ok_weaker c.take.result
    (λ text. text ∙ ap (λ (r : List ℕ × RecentParts). string_bytes c.args.text.now ++ r.0) same)
    c.take.ensures.text)
    (on_ok_weaker c.take.result
    (λ is. is ∙ ap (λ (r : List ℕ × RecentParts). r.1) same) c.take.ensures.lists)
    (ok_anyhow c.take.result here stands) c.take.ensures.front
    (err_anyhow c.take.result (here ⊎ here) (inl stands))
