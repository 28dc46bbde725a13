-- The line of a path is told by what is told of its translation.
use Rattle.std.proofs.Common.{◌≡◌, ℕ, List, ◌++◌, codes, Option, Some, None, option_map, refl, sym, ap, ◌∙◌, append_assoc}
use Rattle.std.proofs.lemmas.List.{append-nil}
use Rattle.kp_types.specs.Setting.{FamilyConfig}
use Rattle.kp_types.specs.declared.packet.Packet.{Packet}
use Rattle.kp_choice_defs.specs.Recent.{RecentParts}
use Rattle.kp_object_defs.specs.PortInfo.{PortInfo}
use Rattle.kp_door_defs.specs.Decision.{Decided, Translation, by_filter, lists_after, translated}
use Rattle.kp_door_defs.specs.Filter.{Line, Refusal, Rejects, DropsClosed, DropsNoLocal, filtered, line_of}
use Rattle.kp_text_defs.specs.Answers.{reason_text}
use Rattle.kp_text_defs.specs.Printed.{verdict_text}
use Rattle.kp_decide.specs.Findings.{masked_by}
use Rattle.kp_decide.specs.Told.{translation_told}
use Rattle.kp_path_defs.specs.PathText.{path_text, sent_text, translation_text}
use Rattle.kp_path_defs.specs.Paths.{path_by, path_count}
use Rattle.kp_paths.specs.Told.{count_told, path_told}
use Rattle.kp_paths.specs.Words.{decided_words, passed_words, path_words, refused_words, sent_words, stand_words}
use Rattle.kp_paths.specs.declared.routes.Stand.{Stand}

-- where a packet was sent
sent_told : (t : Option Translation)
    → translation_text t ≡ sent_words (option_map translation_told t)
sent_told None = refl
sent_told (Some t) = refl

-- what becomes of a packet
decided : (config : FamilyConfig) (packet : Packet) (t : Option Translation) (lists : RecentParts)
    (line : Option Line)
    → decided_words line (option_map translation_told t) (masked_by config packet t)
    ≡ verdict_text (by_filter config packet t lists line).verdict ++ codes "; "
    ++ reason_text (by_filter config packet t lists line).reason
    ++ sent_text (by_filter config packet t lists line).verdict t
decided config packet t lists (Some line) = by line.refusal
  where
    behind : (words : List ℕ)
        → words ++ sent_words (option_map translation_told t) ≡ words ++ translation_text t
    behind words = ap (λ sent. words ++ sent) (sym (sent_told t))

    by : (r : Refusal)
        → decided_words (Some (line_of r line.door)) (option_map translation_told t)
        (masked_by config packet t)
        ≡ verdict_text (by_filter config packet t lists (Some (line_of r line.door))).verdict
        ++ codes "; "
        ++ reason_text (by_filter config packet t lists (Some (line_of r line.door))).reason
        ++ sent_text (by_filter config packet t lists (Some (line_of r line.door))).verdict t
    by Rejects = behind (refused_words (line_of Rejects line.door))
    by DropsClosed = behind (refused_words (line_of DropsClosed line.door))
    by DropsNoLocal = behind (refused_words (line_of DropsNoLocal line.door))
decided config packet (Some t) lists None =
    sym (append-nil (passed_words (translation_told t) (masked_by config packet (Some t))))
decided config packet None lists None = refl

-- a head and four pieces
pub head_and : (head a b c d : List ℕ) → head ++ (a ++ b ++ c ++ d) ≡ head ++ a ++ b ++ c ++ d
head_and head a b c d =
    sym (append_assoc head (a ++ b ++ c) d)
    ∙ ap (λ l. l ++ d)
    (sym (append_assoc head (a ++ b) c) ∙ ap (λ l. l ++ c) (sym (append_assoc head a b)))

module _ (config : FamilyConfig) (infos : List PortInfo) (packet : Packet) (lists : RecentParts) where
  -- what is told of a translation, with the filter's line
  shown : (s : Stand) (t : Option Translation)
      → path_words s (decided_words (filtered config infos (translated packet t))
      (option_map translation_told t) (masked_by config packet t))
      ≡ path_told config infos packet s (option_map translation_told t)
  shown s None = refl
  shown s (Some t) = refl

  -- the line of a path
  pub told_path : (number place count chance : ℕ) (t : Option Translation)
      → path_text number place count chance (path_by config infos packet lists t)
      ≡ path_told config infos packet
      (record { number = number; place = place; count = count; chance = chance })
      (option_map translation_told t)
  told_path number place count chance t =
      let s : Stand = record {
        number = number;
        place = place;
        count = count;
        chance = chance;
      } in
      let line : Option Line = filtered config infos (translated packet t) in
      let d : Decided = by_filter config packet t (lists_after t lists) line in
      sym (ap (λ words. stand_words s ++ words ++ codes "\n")
      (decided config packet t (lists_after t lists) line)
      ∙ ap (λ words. words ++ codes "\n") (head_and (stand_words s) (verdict_text d.verdict)
      (codes "; ") (reason_text d.reason) (sent_text d.verdict t)))
      ∙ shown s t

-- how many paths there are
pub told_count : (t : Option Translation)
    → path_count t ≡ count_told (option_map translation_told t)
told_count None = refl
told_count (Some t) = refl
