-- The line of a kind of source, from its pieces.
use Rattle.std.proofs.Common.{◌≡◌, ℕ, List, ◌++◌, codes, map, filter, flat_map, ap, sym, ◌∙◌, append_assoc}
use Rattle.kp_base.specs.Net.{AddressParts, is_local_address}
use Rattle.kp_types.specs.Setting.{FamilyConfig}
use Rattle.kp_types.specs.declared.packet.Packet.{Packet}
use Rattle.kp_types.specs.declared.verdict.Verdict.{Verdict}
use Rattle.kp_object_defs.specs.PortInfo.{PortInfo}
use Rattle.kp_door_defs.specs.Doors.{Door, is_in_cluster, offer_of}
use Rattle.kp_text_defs.specs.Answers.{door_text, list_kind_text}
use Rattle.kp_text_defs.specs.Printed.{verdict_text}
use Rattle.kp_path_defs.specs.PathText.{cause_text, counts_text, source_text, whence_by, within_text}
use Rattle.kp_path_defs.specs.Sources.{Restricted, Closes, cause_at, counts_of, is_within}
use Rattle.kp_paths.specs.SourceWords.{closed_text, head_text, offered_text, opens_at, source_by, start_text}

-- three and four pieces behind another
three : (x a b c : List ℕ) → x ++ (a ++ b ++ c) ≡ x ++ a ++ b ++ c
three x a b c =
    sym (append_assoc x (a ++ b) c) ∙ ap (λ l. l ++ c) (sym (append_assoc x a b))

four : (x a b c d : List ℕ) → x ++ (a ++ b ++ c ++ d) ≡ x ++ a ++ b ++ c ++ d
four x a b c d = sym (append_assoc x (a ++ b ++ c) d) ∙ ap (λ l. l ++ d) (three x a b c)

-- the first piece of what is served, the others, and the end of the line
served : (head v a b c d end all : List ℕ) → all ≡ a ++ b ++ c ++ d
    → (head ++ v) ++ (all ++ end) ≡ (head ++ (v ++ a ++ b ++ c ++ d)) ++ end
served head v a b c d end all same =
    ap (λ l. (head ++ v) ++ (l ++ end)) same
    ∙ append_assoc head v ((a ++ b ++ c ++ d) ++ end)
    ∙ ap (λ l. head ++ l) (sym (append_assoc v (a ++ b ++ c ++ d) end) ∙ ap (λ l. l ++ end) (four v a b c d))
    ∙ sym (append_assoc head (v ++ a ++ b ++ c ++ d) end)

module _ (line : ℕ) (config : FamilyConfig) (rs : List Restricted) where
  -- what a line begins with, piece by piece
  head_is : (a : AddressParts) → head_text line config rs a
      ≡ start_text line a ++ whence_by (is_in_cluster config a) (is_local_address config.addresses a)
      ++ flat_map within_text (map (λ r. r.port) (filter (is_within a) rs)) ++ codes ": "
  head_is a =
      three (start_text line a) (whence_by (is_in_cluster config a) (is_local_address config.addresses a))
      (flat_map within_text (map (λ r. r.port) (filter (is_within a) rs))) (codes ": ")

  -- of a kind that no door takes
  pub closing_line : (a : AddressParts) (v : Verdict) (d : Door)
      → head_text line config rs a ++ verdict_text v ++ closed_text d a
      ≡ source_text line (source_by config rs a (Closes v (cause_at d a) d))
  closing_line a v d =
      served (head_text line config rs a) (verdict_text v) (codes ", ")
      (cause_text (cause_at d a)) (codes "; ") (door_text d.kind d.info.key) (codes "\n") _
      (sym (append_assoc (codes ", " ++ cause_text (cause_at d a)) (codes "; ") (door_text d.kind d.info.key)))
      ∙ ap (λ l. l ++ (verdict_text v ++ codes ", " ++ cause_text (cause_at d a) ++ codes "; " ++ door_text d.kind d.info.key) ++ codes "\n")
      (head_is a)

  -- of a kind that a door takes
  pub opening_line : (infos : List PortInfo) (packet : Packet) (d : Door)
      → head_text line config rs packet.source
      ++ counts_text (counts_of config infos packet d (offer_of config packet d).endpoints)
      ++ offered_text d (offer_of config packet d).kind
      ≡ source_text line (source_by config rs packet.source (opens_at config infos packet d))
  opening_line infos packet d =
      let offer = offer_of config packet d in
      let counts = counts_text (counts_of config infos packet d offer.endpoints) in
      let door = door_text d.kind d.info.key in
      ap (λ l. (head_text line config rs packet.source ++ counts) ++ l)
      (sym (append_assoc (codes "; " ++ door) (codes " list " ++ list_kind_text offer.kind) (codes "\n")))
      ∙ served (head_text line config rs packet.source) counts (codes "; ") door
      (codes " list ") (list_kind_text offer.kind) (codes "\n") _
      (sym (append_assoc (codes "; " ++ door) (codes " list ") (list_kind_text offer.kind)))
      ∙ ap (λ l. l ++ (counts ++ codes "; " ++ door ++ codes " list " ++ list_kind_text offer.kind) ++ codes "\n")
      (head_is packet.source)
