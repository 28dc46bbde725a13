-- Counts of the rules of ports, one port after another.
use Rattle.std.proofs.Common.{not, ◌≡◌, ◌+◌, arith, List, [], ◌∷◌, ◌++◌, flat_map, append-nil, ap}
use Rattle.std.proofs.Common.{sym, ◌∙◌}
use Rattle.std.specs.FinMap.{get}
use Rattle.std.proofs.lemmas.List.Concat.{flat_map-append}
use Rattle.std.proofs.lemmas.List.Elements.{filter-append}
use Rattle.kp_types.specs.Setting.{Setting}
use Rattle.kp_object_defs.specs.PortInfo.{PortInfo}
use Rattle.kp_table_defs.specs.Layout.{port_rows}
use Rattle.kp_chains.specs.Rows.{rule_count}
use Rattle.kp_chains.proofs.Counts.{count-append}
use Rattle.kp_writer.specs.Own.{own_rule_count}
use Rattle.kp_writer.specs.Old.{is_known, unwritten}
use Rattle.kp_writer.specs.Shared.{shared_rule_count}
use Rattle.kp_writer.specs.Written.{Ports, WriterParts, setting_in, with_newest}

-- the rules of ports' own chains
pub own_parts : (setting : Setting) (is js : List PortInfo)
    → own_rule_count setting (is ++ js)
    ≡ own_rule_count setting is + own_rule_count setting js
own_parts setting is js =
    ap rule_count (flat_map-append (port_rows setting) is js)
    ∙ count-append (flat_map (port_rows setting) is) (flat_map (port_rows setting) js)

pub own_one : (setting : Setting) (i : PortInfo)
    → own_rule_count setting (i ∷ []) ≡ rule_count (port_rows setting i)
own_one setting i = ap rule_count (append-nil (port_rows setting i))

-- those that ports have in the shared chains
pub shared_parts : (setting : Setting) (is js : List PortInfo)
    → shared_rule_count setting (is ++ js)
    ≡ shared_rule_count setting is + shared_rule_count setting js
shared_parts setting [] js = omega arith
shared_parts setting (i ∷ is) js = omega (arith, shared_parts setting is js)

-- those of which something else was written
pub unwritten_parts : (setting : Setting) (written : Ports) (is js : List PortInfo)
    → shared_rule_count setting (unwritten written (is ++ js))
    ≡ shared_rule_count setting (unwritten written is)
    + shared_rule_count setting (unwritten written js)
unwritten_parts setting written is js =
    ap (shared_rule_count setting) (filter-append (λ i. not (is_known (get written i.key) i)) is js)
    ∙ shared_parts setting (unwritten written is) (unwritten written js)

-- of a port and those before it, by a writer that knows others of its newest ports
pub put_count : (v w : WriterParts) {m : Ports} → v ≡ with_newest w m → (old new : List PortInfo)
    → (i : PortInfo) → old ≡ new ++ i ∷ []
    → shared_rule_count (setting_in w) (unwritten w.written old)
    ≡ shared_rule_count (setting_in w) (unwritten w.written new)
    + shared_rule_count (setting_in v) (unwritten v.written (i ∷ []))
put_count v w value old new i is =
    ap (λ is. shared_rule_count (setting_in w) (unwritten w.written is)) is
    ∙ unwritten_parts (setting_in w) w.written new (i ∷ [])
    ∙ ap (λ u. shared_rule_count (setting_in w) (unwritten w.written new)
    + shared_rule_count (setting_in u) (unwritten u.written (i ∷ []))) (sym value)
