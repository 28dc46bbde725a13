-- The contributions of ports make the full table.
use Rattle.std.proofs.Common.{◌≡◌, List, [], ◌∷◌, ◌++◌, map, refl, sym, ap, ◌∙◌}
use Rattle.std.specs.List.{flat_map}
use Rattle.std.specs.FinMap.{find, entries, values, from_entries, get, get-from_entries, same_map}
use Rattle.kp_lemmas.proofs.Booleans.{fact_from_true}
use Rattle.kp_base.specs.Keys.{port_key_cmp}
use Rattle.kp_base.proofs.KeyOrder.{port_key_total, port_key_exact}
use Rattle.kp_types.specs.Places.{chain_cmp}
use Rattle.kp_types.specs.Setting.{Setting, config_of_family, view_of}
use Rattle.kp_types.specs.declared.chain.ChainAt.{ChainAt}
use Rattle.kp_types.specs.declared.rule.Rule.{Rule}
use Rattle.kp_types.proofs.ChainOrder.{chain_total, chain_exact}
use Rattle.kp_object_defs.specs.PortInfo.{PortInfo, infos_by_family}
use Rattle.kp_table_defs.specs.Layout.{nat_rows, nat_rows_with, filter_rows, filter_rows_with, port_rows, rows_of}
use Rattle.kp_table_defs.specs.Parts.{rules_of_port, rules_by_port, rows_of_ports}
use Rattle.kp_table_laws.specs.Families.{PortsMakeTheTables, PortsOfObjectsMakeTheTable}
use Rattle.kp_table_laws.specs.Laws.{AreInOrder, PortsMakeTheTable}
use Rattle.kp_table_laws.proofs.Found.{found_in_each, found_before, found_in_map, sorted_entries, sorted_keys}
use Rattle.kp_table_laws.proofs.PortOrder.{ports_are_in_order}

-- what is joined of mapped elements is joined of the elements
joined : {A B C : Type 0} (f : A → B) (g : B → List C) (xs : List A) → flat_map g (map f xs) ≡ flat_map (λ a. g (f a)) xs
joined f g [] = refl
joined f g (a ∷ xs) = ap (λ rest. g (f a) ++ rest) (joined f g xs)

-- the second of each pair
seconds : {A B C : Type 0} (f : A → B) (g : A → C) (xs : List A) → map (λ (e : B × C). e.1) (map (λ a. (f a, g a)) xs) ≡ map g xs
seconds f g [] = refl
seconds f g (a ∷ xs) = ap (λ rest. g a ∷ rest) (seconds f g xs)

-- the contributions of ports in order, one a port
contributions : (setting : Setting) (infos : List PortInfo) → AreInOrder infos → values (rules_by_port setting infos) ≡ map (rules_of_port setting) infos
contributions setting infos ordered =
    ap (map (λ e. e.1)) (sorted_entries port_key_cmp port_key_total port_key_exact (map (λ i. (i.key, rules_of_port setting i)) infos)
    (fact_from_true (sym (sorted_keys port_key_cmp (λ i. i.key) (λ i. i) (rules_of_port setting) infos) ∙ ordered)))
    ∙ seconds (λ i. i.key) (rules_of_port setting) infos

-- the chains of the contributions: the shared ones are those of the layout, and the ports' own stand by name
shared : (setting : Setting) (infos : List PortInfo) → rows_of_ports setting.family (map (rules_of_port setting) infos) ≡ nat_rows setting infos
    ++ filter_rows setting.family infos ++ flat_map (λ i. entries (from_entries {R = chain_cmp} (port_rows setting i))) infos
shared setting infos i =
    nat_rows_with setting.family
    (joined (rules_of_port setting) (λ p. p.node_ports) infos i) (joined (rules_of_port setting) (λ p. p.services) infos i)
    ++ filter_rows_with setting.family
    (joined (rules_of_port setting) (λ p. p.firewall) infos i) (joined (rules_of_port setting) (λ p. p.external) infos i)
    (joined (rules_of_port setting) (λ p. p.refusals) infos i)
    ++ joined (rules_of_port setting) (λ p. entries p.chains) infos i

-- a chain is found among the contributions with the rules of the layout
found : (setting : Setting) (infos : List PortInfo) (q : ChainAt) → find chain_cmp q (nat_rows setting infos ++ filter_rows setting.family infos ++ flat_map (λ i. entries (from_entries {R = chain_cmp} (port_rows setting i))) infos) ≡ find chain_cmp q (rows_of setting infos)
found setting infos q =
    let own = flat_map (λ i. entries (from_entries {R = chain_cmp} (port_rows setting i))) infos in
    let laid = flat_map (port_rows setting) infos in
    found_before chain_cmp q (nat_rows setting infos) (filter_rows setting.family infos ++ own) (filter_rows setting.family infos ++ laid)
    (found_before chain_cmp q (filter_rows setting.family infos) own laid
    (found_in_each chain_cmp (λ i. entries (from_entries {R = chain_cmp} (port_rows setting i))) (port_rows setting) q
    (λ i. found_in_map chain_cmp chain_total q (port_rows setting i)) infos))

pub ports_make_the_table : PortsMakeTheTable
ports_make_the_table setting infos ordered =
    let own = flat_map (λ i. entries (from_entries {R = chain_cmp} (port_rows setting i))) infos in
    let joined_rows = nat_rows setting infos ++ filter_rows setting.family infos ++ own in
    ap (λ ports. from_entries {R = chain_cmp} (rows_of_ports setting.family ports)) (contributions setting infos ordered)
    ∙ ap (from_entries {R = chain_cmp}) (shared setting infos)
    ∙ same_map chain_total chain_exact (from_entries {R = chain_cmp} joined_rows) (from_entries {R = chain_cmp} (rows_of setting infos))
    (λ q. get-from_entries chain_total joined_rows q ∙ found setting infos q ∙ sym (get-from_entries chain_total (rows_of setting infos) q))

-- rows that are joined of others make the map that those make
parts_make_one : {A : Type 0} (f g : A → List (ChainAt × List Rule))
    → ((a : A) → from_entries {R = chain_cmp} (f a) ≡ from_entries {R = chain_cmp} (g a))
    → (xs : List A)
    → from_entries {R = chain_cmp} (flat_map f xs) ≡ from_entries {R = chain_cmp} (flat_map g xs)
parts_make_one f g same xs =
    same_map chain_total chain_exact _ _ (λ q.
    get-from_entries chain_total (flat_map f xs) q
    ∙ found_in_each chain_cmp f g q (λ a. sym (get-from_entries chain_total (f a) q)
    ∙ ap (λ chains. get chains q) (same a) ∙ get-from_entries chain_total (g a) q) xs
    ∙ sym (get-from_entries chain_total (flat_map g xs) q))

pub ports_make_the_tables : PortsMakeTheTables
ports_make_the_tables settings infos ordered =
    parts_make_one
    (λ family. rows_of_ports family
    (values (rules_by_port (view_of family settings) (infos family))))
    (λ family. rows_of (view_of family settings) (infos family))
    (λ family. ports_make_the_table (view_of family settings) (infos family) (ordered family))
    settings.families

pub ports_of_objects_make_the_table : PortsOfObjectsMakeTheTable
ports_of_objects_make_the_table settings o =
    ports_make_the_tables settings (infos_by_family settings o)
    (λ family. ports_are_in_order family (config_of_family family settings.config) o)
