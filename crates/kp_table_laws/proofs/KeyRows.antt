-- The chain that stands under the name of a port's key has that key's rules, where no two chains that are
-- needed have one name.
use Rattle.std.proofs.Common.{◌≡◌, suc, zero, Bool, true, false, cond, List, [], ◌∷◌, Contains, Option, Some, None, flat_map, refl, sym, ap, ap₂, ◌∙◌, arith, true≢false, le_of_suc-le-suc}
use Rattle.std.specs.FinMap.{find}
use Rattle.std.specs.Ordering.{eq_by_cmp}
use Rattle.kp_lemmas.proofs.Members.{first_in, later_in, in_map, from_map, in_flat_map, from_flat_map}
use Rattle.kp_lemmas.proofs.Orders.{equal_from_test, tie_of_itself}
use Rattle.kp_types.specs.Places.{chain_cmp}
use Rattle.kp_types.specs.Setting.{Setting}
use Rattle.kp_types.specs.declared.chain.ChainAt.{ChainAt}
use Rattle.kp_types.specs.declared.chain.ChainKey.{ChainKey}
use Rattle.kp_types.specs.declared.rule.Rule.{Rule}
use Rattle.kp_types.proofs.ChainOrder.{chain_total, chain_exact}
use Rattle.kp_choice_defs.specs.Names.{first_clash}
use Rattle.kp_object_defs.specs.PortInfo.{PortInfo}
use Rattle.kp_table_defs.specs.Keys.{own_keys}
use Rattle.kp_table_defs.specs.Layout.{place_of_key, port_rows, row_of_key, rules_of_key}
use Rattle.kp_table_defs.specs.Rebuild.{needed_keys}
use Rattle.kp_table_laws.specs.Laws.{HaveOwnKeys, OwnChainsAreFound}
use Rattle.kp_table_laws.proofs.NeededKeys.{key_port, own_needed, port_of}
use Rattle.kp_table_laws.proofs.NoClash.{one_of_name}

-- a row is for a place
abbrev pub Row : Type 0
Row = ChainAt × List Rule

-- ---- Rows of one place

-- a row behind the first, which is for another place
behind_other : (q : ChainAt) (rules : List Rule) (r : Row) (rows : List Row)
    → eq_by_cmp chain_cmp q r.0 ≡ false → Contains (r ∷ rows) (q, rules) → Contains rows (q, rules)
behind_other q rules r rows other (zero, l, e) =
    absurd (true≢false (sym (tie_of_itself chain_total q)
    ∙ ap (λ (s : Row). eq_by_cmp chain_cmp q s.0) (sym e) ∙ other))
behind_other q rules r rows other (suc k, l, e) = (k, le_of_suc-le-suc l, e)

agreed_by : (q : ChainAt) (rules : List Rule) (r : Row) (found : Option (List Rule))
    → (r.0 ≡ q → r.1 ≡ rules) → (b : Bool) → eq_by_cmp chain_cmp q r.0 ≡ b
    → (b ≡ false → found ≡ Some rules) → cond b (Some r.1) found ≡ Some rules
agreed_by q rules r found here true t later =
    ap (λ rs. Some rs) (here (sym (chain_exact q r.0 (equal_from_test _ t))))
agreed_by q rules r found here false t later = later refl

-- where all rows of a place have the same rules, a look-up finds these
agreed : (q : ChainAt) (rules : List Rule) (rows : List Row) → Contains rows (q, rules)
    → ((r : Row) → Contains rows r → r.0 ≡ q → r.1 ≡ rules) → find chain_cmp q rows ≡ Some rules
agreed q rules [] (k, l, e) h = absurd (omega arith)
agreed q rules (r ∷ rows) stands h =
    agreed_by q rules r _ (h r (first_in r rows)) _ refl
    (λ other. agreed q rules rows (behind_other q rules r rows other stands)
    (λ s c. h s (later_in s r rows c)))

-- ---- Rows of ports

-- each row of a port is that of a key
pub row_key : (setting : Setting) (infos : List PortInfo) (r : Row)
    → Contains (flat_map (port_rows setting) infos) r
    → (i : PortInfo) × Contains infos i
    × ((k : ChainKey) × Contains (own_keys i) k × (row_of_key setting i k ≡ r))
row_key setting infos r c =
    let (i, ci, in_its) = from_flat_map (port_rows setting) r infos c in
    (i, ci, from_map (row_of_key setting i) r (own_keys i) in_its)

-- the row of each key stands among the rows
pub row_stands : (setting : Setting) (infos : List PortInfo) (i : PortInfo) → Contains infos i
    → (k : ChainKey) → Contains (own_keys i) k
    → Contains (flat_map (port_rows setting) infos) (row_of_key setting i k)
row_stands setting infos i ci k ck =
    in_flat_map (port_rows setting) i _ infos ci (in_map (row_of_key setting i) k (own_keys i) ck)

module _ (setting : Setting) (infos : List PortInfo) (own : HaveOwnKeys infos)
    (apart : first_clash setting.name_of (needed_keys infos) ≡ None) where
  -- all rows of a key's place have its rules
  key_agrees : (i : PortInfo) → Contains infos i → (k : ChainKey) → Contains (own_keys i) k
      → (r : Row) → Contains (flat_map (port_rows setting) infos) r
      → r.0 ≡ place_of_key setting k → r.1 ≡ rules_of_key setting i k
  key_agrees i ci k ck r c same =
      let (j, cj, (l, cl, is)) = row_key setting infos r c in
      let needed : (p : PortInfo) → Contains infos p → (m : ChainKey) → Contains (own_keys p) m
      → Contains (needed_keys infos) m = λ p cp m cm.
      own_needed infos m (in_flat_map own_keys p m infos cp cm) in
      let one : l ≡ k = one_of_name setting.name_of _ apart l k (needed j cj l cl)
      (needed i ci k ck) (ap (λ (s : Row). s.0.chain) is ∙ ap (λ (q : ChainAt). q.chain) same) in
      let port : j ≡ i =
      own j i cj ci (sym (key_port j l cl) ∙ ap port_of one ∙ key_port i k ck) in
      ap (λ (s : Row). s.1) (sym is) ∙ ap₂ (λ p m. rules_of_key setting p m) port one

pub own_chains_are_found : OwnChainsAreFound
own_chains_are_found setting infos own apart i ci k ck =
    agreed _ _ _ (row_stands setting infos i ci k ck)
    (key_agrees setting infos own apart i ci k ck)
