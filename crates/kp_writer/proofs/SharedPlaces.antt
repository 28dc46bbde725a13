-- What stands at a place once the shared chains are joined.
use Rattle.std.proofs.Common.{◌≡◌, ◌||◌, ◌⊎◌, inl, inr, ℕ, Bool, true, false, cond, not, List}
use Rattle.std.proofs.Common.{[], ◌∷◌, Contains, Some, is_some, refl, sym, ap}
use Rattle.std.proofs.Common.{drop, true≢false, ◌∙◌}
use Rattle.std.specs.List.{AllByRecursion, fold}
use Rattle.std.specs.Ordering.{eq_by_cmp}
use Rattle.std.specs.FinMap.{find, get, get-from_entries, get-insert}
use Rattle.std.proofs.lemmas.Bool.{or_parts}
use Rattle.kp_lemmas.proofs.Members.{in_cases, none_in}
use Rattle.kp_lemmas.proofs.Orders.{one_from_tie, tie_of_itself}
use Rattle.kp_base.specs.declared.address.Family.{Family}
use Rattle.kp_base.specs.declared.address.Family.TheVariants.{V4, V6}
use Rattle.kp_types.specs.Places.{chain_cmp, family_of_table}
use Rattle.kp_types.specs.Setting.{Setting}
use Rattle.kp_types.specs.declared.chain.ChainAt.{ChainAt}
use Rattle.kp_types.specs.declared.chain.TableName.{TableName}
use Rattle.kp_types.specs.declared.rule.Rule.{Rule}
use Rattle.kp_types.proofs.ChainOrder.{chain_total, chain_exact}
use Rattle.kp_table_defs.specs.Edits.{same_rules}
use Rattle.kp_rules.proofs.ChangesLead.{same_rules_exact}
use Rattle.kp_chains.specs.declared.blocks.Blocks.{Blocks}
use Rattle.kp_blocks.specs.Joined.{BlocksByPort, fixed_chains, joined_rules}
use Rattle.kp_writer_laws.specs.LocalLaws.{fixed_rows}
use Rattle.kp_writer.specs.Next.{NextParts}
use Rattle.kp_writer.specs.Shared.{Change, blocks_if, differ, external, firewall, join_if}
use Rattle.kp_writer.specs.Shared.{node_ports, refusals, services, touch_by, with_shared}
use Rattle.kp_writer.specs.declared.shared.Touched.{Touched}

-- ---- Which chains are touched

-- a chain that isn't touched has the same rules of each port
module _ (setting : Setting) (flag : Touched → Bool) (rules : Blocks → List Rule)
    (tells : (t : Touched) (c : Change) → flag (touch_by setting t c) ≡ (flag t || differ (rules
    (blocks_if setting c.0)) (rules (blocks_if setting c.1)))) where
  same_from : (a b : List Rule) → differ a b ≡ false → a ≡ b
  same_from a b h = (same_rules_exact a b).0 (not_false (same_rules a b) h)
    where
      not_false : (t : Bool) → not t ≡ false → t ≡ true
      not_false true n = refl
      not_false false n = sym n

  pub untouched_by : (t : Touched) (cs : List Change) → flag (fold (touch_by setting) t cs) ≡ false
      → (flag t ≡ false) × ((c : Change) → Contains cs c → rules (blocks_if setting c.0) ≡ rules
      (blocks_if setting c.1))
  untouched_by t [] h = (h, (λ c in_none. absurd (none_in c in_none)))
  untouched_by t (d ∷ cs) h =
      let (first, rest) = untouched_by (touch_by setting t d) cs h in
      let parts = or_parts (flag t) (differ (rules (blocks_if setting d.0)) (rules (blocks_if
      setting d.1))) (sym (tells t d) ∙ first) in (
        parts.0,
        (λ c within. elim (in_cases c d cs within) [
          | inl e ↦ ap (λ (b : Change). rules (blocks_if setting b.0)) (sym e)
              ∙ same_from _ _ parts.1 ∙ ap (λ (b : Change). rules (blocks_if setting b.1)) e
          | inr later ↦ rest c later
        ]),
      )

-- ---- What stands where shared chains are joined

-- a chain that is joined in a table of a family is one of the family's
pub join_at : (family : Family) (blocks : BlocksByPort) {table own : TableName} → table ≡ own
    → family_of_table own ≡ family → (n m : NextParts) (touched : Bool) (chain : List ℕ)
    → m ≡ join_if (family_of_table table) blocks n touched (record { table = table; chain = chain })
    → m ≡ join_if family blocks n touched (record { table = own; chain = chain })
join_at family blocks same of n m touched chain is =
    is
    ∙ (λ i. join_if ((ap family_of_table same ∙ of) i) blocks n touched
    (record { table = same i; chain = chain }))

module _ (family : Family) (blocks : BlocksByPort) where
  -- a chain that is joined, or what stood there, where it isn't the chain or that isn't touched
  abbrev pub JoinedOr : NextParts → NextParts → Bool → ChainAt → ChainAt → Type 0
  JoinedOr n m b at q =
      ((q ≡ at) × (get m.places q ≡ Some (Some (joined_rules family blocks q))))
      ⊎ ((q ≡ at → b ≡ false) × (get m.places q ≡ get n.places q))

  joined_by : (n : NextParts) (at q : ChainAt) (t : Bool) → eq_by_cmp chain_cmp q at ≡ t
      → JoinedOr n (join_if family blocks n true at) true at q
  joined_by n at q true tie =
      let same = one_from_tie chain_exact q at tie in
      inl (
        same,
        get-insert chain_total n.places at (Some (joined_rules family blocks at)) q
            ∙ ap (λ b. cond b (Some (Some (joined_rules family blocks at))) (get n.places q)) tie
            ∙ ap (λ p. Some (Some (joined_rules family blocks p))) (sym same),
      )
  joined_by n at q false tie =
      inr (
        (λ same. absurd (other same)),
        get-insert chain_total n.places at (Some (joined_rules family blocks at)) q
            ∙ ap (λ b. cond b (Some (Some (joined_rules family blocks at))) (get n.places q)) tie,
      )
    where
      other : q ≡ at → ⊥
      other same =
          true≢false (sym (tie_of_itself chain_total at) ∙ ap (λ p. eq_by_cmp chain_cmp p at) (sym
          same) ∙ tie)

  pub found_joined : (n : NextParts) (b : Bool) (at q : ChainAt)
      → JoinedOr n (join_if family blocks n b at) b at q
  found_joined n true at q = joined_by n at q (eq_by_cmp chain_cmp q at) refl
  found_joined n false at q = inr ((λ same. refl), refl)

-- ---- All shared chains

-- a place is that of a fixed chain of a family's tables
abbrev pub IsFixed : Family → ChainAt → Type 0
IsFixed family at =
    (family_of_table at.table ≡ family) × (is_some (get (fixed_chains family) at) ≡ true)

fixed_by : (family : Family) (at : ChainAt) → family_of_table at.table ≡ family
    → is_some (find chain_cmp at (fixed_rows family)) ≡ true → IsFixed family at
fixed_by family at of h = (of, ap is_some (get-from_entries chain_total (fixed_rows family) at) ∙ h)

-- the shared chains are fixed ones, the last first
all_fixed : (f : Family)
    → IsFixed f (refusals f) × IsFixed f (external f) × IsFixed f (firewall f)
    × IsFixed f (node_ports f) × IsFixed f (services f)
all_fixed V4 =
    let one = fixed_by V4 in
    (one _ refl refl, one _ refl refl, one _ refl refl, one _ refl refl, one _ refl refl)
all_fixed V6 =
    let one = fixed_by V6 in
    (one _ refl refl, one _ refl refl, one _ refl refl, one _ refl refl, one _ refl refl)

-- the shared chains, the last first, with whether each is touched
abbrev pub shared_flags : Family → Touched → List (ChainAt × Bool)
shared_flags family t =
    (refusals family, t.refusals)
    ∷ (external family, t.external)
    ∷ (firewall family, t.firewall)
    ∷ (node_ports family, t.node_ports)
    ∷ (services family, t.services) ∷ []

module _ (family : Family) (blocks : BlocksByPort) (start : NextParts) where
  -- a shared chain that was joined, or what stood before, where the place isn't one of those that
  -- were joined so far, or that wasn't touched
  abbrev pub Joins : NextParts → List (ChainAt × Bool) → ChainAt → Type 0
  Joins m done q =
      ((is_some (get (fixed_chains family) q) ≡ true)
      × (get m.places q ≡ Some (Some (joined_rules family blocks q))))
      ⊎ (AllByRecursion (λ d. q ≡ d.0 → d.1 ≡ false) done × (get m.places q ≡ get start.places q))

  one_more : (n : NextParts) (done : List (ChainAt × Bool)) (b : Bool) (at q : ChainAt)
      → IsFixed family at → Joins n done q
      → Joins (join_if family blocks n b at) ((at, b) ∷ done) q
  one_more n done b at q fixed so =
      elim (found_joined family blocks n b at q) [
        | inl h ↦ inl (ap (λ p. is_some (get (fixed_chains family) p)) h.0 ∙ fixed.1, h.1)
        | inr h ↦ elim so [
          | inl s ↦ inl (s.0, h.1 ∙ s.1)
          | inr s ↦ inr ((h.0, s.0), h.1 ∙ s.1)
        ]
      ]

  pub found_shared : (t : Touched) (q : ChainAt)
      → Joins (with_shared family blocks t start) (shared_flags family t) q
  found_shared t q =
      let flags = shared_flags family t in
      one_more _ (drop 1 flags) t.refusals _ q (all_fixed family).0
      (one_more _ (drop 2 flags) t.external _ q (all_fixed family).1
      (one_more _ (drop 3 flags) t.firewall _ q (all_fixed family).2
      (one_more _ (drop 4 flags) t.node_ports _ q (all_fixed family).3
      (one_more start [] t.services _ q (all_fixed family).4 (inr (tt, refl))))))

  -- what each join of a fixed chain leaves, all leave
  pub through_joins : (P : NextParts → Type 0)
      → ((n : NextParts) (b : Bool) (at : ChainAt) → IsFixed family at → P n
      → P (join_if family blocks n b at))
      → (t : Touched) → P start → P (with_shared family blocks t start)
  through_joins P one t h =
      one _ t.refusals (refusals family) (all_fixed family).0
      (one _ t.external (external family) (all_fixed family).1
      (one _ t.firewall (firewall family) (all_fixed family).2
      (one _ t.node_ports (node_ports family) (all_fixed family).3
      (one start t.services (services family) (all_fixed family).4 h))))

  still_free : (n : NextParts) (b : Bool) (at : ChainAt)
      → (join_if family blocks n b at).free ≡ n.free
  still_free n true at = refl
  still_free n false at = refl

  -- so they leave whether each port's chain found its place free
  pub shared_free : (t : Touched) → (with_shared family blocks t start).free ≡ start.free
  shared_free t =
      through_joins (λ n. n.free ≡ start.free) (λ n b at fixed h. still_free n b at ∙ h) t refl
