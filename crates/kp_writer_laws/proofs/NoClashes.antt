-- Whether ports clash is told by the places of the chains of those that changed.
use Rattle.std.specs.Prelude.{◌↔◌}
use Rattle.std.proofs.Common.{◌≡◌, ◌⊎◌, inl, inr, Bool, true, false, true≢false, not, List, filter}
use Rattle.std.proofs.Common.{flat_map, Contains, refl, sym, ap, subst, ◌∙◌}
use Rattle.kp_lemmas.proofs.Members.{from_filter, from_flat_map, in_filter, in_flat_map}
use Rattle.kp_base.specs.declared.key.PortKey.{PortKey}
use Rattle.kp_types.specs.declared.chain.ChainKey.{ChainKey}
use Rattle.kp_object_defs.specs.PortInfo.{PortInfo}
use Rattle.kp_table_defs.specs.Keys.{own_keys}
use Rattle.kp_table_laws.proofs.ChangedPorts.{no_clash_of_changed_ports}
use Rattle.kp_table_laws.proofs.NeededKeys.{no_clash_is_own_names}
use Rattle.kp_writer_laws.specs.LocalLaws.{HaveNoClash, NoClashIsLocal, SomeHaveNoClash}
use Rattle.kp_writer_laws.specs.LocalLaws.{is_one_of}
use Rattle.kp_writer_laws.proofs.OtherPorts.{other_ports_stay}

-- the keys of some of the ports are keys of all
pub keys_of_some : (kept : PortInfo → Bool) (infos : List PortInfo) (k : ChainKey)
    → Contains (flat_map own_keys (filter kept infos)) k → Contains (flat_map own_keys infos) k
keys_of_some kept infos k c =
    let (i, ci, own) = from_flat_map own_keys k (filter kept infos) c in
    in_flat_map own_keys i k infos (from_filter kept i infos ci).0 own

pub some_have_no_clash : SomeHaveNoClash
some_have_no_clash setting infos kept none =
    let own = (no_clash_is_own_names setting.name_of infos).0 none in
    (no_clash_is_own_names setting.name_of (filter kept infos)).1 (λ k l ck cl same.
    own k l (keys_of_some kept infos k ck) (keys_of_some kept infos l cl) same)

module _ (keys : List PortKey) (infos : List PortInfo) where
  -- a port of one of the names, and one of another
  abbrev changed : PortInfo → Bool
  changed i = is_one_of keys i.key

  abbrev stays : PortInfo → Bool
  stays i = not (is_one_of keys i.key)

  split_by : (i : PortInfo) → Contains infos i → (b : Bool) → changed i ≡ b
      → Contains (filter stays infos) i ⊎ Contains (filter changed infos) i
  split_by i c true h = inr (in_filter changed i infos c h)
  split_by i c false h = inl (in_filter stays i infos c (ap not h))

  -- each port changed or stays
  pub split : (i : PortInfo)
      → Contains infos i ↔ (Contains (filter stays infos) i ⊎ Contains (filter changed infos) i)
  split i = (
    (λ c. split_by i c (changed i) refl),
    (λ e. elim e [
      | inl c ↦ (from_filter stays i infos c).0
      | inr c ↦ (from_filter changed i infos c).0
    ]),
  )

  -- and not both
  pub differ : (i j : PortInfo) → Contains (filter stays infos) i
      → Contains (filter changed infos) j → i.key ≡ j.key → ⊥
  differ i j ci cj same =
      true≢false (sym (from_filter stays i infos ci).1
      ∙ ap (λ key. not (is_one_of keys key)) same ∙ ap not (from_filter changed j infos cj).1)

pub no_clash_is_local : NoClashIsLocal
no_clash_is_local setting before after keys ordered ordered_after same none =
    no_clash_of_changed_ports setting after (filter (stays keys after) after)
    (filter (changed keys after) after) (split keys after) (differ keys after)
    (subst (HaveNoClash setting)
    (other_ports_stay before after keys ordered ordered_after same)
    (some_have_no_clash setting before (stays keys before) none))
