-- Addresses that are counted one after the other are those of the endpoints that count, once each.
use Rattle.std.proofs.Common.{◌≡◌, Bool, true, false, cond, List, [], ◌∷◌, ◌++◌, map, length, filter, flat_map, refl, sym, ap, ◌∙◌}
use Rattle.std.specs.BTreeSet.{insert_key}
use Rattle.std.specs.List.{fold}
use Rattle.std.proofs.lemmas.List.{append-nil, append_assoc, length-map}
use Rattle.std.proofs.lemmas.List.Sums.{fold-append}
use Rattle.kp_lemmas.proofs.Entries.{put_keys}
use Rattle.kp_base.specs.Keys.{address_cmp}
use Rattle.kp_base.specs.Net.{AddressParts}
use Rattle.kp_base.specs.declared.address.Family.{Family}
use Rattle.kp_types.specs.declared.lists.Candidate.{Candidate}
use Rattle.kp_object_defs.specs.Order.{by_key}
use Rattle.kp_object_defs.proofs.InOrder.{by_key-push}
use Rattle.kp_health_defs.specs.HealthPorts.{counting, counts_in, local_count}
use Rattle.kp_health.specs.Counted.{counted_all, counted_with}

-- the address of an endpoint
abbrev address_at : Candidate → AddressParts
address_at c = c.endpoint.address

-- the addresses of endpoints, once each
abbrev addresses : List Candidate → List AddressParts
addresses cs = map (λ e. e.0) (by_key address_cmp address_at cs)

module _ (families : List Family) where
  -- ports after each other are their endpoints after each other
  by_port : (per_port : List (List Candidate)) (before : List AddressParts)
      → fold (counted_all families) before per_port
      ≡ fold (counted_with families) before (flat_map (λ cs. cs) per_port)
  by_port [] before = refl
  by_port (cs ∷ per_port) before =
      by_port per_port (counted_all families before cs)
      ∙ sym (fold-append (counted_with families) before cs (flat_map (λ cs. cs) per_port))

  -- endpoints behind others
  one_by_one : (cs before : List Candidate)
      → fold (counted_with families) (addresses before) cs
      ≡ addresses (before ++ filter (counts_in families) cs)
  one_by_one [] before = ap addresses (sym (append-nil before))
  one_by_one (c ∷ cs) before =
      by (counts_in families c) (one_by_one cs before) (one_by_one cs (before ++ c ∷ []))
    where
      by : (b : Bool)
          → fold (counted_with families) (addresses before) cs
          ≡ addresses (before ++ filter (counts_in families) cs)
          → fold (counted_with families) (addresses (before ++ c ∷ [])) cs
          ≡ addresses ((before ++ c ∷ []) ++ filter (counts_in families) cs)
          → fold (counted_with families)
          (cond b (insert_key address_cmp (addresses before) (address_at c)) (addresses before)) cs
          ≡ addresses (before ++ cond b (c ∷ filter (counts_in families) cs)
          (filter (counts_in families) cs))
      by true skipped taken =
          ap (λ found. fold (counted_with families) found cs)
          (sym (put_keys address_cmp (address_at c) c (by_key address_cmp address_at before))
          ∙ ap (map (λ e. e.0)) (sym (by_key-push address_cmp address_at before c)))
          ∙ taken
          ∙ ap addresses (append_assoc before (c ∷ []) (filter (counts_in families) cs))
      by false skipped taken = skipped

  -- how many there are
  pub counted : (per_port : List (List Candidate))
      → length (fold (counted_all families) [] per_port) ≡ local_count families per_port
  counted per_port =
      ap length (by_port per_port []
      ∙ one_by_one (flat_map (λ cs. cs) per_port) [])
      ∙ length-map (by_key address_cmp address_at (counting families per_port)) (λ e. e.0)
