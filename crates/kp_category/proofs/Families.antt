-- The lists of a port whose endpoints are of one family are those in this family.
use Rattle.std.proofs.Common.{◌≡◌, ℕ, Bool, true, false, ◌&&◌, ◌||◌, not, List, [], ◌∷◌, Option, Some, None, refl, ap}
use Rattle.std.specs.List.{list_all}
use Rattle.std.proofs.lemmas.Bool.{and_parts}
use Rattle.kp_base.proofs.SameParts.{same_family_exact}
use Rattle.kp_base.specs.declared.address.Family.{Family}
use Rattle.kp_base.specs.declared.address.Family.TheVariants.{V4}
use Rattle.kp_base.specs.declared.key.Endpoint.{Endpoint}
use Rattle.kp_types.specs.declared.service.Service.{Service}
use Rattle.kp_types.specs.declared.service.ServicePort.{ServicePort}
use Rattle.kp_types.specs.declared.service.Policy.{Policy}
use Rattle.kp_types.specs.declared.lists.Candidate.{Candidate}
use Rattle.kp_object_defs.specs.Lists.{lists_from, used, is_local_policy}
use Rattle.kp_object_defs.specs.Entries.{family_among, is_of_family}
use Rattle.kp_object_defs.specs.PortInfo.{lists_of, is_reachable_in}

-- without endpoints a list is empty, used or not
unused : (b c : Bool) → ◌≡◌ {A = List Endpoint} (used b []) (used c [])
unused true true = refl
unused true false = refl
unused false true = refl
unused false false = refl

-- without endpoints it doesn't matter how a port is reached
no_endpoints : (internal outer : Policy) (b c : Bool) (zone : Option (List ℕ)) → lists_from internal outer b zone [] ≡ lists_from internal outer c zone []
no_endpoints internal outer b c None =
    λ i. record { cluster = unused (not (is_local_policy internal) || b) (not (is_local_policy internal) || c) i; local = unused (is_local_policy internal || (b && is_local_policy outer)) (is_local_policy internal || (c && is_local_policy outer)) i; has_any = false }
no_endpoints internal outer b c (Some zone) =
    λ i. record { cluster = unused (not (is_local_policy internal) || b) (not (is_local_policy internal) || c) i; local = unused (is_local_policy internal || (b && is_local_policy outer)) (is_local_policy internal || (c && is_local_policy outer)) i; has_any = false }

pub in_one_family : (family : Family) (s : Service) (p : ServicePort) (zone : Option (List ℕ)) (cs : List Candidate) → list_all (is_of_family family) cs ≡ true → lists_of (family_among cs) s p zone cs ≡ lists_of family s p zone cs
in_one_family family s p zone [] h = no_endpoints s.internal s.outer (is_reachable_in V4 s p) (is_reachable_in family s p) zone
in_one_family family s p zone (c ∷ cs) h =
    ap (λ f. lists_of f s p zone (c ∷ cs)) (same_family_exact c.endpoint.address.family family (and_parts (is_of_family family c) (list_all (is_of_family family) cs) h).0)
