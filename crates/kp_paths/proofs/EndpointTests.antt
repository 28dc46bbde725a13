-- The test of an endpoint goes both ways.
use Rattle.std.proofs.Common.{◌≡◌, ℕ, Bool, true, false, ◌&&◌, ◌==◌, List, refl, sym, ◌∙◌, arith}
use Rattle.std.specs.List.{list_any}
use Rattle.std.proofs.lemmas.Bool.Decides.{nat_tests}
use Rattle.kp_base.specs.Net.{same_address}
use Rattle.kp_base.specs.declared.key.Endpoint.{Endpoint}
use Rattle.kp_recent.proofs.Sources.{same_swap}
use Rattle.kp_table_defs.specs.Keys as keys
use Rattle.kp_path_defs.specs.Asides.{has_endpoint, same_endpoint}

ports_by : (m n : ℕ) (b : Bool) → (m == n) ≡ b → (m == n) ≡ (n == m)
ports_by m n true h = h ∙ sym (let same : (n == m) ≡ true = grind (arith, nat_tests) in same)
ports_by m n false h = h ∙ sym (let other : (n == m) ≡ false = grind (arith, nat_tests) in other)

swapped : (f e : Endpoint)
    → (same_address f.address e.address && (f.port == e.port)) ≡ same_endpoint e f
swapped f e =
    λ i. same_swap f.address e.address i && ports_by f.port e.port (f.port == e.port) refl i

-- a list has an endpoint, either way
pub either_way : (es : List Endpoint) (e : Endpoint) → keys.has_endpoint es e ≡ has_endpoint es e
either_way es e = λ i. list_any (λ f. swapped f e i) es
