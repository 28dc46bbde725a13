-- How many ports the first Services have, one more Service at a time.
use Rattle.std.proofs.Common.{◌≡◌, ℕ, ◌+◌, ◌<◌, ◌≤◌, List, [], ◌∷◌, ◌++◌, map, take, length, get_or, sym, ap, subst, ◌∙◌, Bor}
use Rattle.std.proofs.lemmas.List.{map-append, take-map, take_more}
use Rattle.std.proofs.lemmas.List.Sums.{sum_by_push, sum_by-take-le}
use Rattle.kp_types.specs.declared.service.Service.{Service}
use Rattle.kp_known_ports.specs.Known.{port_count, ports_in}

-- the ports of the first Services
abbrev pub first_count : List (Bor Service) → ℕ → ℕ
first_count services i = port_count (map (λ s. s.now) (take i services))

-- one more Service adds its ports
pub next_count :
    (services : List (Bor Service)) (i : ℕ) (s : Bor Service) → i < length services
    → s ≡ get_or services i s → first_count services (i + 1) ≡ first_count services i + length s.now.ports
next_count services i s lt at =
    ap (λ (ss : List (Bor Service)). port_count (map (λ t. t.now) ss))
    (take_more services i s lt ∙ ap (λ t. take i services ++ t ∷ []) (sym at))
    ∙ ap port_count (map-append (λ (t : Bor Service). t.now) (take i services) (s ∷ []))
    ∙ sum_by_push ports_in (map (λ t. t.now) (take i services)) s.now

-- the first Services have at most the ports of all
pub some_count : (services : List (Bor Service)) (i : ℕ) → first_count services i ≤ port_count (map (λ s. s.now) services)
some_count services i =
    subst (λ ss. port_count ss ≤ port_count (map (λ s. s.now) services)) (take-map (λ (s : Bor Service). s.now) i services)
    (sum_by-take-le ports_in (map (λ s. s.now) services) i)
