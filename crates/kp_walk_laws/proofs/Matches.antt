-- Matches that change nothing: together they are the conjunction of their tests.
use Rattle.std.proofs.Common.{◌≡◌, ℕ, ◌==◌, Bool, true, false, ◌&&◌, List, [], ◌∷◌, refl, ap, ◌∙◌, div-one}
use Rattle.std.proofs.Common.{arith}
use Rattle.std.proofs.lemmas.Bool.Decides.{nat_tests}
use Rattle.kp_base.specs.Net.{AddressParts, same_address, single_range, range_contains}
use Rattle.kp_base.specs.declared.address.Family.{Family}
use Rattle.kp_base.specs.declared.address.Family.TheVariants.{V4, V6}
use Rattle.kp_base.specs.declared.port.Proto.{Proto}
use Rattle.kp_types.specs.Rules.{rule_of}
use Rattle.kp_types.specs.Ports.{same_proto}
use Rattle.kp_types.specs.declared.packet.Packet.{Packet}
use Rattle.kp_types.specs.declared.rule.Match.{Match}
use Rattle.kp_types.specs.declared.rule.Match.TheVariants as match
use Rattle.kp_types.specs.declared.rule.Target.{Target}
use Rattle.kp_table_defs.specs.Matching.{WalkState, Surroundings, Tried, tried_as, and_also, try_all}
use Rattle.kp_table_defs.specs.Walk.{Outcome, target_if, matched_outcome, rule_outcome}

-- the packet as it is by now
abbrev pub packet_of : Surroundings → WalkState → Packet
packet_of e s =
    record {
      from = e.from;
      source = s.source;
      target = s.target;
      proto = e.proto;
      port =
          s.port;
      now = e.now;
    }

eqb_swap : (m n : ℕ) → (m == n) ≡ (n == m)
eqb_swap m n = grind (arith, nat_tests)

single_by : (f g : Family) (m n : ℕ)
    → range_contains (single_range (record { family = f; number = m }))
    (record { family = g; number = n }) ≡ same_address (record { family = f; number = m })
    (record { family = g; number = n })
single_by V4 V4 m n = (λ i. div-one n i == div-one m i) ∙ eqb_swap n m
single_by V4 V6 m n = refl
single_by V6 V4 m n = refl
single_by V6 V6 m n = (λ i. div-one n i == div-one m i) ∙ eqb_swap n m

-- the range of one address has that one
pub single_contains : (a b : AddressParts) → range_contains (single_range a) b ≡ same_address a b
single_contains a b = single_by a.family b.family a.number b.number

-- one match alone
pub tried_alone : (s : WalkState) (b : Bool)
    → and_also (tried_as s b) (λ t. tried_as t true) ≡ tried_as s b
tried_alone s true = refl
tried_alone s false = refl

-- a match before others
pub tried_before : (s : WalkState) (b c : Bool) (next : WalkState → Tried) → next s ≡ tried_as s c
    → and_also (tried_as s b) next ≡ tried_as s (b && c)
tried_before s true c next h = h
tried_before s false c next h = refl

module _ (e : Surroundings) (jump : List ℕ → WalkState → Outcome) (s : WalkState) where
  -- a rule by what its matches say
  pub rule_if : (ms : List Match) (t : Target) (b : Bool) → try_all e ms s ≡ tried_as s b
      → rule_outcome e jump (rule_of ms t) s ≡ target_if b jump t s
  rule_if ms t b h = ap (matched_outcome jump t) h

  -- a source
  pub src_tried : (a : AddressParts) → try_all e (match.Src (single_range a) false ∷ []) s
      ≡ tried_as s (same_address a s.source)
  src_tried a = tried_alone s _ ∙ ap (tried_as s) (single_contains a s.source)

  -- a destination and a port
  pub door_tried : (a : AddressParts) (proto : Proto) (port : ℕ)
      → try_all e (match.Dst (single_range a) false ∷ match.Port proto port ∷ []) s
      ≡ tried_as s (same_address a s.target && (same_proto proto e.proto && (port == s.port)))
  door_tried a proto port =
      tried_before s (range_contains (single_range a) s.target)
      (same_proto proto e.proto && (port == s.port)) (try_all e (match.Port proto port ∷ []))
      (tried_alone s _)
      ∙ ap (λ b. tried_as s (b && (same_proto proto e.proto && (port == s.port))))
      (single_contains a s.target)
