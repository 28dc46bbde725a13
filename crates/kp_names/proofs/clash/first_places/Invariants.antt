use Rattle.std.proofs.Common.{◌≡◌, ◌<◌, IfSome, length, drop}
use Rattle.std.specs.Option.{option_and_then}
use Rattle.std.specs.Map.{lookup}
use Rattle.kp_types.specs.contracts.chain.ChainNamePartialEq.TheImpl as name_eq
use Rattle.kp_choice_defs.specs.Names.{chain_name, first_clash}
use Rattle.kp_names.specs.Places.{clash_at, IsWithin}
use Rattle.kp_names.proofs.Clashes.{Tells}
use Rattle.kp_names.proofs.clash.first_places.Given as goal

-- the clash and the places are those of the keys from here on
abbrev pub invariant-loop-place : goal.invariant-loop-place
invariant-loop-place l = record {
  tells : Tells (chain_name l.namer) l.keys (λ s. lookup (name_eq.ghosts.eq s) l.seen.entries) (drop l.place l.keys);
  inside : (s : _) → IfSome (lookup (name_eq.ghosts.eq s) l.seen.entries) (IsWithin (length l.keys));
  clash : option_and_then (clash_at (chain_name l.namer) l.keys) l.clash ≡ first_clash (chain_name l.namer) (drop l.place l.keys);
  within : IfSome l.clash (λ p. (p.0 < length l.keys) × (p.1 < length l.keys));
}
