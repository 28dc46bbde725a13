-- Ports that are enough for a packet are enough for those from all addresses that come from there
-- too.
use Rattle.std.proofs.Common.{List}
use Rattle.kp_base.specs.Net.{AddressParts}
use Rattle.kp_types.specs.Setting.{FamilyConfig}
use Rattle.kp_types.specs.declared.packet.Origin.TheVariants as origin
use Rattle.kp_types.specs.declared.packet.Packet.{Packet}
use Rattle.kp_object_defs.specs.PortInfo.{PortInfo}
use Rattle.kp_decide.specs.Enough.{AreEnough}
use Rattle.kp_decide.proofs.FittingDoors.{same_taking}
use Rattle.kp_paths.specs.SourceWords.{AreEnoughOfBoth, by_origin, from_elsewhere}

module _ (config : FamilyConfig) (packet : Packet) (all : List PortInfo) where
  from_all : (some : List PortInfo) → AreEnough config packet some all
      → (a : AddressParts) → AreEnough config (record packet { source = a }) some all
  from_all some h a = record {
    fitting = h.fitting;
    door = same_taking config (record packet { source = a }) some all h.fitting;
    line = h.line;
  }

module _ (config : FamilyConfig) (all : List PortInfo) where
  pub of_both : (packet : Packet) (own other : List PortInfo) → AreEnough config packet own all
      → AreEnough config (from_elsewhere packet) other all
      → AreEnoughOfBoth config packet (by_origin packet.from own other) (by_origin packet.from other own) all
  of_both packet own other h k = elim packet.from as (λ f. AreEnough config (record packet { from = f }) own all → AreEnough config (from_elsewhere (record packet { from = f })) other all → AreEnoughOfBoth config packet (by_origin f own other) (by_origin f other own) all) [
    | origin.Wire ↦ λ h k. record {
      from = λ o a. elim o as (λ o. AreEnough config (record packet { from = o; source = a }) (by_origin o own other) all) [
        | origin.Wire ↦ from_all config (record packet { from = origin.Wire }) all own h a
        | origin.Node ↦ from_all config (record packet { from = origin.Node }) all other k a
      ];
    }
    | origin.Node ↦ λ h k. record {
      from = λ o a. elim o as (λ o. AreEnough config (record packet { from = o; source = a }) (by_origin o other own) all) [
        | origin.Wire ↦ from_all config (record packet { from = origin.Wire }) all other k a
        | origin.Node ↦ from_all config (record packet { from = origin.Node }) all own h a
      ];
    }
  ] h k
