use Rattle.kp_chains.proofs.blocks.all_blocks.Goals as goal

pub returns : goal.returns
returns c = λ k. record {
  services = c.in_ok-services.ensures c.args.family k;
  node_ports = c.in_ok-node_ports.ensures c.args.family k;
  firewall = c.in_ok-firewall.ensures k;
  external = c.in_ok-external.ensures k;
  refusals = c.in_ok-refusals.ensures k;
}
