use Rattle.std.proofs.Common.{ap, ◌∙◌, sym}
use Rattle.std.specs.List.{list_any}
use Rattle.std.proofs.lemmas.List.Sorted.{list_any-IsPermutation}
use Rattle.kp_rules.proofs.index.keyed_places.Goals as goal

pub returns : goal.returns
returns c = record {
  sorted = c.sort_unstable.ensures.sorted;
  same = λ test.
      sym (ap (list_any test) c.in_ok-keyed.ensures)
      ∙ list_any-IsPermutation test c.in_ok-keyed.keyed.items c.sort_unstable.new.self.items c.sort_unstable.ensures.permutation;
}
