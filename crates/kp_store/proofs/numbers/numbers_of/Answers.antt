use Rattle.std.proofs.Common.{◌≡◌, map, take, nat_cmp, Ok, ℕ, refl, sym, ap, ◌∙◌}
use Rattle.std.specs.Cmp.{nat_cmp_total}
use Rattle.std.specs.FinMap as finite
use Rattle.std.specs.FinMap.{nat_cmp-IsAntisymmetric}
use Rattle.std.proofs.lemmas.Iterator.{items_from_collect}
use Rattle.std.proofs.lemmas.Iterator.Consumers.{YieldsList-at, YieldsList-from_copied, YieldsList-from_rest}
use Rattle.std.proofs.lemmas.List.Sums.{fold_more}
use Rattle.std.proofs.lemmas.List.{take_all}
use Rattle.kp_base.proofs.Maps.{inserted}
use Rattle.kp_store.specs.Numbers.{Numbers, number_set, with_pair}
use Rattle.kp_store.proofs.SortedEntries.{entries_of}
use Rattle.kp_store.proofs.numbers.numbers_of.Goals as goal

pub loop-pair-preserved : goal.loop-pair-preserved
loop-pair-preserved c =
    let pairs = c.args.pairs.now in
    let pair = c.pair-item.result in
    inserted nat_cmp_total (λ a b. refl) nat_cmp-IsAntisymmetric c.loop-pair.numbers.entries c.insert.new.self.entries c.number_of.result tt c.in_ok-insert.ensures.updates.0
    ∙ (λ i. finite.insert (c.loop-pair.invariant i) (c.number_of.ensures i) tt)
    ∙ ap (with_pair (number_set (take c.loop-pair.pair-index pairs))) c.pair-item.is
    ∙ sym (fold_more with_pair finite.empty pairs c.loop-pair.pair-index pair c.loop-pair-test.true)

pub returns : goal.returns
returns c =
    let es = c.loop-pair.numbers.entries in
    items_from_collect {E = ℕ} (Ok c.in_ok-collect.field-0) c.in_ok-collect.ensures.ran (YieldsList-from_copied (YieldsList-at c.copied.ensures.source (YieldsList-from_rest {shows = λ k. k.now} (map (λ e. e.0) es) c.keys.ensures.rest)))
    ∙ ap (map (λ e. e.0)) (sym (entries_of nat_cmp_total nat_cmp-IsAntisymmetric es c.keys.ensures.ordered))
    ∙ ap (λ (m : Numbers). finite.keys m) (c.loop-pair.invariant ∙ ap number_set (take_all c.loop-pair.pair-index c.args.pairs.now c.loop-pair-test.false))
