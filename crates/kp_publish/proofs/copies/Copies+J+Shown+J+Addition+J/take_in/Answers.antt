use Rattle.std.proofs.Common.{◌≡◌, ◌+◌, ◌++◌, ◌∷◌, [], drop, false, length, sym, ap, ◌∙◌, subst, arith}
use Rattle.std.specs.List.{fold}
use Rattle.kp_history_defs.specs.History.{table_from}
use Rattle.kp_publish.specs.declared.entry.Entry.TheVariants.{Record}
use Rattle.kp_publish.specs.Entries.{records_of, is_ended, IsReady}
use Rattle.kp_publish.specs.Pending.{after, newest_of}
use Rattle.kp_publish.proofs.Beginnings.{records_snoc, count_snoc}
use Rattle.kp_publish.proofs.Fitting.{all_kept, fits_more, taken_in}
use Rattle.kp_publish.proofs.copies.Copies+J+Shown+J+Addition+J.take_in.Goals as goal

pub new-addition-requires : goal.new-addition-requires
new-addition-requires g c =
    let old = c.self.inside.newest in
    let after = c.again-2.ensures ∙ c.with_record-after.ensures in
    let is_open : is_ended old ≡ false = ap (λ k. is_ended k.newest) c.self.view_is ∙ c.requires.open in
    let records = ap records_of after ∙ (records_snoc old c.args.next is_open ∙ ap (λ k. records_of k.newest ++ c.args.next ∷ []) c.self.view_is) in
    let count : length (records_of old) + 1 ≡ length (records_of c.again-2.result) = count_snoc old c.args.next is_open ∙ ap (λ f. length (records_of f)) (sym after) in
    let number = c.requires.number ∙ (ap (λ k. length (records_of k.newest) + 1) (sym c.self.view_is) ∙ count) in record {
      is_open = ap is_ended c.again.ensures ∙ is_open;
      adds = after ∙ ap (λ f. f ++ Record c.args.next ∷ []) (sym c.again.ensures);
      ready = subst (λ rs. IsReady (table_from g.J.Publication.start rs)) (sym records) c.requires.ready;
      room = omega (arith, sym number);
    }

-- the addition is made to all that was pending, wherever it is kept
pub invariant_of-self-2 : goal.invariant_of-self-2
invariant_of-self-2 g c =
    let p = c.self.inside in
    let w = p.writer in
    let shown = c.settle.new.writer.desk.shown.value in
    let pending = drop c.settle.new.writer.behind c.settle.new.writer.log.items in
    let last = c.settle-2.new.writer in
    let is_open : is_ended p.newest ≡ false = ap (λ k. is_ended k.newest) c.self.view_is ∙ c.requires.open in
    let same : fold after shown pending ≡ c.again.result =
    all_kept shown pending c.settle.new.held c.in-Ok.ensures.handed
    ∙ c.settle.ensures.newest ∙ sym (c.self.invariant.is_open is_open).1 ∙ sym c.again.ensures in
    fits_more p.published p.newest w.desk.shown.value
    (newest_of after w.desk.shown.value (drop w.behind w.log.items) p.held)
    c.with_record-after.result last.desk.shown.value
    (newest_of after last.desk.shown.value (drop last.behind last.log.items) c.settle-2.new.held)
    c.self.invariant is_open
    (ap (λ d. d.shown.value) (c.settle-2.ensures.desk ∙ c.settle.ensures.desk))
    (c.settle-2.ensures.newest ∙ ap (after (fold after shown pending)) c.new-addition.ensures
    ∙ taken_in (fold after shown pending) c.again.result c.again-2.result same
    ∙ c.again-2.ensures)
