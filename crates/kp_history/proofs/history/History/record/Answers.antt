use Rattle.std.proofs.Common.{rules, ◌≡◌, ◌<◌, ◌-◌, ◌++◌, ◌∷◌, ◌^◌, [], length, refl, subst}
use Rattle.kp_history.specs.declared.history.History.{History}
use Rattle.kp_history.proofs.Synced.{history_next}
use Rattle.kp_history.proofs.history.History.record.Goals as goal

pub returns-clause-ok : goal.returns-clause-ok
returns-clause-ok c = λ p is all made.
    let before : History = c.args.self.now in
    let after : History =
    record {
      counts = c.push_reserved.new.self;
      covered = c.args.covered;
      table = c.apply.new.self;
      last = c.replace-before.new.dest;
      stale = c.take_in.new.self;
    } in
    let pushed : c.push_reserved.new.self.items ≡ before.counts.items ++ (c.args.covered - before.covered) ∷ [] =
    search rules in
    let few : length c.push_reserved.new.self.items < 2 ^ 64 =
    subst (λ l. length l < 2 ^ 64) c.as_slice.ensures.value c.fits_memory.ensures in
    history_next c.changes_lead_over.ensures c.exact_histories.ensures.by_record
    c.sync_records.ensures.counts c.sync_records.ensures.grow p before after c.args.covered
    c.args.batch is all made pushed few refl c.in_ok-apply.ensures.ok
    c.replace-before.ensures.after
