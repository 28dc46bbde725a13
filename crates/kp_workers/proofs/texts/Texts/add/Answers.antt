use Rattle.std.proofs.Common.{◌≡◌, ◌-◌, length, rules}
use Rattle.std.specs.Prelude.{string_bytes}
use Rattle.kp_workers.specs.Texts.{kept_in}
use Rattle.kp_workers.proofs.TextLemmas.{keeps_more}
use Rattle.kp_workers.proofs.texts.Texts.add.Goals as goal

pub returns-clause-told : goal.returns-clause-told
returns-clause-told g c = λ told keeps.
    let before : c.len-before.result ≡ length (string_bytes c.args.self.now.text) =
    search rules in
    let now : c.len.result ≡ length (string_bytes c.step.new.text) = search rules in
    keeps_more (kept_in c.args.self.now) (string_bytes c.step.new.text, c.push.new.self.items)
    (g.W.Work.step c.args.work.now c.args.item.now c.args.lists.now).0 told
    (c.len.result - c.len-before.result) c.in_ok-step.ensures.text c.in_ok-push.ensures.items
    (λ i. now i - before i) keeps
