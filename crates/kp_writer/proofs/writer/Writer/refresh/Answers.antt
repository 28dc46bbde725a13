use Rattle.std.proofs.Common.{drop, inl, refl, rules, sym, ap, ◌∙◌}
use Rattle.std.proofs.lemmas.Result.{on_ok_weaker}
use Rattle.kp_writer.specs.Refresh.{IsPartlyRefreshed, OthersStay, with_infos, without}
use Rattle.kp_writer.specs.Written.{with_newest}
use Rattle.kp_writer.proofs.Refreshed.{refreshes, some_gone}
use Rattle.kp_writer.proofs.writer.Writer.refresh.Goals as goal

pub returns-clause-value : goal.returns-clause-value
returns-clause-value g c =
    let old = c.args.self.now in
    let new = c.put_all.new.writer in
    let all = c.put_all.ensures.part.1
    ∙ ap (λ w. with_newest w (with_infos c.args.service.now w.newest
    (drop c.put_all.ensures.part.0 c.args.infos.items))) c.in_ok-drop_all.ensures.ok in
    all ∙ ap (with_newest old) (sym (ap (λ w. w.newest) all))

pub returns-in_err-drop_all-clause-value : goal.returns-in_err-drop_all-clause-value
returns-in_err-drop_all-clause-value g c =
    let some = c.drop_all.ensures.part.1 in
    some ∙ ap (with_newest c.args.self.now) (sym (ap (λ w. w.newest) some))

pub returns-clause-ports : goal.returns-clause-ports
returns-clause-ports g c =
    let service = c.args.service.now in
    let mid = ap (λ w. w.newest) c.in_ok-drop_all.ensures.ok
    ∙ ap (without c.args.self.now.newest) c.in_ok-gone.ensures in
    refreshes service c.args.self.now.newest c.put_all.result c.args.infos.items
    c.put_all.new.writer.newest
    (on_ok_weaker c.put_all.result (λ put. ap (λ w. w.newest) put
    ∙ ap (λ m. with_infos service m c.args.infos.items) mid) c.put_all.ensures.ok) (
      c.put_all.ensures.part.0,
      ap (λ w. w.newest) c.put_all.ensures.part.1
          ∙ ap (λ m. with_infos service m (drop c.put_all.ensures.part.0 c.args.infos.items)) mid,
    )

pub returns-in_err-drop_all-clause-ports : goal.returns-in_err-drop_all-clause-ports
returns-in_err-drop_all-clause-ports g c =
    let old = c.args.self.now.newest in
    let n = c.drop_all.ensures.part.0 in
    let part = some_gone c.args.service.now old c.args.infos.items n c.drop_all.new.writer.newest
    (ap (λ w. w.newest) c.drop_all.ensures.part.1
    ∙ ap (λ ks. without old (drop n ks)) c.in_ok-gone.ensures) in
    search rules

pub returns-in_err-gone-clause-ports : goal.returns-in_err-gone-clause-ports
returns-in_err-gone-clause-ports g c =
    let old = c.args.self.now.newest in
    let part : IsPartlyRefreshed c.args.infos.items old old × OthersStay c.args.service.now old old =
    ((0, λ key. inl refl), λ key h. refl) in
    search rules
