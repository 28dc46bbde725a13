use Rattle.std.proofs.Common.{subst, sym}
use Rattle.std.proofs.lemmas.Result.{on_ok_weaker}
use Rattle.kp_vmap.specs.Places.{Answers, if_at, staged_at}
use Rattle.kp_vmap.proofs.Staging.{put_in}
use Rattle.kp_vmap.proofs.next.put_known.Goals as goal

pub returns-in-Some-clause-places : goal.returns-in-Some-clause-places
returns-in-Some-clause-places g c = λ start out.
    let kept = c.args.kept.now.entries in
    let port = c.in-Some.port in
    on_ok_weaker c.put_in.result (λ is d.
    subst (λ o. Answers c.args.key.now (if_at d o) (start d)
    (staged_at kept c.put_in.new.staged.entries d)) (sym c.in-Some.is) (
    put_in c.args.key.now port (start d) (staged_at kept c.args.staged.now.entries d)
    (staged_at kept c.put_in.new.staged.entries d) d
    (c.requires port c.in-Some.is) (out d) (is d)))
    c.put_in.ensures.places
