use Rattle.std.proofs.Common.{ap, subst, refl, ◌++◌, ◌∙◌}
use Rattle.std.specs.Option.{option_copied}
use Rattle.kp_mode_defs.specs.Mode.{given_in}
use Rattle.kp_lemmas.proofs.Results.{ok_anyhow}
use Rattle.kp_replay.specs.Steps.{place_of}
use Rattle.kp_run.specs.Stand.{WritesOrStops}
use Rattle.kp_run.proofs.EndLemmas.{none_written}
use Rattle.kp_run.proofs.lines.replay_line.Goals as goal

-- the line was taken, and its text was written, or a front of it
pub returns-in-Ok : goal.returns-in-Ok
returns-in-Ok g c = λ state follows.
    let line = given_in g.M.Mode.mode c.args.number (option_copied c.args.given) (place_of c.args.replay.now state) in
    let took = c.in-Ok.ensures state follows in
    record {
      stands = ok_anyhow c.write_text.result _ took.stands;
      kept = ok_anyhow c.write_text.result _ took.follows;
      writes =
          subst (λ t. WritesOrStops c.write_text.result t (g.K.Sink.output c.args.sink.now) (g.K.Sink.output c.write_text.new.sink))
          (c.as_bytes.ensures.value ∙ took.text ∙ ap (λ t. t ++ line.text) c.clear.ensures.bytes) c.write_text.ensures;
    }

-- without memory nothing was written
pub returns-in-Err : goal.returns-in-Err
returns-in-Err g c = λ state follows.
    let line = given_in g.M.Mode.mode c.args.number (option_copied c.args.given) (place_of c.args.replay.now state) in
    record {
      stands = tt;
      kept = tt;
      writes = record {
        whole = tt;
        front = none_written line.text (g.K.Sink.output c.args.sink.now).written;
        sure = tt;
        cause = refl;
      };
    }
