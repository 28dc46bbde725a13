use Rattle.std.proofs.Common.{◌≡◌, ◌⊎◌, inl, inr, subst}
use Rattle.std.specs.Prelude.{Bool, Result, Err, IfErr}
use Rattle.kp_streams.specs.Streams.{reading_in}
use Rattle.kp_live.specs.Written.{IsOfPrinting}
use Rattle.kp_live.specs.declared.fault.LiveFault.{LiveFault}
use Rattle.kp_live.specs.declared.fault.LiveFault.TheVariants.{InputTooLong, ReadFault}
use Rattle.kp_live.proofs.Closing.{front_told}
use Rattle.kp_live.proofs.mode.live.Goals as goal

-- a front of the text was written
pub returns-clause-front : goal.returns-clause-front
returns-clause-front g c =
    front_told c.run_opened.result (g.S.Source.input c.args.source.now).left
    (reading_in c.in_ok-lines.lines) (g.K.Sink.output c.args.sink.now)
    (g.K.Sink.output c.run_opened.new.sink) c.run_opened.ensures.front c.in_ok-lines.ensures.whole

-- what is printed once the input was read isn't told as a fault of the input
never : {P : Type 0} (result : Result Bool LiveFault) → IfErr result IsOfPrinting
    → (result ≡ Err ReadFault) ⊎ (result ≡ Err InputTooLong) → P
never result other (inl is) = absurd (subst (λ r. IfErr r IsOfPrinting) is other)
never result other (inr is) = absurd (subst (λ r. IfErr r IsOfPrinting) is other)

pub returns-clause-read : goal.returns-clause-read
returns-clause-read g c is =
    never c.run_opened.result c.run_opened.ensures.other (inl is)

pub returns-clause-long : goal.returns-clause-long
returns-clause-long g c is =
    never c.run_opened.result c.run_opened.ensures.other (inr is)

pub returns-clause-unwritten : goal.returns-clause-unwritten
returns-clause-unwritten g c is =
    never c.run_opened.result c.run_opened.ensures.other is
