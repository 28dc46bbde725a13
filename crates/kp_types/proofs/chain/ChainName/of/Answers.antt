use Rattle.std.proofs.lemmas.Bool.{false≢true}
use Rattle.kp_types.proofs.ChainBytes.{name_utf8}
use Rattle.kp_types.proofs.chain.ChainName.of.Goals as goal

-- what is no text is no name
pub returns-in-Err-clause-valid : goal.returns-in-Err-clause-valid
returns-in-Err-clause-valid c = (λ e. absurd (false≢true e), λ h. absurd (c.in-Err.ensures.cases.0 (name_utf8 _ h)))
