use Rattle.kp_track_defs.proofs.Clears.{kept_clears}
use Rattle.kp_track_defs.proofs.Parts.{kept_answers, kept_keeps, kept_opens, kept_owns, kept_passes, kept_syncs}
use Rattle.kp_track_defs.proofs.laws.kept_openers.Goals as goal

pub returns-clause-answers : goal.returns-clause-answers
returns-clause-answers c = kept_answers

pub returns-clause-keeps : goal.returns-clause-keeps
returns-clause-keeps c = kept_keeps

pub returns-clause-owns : goal.returns-clause-owns
returns-clause-owns c = kept_owns

pub returns-clause-opens : goal.returns-clause-opens
returns-clause-opens c = kept_opens

pub returns-clause-passes : goal.returns-clause-passes
returns-clause-passes c = kept_passes

pub returns-clause-syncs : goal.returns-clause-syncs
returns-clause-syncs c = kept_syncs

pub returns-clause-clears : goal.returns-clause-clears
returns-clause-clears c = kept_clears
