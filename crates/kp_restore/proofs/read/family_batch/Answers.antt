use Rattle.std.proofs.Common.{◌≡◌, ℕ, List, [], true, sym, subst, ◌∙◌, ap, rules}
use Rattle.kp_base.specs.declared.address.Family.{Family}
use Rattle.kp_types.specs.declared.rule.Edit.{Edit}
use Rattle.kp_restore_defs.specs.BatchText.{is_canonical_batch, batch_text_of}
use Rattle.kp_restore.specs.Reading.{IsRead}
use Rattle.kp_restore.specs.Steps.{IsEnd, edits_in_sections, start, step}
use Rattle.kp_restore.specs.declared.section.Form.TheVariants.{Changes}
use Rattle.kp_restore.specs.declared.section.Section.{Section}
use Rattle.kp_restore.specs.declared.so_far.SoFar.{SoFar}
use Rattle.kp_restore.proofs.BatchTexts.{batch_reader}
use Rattle.kp_restore.proofs.Reading.{finished, bad_from}
use Rattle.kp_restore.proofs.read.family_batch.Goals as goal

-- the edits at the end have this text
told : (family : Family) (edits : List Edit) (bytes : List ℕ) (ss : List Section) → (s : SoFar) × (n : ℕ) × IsRead family (step Changes) start bytes s [] n × IsEnd Changes s × (ss ≡ s.done)
    → edits ≡ edits_in_sections ss → (is_canonical_batch family edits ≡ true) × (batch_text_of family edits ≡ bytes)
told family edits bytes ss (s, n, r, end, is) made =
    subst (λ es. (is_canonical_batch family es ≡ true) × (batch_text_of family es ≡ bytes)) (sym (made ∙ ap edits_in_sections is)) (finished (batch_reader family) r end)

pub returns-clause-ok : goal.returns-clause-ok
returns-clause-ok c = told c.args.family c.in_ok-batch_of.field-0.edits c.args.bytes.now c.in_ok-sections.sections c.in_ok-sections.ensures.ok c.in_ok-batch_of.ensures

-- a fault that the reader gave
pub returns-in_err-sections-clause-all : goal.returns-in_err-sections-clause-all
returns-in_err-sections-clause-all c n is = (bad_from (batch_reader c.args.family) (c.in_err-sections.ensures.bad n (search rules))).none

pub returns-in_err-sections-clause-bad : goal.returns-in_err-sections-clause-bad
returns-in_err-sections-clause-bad c n is = (bad_from (batch_reader c.args.family) (c.in_err-sections.ensures.bad n (search rules))).first
