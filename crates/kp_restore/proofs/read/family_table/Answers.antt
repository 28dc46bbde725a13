use Rattle.std.proofs.Common.{◌≡◌, ℕ, List, [], true, sym, subst, ◌∙◌, rules}
use Rattle.kp_base.specs.declared.address.Family.{Family}
use Rattle.kp_table_defs.specs.Rebuild.{TableParts}
use Rattle.kp_restore_defs.specs.TableText.{is_canonical_table, table_text_of}
use Rattle.kp_restore.specs.Reading.{IsRead}
use Rattle.kp_restore.specs.Steps.{IsEnd, no_chains, start, step, with_sections}
use Rattle.kp_restore.specs.declared.section.Form.TheVariants.{Whole}
use Rattle.kp_restore.specs.declared.section.Section.{Section}
use Rattle.kp_restore.specs.declared.so_far.SoFar.{SoFar}
use Rattle.kp_restore.proofs.Reading.{finished, bad_from}
use Rattle.kp_restore.proofs.TableTexts.{table_reader, no_syncs}
use Rattle.kp_restore.proofs.read.family_table.Goals as goal

-- the table at the end has this text
told : (family : Family) (t : TableParts) (bytes : List ℕ) (ss : List Section) → (s : SoFar) × (n : ℕ) × IsRead family (step Whole) start bytes s [] n × IsEnd Whole s × (ss ≡ s.done)
    → t ≡ with_sections no_chains ss → (t.syncs ≡ 0) × (is_canonical_table family t.chains ≡ true) × (table_text_of family t.chains ≡ bytes)
told family t bytes ss (s, n, r, end, is) made =
    let text = finished (table_reader family) r end in
    subst (λ (x : TableParts). (x.syncs ≡ 0) × (is_canonical_table family x.chains ≡ true) × (table_text_of family x.chains ≡ bytes))
    (sym (made ∙ (λ i. with_sections no_chains (is i)))) (no_syncs s.done no_chains, text.0, text.1)

pub returns-clause-ok : goal.returns-clause-ok
returns-clause-ok c = told c.args.family c.in_ok-table_of.field-0 c.args.bytes.now c.in_ok-sections.sections c.in_ok-sections.ensures.ok c.in_ok-table_of.ensures

-- a fault that the reader gave
pub returns-in_err-sections-clause-all : goal.returns-in_err-sections-clause-all
returns-in_err-sections-clause-all c n is = (bad_from (table_reader c.args.family) (c.in_err-sections.ensures.bad n (search rules))).none

pub returns-in_err-sections-clause-bad : goal.returns-in_err-sections-clause-bad
returns-in_err-sections-clause-bad c n is = (bad_from (table_reader c.args.family) (c.in_err-sections.ensures.bad n (search rules))).first
