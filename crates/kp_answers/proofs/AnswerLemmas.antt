-- Texts of answers.
use Rattle.std.proofs.Common.{◌≡◌, ℕ, List, ◌++◌, true, false, ap, sym, ◌∙◌, append_assoc}
use Rattle.std.proofs.Common.{append-nil}
use Rattle.kp_choice_defs.specs.Recent.{RecentParts}
use Rattle.kp_run_defs.specs.AnswerText.{answer_text, trail_if}
use Rattle.kp_table_defs.specs.Walk.{Walked}
use Rattle.kp_text_defs.specs.Answers.{trail_text}
use Rattle.kp_text_defs.specs.Printed.{packet_text}
use Rattle.kp_text_defs.specs.declared.packet.PacketLine.{PacketLine}
use Rattle.kp_types.specs.declared.verdict.Answer.{Answer}
use Rattle.kp_types.specs.declared.verdict.Verdict.{Verdict}
use Rattle.kp_walker.specs.Answers.{answered}
use Rattle.kp_answers.proofs.TrailLemmas.{same_trail}

module _ (number sync : ℕ) (line : PacketLine) (w : Walked) (before on now : List ℕ) where
  -- of a line that asks for the trail
  pub traced : (answer : Answer) (lists : RecentParts) → line.trail ≡ true
      → answered answer lists ≡ w → on ≡ before ++ packet_text number sync answer.verdict
      → now ≡ on ++ trail_text number answer.trail
      → now ≡ before ++ answer_text number sync line w.verdict w.trail
  traced answer lists asked walk first second =
      let trail : trail_text number answer.trail ≡ trail_if line.trail number w.trail =
      same_trail number answer.trail w.trail (ap (λ x. x.trail) walk)
      ∙ ap (λ b. trail_if b number w.trail) (sym asked) in
      second ∙ ap (λ t. t ++ trail_text number answer.trail) first
      ∙ append_assoc before (packet_text number sync answer.verdict)
      (trail_text number answer.trail)
      ∙ (λ i. before ++ (packet_text number sync (walk i).verdict ++ trail i))

  -- of a line that asks for the verdict alone
  pub untraced : (verdict : Verdict) → line.trail ≡ false → verdict ≡ w.verdict
      → now ≡ before ++ packet_text number sync verdict
      → now ≡ before ++ answer_text number sync line w.verdict w.trail
  untraced verdict asked same text =
      text ∙ (λ i. before ++ packet_text number sync (same i))
      ∙ ap (λ t. before ++ t) (sym (append-nil (packet_text number sync w.verdict)))
      ∙ ap (λ b. before ++ (packet_text number sync w.verdict ++ trail_if b number w.trail))
      (sym asked)
