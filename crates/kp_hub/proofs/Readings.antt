-- What a snapshot of a table that stands for records answers, is what the table after them does.
use Rattle.std.proofs.Common.{◌≡◌, ℕ, List, Option, Some, inl, inr, ⊎_elim, length, ap, sym, subst, refl, ◌∙◌}
use Rattle.std.specs.FinMap.{get}
use mathlib.Core.List.{IsPrefix}
use Rattle.kp_base.specs.declared.config.Config.{Config}
use Rattle.kp_choice_defs.specs.Recent.{RecentParts}
use Rattle.kp_run_defs.specs.AnswerText.{answer_text, draws_at, walk_at}
use Rattle.kp_table_defs.specs.Rebuild.{TableParts}
use Rattle.kp_text_defs.specs.declared.packet.PacketLine.{PacketLine}
use Rattle.kp_walker.specs.Sets.{ComesToSet}
use Rattle.kp_answers.specs.declared.snapshot.Snapshot.{Snapshot}
use Rattle.kp_answers.specs.Walks.{walk_in, answer_in, IsOnWay, IsPartly}
use Rattle.kp_publish.specs.declared.entry.Entry.{Entry}
use Rattle.kp_publish.specs.Entries.{GoesOnFrom, StandsFor, records_of, table_of}
use Rattle.kp_publish.specs.Knows.{Knows}
use Rattle.kp_publish.proofs.Beginnings.{goes_on_through}
use Rattle.kp_hub.specs.Known.{IsOutside, Worker, worker_of}
use Rattle.kp_hub.specs.Reading.{HasWalked, OnTheWay, Reads, answer_after, walk_after}

module _ (start : TableParts) (config : Config) (s : Snapshot) (seen : List Entry)
    (stands : StandsFor start s.table.now seen) (node : s.node.now ≡ config.addresses) where
  pub walk_is : (number : ℕ) (line : PacketLine) (lists : RecentParts)
      → walk_in s number line lists ≡ walk_after start config seen number line lists
  walk_is number line lists = λ i. walk_at (get (stands.folded i).chains) (node i) number line lists

  pub answer_is : s.sync ≡ length (records_of seen) → (number : ℕ) (line : PacketLine) (lists : RecentParts)
      → answer_in s number line lists ≡ answer_after start config seen number line lists
  answer_is sync number line lists = λ i. answer_text number (sync i) line (walk_is number line lists i).verdict (walk_is number line lists i).trail

  pub way_is : (number : ℕ) (line : PacketLine) (before left : RecentParts)
      → IsOnWay s number line before left → OnTheWay start config seen number line before left
  way_is number line before left h =
      subst (λ a. ComesToSet (get (table_of start seen).chains) a line.packet (draws_at number line.draws) before left) node
      (subst (λ (t : TableParts). ComesToSet (get t.chains) s.node.now line.packet (draws_at number line.draws) before left) stands.folded h)

  pub partly_is : (number : ℕ) (line : PacketLine) (before left : RecentParts)
      → IsPartly s number line before left → HasWalked start config seen number line before left
  partly_is number line before left h =
      ⊎_elim (λ (x : IsOnWay s number line before left). inl (way_is number line before left x))
      (λ (x : left ≡ (walk_in s number line before).lists). inr (x ∙ ap (λ w. w.lists) (walk_is number line before))) h

-- a pass that read
pub reads_all : (before : Worker) (seen : List Entry) → GoesOnFrom seen before.seen → GoesOnFrom seen before.told → IsPrefix before.learned before.told
    → Reads before (record before { seen = seen })
reads_all before seen saw told learned = record {
  seen = saw;
  told = told;
  learned = goes_on_through seen before.told before.learned learned told;
  stays = refl;
}

-- a pass whose reader was inside, and is outside again
pub reads_through : (before : Worker) (r : Option Knows) (reader view left : Knows) (learned : List Entry) (a b : ℕ)
    → worker_of r learned a b ≡ before → r ≡ Some reader → IsOutside r learned
    → GoesOnFrom view.seen reader.seen → GoesOnFrom view.seen reader.told → view.told ≡ reader.told
    → left.seen ≡ view.seen → left.told ≡ view.told
    → Reads before (record { seen = left.seen; told = left.told; learned = learned; accepted = a; refused = b })
reads_through before r reader view left learned a b is some out saw told kept same again =
    let here : Worker = worker_of (Some reader) learned a b in
    let now : Worker = record { seen = left.seen; told = left.told; learned = learned; accepted = a; refused = b } in
    let was : here ≡ before = ap (λ o. worker_of o learned a b) (sym some) ∙ is in
    let after : record here { seen = left.seen } ≡ now =
    λ i. record { seen = left.seen; told = sym (again ∙ kept) i; learned = learned; accepted = a; refused = b } in
    subst (λ (w : Worker). Reads w now) was
    (subst (Reads here) after
    (reads_all here left.seen (subst (λ (s : List Entry). GoesOnFrom s reader.seen) (sym same) saw)
    (subst (λ (s : List Entry). GoesOnFrom s reader.told) (sym same) told) (subst (λ o. IsOutside o learned) some out)))
