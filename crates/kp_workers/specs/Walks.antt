-- What workers do that walk packets.
use Rattle.std.specs.Prelude.{◌≡◌, ℕ, ◌%◌, None, List, ◌++◌, map, Option, IfSome, slice_get}
use Rattle.kp_base.specs.Net.{AddressParts}
use Rattle.kp_types.specs.declared.chain.ChainAt.{ChainAt}
use Rattle.kp_types.specs.declared.rule.Rule.{Rule}
use Rattle.kp_types.specs.declared.verdict.Answer.{Answer}
use Rattle.kp_types.specs.declared.verdict.Verdict.{Verdict}
use Rattle.kp_choice_defs.specs.Draws.{AreDraws}
use Rattle.kp_choice_defs.specs.Recent.{RecentParts}
use Rattle.kp_table_defs.specs.Walk.{walk_of}
use Rattle.kp_walker.specs.Answers.{names_of}
use Rattle.kp_part_laws.specs.Beside.{worker_of}
use Rattle.kp_workers.specs.Workers.{done_own}
use Rattle.kp_workers.specs.declared.walker.Walker.{Walker}
use Rattle.kp_workers.specs.declared.walks.Numbered.{Numbered}

-- what an answer tells: the verdict, and the names on each way
abbrev pub Told : Type 0
Told = Verdict × List (List (List ℕ))

abbrev pub told_in : Answer → Told
told_in answer = (answer.verdict, names_of answer.trail)

-- what answers tell
abbrev pub all_told : List Answer → List Told
all_told answers = map told_in answers

-- the part that a packet's source is in
abbrev pub part_in : Numbered → ℕ
part_in x = x.packet.source.number % 16

-- the walk of a packet through these chains, by the draws for its number
abbrev pub walk_step : (ChainAt → Option (List Rule)) → List AddressParts → (ℕ → ℕ → ℕ) → Numbered
    → RecentParts → Told × RecentParts
walk_step at node drawn x lists =
    let w = walk_of at node x.packet (drawn x.number) lists in
    ((w.verdict, w.trail), w.lists)

-- these are the draws for the numbers of packets
abbrev pub HaveDraws : (ℕ → ℕ → ℕ → Type 0) → List Numbered → (ℕ → ℕ → ℕ) → Type 0
HaveDraws answers packets drawn =
    (i : ℕ) → IfSome (slice_get packets i) (λ x. AreDraws answers x.number (drawn x.number))

-- a worker has walked this more
pub record WalksOn (done : List Told × RecentParts) (before after : Walker) : Type 0 where
  pub told : all_told after.answers.items ≡ all_told before.answers.items ++ done.0
  pub lists : after.lists ≡ done.1

-- a worker has walked this
pub record HasWalked (done : List Told × RecentParts) (walker : Walker) : Type 0 where
  pub told : all_told walker.answers.items ≡ done.0
  pub lists : walker.lists ≡ done.1

-- each worker did this with its own, unless memory was refused to it
abbrev pub EachDid : (ℕ → Walker → Walker → Type 0) → List Walker → List Walker → Type 0
EachDid Did befores afters =
    (w : ℕ) → IfSome (slice_get befores w) (λ before. IfSome (slice_get afters w)
    (λ after. after.refused ≡ None → Did w before after))

-- each worker has walked what is its own
abbrev pub EachHasWalked : (ℕ → RecentParts → List Told × RecentParts) → List Walker → List Walker
    → Type 0
EachHasWalked done = EachDid (λ w before after. HasWalked (done w before.lists) after)

-- a worker of so many has walked its own, whatever the draws are
pub record HasWalkedAny (answers : ℕ → ℕ → ℕ → Type 0) (at : ChainAt → Option (List Rule))
    (node : List AddressParts) (packets : List Numbered) (count own : ℕ) (lists : RecentParts)
    (walker : Walker) : Type 0 where
  pub by : (drawn : ℕ → ℕ → ℕ) → HaveDraws answers packets drawn
      → HasWalked (done_own (λ x. worker_of count (part_in x)) (walk_step at node drawn) packets own
      lists) walker
