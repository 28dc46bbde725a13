-- What stands where memory runs out on the way.
use Rattle.std.proofs.Common.{◌≡◌, ℕ, Bool, true, false, List, [], ◌∷◌, ◌++◌, append-nil, append_assoc, refl, sym, ap, subst, ◌∙◌}
use Rattle.std.specs.Prelude.{Option, Some, None, Ok, Err, length}
use Rattle.std.specs.List.{list_all}
use Rattle.std.proofs.lemmas.Bool.{and_parts}
use Rattle.kp_base.specs.declared.config.Config.{Config}
use Rattle.kp_object_defs.specs.Objects.{objects_after}
use Rattle.kp_plane.specs.Parts as parts
use Rattle.kp_plane.specs.Parts.{PlaneParts}
use Rattle.kp_run_defs.specs.ReplayText.{Standing, events_line, has_room, op_line, settings_in, sync_line, uncovered_in}
use Rattle.kp_types.specs.declared.chain.Clash.{Clash}
use Rattle.kp_table_defs.specs.Rebuild.{clash_of}
use Rattle.kp_text_defs.specs.declared.said.Said.{Said}
use Rattle.kp_text_defs.specs.declared.said.Said.TheVariants.{Nothing, Asks, Refuses}
use Rattle.kp_text_defs.specs.declared.script.Op.{Op}
use Rattle.kp_text_defs.specs.declared.script.Op.TheVariants as op
use Rattle.kp_types.specs.declared.event.Event.{Event}
use Rattle.kp_workers.specs.Texts.{BeginsWith}
use Rattle.kp_replay.specs.Groups.{AreLater, ReadAs, as_read, asks_later, later_line, lines_from, may_come_later, read_line, reads_from, reads_line, says_later}
use Rattle.kp_replay.specs.Steps.{LosesNothing, standing_of}
use Rattle.kp_replay.specs.declared.reads.Read.{Read}
use Rattle.kp_replay.specs.declared.replay.Replay.{Replay}
use Rattle.kp_replay.proofs.GroupLemmas.{lines_say}
use Rattle.kp_replay.proofs.ReadLemmas.{later_reads}

-- ---- Fronts

pub begins_as : {A : Type 0} (xs ys : List A) → xs ≡ ys → BeginsWith xs ys
begins_as xs ys is = ([], is ∙ sym (append-nil ys))

pub begins_on : {A : Type 0} (first mid last : List A) → BeginsWith mid first
    → BeginsWith last mid → BeginsWith last first
begins_on first mid last (more, is) (rest, then) = (
  more ++ rest,
  then ∙ ap (λ l. l ++ rest) is ∙ append_assoc first more rest,
)

-- ---- Nothing is lost

-- where all of it stays,
pub stays : {config first : Config} {events accepted : List Event} {counts synced : List ℕ}
    → config ≡ first → events ≡ accepted → counts ≡ synced
    → (config ≡ first) × BeginsWith events accepted × BeginsWith counts synced
stays same events counts = (same, begins_as _ _ events, begins_as _ _ counts)

-- where it goes on from there,
pub goes_on_kept : (first mid last : Standing) → LosesNothing first mid → LosesNothing mid last
    → LosesNothing first last
goes_on_kept first mid last (config, events, counts) (config_on, events_on, counts_on) = (
  config_on ∙ config,
  begins_on first.events mid.events last.events events events_on,
  begins_on first.counts mid.counts last.counts counts counts_on,
)

-- and where a sync was made
pub synced_kept : (r : Replay) (plane : PlaneParts) → plane ≡ parts.synced r.plane
    → LosesNothing (standing_of r) (standing_of (record r { plane = plane }))
synced_kept r plane is = (
  ap (λ (p : PlaneParts). p.config) is,
  begins_as plane.events r.plane.events (ap (λ (p : PlaneParts). p.events) is),
  (uncovered_in (standing_of r) ∷ [], ap (λ (p : PlaneParts). p.counts) is),
)

-- ---- Lines

by_room : (number : ℕ) (events : List Event) (room : Bool) (s : Standing)
    → LosesNothing s (events_line number events room s).next
by_room number events true s = (refl, (events, refl), begins_as s.counts s.counts refl)
by_room number events false s = stays refl refl refl

by_clash : (number : ℕ) (clash : Option Clash) (s : Standing)
    → LosesNothing s (sync_line number clash s).next
by_clash number None s = (
  refl,
  begins_as s.events s.events refl,
  (uncovered_in s ∷ [], refl),
)
by_clash number (Some clash) s = stays refl refl refl

op_kept : (number : ℕ) (o : Op) (s : Standing) → may_come_later o ≡ true
    → LosesNothing s (op_line number o s).next
op_kept number (op.Config config) s h = absurd (cc)
op_kept number (op.Events events) s h = by_room number events (has_room s (length events)) s
op_kept number op.Sync s h =
    by_clash number (clash_of (settings_in s) (objects_after s.events)) s
op_kept number (op.Packet p) s h = stays refl refl refl
op_kept number (op.Explain p) s h = stays refl refl refl
op_kept number (op.Show what) s h = stays refl refl refl

later_kept : (number : ℕ) (says : Said) (s : Standing) → asks_later says ≡ true
    → LosesNothing s (later_line number says s).next
later_kept number Nothing s h = stays refl refl refl
later_kept number (Asks line) s h = op_kept number line.op s h
later_kept number (Refuses refusal) s h = stays refl refl refl

as_kept : (number : ℕ) (said : ReadAs) (s : Standing) → says_later said ≡ true
    → LosesNothing s (as_read number said s).next
as_kept number (Ok says) s h = later_kept number says s h
as_kept number (Err refused) s h = stays refl refl refl

-- lines that were read lose nothing
pub read_kept : (read : Read) (s : Standing) → says_later read.said ≡ true
    → LosesNothing s (read_line read s).next
read_kept read s h = as_kept read.number read.said s h

reads_kept : (reads : List Read) (s : Standing) → AreLater reads
    → LosesNothing s (reads_line reads s).next
reads_kept [] s h = stays refl refl refl
reads_kept (read ∷ reads) s h =
    let both = and_parts (says_later read.said) (list_all (λ r. says_later r.said) reads) h in
    let one = read_line read s in
    goes_on_kept s one.next (reads_line reads one.next).next (read_kept read s both.0)
    (reads_kept reads one.next both.1)

-- nor do lines after the first
pub lines_kept : (number : ℕ) (lines : List (List ℕ)) (s now : Standing) → s.fresh ≡ false
    → now ≡ (lines_from number lines s).next → LosesNothing s now
lines_kept number lines s now begun is =
    subst (LosesNothing s) (sym (is ∙ ap (λ l. l.next) (lines_say number lines s begun)))
    (reads_kept (reads_from number lines) s (later_reads number lines))
