-- What lines are read as, and where a replay stands, is within its bounds.
use Rattle.std.proofs.Common.{◌≡◌, ℕ, Bool, true, false, cond, List, [], ◌∷◌, ◌++◌, Option, Some, None, unwrap_or, Result, Ok, Err, codes, inl, inr, refl, sym, ap, subst, ◌∙◌}
use Rattle.std.specs.List.{fold}
use Rattle.std.proofs.lemmas.List.Elements.{Contains-append_cases}
use Rattle.kp_lemmas.proofs.Members.{none_in}
use Rattle.kp_base.specs.Net.{AddressParts, v4_address}
use Rattle.kp_base.specs.declared.address.Family.TheVariants.{V4, V6}
use Rattle.kp_base.proofs.SameParts.{same_family_exact}
use Rattle.kp_json.specs.Places.{Place, member_at, needed_at, text_at}
use Rattle.kp_json.specs.declared.fault.BadField.{BadField}
use Rattle.kp_types.specs.declared.chain.Clash.{Clash}
use Rattle.kp_types.specs.declared.event.Event.{Event}
use Rattle.kp_event_defs.specs.EventText.{Refused, read_events}
use Rattle.kp_row_defs.specs.Fields.{ranges_in}
use Rattle.kp_text_defs.specs.JsonText.{json_of}
use Rattle.kp_text_defs.specs.PacketText.{needed_address_in, packet_rows}
use Rattle.kp_text_defs.specs.ScriptLines.{Command, as_op, command_of, config, config_op, event, explain, line_of, of_events, of_members, op_at, op_named, op_of, or_refusal, packet, read_script, read_stream, show, sync, with_stream, ◌>>=◌}
use Rattle.kp_text_defs.specs.declared.line_refusal.LineRefusal.{LineRefusal}
use Rattle.kp_text_defs.specs.declared.line_refusal.LineRefusal.TheVariants.{BadJson}
use Rattle.kp_text_defs.specs.SaidLines.{said_of}
use Rattle.kp_text_defs.specs.declared.said.Said.TheVariants.{Nothing}
use Rattle.kp_text_defs.specs.declared.script.Op.{Op}
use Rattle.kp_text_defs.specs.declared.script.Op.TheVariants as op
use Rattle.kp_text_defs.specs.declared.script.ScriptLine.{ScriptLine}
use Rattle.kp_text_defs.specs.declared.stream.Stream.{Stream}
use Rattle.kp_run_defs.specs.ReplayText.{Progress, Standing, after_line, at_start, events_line, given_line, op_line, said_line, sync_line}
use Rattle.kp_text_laws.specs.Bounds.{AreBoundedEvents, IsBoundedConfig, is_bounded_address}
use Rattle.kp_text_laws.specs.BoundLaws.{ReadIsBounded}
use Rattle.kp_text_laws.specs.ShownLaws.{ConfigIsBounded, IsBoundedOp, IsBoundedPacket, IsBoundedStanding, LinesAreBounded, PacketIsBounded, ReplaysAreBounded}
use Rattle.kp_text_laws.proofs.ReadAddresses.{family_range, member_address, member_ranges}
use Rattle.kp_text_laws.proofs.ReadObjects.{by_ok, read_by}
use Rattle.kp_text_laws.proofs.ReadRows.{address_there, like_there, row_fine}

-- ---- Operations

from_then : {A B : Type 0} (r : Result A LineRefusal) (f : A → Result B LineRefusal) (y : B)
    → (r >>= f) ≡ Ok y → (x : A) × (r ≡ Ok x) × (f x ≡ Ok y)
from_then (Err why) f y e = absurd (cc)
from_then (Ok x) f y e = (x, refl, e)

from_members : {A : Type 0} (r : Result A BadField) (x : A) → of_members r ≡ Ok x → r ≡ Ok x
from_members (Err fault) x e = absurd (cc)
from_members (Ok y) x e = let same : y ≡ x = cc in ap (λ z. Ok z) same

pub config_is_bounded : ConfigIsBounded
config_is_bounded p c e =
    let (fine, is) = read_by _ _ c e in
    let ranges = member_ranges (codes "clusterCIDR") p in
    subst IsBoundedConfig is (record {
      cluster = family_range V4 (ranges_in (codes "clusterCIDR") p) ranges;
      cluster6 = family_range V6 (ranges_in (codes "clusterCIDR") p) ranges;
    })

pub packet_is_bounded : PacketIsBounded
packet_is_bounded p line e =
    let (fine, is) = read_by _ _ line e in
    let (a, of_a) = address_there (codes "src") p (row_fine 1 packet_rows p _ refl fine) in
    let (b, of_b, alike) = like_there (codes "dst") (codes "src") p a of_a
    (row_fine 2 packet_rows p _ refl fine) in
    let source : needed_address_in (codes "src") p ≡ a =
    ap (λ o. unwrap_or o (v4_address 0)) of_a in
    let target : needed_address_in (codes "dst") p ≡ b =
    ap (λ o. unwrap_or o (v4_address 0)) of_b in
    subst IsBoundedPacket is (record {
      source = ap is_bounded_address source ∙ member_address (codes "src") p a of_a;
      target = ap is_bounded_address target ∙ member_address (codes "dst") p b of_b;
      one_family = ap (λ (x : AddressParts). x.family) source
          ∙ same_family_exact a.family b.family alike
          ∙ sym (ap (λ (x : AddressParts). x.family) target);
    })

made_op : {A : Type 0} (of : A → Op) (r : Result A BadField) (o : Op)
    → ((x : A) → r ≡ Ok x → IsBoundedOp (of x)) → as_op of r ≡ Ok o → IsBoundedOp o
made_op of r o h e =
    let (x, of_x, made) = from_then _ (λ x. Ok (of x)) o e in
    by_ok IsBoundedOp made (h x (from_members r x of_x))

module _ (read_is_bounded : ReadIsBounded) where
  events_op : (p : Place) (r : Result (List Event) Refused) (o : Op) → read_events p ≡ r
      → of_events r ≡ Ok o → IsBoundedOp o
  events_op p (Err why) o is e = absurd (cc)
  events_op p (Ok events) o is e = by_ok IsBoundedOp e (read_is_bounded p events is)

  first_op : (first : Bool) (p : Place) (o : Op) → config_op first p ≡ Ok o → IsBoundedOp o
  first_op true p o e = made_op op.Config _ o (config_is_bounded p) e
  first_op false p o e = absurd (cc)

  command_op : (first : Bool) (p : Place) (c : Command) (o : Op) → op_of first p c ≡ Ok o
      → IsBoundedOp o
  command_op first p config o e = first_op first p o e
  command_op first p event o e =
      let (q, of_q, made) = from_then (of_members (needed_at p (codes "event")))
      (λ q. of_events (read_events q)) o e in
      events_op q _ o refl made
  command_op first p sync o e = by_ok IsBoundedOp e tt
  command_op first p packet o e = made_op op.Packet _ o (packet_is_bounded p) e
  command_op first p explain o e = made_op op.Explain _ o (packet_is_bounded p) e
  command_op first p show o e = made_op op.Show _ o (λ x h. tt) e

  place_op : (first : Bool) (p : Place) (m : Option Place) (o : Op) → op_at first p m ≡ Ok o
      → IsBoundedOp o
  place_op first p None o e = events_op p _ o refl e
  place_op first p (Some q) o e =
      let (name, of_name, next) = from_then (of_members (text_at q)) (op_named first p) o e in
      let (c, of_c, made) = from_then (command_of name) (op_of first p) o next in
      command_op first p c o made

  made_line : (stream : Stream) (operation : Op) (line : ScriptLine)
      → with_stream stream operation ≡ Ok line → IsBoundedOp operation → IsBoundedOp line.op
  made_line stream operation line e h =
      by_ok (λ (l : ScriptLine). IsBoundedOp l.op) e h

  pub lines_are_bounded : LinesAreBounded
  lines_are_bounded bytes first line e =
      let (d, of_d, read) = from_then (or_refusal BadJson (json_of bytes))
      (λ d. read_script first (record { value = d; path = [] })) line e in
      let p : Place = record { value = d; path = [] } in
      let (ms, of_ms, next) = from_then _
      (λ ms. of_members (read_stream p) >>= λ stream. op_at first p (member_at p (codes "op"))
      >>= λ operation. Ok (record { by = stream; op = operation })) line read in
      let (stream, of_stream, then) = from_then _
      (λ stream. op_at first p (member_at p (codes "op"))
      >>= λ operation. Ok (record { by = stream; op = operation })) line next in
      let (operation, of_op, made) = from_then _
      (λ operation. Ok (record { by = stream; op = operation })) line then in
      made_line stream operation line made
      (place_op first p (member_at p (codes "op")) operation of_op)

  -- ---- Replays

  both_bounded : (xs ys : List Event) → AreBoundedEvents xs → AreBoundedEvents ys
      → AreBoundedEvents (xs ++ ys)
  both_bounded xs ys h k e c =
      elim (Contains-append_cases xs ys e c) [ inl d ↦ h e d | inr d ↦ k e d ]

  events_keep : (number : ℕ) (events : List Event) (fits : Bool) (s : Standing)
      → IsBoundedStanding s → AreBoundedEvents events
      → IsBoundedStanding (events_line number events fits s).next
  events_keep number events true s h k =
      record { config = h.config; events = both_bounded s.events events h.events k }
  events_keep number events false s h k = record { config = h.config; events = h.events }

  sync_keeps : (number : ℕ) (clash : Option Clash) (s : Standing) → IsBoundedStanding s
      → IsBoundedStanding (sync_line number clash s).next
  sync_keeps number (Some clash) s h = record { config = h.config; events = h.events }
  sync_keeps number None s h = record { config = h.config; events = h.events }

  op_keeps : (number : ℕ) (o : Op) (s : Standing) → IsBoundedStanding s → IsBoundedOp o
      → IsBoundedStanding (op_line number o s).next
  op_keeps number (op.Config c) s h k = record { config = k; events = h.events }
  op_keeps number (op.Events events) s h k = events_keep number events _ s h k
  op_keeps number op.Sync s h k = sync_keeps number _ s h
  op_keeps number (op.Packet p) s h k = record { config = h.config; events = h.events }
  op_keeps number (op.Explain p) s h k = record { config = h.config; events = h.events }
  op_keeps number (op.Show what) s h k = record { config = h.config; events = h.events }

  read_keeps : (number : ℕ) (r : Result ScriptLine LineRefusal) (s : Standing)
      → IsBoundedStanding s → ((line : ScriptLine) → r ≡ Ok line → IsBoundedOp line.op)
      → IsBoundedStanding (said_line number (said_of r) s).next
  read_keeps number (Err why) s h k = record { config = h.config; events = h.events }
  read_keeps number (Ok line) s h k =
      op_keeps number line.op _ (record { config = h.config; events = h.events }) (k line refl)

  short_keeps : (number : ℕ) (bytes : List ℕ) (s : Standing) (blank : Bool)
      → IsBoundedStanding s
      → IsBoundedStanding (said_line number (cond blank Nothing (said_of (line_of bytes s.fresh))) s).next
  short_keeps number bytes s true h = h
  short_keeps number bytes s false h = read_keeps number _ s h (lines_are_bounded bytes s.fresh)

  line_keeps : (number : ℕ) (bytes : List ℕ) (s : Standing) (long : Bool) → IsBoundedStanding s
      → IsBoundedStanding (given_line number (cond long None (Some bytes)) s).next
  line_keeps number bytes s true h = record { config = h.config; events = h.events }
  line_keeps number bytes s false h = short_keeps number bytes s _ h

  replay_from : (lines : List (List ℕ)) (r : Progress) → IsBoundedStanding r.at
      → IsBoundedStanding (fold after_line r lines).at
  replay_from [] r h = h
  replay_from (bytes ∷ lines) r h = replay_from lines _ (line_keeps _ bytes r.at _ h)

  pub replays_are_bounded : ReplaysAreBounded
  replays_are_bounded lines =
      replay_from lines at_start (record {
        config = record { cluster = refl; cluster6 = refl };
        events = λ e c. absurd (none_in e c);
      })
