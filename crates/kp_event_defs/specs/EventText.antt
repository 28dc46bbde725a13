-- How changes of objects are read: an object, which is applied; a watch event of the Kubernetes API (API concepts,
-- "Efficient detection of changes"); or a List of objects, as `kubectl get -o json` prints it. Which kinds are
-- read, and what is refused in which order, is this project's choice.
use Rattle.std.specs.Prelude.{ℕ, List, [], ◌∷◌, cond, bytes_eq, codes, Option, Some, None, option_map, unwrap_or, Result, Ok, Err}
use Rattle.std.specs.Map.{lookup}
use Rattle.serde_json.specs.Find.{as_object}
use Rattle.kp_json.specs.Places.{Place, member_at, field_at, needed_at, text_at, elements_at}
use Rattle.kp_json.specs.declared.fault.BadField.{BadField}
use Rattle.kp_base.specs.declared.key.ObjectKey.{ObjectKey}
use Rattle.kp_types.specs.declared.event.Event.{Event}
use Rattle.kp_types.specs.declared.event.Event.TheVariants.{Apply, Delete}
use Rattle.kp_types.specs.declared.event.Object.{Object}
use Rattle.kp_types.specs.declared.event.Object.TheVariants as object
use Rattle.kp_types.specs.declared.event.Kind.{Kind}
use Rattle.kp_types.specs.declared.event.Kind.TheVariants as kind
use Rattle.kp_row_defs.specs.Fields.{key_in}
use Rattle.kp_row_defs.specs.Metadata.{key_row, only_name_row}
use Rattle.kp_row_defs.specs.Rows.{Row, row_fault, unless_fault}
use Rattle.kp_event_defs.specs.ServiceText.{read_service}
use Rattle.kp_event_defs.specs.SliceText.{read_slice}
use Rattle.kp_event_defs.specs.PodText.{read_pod, read_node}

-- why a text is no list of events: it isn't an event, its kind isn't read, or a field is refused
pub data Refused : Type 0 where
  not_event : Refused
  unsupported : List ℕ → Refused
  bad_field : BadField → Refused

-- one reading behind another, up to the first refusal
infixl 10 ◌>>=◌
abbrev pub ◌>>=◌ : {A B : Type 0} → Result A Refused → (A → Result B Refused) → Result B Refused
(Ok x) >>= f = f x
(Err e) >>= f = Err e

-- the reading of a field
abbrev pub of_field : {A : Type 0} → Result A BadField → Result A Refused
of_field (Ok x) = Ok x
of_field (Err fault) = Err (bad_field fault)

-- what has to be there for an event
abbrev pub or_no_event : {A : Type 0} → Option A → Result A Refused
or_no_event None = Err not_event
or_no_event (Some x) = Ok x

-- the kinds that are read, and the version of each
abbrev pub kinds : List (List ℕ × (Kind × List ℕ))
kinds =
    (codes "Service", (kind.Service, codes "v1")) ∷ (codes "Pod", (kind.Pod, codes "v1"))
    ∷ (codes "Node", (kind.Node, codes "v1"))
    ∷ (codes "EndpointSlice", (kind.EndpointSlice, codes "discovery.k8s.io/v1")) ∷ []

-- the text of an object's kind
abbrev pub kind_text : Place → Result (List ℕ) Refused
kind_text p = do
  found ← of_field (field_at p (codes "kind"))
  text ← or_no_event found
  of_field (text_at text)

-- an object of this kind and version, or its kind isn't read; an absent version is any
abbrev pub with_version : Place → List ℕ → Kind × List ℕ → Result Kind Refused
with_version p text row = do
  found ← of_field (field_at p (codes "apiVersion"))
  version_of found
  where
    version_of : Option Place → Result Kind Refused
    version_of None = Ok row.0
    version_of (Some q) = of_field (text_at q) >>= λ version. cond (bytes_eq version row.1) (Ok row.0) (Err (unsupported text))

-- a kind of the table
abbrev pub known_kind : List ℕ → Result (Kind × List ℕ) Refused
known_kind text = unwrap_or (option_map Ok (lookup (bytes_eq text) kinds)) (Err (unsupported text))

-- the kind of the object at a place
abbrev pub kind_at : Place → Result Kind Refused
kind_at p = do
  text ← kind_text p
  row ← known_kind text
  with_version p text row

-- an object that was read
abbrev pub object_as : {A : Type 0} → (A → Object) → Result A BadField → Result Object BadField
object_as of (Ok x) = Ok (of x)
object_as of (Err fault) = Err fault

-- the object of a kind at a place
abbrev pub object_at : Kind → Place → Result Object BadField
object_at kind.Service p = object_as object.Service (read_service p)
object_at kind.EndpointSlice p = object_as object.EndpointSlice (read_slice p)
object_at kind.Pod p = object_as object.Pod (read_pod p)
object_at kind.Node p = object_as object.Node (read_node p)

-- the event that applies the object at a place
abbrev pub apply_at : Place → Result Event Refused
apply_at p = do
  k ← kind_at p
  o ← of_field (object_at k p)
  Ok (Apply o)

-- what is read of an object that is deleted
abbrev pub deleted_row : Kind → Row
deleted_row kind.Service = key_row
deleted_row kind.EndpointSlice = key_row
deleted_row kind.Pod = key_row
deleted_row kind.Node = only_name_row

-- the key of an object; a Node's namespace is empty
abbrev pub deleted_key : Kind → Place → ObjectKey
deleted_key kind.Service p = key_in p
deleted_key kind.EndpointSlice p = key_in p
deleted_key kind.Pod p = key_in p
deleted_key kind.Node p = record { namespace = []; name = (key_in p).name }

-- the event that deletes the object at a place
abbrev pub delete_at : Place → Result Event Refused
delete_at p = do
  k ← kind_at p
  key ← of_field (unless_fault (row_fault (deleted_row k) p) (deleted_key k p))
  Ok (Delete k key)

-- what a watch event does with its object
pub data Action : Type 0 where
  applies : Action
  deletes : Action
  passes : Action

-- the types of watch events
abbrev pub actions : List (List ℕ × Action)
actions =
    (codes "ADDED", applies) ∷ (codes "MODIFIED", applies) ∷ (codes "DELETED", deletes) ∷ (codes "BOOKMARK", passes)
    ∷ []

-- the one event of a list
abbrev pub single : Event → Result (List Event) Refused
single event = Ok (event ∷ [])

-- the events of a watch event
abbrev pub acted : Place → Action → Result (List Event) Refused
acted p applies = apply_at p >>= single
acted p deletes = delete_at p >>= single
acted p passes = Ok []

-- a watch event of some type
abbrev pub watched : Place → Place → Result (List Event) Refused
watched type_place object_place = do
  text ← of_field (text_at type_place)
  action ← or_no_event (lookup (bytes_eq text) actions)
  acted object_place action

-- the events of the objects of a list
abbrev pub apply_each : List Place → Result (List Event) Refused
apply_each [] = Ok []
apply_each (p ∷ ps) = apply_at p >>= λ event. apply_each ps >>= λ events. Ok (event ∷ events)

-- the events of a List
abbrev pub list_events : Place → Result (List Event) Refused
list_events p = do
  items ← of_field (needed_at p (codes "items"))
  ps ← of_field (elements_at items)
  apply_each ps

-- the events of an object that has a kind
abbrev pub kinded : Place → Result (List Event) Refused
kinded p = do
  text ← kind_text p
  cond (bytes_eq text (codes "List")) (list_events p) (apply_at p >>= single)

-- the events of an object: a watch event where it has a type and an object
abbrev pub object_events : Place → Option Place → Option Place → Result (List Event) Refused
object_events p (Some type_place) (Some object_place) = watched type_place object_place
object_events p (Some type_place) None = kinded p
object_events p None other = kinded p

-- the events that a value is, or why it is none
abbrev pub read_events : Place → Result (List Event) Refused
read_events p = or_no_event (as_object p.value) >>= λ _ms. object_events p (member_at p (codes "type")) (member_at p (codes "object"))
