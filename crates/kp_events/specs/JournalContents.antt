-- What contracts see of the journal: the events that were accepted, and how many there may be (this project's
-- choice).
use Rattle.std.specs.Prelude.{◌≡◌, ℕ, ◌+◌, ◌≤◌, ◌<◌, List, ◌++◌, length, refl}
use Rattle.std.specs.Coded.{Coded, code_by, coded×, coded_ℕ, coded_list}
use Rattle.kp_types.specs.declared.event.Event.{Event}
use Rattle.kp_types.specs.contracts.event.Event as event_row
use Rattle.kp_events.specs.declared.journal.JournalFault.{JournalFault}
use Rattle.kp_events.specs.declared.journal.JournalFault.TheVariants.{JournalFull, NoMemory}

-- the events, oldest first, and the most that there may be
pub record Contents : Type 0 where
  pub events : List Event
  pub most : ℕ

-- how contents are told apart as values
abbrev pub contents_code : Coded Contents
contents_code =
    code_by (List Event × ℕ) (coded× (coded_list event_row.the_row.coded) coded_ℕ) (λ c. (c.events, c.most))
    (λ p. record { events = p.0; most = p.1 }) (λ _. refl)

-- the events stand behind the old ones
abbrev pub with_events : Contents → List Event → Contents
with_events journal more = record { events = journal.events ++ more; most = journal.most }

-- n more events fit
abbrev pub HasRoom : Contents → ℕ → Type 0
HasRoom journal n = length journal.events + n ≤ journal.most

-- why n events were refused: they don't fit, or there was no memory for them
abbrev pub Refuses : Contents → ℕ → JournalFault → Type 0
Refuses journal n (JournalFull count) = (count ≡ length journal.events) × (journal.most < length journal.events + n)
Refuses journal n (NoMemory refused) = HasRoom journal n
