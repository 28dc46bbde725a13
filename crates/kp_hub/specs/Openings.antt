-- What contracts see of the parts of a hub.
use Rattle.std.specs.Prelude.{ℕ, refl}
use Rattle.std.specs.Coded.{Coded, code_by, coded×, coded_ℕ}
use Rattle.logbook.specs.Pages.{Book, book_coded}
use Rattle.kp_base.specs.declared.config.Config.{Config}
use Rattle.kp_base.specs.contracts.config.Config as config_row
use Rattle.kp_feed.specs.Passes.{QueueId, queue_code}

-- a ledger: its name, and into how many parts its shares are cut
abbrev pub LedgerId : Type 0
LedgerId = ℕ × ℕ

-- the configuration; which history, queue and ledgers these are; and for how many streams
pub record OpeningParts : Type 0 where
  pub config : Config
  pub book : Book
  pub queue : QueueId
  pub streams : ℕ
  pub accepted : LedgerId
  pub refused : LedgerId

-- it is stored as a tuple
abbrev pub opening_code : Coded OpeningParts
opening_code =
    code_by (Config × (Book × (QueueId × (ℕ × (LedgerId × LedgerId)))))
    (coded× config_row.the_row.coded (coded× book_coded (coded× queue_code
    (coded× coded_ℕ (coded× (coded× coded_ℕ coded_ℕ) (coded× coded_ℕ coded_ℕ))))))
    (λ o. (o.config, (o.book, (o.queue, (o.streams, (o.accepted, o.refused))))))
    (λ p. record {
      config = p.0;
      book = p.1.0;
      queue = p.1.1.0;
      streams = p.1.1.1.0;
      accepted = p.1.1.1.1.0;
      refused = p.1.1.1.1.1;
    }) (λ _. refl)
