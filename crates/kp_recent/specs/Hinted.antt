-- What is known of a part's sources without a look at them.
use Rattle.std.specs.Prelude.{◌≡◌, ◌≤◌, ℕ, ◌/◌, ◌%◌, [], ◌∷◌, ⊤}
use Rattle.std.specs.Int.{bit_at}
use Rattle.kp_base.specs.Net.{AddressParts}
use Rattle.kp_recent.specs.Moments.{Pairs}

-- the bit of a source
abbrev pub mark_of : AddressParts → ℕ
mark_of source = source.number / 16 % 64

-- a source has its bit among these, and was set no earlier than this moment
pub record IsHinted (marks since : ℕ) (e : AddressParts × ℕ) : Type 0 where
  pub marked : bit_at marks (mark_of e.0) ≡ 1
  pub later : since ≤ e.1

-- all are so
abbrev pub AreHinted : ℕ → ℕ → Pairs → Type 0
AreHinted marks since [] = ⊤
AreHinted marks since (s ∷ ss) = IsHinted marks since s × AreHinted marks since ss
