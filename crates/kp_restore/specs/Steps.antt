-- The reading of restore text line by line: what is read so far, and what a further line makes of it.
use Rattle.std.specs.Prelude.{◌≡◌, ℕ, ◌&&◌, Bool, true, false, cond, not, List, [], ◌∷◌, ◌++◌, bytes_eq, Option, Some, None}
use Rattle.std.specs.List.{flat_map}
use Rattle.std.specs.FinMap as finite
use Rattle.kp_types.specs.declared.chain.TableName.{TableName}
use Rattle.kp_types.specs.declared.rule.Rule.{Rule}
use Rattle.kp_types.specs.declared.rule.Edit.{Edit}
use Rattle.kp_types.specs.declared.rule.Edit.TheVariants.{Write, Remove}
use Rattle.kp_object_defs.specs.Desired.{is_empty}
use Rattle.kp_table_defs.specs.Rebuild.{TableParts}
use Rattle.kp_restore_defs.specs.TableText.{jumps_to_declared}
use Rattle.kp_restore.specs.Sections.{may_end, may_follow, may_open, may_remove, owed}
use Rattle.kp_restore.specs.declared.line.Line.{Line}
use Rattle.kp_restore.specs.declared.line.Line.TheVariants as line
use Rattle.kp_restore.specs.declared.section.Form.{Form}
use Rattle.kp_restore.specs.declared.section.Form.TheVariants.{Whole, Changes}
use Rattle.kp_restore.specs.declared.section.Row.{Row}
use Rattle.kp_restore.specs.declared.section.Section.{Section}
use Rattle.kp_restore.specs.declared.so_far.Pass.{Pass}
use Rattle.kp_restore.specs.declared.so_far.Pass.TheVariants.{Ruling, Removing}
use Rattle.kp_restore.specs.declared.so_far.Change.{Change}
use Rattle.kp_restore.specs.declared.so_far.Change.TheVariants.{Adds, Goes}
use Rattle.kp_restore.specs.declared.so_far.Heading.{Heading}
use Rattle.kp_restore.specs.declared.so_far.Body.{Body}
use Rattle.kp_restore.specs.declared.so_far.Phase.{Phase}
use Rattle.kp_restore.specs.declared.so_far.Phase.TheVariants as phase
use Rattle.kp_restore.specs.declared.so_far.SoFar.{SoFar}

-- ---- Declarations

-- the table with a chain's rules
abbrev pub put : TableParts → TableName → List ℕ → List Rule → TableParts
put t table chain rules =
    record t { chains = finite.insert t.chains (record { table = table; chain = chain }) rules }

abbrev pub no_chains : TableParts
no_chains = record { chains = finite.empty; syncs = 0 }

-- whole tables keep which chains are declared, for the jumps to them
abbrev pub known : Form → TableName → List ℕ → TableParts → TableParts
known Whole table chain t = put t table chain []
known Changes table chain t = t

-- a declared chain, with no rules so far
abbrev pub fresh : List ℕ → Row
fresh chain = record { chain = chain; rules = []; removed = false }

abbrev pub in_heading : List Section → Heading → SoFar
in_heading done h = record { done = done; phase = phase.Heading h }

-- one more chain is declared, and these are still owed
abbrev pub declared : Form → List Section → Heading → List (List ℕ) → List ℕ → SoFar
declared form done h owed chain = in_heading done (record {
  table = h.table;
  owed = owed;
  last = Some chain;
  declared = known form h.table chain h.declared;
  rows = h.rows ++ fresh chain ∷ [];
})

-- ---- Changes of chains

-- what a line tells that speaks of a declared chain
abbrev pub pass_of : Change → Pass
pass_of (Adds rule) = Ruling
pass_of Goes = Removing

abbrev pub may_jump : Form → TableParts → TableName → Rule → Bool
may_jump Whole t table rule = jumps_to_declared t.chains table rule.target
may_jump Changes t table rule = true

abbrev pub may_change : Form → TableParts → TableName → Row → Change → Bool
may_change form t table row (Adds rule) = may_jump form t table rule
may_change form t table row Goes = may_remove form && (is_empty row.rules && not row.removed)

abbrev pub changed : Row → Change → Row
changed row (Adds rule) = record row { rules = row.rules ++ rule ∷ [] }
changed row Goes = record row { removed = true }

abbrev pub in_body : List Section → TableName → Pass → TableParts → List Row → List Row → SoFar
in_body done table pass t passed left = record {
  done = done;
  phase = phase.Body (record { table = table; pass = pass; declared = t; passed = passed; left = left });
}

-- the change of a chain that is left
abbrev pub sought : Form → List Section → TableName → TableParts → List Row → List Row → List ℕ → Change → Option SoFar
sought form done table t passed [] chain change = None
sought form done table t passed (row ∷ rows) chain change =
    cond (bytes_eq row.chain chain)
    (cond (may_change form t table row change)
    (Some (in_body done table (pass_of change) t passed (changed row change ∷ rows)))
    None)
    (sought form done table t (passed ++ row ∷ []) rows chain change)

-- ---- The end of a section

abbrev pub committed : List Section → TableName → List Row → Option SoFar
committed done table rows =
    cond (is_empty rows)
    None
    (Some (record {
      done = done ++ (record { table = table; rows = rows }) ∷ [];
      phase = phase.Between (Some table);
    }))

-- ---- Steps

-- nothing is read
abbrev pub start : SoFar
start = record { done = []; phase = phase.Between None }

-- the first line of a section
abbrev pub opened : Form → List Section → Option TableName → Line → Option SoFar
opened form done last (line.Section table) =
    cond (may_open form last table)
    (Some (in_heading done (record {
      table = table;
      owed = owed form table;
      last = None;
      declared = no_chains;
      rows = [];
    })))
    None
opened form done last _ = None

-- a line among the declarations, where these built-in chains are owed
abbrev pub heading_line : Form → List Section → Heading → List (List ℕ) → Line → Option SoFar
heading_line form done h (next ∷ owed) (line.BuiltIn chain) =
    cond (bytes_eq chain next) (Some (declared form done h owed chain)) None
heading_line form done h (next ∷ owed) _ = None
heading_line form done h [] (line.Declared chain) =
    cond (may_follow h.table h.last chain) (Some (declared form done h [] chain)) None
heading_line form done h [] (line.Ruled chain rule) =
    sought form done h.table h.declared [] h.rows chain (Adds rule)
heading_line form done h [] (line.Removed chain) = sought form done h.table h.declared [] h.rows chain Goes
heading_line form done h [] line.Commit = committed done h.table h.rows
heading_line form done h [] _ = None

-- a line behind them
abbrev pub body_line : Form → List Section → TableName → Pass → TableParts → List Row → List Row → Line → Option SoFar
body_line form done table Ruling t passed left (line.Ruled chain rule) =
    sought form done table t passed left chain (Adds rule)
body_line form done table Ruling t passed left (line.Removed chain) =
    sought form done table t [] (passed ++ left) chain Goes
body_line form done table Removing t passed left (line.Removed chain) =
    sought form done table t passed left chain Goes
body_line form done table pass t passed left line.Commit = committed done table (passed ++ left)
body_line form done table pass t passed left _ = None

abbrev pub line_in : Form → List Section → Phase → Line → Option SoFar
line_in form done (phase.Between last) l = opened form done last l
line_in form done (phase.Heading h) l = heading_line form done h h.owed l
line_in form done (phase.Body b) l = body_line form done b.table b.pass b.declared b.passed b.left l

-- a further line
abbrev pub step : Form → SoFar → Line → Option SoFar
step form s l = line_in form s.done s.phase l

-- ---- The end of the text

abbrev pub may_end_in : Form → Phase → Bool
may_end_in form (phase.Between last) = may_end form last
may_end_in form (phase.Heading h) = false
may_end_in form (phase.Body b) = false

abbrev pub IsEnd : Form → SoFar → Type 0
IsEnd form s = may_end_in form s.phase ≡ true

-- ---- What sections say

-- the table with the rules of rows
abbrev pub with_rows : TableName → TableParts → List Row → TableParts
with_rows table t [] = t
with_rows table t (row ∷ rows) = with_rows table (put t table row.chain row.rules) rows

-- the table with the chains of sections
abbrev pub with_sections : TableParts → List Section → TableParts
with_sections t [] = t
with_sections t (s ∷ ss) = with_sections (with_rows s.table t s.rows) ss

-- the write of a chain that isn't removed
abbrev pub written : TableName → Row → List Edit
written table row = cond row.removed [] (Write (record { table = table; chain = row.chain }) row.rules ∷ [])

-- the remove of a chain that is
abbrev pub removed : TableName → Row → List Edit
removed table row = cond row.removed (Remove (record { table = table; chain = row.chain }) ∷ []) []

-- the edits of a section
abbrev pub edits_of : TableName → List Row → List Edit
edits_of table rows = flat_map (written table) rows ++ flat_map (removed table) rows

abbrev pub edits_in_sections : List Section → List Edit
edits_in_sections ss = flat_map (λ s. edits_of s.table s.rows) ss
