-- The rows of an object's metadata (Kubernetes API, ObjectMeta v1).
use Rattle.std.specs.Prelude.{codes}
use Rattle.kp_row_defs.specs.Rows.{Row, done, ◌▸◌, field, inside, needed, optional, name_text, texts}

-- the name
abbrev pub name_row : Row
name_row = field (codes "name") needed name_text

-- the namespace
abbrev pub namespace_row : Row
namespace_row = field (codes "namespace") optional name_text

-- the labels, each a text
abbrev pub texts_row : Row
texts_row = field (codes "labels") optional texts

-- the name and the namespace, and nothing else
abbrev pub key_row : Row
key_row = inside (codes "metadata") needed (name_row ▸ namespace_row ▸ done)

-- the name of an object without a namespace
abbrev pub only_name_row : Row
only_name_row = inside (codes "metadata") needed (name_row ▸ done)
