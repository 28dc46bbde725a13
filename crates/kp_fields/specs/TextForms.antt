-- The forms of texts that are read alike, and how definitions name them.
use Rattle.std.specs.Prelude.{ℕ, Bool, true, List}
use Rattle.kp_base.specs.Grammar.{is_name_text, is_port_name_text, is_label_text}
use Rattle.kp_row_defs.specs.Rows.{Form, any_text, name_text, port_name_text, label_text}
use Rattle.kp_fields.specs.declared.text.TextForm.{TextForm}
use Rattle.kp_fields.specs.declared.text.TextForm.TheVariants.{Any, Name, PortName, Label}

-- the form of a row
abbrev pub form_of : TextForm → Form
form_of Any = any_text
form_of Name = name_text
form_of PortName = port_name_text
form_of Label = label_text

-- whether a text has a form
abbrev pub accepts : TextForm → List ℕ → Bool
accepts Any text = true
accepts Name text = is_name_text text
accepts PortName text = is_port_name_text text
accepts Label text = is_label_text text
