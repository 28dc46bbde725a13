use Rattle.kp_restore.proofs.Machine.{same_value}
use Rattle.kp_restore.proofs.TableTexts.{table_reader}
use Rattle.kp_restore.proofs.laws.table_texts_differ.Goals as goal

pub returns : goal.returns
returns c = λ family. same_value (table_reader family)
