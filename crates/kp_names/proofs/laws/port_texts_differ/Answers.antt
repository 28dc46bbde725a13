use Rattle.kp_names.proofs.TextsApart.{port_texts_apart}
use Rattle.kp_names.proofs.laws.port_texts_differ.Goals as goal

pub returns : goal.returns
returns c = port_texts_apart
