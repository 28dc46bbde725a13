use Rattle.std.proofs.lemmas.Map.Made.{IfSome-find_same}
use Rattle.std.proofs.lemmas.Slice.Eq.{bytes_eq-Decides}
use Rattle.kp_interner.proofs.Known.{lent_same}
use Rattle.kp_interner.proofs.interner.Interner.known.Goals as goal

pub returns : goal.returns
returns c =
    lent_same c.get.result _ c.args.text.now c.get.ensures.key
    (IfSome-find_same bytes_eq-Decides c.args.text.now c.self.inside.texts.keys)
