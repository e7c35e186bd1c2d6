use Rattle.std.proofs.Common.{refl}
use Rattle.std.proofs.lemmas.Result.{on_ok_weaker}
use Rattle.tsig.specs.KeyFiles.{announces, whole}
use Rattle.tsig.proofs.key_file.Reader.take_other.Goals as goal

pub returns-in-Some : goal.returns-in-Some
returns-in-Some c = announces c.in-Some.field c.requires c.in-Some.ensures refl

pub returns : goal.returns
returns c = on_ok_weaker c.add_key.result (λ adds. whole c.in_ok-key.key c.requires c.in_ok-key.ensures.text adds refl) c.add_key.ensures
