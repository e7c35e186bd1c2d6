use Rattle.std.proofs.Common.{rules}
use Rattle.std.proofs.lemmas.Iterator.{items_from_drains}
use Rattle.std.proofs.lemmas.Iterator.Splits.{YieldsList-from_slice_split}
use Rattle.std.proofs.lemmas.Result.{IfOk-weaker}
use Rattle.tsig.specs.KeyFiles.{is_separator}
use Rattle.tsig.proofs.key_file.parts_of.Goals as goal

pub returns : goal.returns
returns c =
    IfOk-weaker c.collect.result _ _
    (λ parts ran. rw ran.2.0
    (items_from_drains ran.0 ran.1 (YieldsList-from_slice_split _ is_separator c.args.line.now c.split.ensures.rest c.split.ensures.done c.split.ensures.closure (λ x b q k. search rules))))
    c.collect.ensures.ran
