use Rattle.std.proofs.Common.{◌≡◌, ◌++◌, suc, false, get_or, arith, ◌==◌}
use Rattle.std.proofs.lemmas.Grind.{common_steps}
use Rattle.server_reports.specs.QueryLines.{byte_text, dot_behind}
use Rattle.server_reports.proofs.Labels.{at_label, at_label-len, in_label, in_label-len}
use Rattle.server_reports.proofs.names.put_labels.Goals as goal
use Rattle.server_reports.proofs.names.put_labels.Goals.{then-left-gt0+in_ok-put_in_label, else-left-gt0+else-byte-eq0}

pub loop-i-preserved : goal.loop-i-preserved
loop-i-preserved c =
    let bytes = c.args.bytes.now in
    let i = c.loop-i.i in
    let next = c.if-left-gt0.left in
    elim c.if-left-gt0.branch [
      | then-left-gt0+in_ok-put_in_label w ↦
          let one_less : c.loop-i.left ≡ suc next = grind (arith, common_steps) in
          let put : c.if-left-gt0.line.items ≡ c.loop-i.line.items ++ (byte_text (get_or bytes i 0) ++ dot_behind next) = grind (arith, common_steps) in (
            in_label bytes i c.loop-i.left next c.loop-i.line.items _ _ c.loop-i-test.true one_less put c.loop-i.invariant.0,
            in_label-len bytes i c.loop-i.left next _ c.loop-i-test.true one_less c.loop-i.invariant.1,
          )
      | else-left-gt0+else-byte-eq0 w ↦
          let none : c.loop-i.left ≡ 0 = grind (arith, common_steps) in
          let more : (get_or bytes i 0 == 0) ≡ false = grind (arith, common_steps) in
          let is : next ≡ get_or bytes i 0 = grind (arith, common_steps) in
          let same : c.if-left-gt0.line.items ≡ c.loop-i.line.items = grind (arith, common_steps) in
          rw (is, same) (
            at_label bytes i c.loop-i.left c.loop-i.line.items _ c.loop-i-test.true none more c.loop-i.invariant.0,
            at_label-len bytes i c.loop-i.left _ c.loop-i-test.true none more c.loop-i.invariant.1,
          )
    ]
