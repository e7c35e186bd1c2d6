use Rattle.std.proofs.Common.{◌++◌, codes, string_bytes}
use Rattle.server_reports.specs.Exposition.{code_name, line_of}
use Rattle.server_reports.proofs.Texts.{grew}
use Rattle.server_reports.proofs.telling.put_code.Goals as goal

pub returns : goal.returns
returns c =
    let so_far1 = grew (string_bytes c.args.text.now) (string_bytes c.put.new.text) (string_bytes c.put-2.new.text) (codes "zoned_replies_total{code=\"") (code_name c.args.code) c.in_ok-put.ensures (rw c.code_name.ensures at c.in_ok-put-2.ensures) in
    grew (string_bytes c.args.text.now) (string_bytes c.put-2.new.text) (string_bytes c.put_line.new.text) (codes "zoned_replies_total{code=\"" ++ code_name c.args.code) (line_of (codes "\"}") c.args.count) so_far1 c.in_ok-put_line.ensures
