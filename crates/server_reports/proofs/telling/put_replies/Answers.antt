use Rattle.std.proofs.Common.{◌++◌, codes, string_bytes}
use Rattle.server_reports.specs.Exposition.{line_of}
use Rattle.server_reports.proofs.Texts.{grew}
use Rattle.server_reports.proofs.telling.put_replies.Goals as goal

pub returns : goal.returns
returns c =
    let so_far1 = grew (string_bytes c.args.text.now) (string_bytes c.put.new.text) (string_bytes c.put_line.new.text) (codes "# TYPE zoned_truncated_total counter\n") (line_of (codes "zoned_truncated_total") c.args.counters.now.truncated) c.in_ok-put.ensures c.in_ok-put_line.ensures in
    let so_far2 = grew (string_bytes c.args.text.now) (string_bytes c.put_line.new.text) (string_bytes c.put-2.new.text) (codes "# TYPE zoned_truncated_total counter\n" ++ line_of (codes "zoned_truncated_total") c.args.counters.now.truncated) (codes "# TYPE zoned_sent_bytes_total counter\n") so_far1 c.in_ok-put-2.ensures in
    grew (string_bytes c.args.text.now) (string_bytes c.put-2.new.text) (string_bytes c.put_line-2.new.text) (codes "# TYPE zoned_truncated_total counter\n" ++ line_of (codes "zoned_truncated_total") c.args.counters.now.truncated ++ codes "# TYPE zoned_sent_bytes_total counter\n") (line_of (codes "zoned_sent_bytes_total") c.args.counters.now.sent) so_far2 c.in_ok-put_line-2.ensures
