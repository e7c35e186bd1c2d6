use Rattle.std.proofs.Common.{◌++◌, codes, string_bytes}
use Rattle.server_reports.specs.Exposition.{line_of}
use Rattle.server_reports.proofs.Texts.{grew}
use Rattle.server_reports.proofs.telling.put_unanswered.Goals as goal

pub returns : goal.returns
returns c =
    let so_far1 = grew (string_bytes c.args.text.now) (string_bytes c.put.new.text) (string_bytes c.put_line.new.text) (codes "# TYPE zoned_unanswered_total counter\n") (line_of (codes "zoned_unanswered_total{reason=\"denied\"}") c.args.counters.now.denied) c.in_ok-put.ensures c.in_ok-put_line.ensures in
    let so_far2 = grew (string_bytes c.args.text.now) (string_bytes c.put_line.new.text) (string_bytes c.put_line-2.new.text) (codes "# TYPE zoned_unanswered_total counter\n" ++ line_of (codes "zoned_unanswered_total{reason=\"denied\"}") c.args.counters.now.denied) (line_of (codes "zoned_unanswered_total{reason=\"response\"}") c.args.counters.now.responses) so_far1 c.in_ok-put_line-2.ensures in
    let so_far3 = grew (string_bytes c.args.text.now) (string_bytes c.put_line-2.new.text) (string_bytes c.put_line-3.new.text) (codes "# TYPE zoned_unanswered_total counter\n" ++ line_of (codes "zoned_unanswered_total{reason=\"denied\"}") c.args.counters.now.denied ++ line_of (codes "zoned_unanswered_total{reason=\"response\"}") c.args.counters.now.responses) (line_of (codes "zoned_unanswered_total{reason=\"unreadable\"}") c.args.counters.now.unreadable) so_far2 c.in_ok-put_line-3.ensures in
    let so_far4 = grew (string_bytes c.args.text.now) (string_bytes c.put_line-3.new.text) (string_bytes c.put_line-4.new.text) (codes "# TYPE zoned_unanswered_total counter\n" ++ line_of (codes "zoned_unanswered_total{reason=\"denied\"}") c.args.counters.now.denied ++ line_of (codes "zoned_unanswered_total{reason=\"response\"}") c.args.counters.now.responses ++ line_of (codes "zoned_unanswered_total{reason=\"unreadable\"}") c.args.counters.now.unreadable) (line_of (codes "zoned_unanswered_total{reason=\"memory\"}") c.args.counters.now.dropped) so_far3 c.in_ok-put_line-4.ensures in
    grew (string_bytes c.args.text.now) (string_bytes c.put_line-4.new.text) (string_bytes c.put_line-5.new.text) (codes "# TYPE zoned_unanswered_total counter\n" ++ line_of (codes "zoned_unanswered_total{reason=\"denied\"}") c.args.counters.now.denied ++ line_of (codes "zoned_unanswered_total{reason=\"response\"}") c.args.counters.now.responses ++ line_of (codes "zoned_unanswered_total{reason=\"unreadable\"}") c.args.counters.now.unreadable ++ line_of (codes "zoned_unanswered_total{reason=\"memory\"}") c.args.counters.now.dropped) (line_of (codes "zoned_unanswered_total{reason=\"limited\"}") c.args.counters.now.limited) so_far4 c.in_ok-put_line-5.ensures
