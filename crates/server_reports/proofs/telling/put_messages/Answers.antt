use Rattle.std.proofs.Common.{◌++◌, codes, string_bytes}
use Rattle.server_reports.specs.Exposition.{line_of}
use Rattle.server_reports.proofs.Texts.{grew}
use Rattle.server_reports.proofs.telling.put_messages.Goals as goal

pub returns : goal.returns
returns c =
    let so_far1 = grew (string_bytes c.args.text.now) (string_bytes c.put.new.text) (string_bytes c.put_line.new.text) (codes "# TYPE zoned_queries_total counter\n") (line_of (codes "zoned_queries_total{transport=\"udp\"}") c.args.counters.now.udp) c.in_ok-put.ensures c.in_ok-put_line.ensures in
    let so_far2 = grew (string_bytes c.args.text.now) (string_bytes c.put_line.new.text) (string_bytes c.put_line-2.new.text) (codes "# TYPE zoned_queries_total counter\n" ++ line_of (codes "zoned_queries_total{transport=\"udp\"}") c.args.counters.now.udp) (line_of (codes "zoned_queries_total{transport=\"tcp\"}") c.args.counters.now.tcp) so_far1 c.in_ok-put_line-2.ensures in
    let so_far3 = grew (string_bytes c.args.text.now) (string_bytes c.put_line-2.new.text) (string_bytes c.put-2.new.text) (codes "# TYPE zoned_queries_total counter\n" ++ line_of (codes "zoned_queries_total{transport=\"udp\"}") c.args.counters.now.udp ++ line_of (codes "zoned_queries_total{transport=\"tcp\"}") c.args.counters.now.tcp) (codes "# TYPE zoned_received_bytes_total counter\n") so_far2 c.in_ok-put-2.ensures in
    grew (string_bytes c.args.text.now) (string_bytes c.put-2.new.text) (string_bytes c.put_line-3.new.text) (codes "# TYPE zoned_queries_total counter\n" ++ line_of (codes "zoned_queries_total{transport=\"udp\"}") c.args.counters.now.udp ++ line_of (codes "zoned_queries_total{transport=\"tcp\"}") c.args.counters.now.tcp ++ codes "# TYPE zoned_received_bytes_total counter\n") (line_of (codes "zoned_received_bytes_total") c.args.counters.now.received) so_far3 c.in_ok-put_line-3.ensures
