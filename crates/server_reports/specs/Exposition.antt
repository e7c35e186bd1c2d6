-- The text in which monitoring reads the numbers: of each family a line that says its type, and then a line for each
-- number (Prometheus, "Text-based format").
use Rattle.std.specs.Prelude.{◌+◌, ◌++◌, ◌∷◌, [], ℕ, List, codes, get_or}
use Rattle.std.specs.Fmt.{decimal}
use Rattle.server_reports.specs.declared.counters.Counters.{Counters}

-- the line of a number: what is counted, a space, and its decimal digits
abbrev pub line_of : List ℕ → ℕ → List ℕ
line_of what count = what ++ codes " " ++ decimal count ++ codes "\n"

abbrev pub message_lines : Counters → List ℕ
message_lines counts = codes "# TYPE zoned_queries_total counter\n"
    ++ line_of (codes "zoned_queries_total{transport=\"udp\"}") counts.udp
    ++ line_of (codes "zoned_queries_total{transport=\"tcp\"}") counts.tcp
    ++ codes "# TYPE zoned_received_bytes_total counter\n"
    ++ line_of (codes "zoned_received_bytes_total") counts.received

abbrev pub unanswered_lines : Counters → List ℕ
unanswered_lines counts = codes "# TYPE zoned_unanswered_total counter\n"
    ++ line_of (codes "zoned_unanswered_total{reason=\"denied\"}") counts.denied
    ++ line_of (codes "zoned_unanswered_total{reason=\"response\"}") counts.responses
    ++ line_of (codes "zoned_unanswered_total{reason=\"unreadable\"}") counts.unreadable
    ++ line_of (codes "zoned_unanswered_total{reason=\"memory\"}") counts.dropped
    ++ line_of (codes "zoned_unanswered_total{reason=\"limited\"}") counts.limited

abbrev pub reply_lines : Counters → List ℕ
reply_lines counts = codes "# TYPE zoned_truncated_total counter\n"
    ++ line_of (codes "zoned_truncated_total") counts.truncated
    ++ codes "# TYPE zoned_sent_bytes_total counter\n"
    ++ line_of (codes "zoned_sent_bytes_total") counts.sent

-- the names of the response codes from 0 on (RFC 1035 section 4.1.1, RFC 2136 section 2.2), or their numbers where they
-- have none there; and of any other, 15
abbrev pub code_names : List (List ℕ)
code_names = codes "NOERROR" ∷ codes "FORMERR" ∷ codes "SERVFAIL" ∷ codes "NXDOMAIN" ∷ codes "NOTIMP" ∷ codes "REFUSED" ∷ codes "YXDOMAIN" ∷ codes "YXRRSET" ∷ codes "NXRRSET" ∷ codes "NOTAUTH" ∷ codes "NOTZONE" ∷ codes "11" ∷ codes "12" ∷ codes "13" ∷ codes "14" ∷ []

abbrev pub code_name : ℕ → List ℕ
code_name code = get_or code_names code (codes "15")

-- the line of a response code
abbrev pub code_line : ℕ → ℕ → List ℕ
code_line code count = codes "zoned_replies_total{code=\"" ++ code_name code ++ line_of (codes "\"}") count

-- the lines of the codes from this one on
abbrev pub code_lines_from : ℕ → List ℕ → List ℕ
code_lines_from code [] = []
code_lines_from code (count ∷ counts) = code_line code count ++ code_lines_from (code + 1) counts

abbrev pub code_lines : List ℕ → List ℕ
code_lines counts = codes "# TYPE zoned_replies_total counter\n" ++ code_lines_from 0 counts

-- the text of all numbers
abbrev pub exposition_of : Counters → List ℕ
exposition_of counts = message_lines counts ++ unanswered_lines counts ++ code_lines counts.codes ++ reply_lines counts
