use Rattle.std.proofs.Common.{length}
use Rattle.std.specs.String.{string_bytes}
use Rattle.name_lists.specs.Words.{words_before_comment}
use Rattle.name_lists.proofs.Hosts.{HostsSoFar}
use Rattle.name_lists.proofs.gives.push_hosts.Given as goal

abbrev pub invariant-loop-word : goal.invariant-loop-word
invariant-loop-word l = HostsSoFar l.is_behind_sink (words_before_comment l.fn.text) (words_before_comment l.rest) (string_bytes l.fn.names) (string_bytes l.names)

abbrev pub decreases-loop-word : goal.decreases-loop-word
decreases-loop-word l = length l.rest
