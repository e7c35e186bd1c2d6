use Rattle.server_limits.proofs.lemmas.Tries.{IsWalked}
use Rattle.server_limits.proofs.access_control.trie.Trie.longest_match.Given as goal

abbrev pub invariant-loop-trie : goal.invariant-loop-trie
invariant-loop-trie l = IsWalked l.self l.trie l.address l.longest
