use Rattle.std.proofs.Common.{◌≡◌, ◌+◌, length}
use Rattle.hickory_store.proofs.lemmas.blocklist.ShortenedNames.{IsAbove, NoneFrom}
use Rattle.hickory_store.proofs.blocklist.entries.Entries.is_under_wildcard.Given as goal

abbrev pub invariant-loop : goal.invariant-loop
invariant-loop l = record {
  above : IsAbove l.name l.base;
  counted : length l.base.labels + l.counter ≡ l.shortest + l.count;
  none : NoneFrom l.self-inside.wildcard_bases.keys l.name (length l.base.labels);
}
