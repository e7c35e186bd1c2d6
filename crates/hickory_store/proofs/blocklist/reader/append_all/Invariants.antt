use Rattle.std.proofs.Common.{◌≡◌, ◌++◌, ◌<◌, ◌-◌, ◌^◌, List, ℕ, length, vec_len}
use Rattle.std.specs.Io.KnownBytes.{Consumes}
use Rattle.hickory_store.proofs.blocklist.reader.append_all.Given as goal

abbrev pub invariant-chunks : goal.invariant-chunks
invariant-chunks g l = record {
  room : 0 < length l.chunk;
  taken : (front : List ℕ) × Consumes (g.R.ListReader.remaining l.fn.reader) (g.R.ListReader.remaining l.reader) front × (l.bytes.items ≡ l.fn.bytes.items ++ front);
  none_failed : g.R.ListReader.failures l.reader ≡ g.R.ListReader.failures l.fn.reader;
}

abbrev pub decreases-chunks : goal.decreases-chunks
decreases-chunks g l = 2 ^ 64 - vec_len l.bytes
