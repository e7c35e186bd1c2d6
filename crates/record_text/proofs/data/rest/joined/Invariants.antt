use Rattle.std.proofs.Common.{◌≡◌, take}
use Rattle.record_text.specs.RecordText.{ArePlain, bytes_of}
use Rattle.record_text.proofs.data.rest.joined.Given as goal

abbrev pub invariant-loop-word : goal.invariant-loop-word
invariant-loop-word l = record {
  plain : ArePlain (take l.word-index l.words);
  bytes : l.bytes.items ≡ bytes_of (take l.word-index l.words);
}
