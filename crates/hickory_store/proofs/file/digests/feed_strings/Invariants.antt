-- What the rest feeds makes up what all feed. The rest gets shorter.
use Rattle.std.proofs.Common.{◌≡◌, length}
use Rattle.std.specs.Prelude.{fold}
use Rattle.std.specs.Hash.DefaultHasher as sip
use Rattle.hickory_store.proofs.file.digests.feed_strings.Given as goal

abbrev pub invariant-loop-rest : goal.invariant-loop-rest
invariant-loop-rest l = fold sip.write l.hasher l.rest ≡ fold sip.write l.initial.hasher l.fn.strings

abbrev pub decreases-loop-rest : goal.decreases-loop-rest
decreases-loop-rest l = length l.rest
