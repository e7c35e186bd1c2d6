use Rattle.std.proofs.Common.{◌≡◌, [], ◌∷◌, rules, take, refl, subst}
use Rattle.std.specs.Io.KnownBytes.{Consumes}
use Rattle.std.proofs.KnownBytes.{Consumes-trans}
use Rattle.zone_serve.proofs.frames.next_message_in.Goals as goal

pub returns-in_ok-read_message-in-len2 : goal.returns-in_ok-read_message-in-len2
returns-in_ok-read_message-in-len2 g c =
    let filled = c.in_ok-count.ensures in
    let read = c.in_ok-read_message-in-len2.ensures in
    let high = c.from.result in
    let low = c.from-in-len2.result in
    let front : take c.in_ok-count.count c.fill.new.buffer ≡ high ∷ low ∷ [] = search rules in (
      high ∷ low ∷ c.read_message.new.message.items,
      record { high = high; low = low; low_in = search rules; length_is = read.0; bytes_are = refl },
      Consumes-trans _ _ _ _ _ (subst (Consumes _ _) front filled.1) read.1,
    )
