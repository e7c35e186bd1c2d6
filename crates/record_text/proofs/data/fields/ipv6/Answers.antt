use Rattle.std.proofs.Common.{◌≡◌, length, refl, rules, []}
use Rattle.wire_messages.proofs.lemmas.serialize.layout.Ranges.{ipv6_in_range}
use Rattle.record_text.proofs.data.fields.ipv6.Goals as goal

pub returns-in-Err-clause-refused : goal.returns-in-Err-clause-refused
returns-in-Err-clause-refused c = λ address is. c.in-Err.ensures address is.1

pub returns-in-Ok-clause-range : goal.returns-in-Ok-clause-range
returns-in-Ok-clause-range c =
    let size : length c.octets.result ≡ 16 = search rules in
    ipv6_in_range c.in-Ok.address [] c.octets.result c.octets.result c.octets.ensures size refl c.byte_count-len.ensures.bytes
