use Rattle.std.proofs.Common.{rules, ◌≡◌, ◌<◌, length, get_or, bit_xor}
use Rattle.std.proofs.lemmas.List.Edits.{map_over_more}
use Rattle.calling.proofs.hmac.padded.Goals as goal

-- src/hmac.rt:13:5
pub octets-preserved : goal.octets-preserved
octets-preserved c =
    let i = c.octets.i in
    let octet = get_or c.octets.padded i 0 in
    let inside : i < length c.args.block.now = search rules in
    let default : octet ≡ get_or c.octets.padded i octet = search rules in
    map_over_more (λ key_octet. bit_xor key_octet c.args.octet) c.args.block.now c.octets.padded i octet inside c.octets.invariant default
