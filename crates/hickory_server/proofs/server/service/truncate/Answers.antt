use Rattle.std.proofs.Common.{◌≡◌, [], ◌∷◌, rules, refl, sym}
use Rattle.std.proofs.lemmas.Bool.{false≢true}
use Rattle.hickory_server.specs.server.Fitted.{whole}
use Rattle.hickory_server.specs.server.ServedBy.{truncated}
use Rattle.hickory_server.proofs.server.service.truncate.Goals as goal

pub returns : goal.returns
returns g c =
    let (query, is, class, transfer, all, may, udp) = c.requires in
    let one : c.push.new.self ≡ c.in_ok-bare.field-0 ∷ [] = search rules in
    let (header, made) = rw (c.response_from_request-metadata.ensures, c.message-message.ensures, c.datagram_limit.ensures.limit) at c.in_ok-bare.ensures in
    truncated c.requires (rw udp (whole (header, made, λ leaves. absurd (false≢true (sym leaves.0))))) one refl
