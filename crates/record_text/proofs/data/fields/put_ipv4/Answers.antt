use Rattle.std.proofs.lemmas.Result.{err_from_is_err_and}
use Rattle.std.specs.Net.Addr.{ipv4_octets}
use Rattle.record_text.specs.RecordText.IsField.{ipv4}
use Rattle.record_text.proofs.NoField.{no_ipv4}
use Rattle.record_text.proofs.data.fields.put_ipv4.Goals as goal

pub returns-clause-put : goal.returns-clause-put
returns-clause-put c = λ origin. (ipv4_octets c.in_ok-address.address, rw c.octets.ensures at c.in_ok-extend_from_slice.ensures.items, ipv4 c.in_ok-address.ensures.spelled.0 c.in_ok-address.ensures.spelled.1)

pub returns-in_err-address-clause-refused : goal.returns-in_err-address-clause-refused
returns-in_err-address-clause-refused c =
    let p = err_from_is_err_and c.from_residual.result c.from_residual.ensures.1 in
    rw p.1 (λ other. no_ipv4 c.args.word.now c.in_err-address.ensures.refused)
