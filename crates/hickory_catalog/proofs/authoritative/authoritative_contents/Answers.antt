use Rattle.std.proofs.Common.{◌≡◌, Some, rules}
use Rattle.hickory_catalog.specs.queries.Authoritative.{refusal_code, refuses}
use Rattle.hickory_catalog.proofs.authoritative.authoritative_contents.Goals as goal

pub returns-in-Some-clause-replied : goal.returns-in-Some-clause-replied
returns-in-Some-clause-replied g c =
    let code : refusal_code c.in-Err.e ≡ Some c.in-Some.code = search rules in
    rw c.in-Err.is (refuses code (rw (c.authoritative_metadata-metadata.ensures, c.metadata.ensures) at c.bare.ensures))
