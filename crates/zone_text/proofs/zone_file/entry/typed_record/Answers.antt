use Rattle.std.proofs.Common.{◌≡◌, ◌∙◌, ℕ, Option, Some, None, sym, ap, refl, rules}
use Rattle.zone_text.specs.ZoneFiles.{last_ttl, ttl_in_force, zone_minimum}
use Rattle.std.proofs.lemmas.Result.{err_from_is_err_and}
use Rattle.zone_text.proofs.BehindOwner.{no_data, no_ttl_here}
use Rattle.zone_text.proofs.ReadBack.{spelled_formed}
use Rattle.zone_text.proofs.zone_file.entry.typed_record.Goals as goal

pub returns-in_err-rdata-clause-refused : goal.returns-in_err-rdata-clause-refused
returns-in_err-rdata-clause-refused c =
    let p = err_from_is_err_and c.from_residual.result c.from_residual.ensures.1 in
    rw (p.1, p.2) (λ other. no_data c.args.before.now c.args.front.now.ttl c.args.front.now.record_type c.args.data.now (c.in_err-rdata.ensures.refused other))

pub returns-in_default-clause-refused : goal.returns-in_default-clause-refused
returns-in_default-clause-refused c =
    let none : ttl_in_force c.args.front.now.ttl c.args.before.now.default_ttl c.map-last.result (zone_minimum c.in_ok-rdata.rdata) ≡ None =
    ap (λ (m : Option ℕ). ttl_in_force c.args.front.now.ttl c.args.before.now.default_ttl c.map-last.result m) (sym c.zone_minimum-minimum.ensures) ∙ sym c.ttl_in_force.ensures ∙ c.in_default.is in
    let last : c.map-last.result ≡ last_ttl c.args.before.now.records = search rules in
    λ other. no_ttl_here c.args.before.now c.args.front.now.ttl c.args.front.now.record_type c.args.data.now c.in_ok-rdata.rdata c.args.before.now.default_ttl c.map-last.result c.in_ok-rdata.ensures.form refl last none

pub reads_back-requires-clause-formed : goal.reads_back-requires-clause-formed
reads_back-requires-clause-formed c = spelled_formed (Some c.args.before.now.origin) c.args.front.now.record_type c.args.data.now c.in_ok-rdata.rdata c.in_ok-rdata.ensures.spelled
