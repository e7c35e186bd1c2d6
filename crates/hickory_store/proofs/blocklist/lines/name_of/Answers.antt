use Rattle.std.proofs.Common.{lit<, ◌∙◌, sym, ap}
use Rattle.std.specs.Str.{bytes_eq}
use Rattle.hickory_store.proofs.lemmas.blocklist.FirstBytes.{unspecified, bare}
use Rattle.hickory_store.proofs.blocklist.lines.name_of.Goals as goal

pub returns-in-Some : goal.returns-in-Some
returns-in-Some c =
    let parts = c.in-Some.ensures.byte (lit< tt) (λ w o f. f) in
    unspecified c.args.entry.now c.in-Some.address.now c.in-Some.name.now parts.0 parts.1 parts.2 (ap (λ t. bytes_eq t _) (sym c.trim.ensures.trim) ∙ sym c.eq.ensures ∙ c.if-eq.true)

pub returns-in-None : goal.returns-in-None
returns-in-None c = bare c.args.entry.now (c.in-None.ensures.byte (lit< tt) (λ w o f. f))
