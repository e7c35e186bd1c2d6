use Rattle.std.proofs.Common.{sym, ◌∙◌, subst}
use Rattle.hickory_store.specs.blocklist.Entries.{AddsEntry}
use Rattle.hickory_store.proofs.lemmas.blocklist.KeptNames.{adds_entry, beside_plain, put_entries}
use Rattle.hickory_store.proofs.blocklist.entries.Entries.insert.Goals as goal

pub invariant_of-self-2 : goal.invariant_of-self-2
invariant_of-self-2 c = record {
  entries = put_entries c.self.inside.names.keys c.args.listed.name c.insert.new.self.keys c.in_ok-insert.field-0 c.self.invariant.entries c.requires.entry c.in_ok-insert.ensures.keys c.in_ok-insert.ensures.unique;
  beside = beside_plain c.self.inside.names.keys c.args.listed.name c.insert.new.self.keys c.self.inside.wildcard_bases.keys c.self.invariant.beside c.requires.entry (sym c.requires.marked ∙ c.if-listed.false) c.in_ok-insert.ensures.updates.0;
}

pub returns-clause-ok : goal.returns-clause-ok
returns-clause-ok c =
    subst (λ old. AddsEntry old c.args.listed.name c.insert.new.self.keys) c.self.view_is
    (adds_entry c.self.inside.names.keys c.args.listed.name c.insert.new.self.keys c.in_ok-insert.ensures.updates.0)
