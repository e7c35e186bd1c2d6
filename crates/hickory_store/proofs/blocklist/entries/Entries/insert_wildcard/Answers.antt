use Rattle.std.proofs.Common.{sym, subst}
use Rattle.hickory_store.specs.blocklist.Entries.{AddsEntry, AreEntries}
use Rattle.hickory_store.proofs.lemmas.blocklist.KeptNames.{adds_entry, beside_wildcard, beside_back, put_entries, shortened}
use Rattle.hickory_store.proofs.blocklist.entries.Entries.insert_wildcard.Goals as goal

pub invariant_of-self-in-Ok : goal.invariant_of-self-in-Ok
invariant_of-self-in-Ok c = record {
  entries = put_entries c.self.inside.names.keys c.args.name c.insert-2.new.self.keys c.in-Ok.field-0 c.self.invariant.entries c.requires.entry c.in-Ok.ensures.keys c.in-Ok.ensures.unique;
  beside = beside_wildcard c.self.inside.names.keys c.self.inside.wildcard_bases.keys c.self.invariant.beside c.args.name c.requires.entry c.requires.wildcard
      c.remove_first_label.new.self c.insert-2.new.self.keys c.insert.new.self.keys
      (shortened c.args.name c.in_ok-base.base c.remove_first_label.new.self c.requires.entry c.in_ok-base.ensures.cases c.remove_first_label.ensures)
      c.in_ok-insert.ensures.updates.0 c.in-Ok.ensures.updates.0;
}

pub invariant_of-self-in-Err : goal.invariant_of-self-in-Err
invariant_of-self-in-Err c = record {
  entries = subst AreEntries (sym c.in-Err.ensures.err) c.self.invariant.entries;
  beside = beside_back c.self.inside.names.keys c.self.inside.wildcard_bases.keys c.self.invariant.beside c.args.name c.requires.entry c.requires.wildcard
      c.remove_first_label.new.self c.remove_first_label-in-Err.new.self c.insert.new.self.keys c.remove.new.self.keys c.insert-2.new.self.keys
      (shortened c.args.name c.in_ok-base.base c.remove_first_label.new.self c.requires.entry c.in_ok-base.ensures.cases c.remove_first_label.ensures)
      (shortened c.args.name c.in-Err.field-0.value c.remove_first_label-in-Err.new.self c.requires.entry c.in-Err.ensures.value_returned c.remove_first_label-in-Err.ensures)
      c.in_ok-insert.ensures.updates.0 c.remove.ensures.updates.0 c.in-Err.ensures.absent c.in-Err.ensures.err;
}

pub invariant_of-self-in-Err-2 : goal.invariant_of-self-in-Err-2
invariant_of-self-in-Err-2 c = record {
  entries = subst AreEntries (sym c.in-Err.ensures.err) c.self.invariant.entries;
  beside = beside_back c.self.inside.names.keys c.self.inside.wildcard_bases.keys c.self.invariant.beside c.args.name c.requires.entry c.requires.wildcard
      c.remove_first_label.new.self c.remove_first_label-in-Err.new.self c.insert.new.self.keys c.remove.new.self.keys c.insert-2.new.self.keys
      (shortened c.args.name c.in_ok-base.base c.remove_first_label.new.self c.requires.entry c.in_ok-base.ensures.cases c.remove_first_label.ensures)
      (shortened c.args.name c.in-Err.field-0.value c.remove_first_label-in-Err.new.self c.requires.entry c.in-Err.ensures.value_returned c.remove_first_label-in-Err.ensures)
      c.in_ok-insert.ensures.updates.0 c.remove.ensures.updates.0 c.in-Err.ensures.absent c.in-Err.ensures.err;
}

pub returns-in-Ok-clause-ok : goal.returns-in-Ok-clause-ok
returns-in-Ok-clause-ok c =
    subst (λ old. AddsEntry old c.args.name c.insert-2.new.self.keys) c.self.view_is
    (adds_entry c.self.inside.names.keys c.args.name c.insert-2.new.self.keys c.in-Ok.ensures.updates.0)
