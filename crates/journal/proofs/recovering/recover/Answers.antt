-- What was read is what the file stands for.
use Rattle.std.proofs.Common.{subst, sym, ◌∙◌, IsTrue, rules}
use Rattle.sqlite_disk.specs.Disk.{Only}
use Rattle.journal.specs.Frames.{StandsFor}
use Rattle.journal.specs.JournalFile.{IsJournal}
use Rattle.journal.specs.Read.{contents, IsSplit}
use Rattle.journal.proofs.Recovery.{split_stands, unique}
use Rattle.journal.proofs.recovering.recover.Goals as goal

pub returns-in_err-map_err-clause-recovers : goal.returns-in_err-map_err-clause-recovers
returns-in_err-map_err-clause-recovers g c = record {
  found = search rules;
  settled = search rules;
  journal = search rules;
  journal_crash = λ clean is file left.
      let was = subst IsTrue c.close.ensures.clean clean in
      let read = c.in_ok-bytes.ensures.bytes was in
      let split = subst (λ f. IsSplit f (contents c.in-Ok.found.entries.items) c.in-Ok.found.end) (c.deref-2.ensures.value ∙ sym c.deref-3.ensures.value) c.in-Ok.ensures in
      let only : Only (g.D.Disk.seen c.read_all.new.disk) (g.D.Disk.may_leave c.read_all.new.disk) = λ f now. c.requires.restarted f (c.read_all.ensures.crash f now) ∙ sym c.read_all.ensures.seen in
      c.close.ensures.journal (contents c.in-Ok.found.entries.items) (subst IsJournal (sym read ∙ sym c.deref-3.ensures.value) is) split (c.read_all.ensures.seen ∙ sym read ∙ sym c.deref-3.ensures.value) only file left;
  crash = λ clean entries stands file left.
      let was = subst IsTrue c.close.ensures.clean clean in
      let read = c.in_ok-bytes.ensures.bytes was in
      let split = c.in-Ok.ensures in
      let stands_for : StandsFor (g.D.Disk.seen c.args.disk.now) (contents c.in-Ok.found.entries.items) =
      subst (λ f. StandsFor f (contents c.in-Ok.found.entries.items)) (c.deref-2.ensures.value ∙ read) (split_stands _ _ _ split) in
      let same = unique (g.D.Disk.seen c.args.disk.now) (contents c.in-Ok.found.entries.items) entries stands_for stands in
      let split_2 = subst (λ f. IsSplit f (contents c.in-Ok.found.entries.items) c.in-Ok.found.end) (c.deref-2.ensures.value ∙ sym c.deref-3.ensures.value) split in
      let only : Only (g.D.Disk.seen c.read_all.new.disk) (g.D.Disk.may_leave c.read_all.new.disk) = λ f now. c.requires.restarted f (c.read_all.ensures.crash f now) ∙ sym c.read_all.ensures.seen in
      subst (StandsFor file) same (c.close.ensures.crash (contents c.in-Ok.found.entries.items) split_2 (c.read_all.ensures.seen ∙ sym read ∙ sym c.deref-3.ensures.value) only file left);
}

pub returns-clause-recovers : goal.returns-clause-recovers
returns-clause-recovers g c = record {
  found = λ clean.
      let was = subst IsTrue c.close.ensures.clean clean in
      let read = c.in_ok-bytes.ensures.bytes was in
      subst (λ f. StandsFor f (contents c.in-Ok.found.entries.items)) (c.deref-2.ensures.value ∙ read) (split_stands _ _ _ c.in-Ok.ensures);
  settled = search rules;
  journal = search rules;
  journal_crash = λ clean is file left.
      let was = subst IsTrue c.close.ensures.clean clean in
      let read = c.in_ok-bytes.ensures.bytes was in
      let split = subst (λ f. IsSplit f (contents c.in-Ok.found.entries.items) c.in-Ok.found.end) (c.deref-2.ensures.value ∙ sym c.deref-3.ensures.value) c.in-Ok.ensures in
      let only : Only (g.D.Disk.seen c.read_all.new.disk) (g.D.Disk.may_leave c.read_all.new.disk) = λ f now. c.requires.restarted f (c.read_all.ensures.crash f now) ∙ sym c.read_all.ensures.seen in
      c.close.ensures.journal (contents c.in-Ok.found.entries.items) (subst IsJournal (sym read ∙ sym c.deref-3.ensures.value) is) split (c.read_all.ensures.seen ∙ sym read ∙ sym c.deref-3.ensures.value) only file left;
  crash = λ clean entries stands file left.
      let was = subst IsTrue c.close.ensures.clean clean in
      let read = c.in_ok-bytes.ensures.bytes was in
      let split = c.in-Ok.ensures in
      let stands_for : StandsFor (g.D.Disk.seen c.args.disk.now) (contents c.in-Ok.found.entries.items) =
      subst (λ f. StandsFor f (contents c.in-Ok.found.entries.items)) (c.deref-2.ensures.value ∙ read) (split_stands _ _ _ split) in
      let same = unique (g.D.Disk.seen c.args.disk.now) (contents c.in-Ok.found.entries.items) entries stands_for stands in
      let split_2 = subst (λ f. IsSplit f (contents c.in-Ok.found.entries.items) c.in-Ok.found.end) (c.deref-2.ensures.value ∙ sym c.deref-3.ensures.value) split in
      let only : Only (g.D.Disk.seen c.read_all.new.disk) (g.D.Disk.may_leave c.read_all.new.disk) = λ f now. c.requires.restarted f (c.read_all.ensures.crash f now) ∙ sym c.read_all.ensures.seen in
      subst (StandsFor file) same (c.close.ensures.crash (contents c.in-Ok.found.entries.items) split_2 (c.read_all.ensures.seen ∙ sym read ∙ sym c.deref-3.ensures.value) only file left);
}
