use Rattle.std.proofs.Common.{◌≡◌, List, ℕ, Err, ap, ◌∙◌, subst}
use Rattle.std.specs.Str.{IsUtf8}
use Rattle.std.specs.Str.Lines.{lines}
use Rattle.wire_names.specs.rr.domain.DomainName.{DomainName}
use Rattle.hickory_store.specs.blocklist.BlockAnswers.{Blocklist}
use Rattle.hickory_store.specs.blocklist.Entries.{AddsLines, AddsFirstLines}
use Rattle.hickory_store.proofs.lemmas.blocklist.AddedLists.{nothing_added, front_added}
use Rattle.hickory_store.proofs.blocklist.handler.BlocklistZoneHandler.add.Goals as goal

pub returns-in_err-bytes-clause-added : goal.returns-in_err-bytes-clause-added
returns-in_err-bytes-clause-added g c =
    nothing_added (g.R.ListReader.remaining c.args.reader.now) (g.R.ListReader.remaining c.read_all.new.reader) c.args.self.now.entries c.from_residual.result c.in_err-bytes.field-0.0
    (λ e. c.in_err-bytes.ensures.no_text (ap Err e)) c.from_residual.ensures.1

pub returns-in_err-add_lines-clause-added : goal.returns-in_err-add_lines-clause-added
returns-in_err-add_lines-clause-added g c =
    let same : c.in-Ok.text.now ≡ c.in_ok-bytes.bytes.items = c.in-Ok.ensures.cases.0 ∙ c.deref.ensures.value in
    front_added (g.R.ListReader.remaining c.args.reader.now) (g.R.ListReader.remaining c.read_all.new.reader) c.args.self.now.entries c.from_residual-in_err-add_lines.result c.in_ok-bytes.bytes.items c.add_lines.new.self
    c.from_residual-in_err-add_lines.ensures.1
    (record { whole = c.in_ok-bytes.ensures.ok; utf8 = subst IsUtf8 c.deref.ensures.value c.in-Ok.ensures.cases.1 })
    (subst (λ (old : List DomainName). AddsFirstLines old (lines c.in_ok-bytes.bytes.items) c.add_lines.new.self) (ap (λ (list : Blocklist). list.entries) c.self.view_is)
    (subst (λ (bs : List ℕ). AddsFirstLines c.self.inside.entries (lines bs) c.add_lines.new.self) same c.in_err-add_lines.ensures.err))

pub returns-clause-added : goal.returns-clause-added
returns-clause-added g c =
    let same : c.in-Ok.text.now ≡ c.in_ok-bytes.bytes.items = c.in-Ok.ensures.cases.0 ∙ c.deref.ensures.value in (
      c.in_ok-bytes.bytes.items,
      record { whole = c.in_ok-bytes.ensures.ok; utf8 = subst IsUtf8 c.deref.ensures.value c.in-Ok.ensures.cases.1 },
      subst (λ (old : List DomainName). AddsLines old (lines c.in_ok-bytes.bytes.items) c.add_lines.new.self) (ap (λ (list : Blocklist). list.entries) c.self.view_is)
          (subst (λ (bs : List ℕ). AddsLines c.self.inside.entries (lines bs) c.add_lines.new.self) same c.in_ok-add_lines.ensures.ok),
    )
