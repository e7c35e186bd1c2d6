use Rattle.std.proofs.Common.{map, sym, subst, rules, length, take, List, ℕ, ◌∷◌, []}
use Rattle.std.proofs.lemmas.List.{map-append}
use Rattle.std.proofs.lemmas.Iterator.Consumers.{YieldsList-so_far, YieldsList-turn, YieldsList-end}
use Rattle.std.proofs.lemmas.Iterator.Splits.{YieldsList-from_lines}
use Rattle.std.specs.Str.Lines.{lines}
use Rattle.wire_names.specs.rr.domain.DomainName.{DomainName}
use Rattle.hickory_store.specs.blocklist.Entries.{AddsLines, AddsFirstLines}
use Rattle.hickory_store.proofs.lemmas.blocklist.ListedLines.{adds_more, on_any_err}
use Rattle.hickory_store.proofs.blocklist.entries.Entries.add_lines.Goals as goal

pub loop-line-preserved : goal.loop-line-preserved
loop-line-preserved c =
    let step = c.in_ok-add_line.ensures.ok in
    let more = adds_more c.args.self.now (map (λ x. x.now) c.loop-line.yielded) c.loop-line.self c.in-Some.line.now c.add_line.new.self c.loop-line.invariant.added step in
    record {
      can_next = search rules;
      finite = search rules;
      added = subst (λ (xs : List (List ℕ)). AddsLines c.args.self.now xs c.add_line.new.self) (sym (map-append (λ x. x.now) c.loop-line.yielded (c.in-Some.line ∷ []))) more;
    }

pub returns-in_err-add_line-clause-err : goal.returns-in_err-add_line-clause-err
returns-in_err-add_line-clause-err c =
    let front = YieldsList-so_far (YieldsList-from_lines c.args.text.now cc) c.loop-line.yielded _ c.loop-line.yielded_by in
    let turn = YieldsList-turn (YieldsList-from_lines c.args.text.now cc) c.loop-line.yielded _ c.loop-line.yielded_by _ _ _ c.in-Some.is c.next.ensures.steps in
    let added = subst (λ (xs : List (List ℕ)). AddsLines c.args.self.now xs c.loop-line.self) front c.loop-line.invariant.added in
    let same = subst (λ (now : List DomainName). AddsLines c.args.self.now (take (length c.loop-line.yielded) (lines c.args.text.now)) now) (sym c.in_err-add_line.ensures.err) added in
    on_any_err c.from_residual.result (AddsFirstLines c.args.self.now (lines c.args.text.now) c.add_line.new.self) (length c.loop-line.yielded, turn.0, same)

pub returns-clause-ok : goal.returns-clause-ok
returns-clause-ok c =
    let end = YieldsList-end (YieldsList-from_lines c.args.text.now cc) c.loop-line.yielded _ c.loop-line.yielded_by _ _ c.in-None.is c.next.ensures.steps in
    subst (λ (xs : List (List ℕ)). AddsLines c.args.self.now xs c.loop-line.self) end.0 c.loop-line.invariant.added
