use Rattle.std.proofs.Common.{map, sym, subst, rules, List, ℕ, ◌∷◌, ◌++◌, []}
use Rattle.std.specs.List.{AllZip}
use Rattle.std.proofs.lemmas.List.{map-append}
use Rattle.std.proofs.lemmas.Iterator.Consumers.{YieldsList-end}
use Rattle.std.proofs.lemmas.Iterator.Splits.{YieldsList-from_lines}
use Rattle.hickory_store.specs.blocklist.ListReports.{IsLine}
use Rattle.hickory_store.proofs.lemmas.blocklist.ListReports.{said-push}
use Rattle.hickory_store.proofs.blocklist.report.ListReport.of_text.Goals as goal

pub loop-line-preserved : goal.loop-line-preserved
loop-line-preserved c =
    let said = c.loop-line.invariant.said in
    let more = said-push (map (λ x. x.now) c.loop-line.yielded) said.0 c.in-Some.line.now c.in_ok-list_line.field-0 said.1 c.in_ok-list_line.ensures in
    record {
      can_next = search rules;
      finite = search rules;
      said = (
        said.0 ++ c.in_ok-list_line.field-0 ∷ [],
        subst (λ (xs : List (List ℕ)). AllZip IsLine xs (said.0 ++ c.in_ok-list_line.field-0 ∷ [])) (sym (map-append (λ x. x.now) c.loop-line.yielded (c.in-Some.line ∷ []))) more,
        c.in_ok-count.ensures said.0 said.2,
      );
    }

pub returns : goal.returns
returns c =
    let end = YieldsList-end (YieldsList-from_lines c.args.text.now cc) c.loop-line.yielded _ c.loop-line.yielded_by _ _ c.in-None.is c.next.ensures.steps in
    let said = c.loop-line.invariant.said in
    (said.0, subst (λ (xs : List (List ℕ)). AllZip IsLine xs said.0) end.0 said.1, said.2)
