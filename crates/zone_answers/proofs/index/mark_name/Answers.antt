use Rattle.std.proofs.Common.{◌≡◌, ◌∙◌, false, inl, inr, length, Some, ap, arith, refl, sym}
use Rattle.std.specs.Prelude.{slice_get}
use Rattle.std.proofs.lemmas.Bool.{cases_lt}
use Rattle.std.proofs.lemmas.List.{length-set}
use Rattle.std.proofs.lemmas.Option.{slice_get_read, slice_get_within}
use Rattle.wire_names.specs.rr.domain.NameOrder.{name_eq}
use Rattle.hickory_base.specs.zone_store.ZoneSets.{has_name}
use Rattle.zone_answers.proofs.lemmas.zones.Marked.{marks_at, none_after, none_before}
use Rattle.zone_answers.specs.representation.KeysBeside.{Entry}
use Rattle.zone_answers.proofs.index.mark_name.Goals as goal

pub loop-next-init : goal.loop-next-init
loop-next-init c =
    let marks = c.args.marks.now.items in
    let place = c.args.place in
    record {
      len = length-set marks place _;
      from = omega arith;
      within = c.requires.within;
      kept = λ other h. (marks_at marks place other h).0;
      place_too = λ h. (marks_at marks place place h).1 refl;
      own = λ other e low clear. none_before c.args.first.now c.requires.least c.args.entries.now place c.requires.place other e low clear.there;
    }

pub index_mut-requires-in-loop-next : goal.index_mut-requires-in-loop-next
index_mut-requires-in-loop-next c = omega (arith, c.loop-next-test.true, c.loop-next.invariant.len, c.requires.marks)

pub loop-next-preserved : goal.loop-next-preserved
loop-next-preserved c =
    let marks = c.loop-next.marks.items in
    let next = c.loop-next.next in
    let so_far = c.loop-next.invariant in
    record {
      len = length-set marks next _ ∙ so_far.len;
      from = omega (arith, so_far.from);
      within = omega (arith, c.loop-next-test.true);
      kept = λ other h. so_far.kept other (marks_at marks next other h).0;
      place_too = λ h. so_far.place_too (marks_at marks next c.args.place h).0;
      own = λ other e low clear. let at = marks_at marks next other clear.clear in elim (cases_lt other next) [
        | inl less ↦ so_far.own other e less (record { there = clear.there; clear = at.0 })
        | inr up ↦ absurd (at.1 (omega (arith, low, up)))
      ];
    }

pub returns-else-eq-clause-len : goal.returns-else-eq-clause-len
returns-else-eq-clause-len c = c.loop-next.invariant.len

pub returns-else-eq-clause-is : goal.returns-else-eq-clause-is
returns-else-eq-clause-is c =
    let entries = c.args.entries.now in
    let first = c.args.first.now in
    let next = c.loop-next.next in
    let so_far = c.loop-next.invariant in
    let x : Entry = c.index-entries-next.result in
    let there : slice_get entries next ≡ Some x = slice_get_read entries (length entries) next x refl c.loop-next-test.true c.index-entries-next.is in
    let apart : has_name first.name x.0 ≡ false = ap (λ (y : Entry). name_eq first.name y.0.name) c.index-entries-next.is ∙ sym c.eq.ensures ∙ c.if-eq.false in
    record {
      kept = so_far.kept;
      place_too = so_far.place_too;
      own = λ other e clear. elim (cases_lt other next) [
        | inl less ↦ so_far.own other e less clear
        | inr up ↦ none_after first c.requires.least entries c.args.place c.requires.place c.requires.ordered next other x e so_far.from up there apart clear.there
      ];
    }

pub returns-after-loop-next-clause-len : goal.returns-after-loop-next-clause-len
returns-after-loop-next-clause-len c = c.loop-next.invariant.len

pub returns-after-loop-next-clause-is : goal.returns-after-loop-next-clause-is
returns-after-loop-next-clause-is c =
    let so_far = c.loop-next.invariant in
    record {
      kept = so_far.kept;
      place_too = so_far.place_too;
      own = λ other e clear. so_far.own other e (omega (arith, slice_get_within c.args.entries.now other e clear.there, c.loop-next-test.false)) clear;
    }
