use Rattle.std.proofs.Common.{◌≡◌, ◌<◌, ◌∙◌, Some, None, ap, get_or, length, refl, arith}
use Rattle.std.proofs.lemmas.Option.{slice_get-get_or}
use Rattle.std.specs.List.{slice_get}
use Rattle.wire_messages.specs.rr.RecordSameness.{SameRecord}
use Rattle.wire_messages.specs.declared.rr.rdata.RData.{RData}
use Rattle.wire_messages.specs.declared.rr.record.Record.{Record}
use Rattle.zone_check.proofs.Earlier.{begun, below_here, found, known, next, none_of, nowhere}
use Rattle.zone_check.proofs.Walks.{refused}
use Rattle.zone_check.proofs.index.stands_before.Goals as goal

pub earlier-init : goal.earlier-init
earlier-init c = record { on = omega arith; walked = λ r there. begun c.args.records.now c.args.place r there }

pub bounds : goal.bounds
bounds c = omega (arith, c.requires.earlier.size)

pub are_same_at-requires-clause-one : goal.are_same_at-requires-clause-one
are_same_at-requires-clause-one c =
    let records = c.args.records.now in
    let within : c.earlier.at < length records = omega arith in
    let below : c.in-Some.before < c.earlier.at = below_here records c.args.earlier.now c.requires.earlier c.earlier.at within c.in-Some.before c.in-Some.is in
    omega arith

pub returns-then-are_same_at : goal.returns-then-are_same_at
returns-then-are_same_at c = λ r there.
    let records = c.args.records.now in
    let earlier = c.args.earlier.now in
    let at = c.earlier.at in
    let before = c.in-Some.before in
    let within : at < length records = omega arith in
    let below : before < at = below_here records earlier c.requires.earlier at within before c.in-Some.is in
    let inside : before < length records = omega arith in
    let q : Record RData = get_or records at r in
    let other : Record RData = get_or records before r in
    let at_q : slice_get records at ≡ Some q = slice_get-get_or records at r within in
    let at_other : slice_get records before ≡ Some other = slice_get-get_or records before r inside in
    let link : slice_get earlier at ≡ Some (Some before) = known records earlier c.requires.earlier at within ∙ ap Some c.in-Some.is in
    let same : SameRecord other r = (c.are_same_at.ensures other r at_other there).0 c.if-are_same_at.true in
    (λ _. found records earlier c.requires.earlier c.args.place r at (c.earlier.invariant.walked r there) q at_q before other within link at_other same, λ _. refl)

pub earlier-smaller : goal.earlier-smaller
earlier-smaller c =
    let within : c.earlier.at < length c.args.records.now = omega arith in
    below_here c.args.records.now c.args.earlier.now c.requires.earlier c.earlier.at within c.in-Some.before c.in-Some.is

pub earlier-preserved : goal.earlier-preserved
earlier-preserved c =
    let records = c.args.records.now in
    let earlier = c.args.earlier.now in
    let at = c.earlier.at in
    let before = c.in-Some.before in
    let within : at < length records = omega arith in
    let below : before < at = below_here records earlier c.requires.earlier at within before c.in-Some.is in
    let inside : before < length records = omega arith in
    let link : slice_get earlier at ≡ Some (Some before) = known records earlier c.requires.earlier at within ∙ ap Some c.in-Some.is in
    record {
      on = omega arith;
      walked = λ r there.
          let q : Record RData = get_or records at r in
          let other : Record RData = get_or records before r in
          let at_q : slice_get records at ≡ Some q = slice_get-get_or records at r within in
          let at_other : slice_get records before ≡ Some other = slice_get-get_or records before r inside in
          next records earlier c.requires.earlier c.args.place r at (c.earlier.invariant.walked r there) q at_q before other within link at_other
          (λ same. refused c.are_same_at.result ((c.are_same_at.ensures other r at_other there).1 same) c.if-are_same_at.false);
    }

pub returns : goal.returns
returns c = λ r there.
    let records = c.args.records.now in
    let earlier = c.args.earlier.now in
    let at = c.earlier.at in
    let within : at < length records = omega arith in
    let q : Record RData = get_or records at r in
    let at_q : slice_get records at ≡ Some q = slice_get-get_or records at r within in
    let none : get_or earlier at None ≡ None = none_of (get_or earlier at None) c.in_default.not-Some in
    let link : slice_get earlier at ≡ Some None = known records earlier c.requires.earlier at within ∙ ap Some none in
    (λ no. absurd (cc), λ repeated. absurd (nowhere records earlier c.requires.earlier c.args.place r at (c.earlier.invariant.walked r there) q at_q within link repeated))
