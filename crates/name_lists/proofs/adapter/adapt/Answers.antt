use Rattle.std.proofs.Common.{ap, arith}
use Rattle.std.specs.String.{string_bytes}
use Rattle.std.proofs.lemmas.Str.{IsUtf8-string_bytes}
use Rattle.name_lists.specs.Counts.{lines_in}
use Rattle.name_lists.specs.Words.{lines_of, without_mark}
use Rattle.name_lists.proofs.Adapting.{adapting_more, adapting_all, counted_one}
use Rattle.name_lists.proofs.adapter.adapt.Goals as goal

pub loop-line-preserved : goal.loop-line-preserved
loop-line-preserved c =
    let adds = c.in_ok-add_line.ensures in
    record {
      so_far = adapting_more (lines_of (without_mark c.args.list.now)) (lines_of c.loop-line.rest.now) c.in-Some.line.now (lines_of c.in-Some.behind.now)
          (string_bytes c.loop-line.text) (string_bytes c.add_line.new.text) c.loop-line.report c.add_line.new.report c.loop-line.invariant.so_far c.in-Some.ensures.0 adds;
      room = omega (arith, c.in-Some.ensures.1, c.loop-line.invariant.room, ap lines_in adds.counts_it, counted_one c.loop-line.report adds.outcome);
    }

pub returns : goal.returns
returns c =
    let all = adapting_all (lines_of (without_mark c.args.list.now)) (lines_of c.loop-line.rest.now) (string_bytes c.loop-line.text) c.loop-line.report
    c.loop-line.invariant.so_far (ap lines_of c.in_default.ensures) in
    record { adapted = record { outcomes = all.0; become = all.1; handed = all.2; counted = all.3 }; utf8 = IsUtf8-string_bytes c.loop-line.text }
