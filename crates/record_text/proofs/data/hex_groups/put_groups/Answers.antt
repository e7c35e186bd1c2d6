use Rattle.std.proofs.Common.{◌<◌, ℕ, List, [], length, sym, append-nil, arith}
use Rattle.std.proofs.lemmas.Result.{err_from_is_err_and}
use Rattle.record_text.proofs.HexGroups.{none, parts_of}
use Rattle.record_text.proofs.HexSteps.{PartTo, end_put, no_group, step_put, still_left, too_many, wrong_end}
use Rattle.record_text.proofs.data.hex_groups.put_groups.Goals as goal

pub groups-init : goal.groups-init
groups-init c = record {
  within = omega arith;
  few = c.requires.some;
  put = ([], sym (append-nil c.args.data.now.items), none);
  left = λ octets is. (c.args.count, omega arith, parts_of c.args.between c.args.kind is);
}

pub groups-preserved : goal.groups-preserved
groups-preserved c =
    let text : List ℕ = c.args.word.now.bytes.now in
    let place : ℕ = c.groups.place in
    let end : ℕ = c.part_end-end.result in
    let part : PartTo c.args.between text place end = record { on = c.part_end-end.ensures.on; within = c.part_end-end.ensures.within; apart = c.part_end-end.ensures.apart; last = c.part_end-end.ensures.last } in
    let below : end < length text = omega arith in
    record {
      within = omega arith;
      few = omega arith;
      put = step_put c.args.between c.args.kind c.groups.groups text place end c.args.data.now.items c.groups.data.items c.put_group.new.data.items part.on below (part.last below) c.groups.invariant.put c.in_ok-put_group.ensures.put;
      left = λ octets is. still_left c.args.between c.args.kind c.args.count c.groups.groups text place end c.requires.no_digit part c.if-end-text.false (c.groups.invariant.left octets is);
    }

pub returns-in_err-put_group-clause-refused : goal.returns-in_err-put_group-clause-refused
returns-in_err-put_group-clause-refused c =
    let text : List ℕ = c.args.word.now.bytes.now in
    let place : ℕ = c.groups.place in
    let end : ℕ = c.part_end-end.result in
    let part : PartTo c.args.between text place end = record { on = c.part_end-end.ensures.on; within = c.part_end-end.ensures.within; apart = c.part_end-end.ensures.apart; last = c.part_end-end.ensures.last } in
    let p = err_from_is_err_and c.from_residual.result c.from_residual.ensures.1 in
    rw (p.1, p.2) (λ other octets is. no_group c.args.between c.args.kind c.args.count c.groups.groups text place end c.requires.no_digit part (c.in_err-put_group.ensures.refused other) (c.groups.invariant.left octets is))

pub returns-then-groups-count-clause-put : goal.returns-then-groups-count-clause-put
returns-then-groups-count-clause-put c =
    let text : List ℕ = c.args.word.now.bytes.now in
    let place : ℕ = c.groups.place in
    let end : ℕ = c.part_end-end.result in
    let part : PartTo c.args.between text place end = record { on = c.part_end-end.ensures.on; within = c.part_end-end.ensures.within; apart = c.part_end-end.ensures.apart; last = c.part_end-end.ensures.last } in
    end_put c.args.between c.args.kind c.groups.groups c.args.count text place end c.args.data.now.items c.groups.data.items c.put_group.new.data.items part.on c.if-end-text.true c.if-groups-count.true c.groups.invariant.put c.in_ok-put_group.ensures.put

pub returns-else-groups-count-clause-refused : goal.returns-else-groups-count-clause-refused
returns-else-groups-count-clause-refused c =
    let text : List ℕ = c.args.word.now.bytes.now in
    let place : ℕ = c.groups.place in
    let end : ℕ = c.part_end-end.result in
    let part : PartTo c.args.between text place end = record { on = c.part_end-end.ensures.on; within = c.part_end-end.ensures.within; apart = c.part_end-end.ensures.apart; last = c.part_end-end.ensures.last } in
    λ other octets is. wrong_end c.args.between c.args.kind c.args.count c.groups.groups text place end c.requires.no_digit part c.if-end-text.true c.if-groups-count.false (c.groups.invariant.left octets is)

pub returns-then-groups-count-2-clause-refused : goal.returns-then-groups-count-2-clause-refused
returns-then-groups-count-2-clause-refused c =
    let text : List ℕ = c.args.word.now.bytes.now in
    let place : ℕ = c.groups.place in
    let end : ℕ = c.part_end-end.result in
    let part : PartTo c.args.between text place end = record { on = c.part_end-end.ensures.on; within = c.part_end-end.ensures.within; apart = c.part_end-end.ensures.apart; last = c.part_end-end.ensures.last } in
    λ other octets is. too_many c.args.between c.args.kind c.args.count c.groups.groups text place end c.requires.no_digit part c.if-end-text.false c.if-groups-count-2.true (c.groups.invariant.left octets is)
