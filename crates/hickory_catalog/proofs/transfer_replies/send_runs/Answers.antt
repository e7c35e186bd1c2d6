use Rattle.std.proofs.Common.{◌<◌, ◌≤◌, length, inl, inr, arith}
use Rattle.std.specs.Option.{option_copied}
use Rattle.hickory_catalog.specs.transfers.Transfers.{size_without_answers}
use Rattle.hickory_catalog.proofs.lemmas.replies.SentInOrder.{runs_ended, runs_start, runs_step, runs_whole}
use Rattle.hickory_catalog.proofs.transfer_replies.send_runs.Goals as goal

pub loop-len-init : goal.loop-len-init
loop-len-init g c =
    runs_start g.R.ResponseHandler c.args.request.now (option_copied c.args.edns) (size_without_answers c.args.request.now (option_copied c.args.edns)) c.room_for_answers-room.result
    c.args.sink.now c.args.records.now c.run_len-len.result c.run_len-len.ensures

pub returns-in-Err : goal.returns-in-Err
returns-in-Err g c =
    let more : c.loop-len.len < length c.loop-len.rest.now = omega (arith, c.loop-len-test.true) in
    runs_ended g.R.ResponseHandler c.args.request.now (option_copied c.args.edns) (size_without_answers c.args.request.now (option_copied c.args.edns)) c.room_for_answers-room.result
    c.args.sink.now c.args.records.now c.room_for_answers-room.ensures c.loop-len.sink c.loop-len.rest.now c.loop-len.len c.loop-len.invariant
    c.send_records.new.sink _ more (rw c.split_at.ensures.front at c.in-Err.ensures.failed)

pub loop-len-smaller : goal.loop-len-smaller
loop-len-smaller g c =
    let more : c.loop-len.len < length c.loop-len.rest.now = omega (arith, c.loop-len-test.true) in
    omega (arith, more, c.split_at.ensures.back_len, c.loop-len.invariant.counted.some (omega (arith, more)))

pub loop-len-preserved : goal.loop-len-preserved
loop-len-preserved g c =
    let more : c.loop-len.len < length c.loop-len.rest.now = omega (arith, c.loop-len-test.true) in
    rw c.split_at.ensures.back
    (runs_step g.R.ResponseHandler c.args.request.now (option_copied c.args.edns) (size_without_answers c.args.request.now (option_copied c.args.edns)) c.room_for_answers-room.result
    c.args.sink.now c.args.records.now c.room_for_answers-room.ensures c.loop-len.sink c.loop-len.rest.now c.loop-len.len c.loop-len.invariant
    c.send_records.new.sink _ c.run_len-len-in-loop-len.result more (rw c.split_at.ensures.front at c.in_default.ensures.taken) (rw c.split_at.ensures.back at c.run_len-len-in-loop-len.ensures))

pub returns-in-Ok : goal.returns-in-Ok
returns-in-Ok g c =
    let no_more : length c.loop-len.rest.now ≤ c.loop-len.len = omega (arith, c.loop-len-test.false) in
    let took = c.in-Ok.ensures.taken in
    runs_whole g.R.ResponseHandler c.args.request.now (option_copied c.args.edns) (size_without_answers c.args.request.now (option_copied c.args.edns)) c.room_for_answers-room.result
    c.args.sink.now c.args.records.now c.room_for_answers-room.ensures c.loop-len.sink c.loop-len.rest.now c.loop-len.len c.loop-len.invariant
    c.send_records-2.new.sink _ no_more (took.0, inl took.1)

pub returns-in-Err-send_records : goal.returns-in-Err-send_records
returns-in-Err-send_records g c =
    let no_more : length c.loop-len.rest.now ≤ c.loop-len.len = omega (arith, c.loop-len-test.false) in
    let failed = c.in-Err-send_records.ensures.failed in
    runs_whole g.R.ResponseHandler c.args.request.now (option_copied c.args.edns) (size_without_answers c.args.request.now (option_copied c.args.edns)) c.room_for_answers-room.result
    c.args.sink.now c.args.records.now c.room_for_answers-room.ensures c.loop-len.sink c.loop-len.rest.now c.loop-len.len c.loop-len.invariant
    c.send_records-2.new.sink _ no_more (failed.0, inr failed.1)
