-- The server and the log are as they were when replies that do not wait were taken away.
use Rattle.std.proofs.Common.{ap}
use Rattle.server.specs.declared.answering.Answering.{Answering}
use Rattle.server.proofs.answering.Answering.serve.Goals as goal

pub returns-in-Ok-Replies-clause-ok : goal.returns-in-Ok-Replies-clause-ok
returns-in-Ok-Replies-clause-ok g c =
    let server = ap (λ (a : Answering _ _). a.server) c.take_spare-spare.ensures.others in
    rw server at (rw c.in-Ok-Replies.field-0-is at c.in-Ok-Replies.ensures.ok)

pub returns-in-Ok-Denied-clause-err : goal.returns-in-Ok-Denied-clause-err
returns-in-Ok-Denied-clause-err g c =
    let server = ap (λ (a : Answering _ _). a.server) c.take_spare-spare.ensures.others in
    rw server at (rw c.in-Ok-Denied.field-0-is at c.in-Ok-Denied.ensures.ok)

pub returns-in-Ok-Response-clause-err : goal.returns-in-Ok-Response-clause-err
returns-in-Ok-Response-clause-err g c =
    let server = ap (λ (a : Answering _ _). a.server) c.take_spare-spare.ensures.others in
    rw server at (rw c.in-Ok-Response.field-0-is at c.in-Ok-Response.ensures.ok)

pub returns-in-Ok-Unreadable-clause-err : goal.returns-in-Ok-Unreadable-clause-err
returns-in-Ok-Unreadable-clause-err g c =
    let server = ap (λ (a : Answering _ _). a.server) c.take_spare-spare.ensures.others in
    rw server at (rw c.in-Ok-Unreadable.field-0-is at c.in-Ok-Unreadable.ensures.ok)

pub returns-in-Err-Memory-clause-err : goal.returns-in-Err-Memory-clause-err
returns-in-Err-Memory-clause-err g c =
    let server = ap (λ (a : Answering _ _). a.server) c.take_spare-spare.ensures.others in
    rw server at (rw c.in-Err-Memory.field-0-is at c.in-Err-Memory.ensures.err)

pub returns-in-Err-MemoryAfterHandling-clause-err : goal.returns-in-Err-MemoryAfterHandling-clause-err
returns-in-Err-MemoryAfterHandling-clause-err g c =
    let server = ap (λ (a : Answering _ _). a.server) c.take_spare-spare.ensures.others in
    rw server at (rw c.in-Err-MemoryAfterHandling.field-0-is at c.in-Err-MemoryAfterHandling.ensures.err)

pub returns-in-Ok-Replies-clause-logged : goal.returns-in-Ok-Replies-clause-logged
returns-in-Ok-Replies-clause-logged g c =
    let log = ap (λ (a : Answering _ _). a.log) c.take_spare-spare.ensures.others in
    rw log at (rw c.as_slice-sent.ensures at c.log_replies.ensures)
