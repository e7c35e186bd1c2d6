use Rattle.std.proofs.Common.{◌≡◌, ◌++◌, [], true, false, rules}
use Rattle.std.proofs.KnownBytes.{Appends-nil, Appends-trans, Consumes-nil, Consumes-trans}
use Rattle.zone_serve.specs.Served.{none}
use Rattle.server.proofs.Streams.{stays_on, stays_so}
use Rattle.zone_serve.proofs.Streams.{stream_end, stream_more}
use Rattle.zone_serve.proofs.serving.serve_stream.Goals as goal

pub loop-init : goal.loop-init
loop-init g c = (stays_so c.args.server.now, [], [], none, Consumes-nil _, Appends-nil _)

pub loop-preserved : goal.loop-preserved
loop-preserved g c =
    let (stays, read, written, served, consumes, appends) = c.loop.invariant in
    let (frame, frames, next, consumes_next, appends_next) = rw c.source_of-source.ensures at c.in_ok-serve_next.ensures.served in
    let is_more : c.in_ok-serve_next.field-0 ≡ true = search rules in (
      stays_on c.args.server.now c.loop.server c.serve_next.new.server stays c.in_ok-serve_next.ensures.stays,
      read ++ frame,
      written ++ frames,
      stream_more g.H.ZoneHandler g.S.ReplySigner.signature_for c.args.address c.args.server.now c.loop.server c.serve_next.new.server stays
          read written frame frames served (rw is_more at next),
      Consumes-trans _ _ _ read frame consumes consumes_next,
      Appends-trans _ _ _ written frames appends appends_next,
    )

pub returns-then-not-branch-clause-served : goal.returns-then-not-branch-clause-served
returns-then-not-branch-clause-served g c =
    let (stays, read, written, served, consumes, appends) = c.loop.invariant in
    let (frame, frames, next, consumes_next, appends_next) = rw c.source_of-source.ensures at c.in_ok-serve_next.ensures.served in
    let is_end : c.in_ok-serve_next.field-0 ≡ false = search rules in
    let ended = stream_end g.H.ZoneHandler g.S.ReplySigner.signature_for c.args.address c.args.server.now c.loop.server c.serve_next.new.server stays
    _ _ _ _ _ _ read written frame frames served (rw is_end at next) consumes consumes_next appends appends_next in
    (read, written, ended.0, ended.1, search rules, ended.2)
