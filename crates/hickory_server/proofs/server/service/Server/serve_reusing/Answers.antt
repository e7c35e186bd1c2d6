use Rattle.std.proofs.Common.{◌≤◌, length, rules, refl}
use Rattle.std.specs.Net.Socket.{socket_ip}
use Rattle.server_limits.specs.Access.{IsAllowed}
use Rattle.hickory_server.specs.server.Ruling.{IsResponse}
use Rattle.hickory_server.specs.server.ServedBy.{unreadable}
use Rattle.hickory_base.proofs.lemmas.ResultMaps.{if_ok_map}
use Rattle.hickory_server.proofs.lemmas.server.BytesServed.{to_be_served}
use Rattle.hickory_server.proofs.lemmas.server.Results.{if_err_map}
use Rattle.hickory_server.proofs.server.service.Server.serve_reusing.Goals as goal

pub serve_request-requires : goal.serve_request-requires
serve_request-requires g c =
    let allowed : IsAllowed c.args.self.now.rules.access.deny c.args.self.now.rules.access.allow (socket_ip c.args.src) = search rules in
    let whole : 12 ≤ length c.args.bytes.now = search rules in
    let no_response : ¬ (IsResponse c.args.bytes.now) = search rules in
    rw c.read.ensures.kept.0 (to_be_served c.args.self.now.rules.access c.read.new.self.request c.in-Ok.ensures.read allowed whole no_response)

pub returns-in-Ok-serve_request-clause-ok : goal.returns-in-Ok-serve_request-clause-ok
returns-in-Ok-serve_request-clause-ok g c =
    let read = c.in-Ok.ensures.read in
    rw (c.read.ensures.kept.0, c.read.ensures.kept.1, read.raw, read.source_is, read.protocol_is) at c.in-Ok-serve_request.ensures.ok

pub returns-in-Err-serve_request-clause-err : goal.returns-in-Err-serve_request-clause-err
returns-in-Err-serve_request-clause-err g c =
    let read = c.in-Ok.ensures.read in
    rw (c.read.ensures.kept.0, c.read.ensures.kept.1, read.raw, read.source_is, read.protocol_is) at c.in-Err-serve_request.ensures.err

pub returns-in-Err : goal.returns-in-Err
returns-in-Err g c =
    let allowed : IsAllowed c.args.self.now.rules.access.deny c.args.self.now.rules.access.allow (socket_ip c.args.src) = search rules in
    let whole : 12 ≤ length c.args.bytes.now = search rules in
    let no_response : ¬ (IsResponse c.args.bytes.now) = search rules in record {
      rules = c.read.ensures.kept.0;
      others = rw c.read.ensures.kept.1 refl;
      ok = if_ok_map c.form_error.result _ _ c.form_error.ensures.ok (λ answer is_error message is.
          unreadable {e = c.in-Err.field-0} (rw is.source_is allowed) (rw is.bytes_are whole) (rw is.bytes_are no_response) (rw is.bytes_are (c.in-Err.ensures.fault (search rules)))
          (rw is.bytes_are is_error) (rw c.read.ensures.kept.1 refl));
      err = if_err_map c.form_error.result _ _ c.form_error.ensures.err (λ e lacks message is. rw lacks (rw is.source_is allowed, rw c.read.ensures.kept.1 refl));
    }
