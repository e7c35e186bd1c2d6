-- The request is served by the rules as they are, or by those that are opened.
use Rattle.std.proofs.Common.{◌≡◌, true, false, rules, refl}
use Rattle.hickory_base.proofs.lemmas.ResultMaps.{if_ok_map}
use Rattle.signed_server.specs.ServedWithKeys.{AreOpen}
use Rattle.signed_server.proofs.service.serve_opened.Goals as goal

pub returns-then-not-is_open-clause-ok : goal.returns-then-not-is_open-clause-ok
returns-then-not-is_open-clause-ok g c =
    let closed : c.args.is_open ≡ false = search rules in
    if_ok_map c.serve_request.result _ _ c.serve_request.ensures.ok (λ replies served. (c.args.server.now.rules, rw closed refl, served))

pub returns-clause-ok : goal.returns-clause-ok
returns-clause-ok g c =
    let opened : c.args.is_open ≡ true = search rules in
    let theirs = record c.args.server.now.rules { transfers = c.replace-closed.new.dest; zones = c.replace-zones.new.dest } in
    let are : AreOpen c.args.server.now.rules theirs = record {
      others = refl;
      none_denied = rw c.replace-closed.ensures.after c.new-2.ensures.deny;
      none_listed = rw c.replace-closed.ensures.after c.new-2.ensures.allow;
      no_own = rw c.replace-zones.ensures.after c.new-3.ensures.items;
    } in
    if_ok_map c.serve_request-served.result _ _ c.serve_request-served.ensures.ok (λ replies served. (theirs, rw opened are, served))
