-- Runs that go on by one message.
use Rattle.std.proofs.Common.{◌≡◌, List, [], ◌∷◌, ◌++◌, ap, subst, ◌∙◌}
use Rattle.wire_names.specs.rr.domain.DomainName.{DomainName}
use Rattle.server_limits.specs.Access.{AccessSets}
use Rattle.hickory_base.specs.declared.zone_store.handler.ZoneHandler.{Ghosts}
use Rattle.hickory_catalog.specs.requests.Server.{Server, server_of}
use Rattle.hickory_catalog.specs.replies.Signing.{Signer}
use Rattle.hickory_catalog.specs.declared.catalog.Catalog.{Catalog}
use Rattle.hickory_server.specs.server.Serving.{LeavesUnserved, Run, Step, next, none}
use Rattle.hickory_server.specs.declared.server.serve.Incoming.{Incoming}
use Rattle.hickory_server.specs.declared.server.serve.Outcome.{Outcome}
use Rattle.hickory_server.specs.declared.server.serve.ServeError.{ServeError}

module _ {H : Type 0} (access : AccessSets) (server : Server H) where
  pub run_more : (zones between after : List (DomainName × List H)) (messages : List Incoming) (outcomes : List Outcome) (message : Incoming) (outcome : Outcome) → Run access server zones messages outcomes between
      → Step access (record server { zones = between }) message outcome after → Run access server zones (messages ++ message ∷ []) (outcomes ++ outcome ∷ []) after
  run_more zones between after _ _ message outcome none step = next step none
  run_more zones between after _ _ message outcome (next {between = first} {messages = ms} {outcomes = os} before rest) step = next before (run_more first between after ms os message outcome rest step)

module _ {S H : Type 0} (handler : Ghosts H) (signature_for : S → Signer) (access : AccessSets) (first middle : Catalog S H) (same : middle ≡ record first { zones = middle.zones }) where
  -- identifier and signer stay from call to call
  pub others_stay : (last : Catalog S H) → last ≡ record middle { zones = last.zones } → last ≡ record first { zones = last.zones }
  others_stay last also = also ∙ ap (λ (m : Catalog S H). record m { zones = last.zones }) same

  -- a step over the catalog between is one over the first catalog with the zones between
  pub step_between : (message : Incoming) (outcome : Outcome) (after : List (DomainName × List H)) → Step access (server_of handler signature_for middle) message outcome after
      → Step access (record (server_of handler signature_for first) { zones = middle.zones }) message outcome after
  step_between message outcome after step = subst (λ (m : Catalog S H). Step access (server_of handler signature_for m) message outcome after) same step

  pub leaves_between : (message : Incoming) (e : ServeError) (after : List (DomainName × List H)) → LeavesUnserved access (server_of handler signature_for middle) message e after
      → LeavesUnserved access (record (server_of handler signature_for first) { zones = middle.zones }) message e after
  leaves_between message e after left = subst (λ (m : Catalog S H). LeavesUnserved access (server_of handler signature_for m) message e after) same left
