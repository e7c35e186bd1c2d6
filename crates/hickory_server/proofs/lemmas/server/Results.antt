-- What follows from what a call's value is.
use Rattle.std.proofs.Common.{◌≡◌, ℕ, [], Option, Some, None, MatchOption, Result, Ok, Err, IfErr, refl}
use Rattle.hickory_base.specs.requests.Requests.{ReceivedRequest}
use Rattle.hickory_catalog.specs.requests.Server.{Server}
use Rattle.hickory_server.specs.server.Sending.{SentReplies}
use Rattle.hickory_server.specs.server.Serving.{LeavesRequest}
use Rattle.hickory_server.specs.declared.server.sending.Sending.TheVariants.{Encoded}
use Rattle.hickory_server.specs.declared.server.serve.ServeError.{ServeError}
use Rattle.hickory_server.specs.declared.server.serve.ServeError.TheVariants.{Memory}

-- Where memory was refused before a request was handled, it leaves all as it was.
pub leaves_all : {H T : Type 0} (server : Server H) (request : ReceivedRequest) (now : ℕ) (result : Result T ServeError) → IfErr result (λ e. e ≡ Memory)
    → IfErr result (λ e. (sink : SentReplies) × LeavesRequest server request now sink e server.zones)
leaves_all server request now (Ok value) is = tt
leaves_all server request now (Err e) is = let sink : SentReplies = record { sending = Encoded request.protocol; replies = []; failures = 0 } in (sink, rw is (refl, refl, refl))

-- What holds of an error leads to more.
pub if_err_map : {T E : Type 0} (r : Result T E) (P Q : E → Type 0) → IfErr r P → ((e : E) → P e → Q e) → IfErr r Q
if_err_map (Ok t) P Q h f = h
if_err_map (Err e) P Q h f = f e h

-- What holds of what there is leads to more.
pub match_map : {T : Type 0} (o : Option T) (N : Type 0) (P Q : T → Type 0) → MatchOption o N P → ((t : T) → P t → Q t) → MatchOption o N Q
match_map (Some t) N P Q h f = f t h
match_map None N P Q h f = h
