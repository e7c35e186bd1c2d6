-- What either of two handlers answers.
use Rattle.std.specs.Prelude.{◌≡◌, ℕ, Bool, Option, Result}
use Rattle.either.specs.declared.Either.{Either}
use Rattle.either.specs.declared.Either.TheVariants.{Left, Right}
use Rattle.wire_messages.specs.declared.rr.tsig.TSigResponseContext.{TSigResponseContext}
use Rattle.hickory_base.specs.declared.errors.UpdateFault.{UpdateFault}
use Rattle.hickory_base.specs.requests.Requests.{ReceivedRequest}

-- what a handler of this type answers to an update at a moment, with what a signer has to know, and the handler after
-- it
abbrev pub UpdateRelation : Type 0 → Type 1
UpdateRelation H = H → ReceivedRequest → ℕ → Result Bool UpdateFault → Option TSigResponseContext → H → Type 0

-- Of either of two handlers the one that is there takes the update, and stands there afterwards as the update left it.
abbrev pub UpdatesEither : {L R : Type 0} → UpdateRelation L → UpdateRelation R → UpdateRelation (Either L R)
UpdatesEither {L} left_gives right_gives (Left handler) request now answer context new = (after : L) × left_gives handler request now answer context after × (new ≡ Left after)
UpdatesEither {L} {R} left_gives right_gives (Right handler) request now answer context new = (after : R) × right_gives handler request now answer context after × (new ≡ Right after)
