-- What a response ends as, where a `&mut` to its metadata is lent.
use Rattle.std.specs.Borrow.{Lends, Fml, RattleType, MutBor}
use Rattle.std.specs.Prelude.{[]}
use mir.Syntax.{named}
use Rattle.wire_messages.specs.contracts.op.header.Metadata.{the_row as metadata_row}
use Rattle.wire_messages.specs.declared.op.header.Metadata.{Metadata}
use Rattle.hickory_base.specs.contracts.responses.message_response.MessageResponse.{the_row}
use Rattle.hickory_base.specs.declared.responses.message_response.MessageResponse.{MessageResponse}

-- It ends with the metadata that was written last through the borrow, and all else as before.
abbrev pub LendsMetadata : (A N S D : RattleType) → MutBor (MessageResponse A.Denot N.Denot S.Denot D.Denot) → MutBor Metadata → Fml
LendsMetadata A N S D response lent = Lends (the_row (record { mir = named 1; lft = [] }) (record { mir = named 2; lft = [] }) A N S D) metadata_row response lent (λ m. record response.now { metadata = m })
