-- Why a journal was not opened.
use Rattle.std.specs.Prelude.{Bool, false}
use Rattle.journal.specs.Errors.{is_refusal}
use Rattle.durable_updates.specs.declared.handler.OpenError.{OpenError}
use Rattle.durable_updates.specs.declared.handler.OpenError.TheVariants.{Journal}

-- a file is no journal's
abbrev pub is_no_journal : OpenError → Bool
is_no_journal (Journal e) = is_refusal e
is_no_journal other = false
