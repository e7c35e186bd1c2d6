-- A fault that is no want of memory is told as it is.
use Rattle.std.proofs.Common.{◌≡◌, refl}
use Rattle.hickory_store.specs.declared.file.zones.RecordsError.{RecordsError}
use Rattle.hickory_store.specs.declared.file.zones.RecordsError.TheVariants as records_error
use Rattle.hickory_server.specs.store.ZoneOfText.{error_of_records}
use Rattle.hickory_server.specs.declared.store.file.ZoneError.TheVariants.{Records}
use Rattle.hickory_server.proofs.store.file.records_fault.Goals as goal

told : (e : RecordsError) → ¬ (e ≡ records_error.Memory) → Records e ≡ error_of_records e
told records_error.Memory other = absurd (other refl)
told (records_error.Record number fault) other = refl
told records_error.NoSoa other = refl
told records_error.SeveralSoas other = refl

pub returns-in_default : goal.returns-in_default
returns-in_default c = record { value = told c.args.e c.in_default.not-Memory; told = λ apex records are_records fault. (records, are_records, fault) }
