-- The last operation tells.
use Rattle.std.proofs.Common.{◌≡◌, ◌⊎◌, ◌-◌, ℕ, Vec, Global, false, sym, ◌∙◌, ap, inl, inr}
use Rattle.journal.specs.declared.host_file.operation.Operation.{Operation}
use Rattle.journal.specs.declared.host_file.operation.Operation.TheVariants.{Write, SetLen}
use Rattle.journal.specs.host_file.Calls.{call_of}
use Rattle.journal.specs.host_file.FileState.{is_sync}
use Rattle.journal.proofs.FileLemmas.{ends_at}
use Rattle.journal.proofs.host_file.file.ends_synced.Goals as goal

changes : (x : Operation) → ((at : ℕ) × (bytes : Vec ℕ Global) × (x ≡ Write at bytes)) ⊎ ((len : ℕ) × (x ≡ SetLen len)) → is_sync (call_of x) ≡ false
changes x (inl write) = ap (λ (o : Operation). is_sync (call_of o)) write.2
changes x (inr cut) = ap (λ (o : Operation). is_sync (call_of o)) cut.1

pub returns-in-Sync : goal.returns-in-Sync
returns-in-Sync c = sym (ends_at c.args.operations.now c.last-item.result c.in-len1-up.len_at_least ∙ ap (λ (x : Operation). is_sync (call_of x)) (sym c.last-item.is ∙ c.in-Sync.is))

pub returns-in-Write : goal.returns-in-Write
returns-in-Write c = sym (ends_at c.args.operations.now c.last-item.result c.in-len1-up.len_at_least ∙ ap (λ (x : Operation). is_sync (call_of x)) (sym c.last-item.is) ∙ changes c.last-item.result c.in-Write.is)

pub returns-in-Write-2 : goal.returns-in-Write-2
returns-in-Write-2 c = sym (ends_at c.args.operations.now c.last-item.result c.in-len1-up.len_at_least ∙ ap (λ (x : Operation). is_sync (call_of x)) (sym c.last-item.is) ∙ changes c.last-item.result c.in-Write.is)
