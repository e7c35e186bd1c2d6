use Rattle.std.proofs.Common.{refl}
use Rattle.std.proofs.lemmas.Result.{err_from_is_err_and}
use Rattle.record_text.specs.TypeBitmaps.{windows}
use Rattle.record_text.proofs.data.types.put_types.Goals as goal

pub returns-clause-put : goal.returns-clause-put
returns-clause-put c = (
  windows c.in_ok-types.types.items 256,
  rw c.as_slice.ensures.value at c.in_ok-put_windows.ensures,
  record {
    types = c.in_ok-types.types.items;
    spelled = c.in_ok-types.ensures.spelled;
    written = refl;
  },
)

pub returns-in_err-types-clause-refused : goal.returns-in_err-types-clause-refused
returns-in_err-types-clause-refused c =
    let p = err_from_is_err_and c.from_residual.result c.from_residual.ensures.1 in
    rw (p.1, p.2) (λ other octets is. c.in_err-types.ensures.refused other is.types is.spelled)
