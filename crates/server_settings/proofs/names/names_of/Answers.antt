use Rattle.std.proofs.Common.{◌≡◌, ◌+◌, ◌∷◌, ◌++◌, [], ap, map, sym, string_bytes, take, ◌∙◌, arith, get_or}
use Rattle.std.proofs.lemmas.Grind.{common_steps}
use Rattle.std.specs.Prelude.{slice_range}
use Rattle.server_settings.specs.Settings.{ended_strings}
use Rattle.server_settings.proofs.lemmas.Names.{named_on}
use Rattle.server_settings.proofs.names.names_of.Goals as goal
use Rattle.server_settings.proofs.names.names_of.Goals.{then-bytes-i-eq0+in_ok-put_name, else-bytes-i-eq0}

pub loop-i-preserved : goal.loop-i-preserved
loop-i-preserved c =
    let bytes = c.args.bytes.now in
    let i = c.loop-i.i in
    elim c.if-bytes-i-eq0.branch [
      | then-bytes-i-eq0+in_ok-put_name w ↦
          let put : map string_bytes c.if-bytes-i-eq0.names.items ≡ map string_bytes c.loop-i.names.items ++ slice_range bytes c.loop-i.start i ∷ [] = grind (arith, common_steps) in
          let zero : get_or bytes i 0 ≡ 0 = grind (arith, common_steps) in
          let begun : c.if-bytes-i-eq0.start ≡ i + 1 = grind (arith, common_steps) in
          (ap ended_strings put ∙ named_on _ bytes c.loop-i.start i c.loop-i-test.true c.loop-i.invariant.1 c.loop-i.invariant.0 zero ∙ ap (λ n. take n bytes) (sym begun), omega (arith, begun))
      | else-bytes-i-eq0 w ↦ grind (arith, common_steps)
    ]
