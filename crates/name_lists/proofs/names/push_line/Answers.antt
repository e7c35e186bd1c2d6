use Rattle.std.proofs.Common.{◌≡◌, ◌++◌, cond, [], ◌∷◌, ap, ◌∙◌, append_assoc}
use Rattle.std.specs.String.{string_bytes}
use Rattle.name_lists.proofs.NameLines.{line_is, on_ok}
use Rattle.name_lists.proofs.names.push_line.Goals as goal

pub returns : goal.returns
returns c =
    let old = string_bytes c.args.names.now in
    let text = c.args.text.now in
    let end = c.line_end.result.now in
    let ends : end ≡ cond c.args.name.now.is_fqdn (10 ∷ []) (46 ∷ 10 ∷ []) = c.line_end.ensures ∙ ap (λ m. cond m (10 ∷ []) (46 ∷ 10 ∷ [])) c.is_fqdn.ensures in
    on_ok c.push_str-2.result _ _ _ _ c.push_str-2.ensures.bytes
    (ap (λ r. r ++ end) c.in_ok-push_str.ensures.bytes ∙ append_assoc old text end ∙ ap (λ r. old ++ r) (ap (λ r. text ++ r) ends ∙ line_is text c.args.name.now c.requires))
