use Rattle.std.proofs.Common.{◌≡◌, ℕ, List, [], ◌∷◌, length, get_or, sym, subst, arith}
use Rattle.wire_names.specs.rr.domain.DomainName.{DomainName}
use Rattle.text_words.specs.declared.words.Word.{Word}
use Rattle.text_words.specs.Spelling.{Spells, any_byte}
use Rattle.zone_text.specs.declared.zone_file.entry.Before.{Before}
use Rattle.zone_text.specs.Included.{IsNamedFile}
use Rattle.zone_text.specs.Included.IsNamedFile.{here, under}
use Rattle.zone_text.specs.ZoneFiles.{IsName}
use Rattle.zone_text.proofs.zone_file.include.named_file.Goals as goal

one_word : (before : Before) (words : List Word) (d : Word) (file : List ℕ) (origin : DomainName) → length words ≡ 1 → Spells any_byte (get_or words 0 d).bytes.now file → origin ≡ before.origin → IsNamedFile before words file origin
one_word before [] d file origin one is same = absurd (omega arith)
one_word before (w ∷ []) d file origin one is same = subst (IsNamedFile before (w ∷ []) file) (sym same) (here is)
one_word before (w ∷ v ∷ words) d file origin one is same = absurd (omega arith)

two_words : (before : Before) (words : List Word) (d : Word) (file : List ℕ) (origin : DomainName) → length words ≡ 2 → Spells any_byte (get_or words 0 d).bytes.now file → IsName before.origin (get_or words 1 d) origin → IsNamedFile before words file origin
two_words before [] d file origin two is name = absurd (omega arith)
two_words before (w ∷ []) d file origin two is name = absurd (omega arith)
two_words before (w ∷ v ∷ []) d file origin two is name = under is name
two_words before (w ∷ v ∷ u ∷ words) d file origin two is name = absurd (omega arith)

pub returns-in_ok-clone-in-len1-clause-named : goal.returns-in_ok-clone-in-len1-clause-named
returns-in_ok-clone-in-len1-clause-named c = one_word c.args.before.now c.args.behind.now _ c.in_ok-spelled-in-len1.field-0.items c.in_ok-clone-in-len1.field-0 (omega (arith, c.in-len1.len_at_least, c.in-len1.len_below)) c.in_ok-spelled-in-len1.ensures.spelled c.in_ok-clone-in-len1.ensures.cases

pub returns-in_ok-origin-in-len2-clause-named : goal.returns-in_ok-origin-in-len2-clause-named
returns-in_ok-origin-in-len2-clause-named c = two_words c.args.before.now c.args.behind.now _ c.in_ok-file-in-len2.file.items c.in_ok-origin-in-len2.origin (omega (arith, c.in-len2.len_at_least, c.in-len2.len_below)) c.in_ok-file-in-len2.ensures.spelled
    (record { unquoted = c.in_ok-origin-in-len2.ensures.plain; spelled = c.in_ok-origin-in-len2.ensures.spelled; qualified = c.in_ok-origin-in-len2.ensures.qualified; short = c.in_ok-origin-in-len2.ensures.short })
