use Rattle.std.proofs.Common.{◌≡◌, ◌-◌, ◌≤◌, ℕ, List, [], ◌∷◌, Bool, true, false, Result, Ok, Err, Option, length, take, drop, get_or, sym, ap, subst, arith}
use Rattle.std.proofs.lemmas.List.{take_rest}
use Rattle.std.specs.Option.{option_copied}
use Rattle.std.specs.Prelude.{◌≢◌, IfErr, IfOk}
use Rattle.wire_messages.specs.declared.rr.rdata.RData.{RData}
use Rattle.wire_messages.specs.rr.RecordData.{type_of}
use Rattle.wire_messages.specs.serialize.layout.RecordLayout.{IsFormed}
use Rattle.wire_messages.specs.serialize.writing.FullForm.{data_octets}
use Rattle.wire_messages.specs.serialize.writing.RecordSize.{data_len}
use Rattle.wire_names.specs.rr.domain.DomainName.{DomainName}
use Rattle.text_words.specs.declared.error.TextError.{TextError}
use Rattle.text_words.specs.declared.error.TextError.TheVariants.{Memory}
use Rattle.text_words.specs.declared.words.Word.{Word}
use Rattle.record_text.specs.RecordText.{BeginGeneric, HasNone, IsData, IsGenericData, SpellsData}
use Rattle.record_text.specs.RecordText.SpellsData.{in_form, generic}
use Rattle.record_text.proofs.data.data_of_words.Goals as goal

as_form : (origin : Option DomainName) (number : ℕ) (words : List Word) (r : Result RData TextError) → ¬ (BeginGeneric words) → IfOk r (λ rdata. IsData origin number words (data_octets rdata)) → IfOk r (λ rdata. type_of rdata ≡ number) → IfOk r IsFormed
    → IfOk r (λ rdata. data_len rdata ≤ 65535) → IfOk r (SpellsData origin number words)
as_form origin number words (Ok rdata) other h typed formed short = in_form other h typed formed short
as_form origin number words (Err e) other h typed formed short = h

-- words that do not begin so are data in a form alone
only_form : (origin : Option DomainName) (number : ℕ) (words : List Word) (rdata : RData) → ¬ (BeginGeneric words) → SpellsData origin number words rdata → IsData origin number words (data_octets rdata) × (data_len rdata ≤ 65535)
only_form origin number words rdata other (in_form begins is typed formed short) = (is, short)
only_form origin number words rdata other (generic plain is written) = absurd (other (plain, is))

no_form : (origin : Option DomainName) (number : ℕ) (words : List Word) (r : Result RData TextError) → ¬ (BeginGeneric words) → IfErr r (λ e. e ≢ Memory → HasNone (λ (rdata : RData). IsData origin number words (data_octets rdata) × (data_len rdata ≤ 65535)))
    → IfErr r (λ e. e ≢ Memory → HasNone (SpellsData origin number words))
no_form origin number words (Ok rdata) other h = h
no_form origin number words (Err e) other h = λ no_want rdata is. h no_want rdata (only_form origin number words rdata other is)

-- and words that begin so in the other alone
only_generic : (origin : Option DomainName) (number : ℕ) (mark size : Word) (digits : List Word) (rdata : RData) → BeginGeneric (mark ∷ size ∷ digits) → SpellsData origin number (mark ∷ size ∷ digits) rdata → IsGenericData number size digits rdata
only_generic origin number mark size digits rdata begin (in_form begins is typed formed short) = absurd (begins begin)
only_generic origin number mark size digits rdata begin (generic plain is written) = written

-- words that begin so are at least two
two : (words : List Word) → BeginGeneric words → 2 ≤ length words
two [] h = absurd h
two (a ∷ []) h = absurd h
two (a ∷ b ∷ words) h = omega arith

first_two : (words : List Word) (d : Word) → 2 ≤ length words → words ≡ get_or words 0 d ∷ get_or words 1 d ∷ take (length words - 2) (drop 2 words)
first_two [] d long = absurd (omega arith)
first_two (a ∷ []) d long = absurd (omega arith)
first_two (a ∷ b ∷ words) d long = ap (λ (ws : List Word). a ∷ b ∷ ws) (sym (take_rest (a ∷ b ∷ words) 2))

-- their first
mark_of : (words : List Word) (d : Word) → BeginGeneric words → ((get_or words 0 d).quoted ≡ false) × ((get_or words 0 d).bytes.now ≡ 92 ∷ 35 ∷ [])
mark_of [] d h = absurd h
mark_of (a ∷ []) d h = absurd h
mark_of (a ∷ b ∷ words) d h = h

no_generic : (origin : Option DomainName) (number : ℕ) (words : List Word) (d : Word) (r : Result RData TextError) → BeginGeneric words → IfErr r (λ e. e ≢ Memory → HasNone (IsGenericData number (get_or words 1 d) (take (length words - 2) (drop 2 words))))
    → IfErr r (λ e. e ≢ Memory → HasNone (SpellsData origin number words))
no_generic origin number words d (Ok rdata) begin h = h
no_generic origin number words d (Err e) begin h = λ no_want rdata is.
    let same : words ≡ get_or words 0 d ∷ get_or words 1 d ∷ take (length words - 2) (drop 2 words) = first_two words d (two words begin) in
    h no_want rdata (only_generic origin number (get_or words 0 d) (get_or words 1 d) (take (length words - 2) (drop 2 words)) rdata
    (subst BeginGeneric same begin) (subst (λ (ws : List Word). SpellsData origin number ws rdata) same is))

as_generic : (origin : Option DomainName) (number : ℕ) (words : List Word) (d : Word) (r : Result RData TextError) → BeginGeneric words → IfOk r (IsGenericData number (get_or words 1 d) (take (length words - 2) (drop 2 words)))
    → IfOk r (SpellsData origin number words)
as_generic origin number words d (Ok rdata) begin h =
    let marked : ((get_or words 0 d).quoted ≡ false) × ((get_or words 0 d).bytes.now ≡ 92 ∷ 35 ∷ []) = mark_of words d begin in
    subst (λ (ws : List Word). SpellsData origin number ws rdata) (sym (first_two words d (two words begin))) (generic marked.0 marked.1 h)
as_generic origin number words d (Err e) begin h = h

pub returns-then-begin_generic-clause-spelled : goal.returns-then-begin_generic-clause-spelled
returns-then-begin_generic-clause-spelled c = as_generic (option_copied c.args.origin) c.args.record_type c.args.words.now _ c.read_generic.result (c.begin_generic.ensures.0 c.if-begin_generic.true) c.read_generic.ensures.spelled

not_so : (words : List Word) (b : Bool) → b ≡ false → (BeginGeneric words → b ≡ true) → ¬ (BeginGeneric words)
not_so words b is h begin = let t : b ≡ true = h begin in cc

pub returns-clause-spelled : goal.returns-clause-spelled
returns-clause-spelled c = as_form (option_copied c.args.origin) c.args.record_type c.args.words.now c.data_within.result (not_so c.args.words.now c.begin_generic.result c.if-begin_generic.false c.begin_generic.ensures.1) c.data_within.ensures.spelled c.data_within.ensures.form c.data_within.ensures.formed c.data_within.ensures.fits

pub returns-then-begin_generic-clause-refused : goal.returns-then-begin_generic-clause-refused
returns-then-begin_generic-clause-refused c = no_generic (option_copied c.args.origin) c.args.record_type c.args.words.now _ c.read_generic.result (c.begin_generic.ensures.0 c.if-begin_generic.true) c.read_generic.ensures.refused

pub returns-clause-refused : goal.returns-clause-refused
returns-clause-refused c = no_form (option_copied c.args.origin) c.args.record_type c.args.words.now c.data_within.result (not_so c.args.words.now c.begin_generic.result c.if-begin_generic.false c.begin_generic.ensures.1) c.data_within.ensures.refused
