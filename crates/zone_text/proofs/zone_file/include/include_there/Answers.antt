use Rattle.std.proofs.Common.{◌≡◌, ℕ, List, Option, Some, None, sym, subst}
use Rattle.std.specs.Prelude.{IfNone}
use Rattle.record_text.specs.RecordText.{HasNone}
use Rattle.text_words.specs.declared.words.TextKind.TheVariants.{ZoneFile}
use Rattle.text_words.specs.declared.words.Word.{Word}
use Rattle.text_words.specs.Words.{AreWordsTo}
use Rattle.zone_text.specs.Included.{IsInclude}
use Rattle.zone_text.specs.ZoneFaults.IsEntryFault.{memory as entry_memory}
use Rattle.zone_text.proofs.GenerateOnce.{no_words_here, not_moved, words_here}
use Rattle.zone_text.proofs.Including.{includes_none, refused_there, wordless}
use Rattle.zone_text.proofs.zone_file.include.include_there.Goals as goal

absent : {A P : Type 0} (found : Option A) → found ≡ None → IfNone found P → P
absent None e h = h
absent (Some it) e h = absurd (cc)

pub returns-in-Err-Memory-clause-fault : goal.returns-in-Err-Memory-clause-fault
returns-in-Err-Memory-clause-fault c = entry_memory

pub returns-in-Err-At-clause-none : goal.returns-in-Err-At-clause-none
returns-in-Err-At-clause-none c = λ other. wordless c.args.text.now c.args.place c.args.before.now
    (no_words_here c.entry-words.result c.args.text.now c.args.place c.entry-words.ensures.text c.entry-words.ensures.place c.entry-words.ensures.kind c.entry-words.ensures.depth (c.in-Err-At.ensures.none (λ e. cc)))

pub returns-in-Ok-None-clause-none : goal.returns-in-Ok-None-clause-none
returns-in-Ok-None-clause-none c = λ other. includes_none c.words_stand_once.ensures c.args.text.now c.args.place c.args.before.now c.in-Ok.fields.items c.rest.new.self.place
    (words_here c.entry-words.result c.args.text.now c.args.place c.entry-words.ensures.text c.entry-words.ensures.place c.entry-words.ensures.kind c.entry-words.ensures.depth c.in-Ok.fields.items c.rest.new.self.place c.in-Ok.ensures.words)
    (subst (λ (ws : List Word). (file : List ℕ) → HasNone (IsInclude c.args.before.now ws file)) c.as_slice.ensures.value (absent c.in-Ok-None.field-0 c.in-Ok-None.field-0-is c.in-Ok-None.ensures.other))

pub returns-clause-fault : goal.returns-clause-fault
returns-clause-fault c =
    let words : AreWordsTo ZoneFile c.args.text.now c.args.place 0 c.in-Ok.fields.items c.rest.new.self.place =
    words_here c.entry-words.result c.args.text.now c.args.place c.entry-words.ensures.text c.entry-words.ensures.place c.entry-words.ensures.kind c.entry-words.ensures.depth c.in-Ok.fields.items c.rest.new.self.place c.in-Ok.ensures.words in
    refused_there c.words_stand_once.ensures c.args.text.now c.args.place c.args.before.now c.in-Ok.fields.items c.place-end.result c.args.refused c.in-Err.e c.within.result c.requires.wrong c.requires.refused
    (subst (λ (n : ℕ). AreWordsTo ZoneFile c.args.text.now c.args.place 0 c.in-Ok.fields.items n) (sym c.place-end.ensures.place) words) c.within.ensures

pub returns-clause-none : goal.returns-clause-none
returns-clause-none c = λ other. includes_none c.words_stand_once.ensures c.args.text.now c.args.place c.args.before.now c.in-Ok.fields.items c.rest.new.self.place
    (words_here c.entry-words.result c.args.text.now c.args.place c.entry-words.ensures.text c.entry-words.ensures.place c.entry-words.ensures.kind c.entry-words.ensures.depth c.in-Ok.fields.items c.rest.new.self.place c.in-Ok.ensures.words)
    (subst (λ (ws : List Word). (file : List ℕ) → HasNone (IsInclude c.args.before.now ws file)) c.as_slice.ensures.value (c.in-Err.ensures.refused (not_moved c.args.place c.place-end.result c.in-Err.e c.within.result c.within.ensures other)))
