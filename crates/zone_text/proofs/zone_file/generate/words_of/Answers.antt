use Rattle.std.proofs.Common.{◌<◌, ℕ, length, subst}
use Rattle.zone_text.proofs.GenerateOnce.{no_words_here, not_told, short_end, words_here}
use Rattle.zone_text.proofs.zone_file.generate.words_of.Goals as goal

pub returns-in-Err-clause-refused : goal.returns-in-Err-clause-refused
returns-in-Err-clause-refused c = λ other words has. no_words_here c.entry-left.result c.args.text.now 0 c.entry-left.ensures.text c.entry-left.ensures.place c.entry-left.ensures.kind c.entry-left.ensures.depth
    (c.in-Err.ensures.none (not_told c.args.field.now.start c.args.field.now.start c.in-Err.e c.from.result c.within.result c.from.ensures c.within.ensures other)) words (length c.args.text.now) has

pub returns-then-place-text-clause-refused : goal.returns-then-place-text-clause-refused
returns-then-place-text-clause-refused c = λ other words has. short_end c.words_stand_once.ensures c.args.text.now c.in-Ok.words.items words c.rest.new.self.place
    (words_here c.entry-left.result c.args.text.now 0 c.entry-left.ensures.text c.entry-left.ensures.place c.entry-left.ensures.kind c.entry-left.ensures.depth c.in-Ok.words.items c.rest.new.self.place c.in-Ok.ensures.words)
    (subst (λ (n : ℕ). n < length c.args.text.now) c.place.ensures.place c.if-place-text.true) has
