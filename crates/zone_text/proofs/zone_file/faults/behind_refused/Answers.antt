use Rattle.std.proofs.Common.{◌+◌, ℕ, sym, subst}
use Rattle.zone_text.specs.ZoneFaults.{IsBehindRefused}
use Rattle.zone_text.specs.ZoneFaults.IsBehindRefused.{by_line, by_words}
use Rattle.zone_text.proofs.GenerateOnce.{no_words_here, words_here}
use Rattle.zone_text.proofs.zone_file.faults.behind_refused.Goals as goal

pub returns-in-Err-At-clause-behind : goal.returns-in-Err-At-clause-behind
returns-in-Err-At-clause-behind c = by_line (no_words_here c.entry-words.result c.args.text.now c.args.place c.entry-words.ensures.text c.entry-words.ensures.place c.entry-words.ensures.kind c.entry-words.ensures.depth (c.in-Err-At.ensures.none (λ e. cc))) c.line_end.ensures

pub returns-clause-behind : goal.returns-clause-behind
returns-clause-behind c = subst (λ (n : ℕ). IsBehindRefused c.args.text.now c.args.place (n + 1)) (sym c.place.ensures.place)
    (by_words (words_here c.entry-words.result c.args.text.now c.args.place c.entry-words.ensures.text c.entry-words.ensures.place c.entry-words.ensures.kind c.entry-words.ensures.depth c.in-Ok.fields.items c.rest.new.self.place c.in-Ok.ensures.words))
