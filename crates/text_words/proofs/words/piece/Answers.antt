use Rattle.std.proofs.Common.{◌∙◌, sym, refl}
use Rattle.text_words.specs.Words.IsPiece.{blank, line_feed, opened, closed, comment}
use Rattle.text_words.proofs.words.piece.Goals as goal

pub returns-then-byte-eq59-clause-piece : goal.returns-then-byte-eq59-clause-piece
returns-then-byte-eq59-clause-piece c = comment (record { within = c.requires.within; is = c.if-byte-eq59.true }) c.comment_end.ensures.comment

pub returns-then-byte-eq10-clause-piece : goal.returns-then-byte-eq10-clause-piece
returns-then-byte-eq10-clause-piece c = line_feed (record { within = c.requires.within; is = c.if-byte-eq10.true }) (c.ends_entry.ensures.crosses c.if-ends_entry.false)

pub returns-then-is_blank-clause-piece : goal.returns-then-is_blank-clause-piece
returns-then-is_blank-clause-piece c = blank (record { within = c.requires.within; is = refl }) (sym c.is_blank.ensures ∙ c.if-is_blank.true) c.if-byte-eq10.false

pub returns-then-byte-eq40-clause-piece : goal.returns-then-byte-eq40-clause-piece
returns-then-byte-eq40-clause-piece c = opened (c.is_zone_file.ensures.file c.if-not-is_zone_file.false) (record { within = c.requires.within; is = c.if-byte-eq40.true })

pub returns-then-depth-gt0-clause-piece : goal.returns-then-depth-gt0-clause-piece
returns-then-depth-gt0-clause-piece c = closed (c.is_zone_file.ensures.file c.if-not-is_zone_file.false) c.if-depth-gt0.true (record { within = c.requires.within; is = c.if-byte-eq41.true })
