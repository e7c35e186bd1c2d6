use Rattle.std.proofs.Common.{ℕ, ◌+◌, ◌≤◌, List, length, sym, subst}
use Rattle.hickory_catalog.proofs.lemmas.replies.DecodedReplies.{reads_back}
use Rattle.hickory_catalog.proofs.laws.replies_decode.Goals as goal

pub returns : goal.returns
returns c = λ request edns reply limit bytes header to questions readable fits made.
    let back = reads_back c.questions_of_replies.ensures.several request edns reply to questions c.reading_back.ensures.records c.reading_back.ensures.parts readable in
    let room : 12 + length reply.question ≤ limit = subst (λ (q : List ℕ). 12 + length q ≤ limit) (sym to.question) fits in
    let w = c.what_reads_back_is_written.ensures limit reply bytes header request.message.queries.queries back room made.encoded in
    record { fronts = w.0; written = w.1; header_is = w.2; stands = w.3; reads = made.reads w.0 request.message.queries.queries w.1 back.decodable }
