use Rattle.std.proofs.Common.{◌≡◌, ◌++◌, [], ◌∷◌, ◌∙◌, ap, length, refl, rules, sym, take, arith}
use Rattle.std.proofs.lemmas.List.{append-nil}
use Rattle.server.proofs.frames.put_only.Goals as goal

pub returns-in-Some-clause-put : goal.returns-in-Some-clause-put
returns-in-Some-clause-put c =
    let (room, frame, is, put) = c.in-Some.ensures.frame in
    record {
      written = c.args.reply.now ∷ [];
      frames = frame;
      are_frames = (frame, [], is, refl, sym (append-nil frame));
      front = put;
      all = refl;
      same_length = c.put_frame.ensures.len;
      within = room;
      full = tt;
    }

pub returns-in-None-clause-put : goal.returns-in-None-clause-put
returns-in-None-clause-put c =
    let same = c.in-None.ensures.kept refl in
    record {
      written = [];
      frames = [];
      are_frames = refl;
      front = ap (take c.args.at) same ∙ sym (append-nil (take c.args.at c.args.out.now));
      all = refl;
      same_length = ap length same;
      within = search rules;
      full = rw same (c.in-None.ensures.no_room refl);
    }
