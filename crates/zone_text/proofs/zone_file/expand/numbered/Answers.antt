use Rattle.std.proofs.Common.{sym, length}
use Rattle.std.proofs.lemmas.Bool.{eqb-true}
use Rattle.zone_text.proofs.Numbering.{Puts, back, forth, no_bytes, put_of, whole}
use Rattle.zone_text.proofs.zone_file.expand.numbered.Goals as goal

pub fronts-preserved : goal.fronts-preserved
fronts-preserved c =
    let put : Puts c.args.word.now.quoted c.args.number c.fronts.rest.now c.fronts.bytes.items c.put_front.new.bytes.items c.in-Some.behind =
    put_of c.args.word.now.quoted c.args.number c.fronts.rest.now c.fronts.bytes.items c.put_front.new.bytes.items c.in_ok-behind.field-0 c.in-Some.behind c.in-Some.is c.in_ok-behind.ensures.put in
    record {
      forth = λ all h. forth c.args.word.now.quoted c.args.number c.args.word.now.bytes.now c.fronts.rest.now put.0 c.in-Some.behind.now c.fronts.bytes.items c.put_front.new.bytes.items all put.1 put.2 c.fronts.invariant.forth h;
      back = λ all h. back c.args.word.now.quoted c.args.number c.args.word.now.bytes.now c.fronts.rest.now put.0 c.in-Some.behind.now c.fronts.bytes.items c.put_front.new.bytes.items all put.1 put.2 (c.fronts.invariant.back all h);
    }

pub returns-clause-numbered : goal.returns-clause-numbered
returns-clause-numbered c = whole c.args.word.now.quoted c.args.number c.args.word.now.bytes.now c.fronts.rest.now c.fronts.bytes.items (no_bytes c.fronts.rest.now (eqb-true (length c.fronts.rest.now) 0 (sym c.fronts-test.ensures))) c.fronts.invariant.forth
