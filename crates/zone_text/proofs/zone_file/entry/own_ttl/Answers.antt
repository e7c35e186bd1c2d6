use Rattle.std.proofs.lemmas.Result.{err_from_is_err_and}
use Rattle.text_words.proofs.NoUnits.{out_of_digits}
use Rattle.zone_text.proofs.WordKinds.{digit_no_class, digit_no_type, time_first}
use Rattle.zone_text.proofs.zone_file.entry.own_ttl.Goals as goal

pub returns-in_err-seconds-in-len1-up-clause-refused : goal.returns-in_err-seconds-in-len1-up-clause-refused
returns-in_err-seconds-in-len1-up-clause-refused c =
    let p = err_from_is_err_and c.from_residual.result c.from_residual.ensures.1 in
    rw p.1 (λ other. record {
      no_ttl = λ n is. c.in_err-seconds-in-len1-up.ensures.refused n is.unquoted is.spelled is.short;
      not_in = λ class. digit_no_class c.args.word.now c.in-len1-up.len_at_least c.if-is_ascii_digit.ensures.bound class;
      no_type = λ number type. digit_no_type c.args.word.now number c.in-len1-up.len_at_least c.if-is_ascii_digit.ensures.bound type;
    })

pub returns-in_default-2-clause-none : goal.returns-in_default-2-clause-none
returns-in_default-2-clause-none c = λ n is. out_of_digits _ c.if-is_ascii_digit.ensures.cases (time_first c.args.word.now.bytes.now n is.spelled)
