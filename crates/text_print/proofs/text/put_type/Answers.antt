use Rattle.std.proofs.Common.{◌∙◌, ap, sym, string_bytes}
use Rattle.std.specs.Option.{option_copied, option_map}
use Rattle.record_text.specs.RecordText.{row_view}
use Rattle.text_print.proofs.PrintedFields.{map_ok}
use Rattle.text_print.proofs.Types.{put_mnemonic, put_numbered}
use Rattle.text_print.proofs.text.put_type.Goals as goal

pub returns-in-Some : goal.returns-in-Some
returns-in-Some c =
    map_ok c.write.result (λ put. put_mnemonic c.args.number (row_view c.in-Some.row.now) (string_bytes c.args.out.now) (string_bytes c.write.new.self) (sym c.row_of.ensures ∙ ap (λ r. option_map row_view (option_copied r)) c.in-Some.is) put) c.write.ensures.bytes

pub returns-in-None : goal.returns-in-None
returns-in-None c = map_ok c.write-in-None.result (λ put. put_numbered c.args.number (string_bytes c.args.out.now) (string_bytes c.write-in-None.new.self) c.ranges.number.fits put) c.write-in-None.ensures.bytes
