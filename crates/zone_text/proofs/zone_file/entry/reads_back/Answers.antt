use Rattle.std.proofs.Common.{arith, refl}
use Rattle.text_print.proofs.Reading.{writable}
use Rattle.zone_text.proofs.zone_file.entry.reads_back.Goals as goal

pub returns : goal.returns
returns c = (c.reading_back.ensures.records _).1 (
  record { name = c.requires.qualified; class = omega arith; ttl = omega (arith, c.ranges.ttl); rdata = c.requires.formed; proof = refl },
  c.full_name_len-len.ensures.labels,
  c.is_formed-formed.ensures.names,
  writable c.args.rdata.now c.requires.formed c.requires.fits,
)
