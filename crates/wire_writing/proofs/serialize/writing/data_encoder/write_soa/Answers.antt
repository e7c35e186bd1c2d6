use Rattle.wire_writing.proofs.lemmas.serialize.writing.CompressedData.{soa_data}
use Rattle.wire_writing.proofs.serialize.writing.data_encoder.write_soa.Goals as goal

pub returns-clause-data : goal.returns-clause-data
returns-clause-data c =
    soa_data c.args.bytes.now.items c.write_compressed_name.new.bytes.items c.write_compressed_name-2.new.bytes.items c.write_soa_numbers.new.bytes.items c.args.table.now c.write_compressed_name.new.table c.write_compressed_name-2.new.table c.args.soa.now
    c.in_ok-write_compressed_name.ensures.are c.in_ok-write_compressed_name-2.ensures.are c.requires c.in_ok-write_compressed_name.ensures.labels c.in_ok-write_compressed_name-2.ensures.labels c.in_ok-write_soa_numbers.ensures.bytes
