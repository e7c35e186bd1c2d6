use Rattle.wire_writing.proofs.lemmas.serialize.writing.CompressedData.{mx_data}
use Rattle.wire_writing.proofs.serialize.writing.data_encoder.write_mx.Goals as goal

pub returns-clause-data : goal.returns-clause-data
returns-clause-data c =
    mx_data c.args.bytes.now.items c.write_u16.new.bytes.items c.write_compressed_name.new.bytes.items c.args.table.now c.write_compressed_name.new.table c.args.mx.now c.requires
    c.in_ok-write_compressed_name.ensures.are c.in_ok-write_u16.ensures c.in_ok-write_compressed_name.ensures.labels
