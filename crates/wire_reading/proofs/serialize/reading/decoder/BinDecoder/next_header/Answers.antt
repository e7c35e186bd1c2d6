use Rattle.std.proofs.Common.{◌≡◌, ◌+◌, ◌∙◌, ℕ, List, get_or, ap, sym, refl, arith}
use Rattle.std.proofs.lemmas.Result.{err_from_is_err_and}
use Rattle.wire_messages.specs.serialize.layout.HeaderLayout.{metadata_of}
use Rattle.wire_messages.specs.declared.op.header.Header.{Header}
use Rattle.wire_reading.proofs.lemmas.serialize.reading.HeaderBytes.{word, header_at, header_given, header_fails, okay}
use Rattle.wire_reading.proofs.serialize.reading.decoder.BinDecoder.next_header.Goals as goal

pub returns-clause-exact : goal.returns-clause-exact
returns-clause-exact c =
    let b : List ℕ = c.message-bytes.result.now in
    let p : ℕ = c.index-place.result in
    let meta : c.metadata_of.result ≡ metadata_of (word b p) (get_or b (p + 2) 0) (get_or b (p + 3) 0) =
    c.metadata_of.ensures.value ∙ ap (λ (n : ℕ). metadata_of n (get_or b (p + 2) 0) (get_or b (p + 3) 0)) c.number_at-id.ensures in
    let h : Header = record {
      metadata = c.metadata_of.result;
      counts = record { queries = c.number_at.result; answers = c.number_at-2.result; authorities = c.number_at-3.result; additionals = c.number_at-4.result };
    } in
    let is : h ≡ header_at b p = rw (meta, c.number_at.ensures, c.number_at-2.ensures, c.number_at-3.ensures, c.number_at-4.ensures) refl in
    let there : h ≡ header_at c.args.self.now.bytes c.args.self.now.place =
    is ∙ ap (λ (l : List ℕ). header_at l p) c.message-bytes.ensures.value ∙ ap (header_at c.args.self.now.bytes) c.index-place.ensures.place in (
      header_given c.args.self.now c.read_slice.new.self c.in_ok-read_slice.field-0.now (omega (arith, c.index-place.ensures.within, c.index-place.ensures.place)) c.in_ok-read_slice.ensures.exact.0
          ∙ ap (λ (k : Header). okay k c.read_slice.new.self) (sym there),
      c.in_ok-read_slice.ensures.exact.1,
    )

pub returns-in_err-read_slice-clause-exact : goal.returns-in_err-read_slice-clause-exact
returns-in_err-read_slice-clause-exact c =
    let p = err_from_is_err_and c.from_residual.result c.from_residual.ensures.1 in
    rw (p.1, p.2) (
      (λ n. header_fails c.args.self.now (omega (arith, c.index-place.ensures.within, c.index-place.ensures.place)) _ (c.in_err-read_slice.ensures.exact.0 n)),
      c.in_err-read_slice.ensures.exact.1,
    )
