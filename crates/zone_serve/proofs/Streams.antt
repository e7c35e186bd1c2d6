-- What becomes of a stream goes on by one message.
use Rattle.std.proofs.Common.{ℕ, List, ◌++◌, Option, true, false, ap, subst, sym, ◌∙◌}
use Rattle.std.proofs.lemmas.List.{append-nil}
use Rattle.std.specs.Io.KnownBytes.{Appends, Consumes}
use Rattle.std.proofs.KnownBytes.{Appends-trans, Consumes-trans}
use Rattle.std.specs.declared.net.ip_addr.IpAddr.{IpAddr}
use Rattle.wire_names.specs.rr.domain.DomainName.{DomainName}
use Rattle.hickory_catalog.specs.replies.Signing.{Signer}
use Rattle.hickory_base.specs.declared.zone_store.handler.ZoneHandler.{Ghosts}
use Rattle.signed_server.specs.KeyedServers.{KeyedServer, keyed_of}
use Rattle.server.specs.Serving.{Stays}
use Rattle.zone_serve.specs.Served.{BecomesOf, NextServed, StreamServed, more}
use Rattle.hickory_server.specs.declared.server.answer.Answer.TheVariants.{Replies}
use Rattle.signed_server.specs.declared.service.SignedServer.{SignedServer}
use Rattle.server.proofs.Streams.{same_keyed}

module _ {S H : Type 0} (handler : Ghosts H) (signature_for : S → Signer) (address : IpAddr) (first middle last : SignedServer S H) (stays : Stays first middle) where
  -- One more message is served, over the zones as those before it left them.
  pub stream_more : (read written frame frames : List ℕ) → StreamServed (keyed_of handler signature_for first) address read written middle.server.catalog.zones
      → NextServed (keyed_of handler signature_for middle) address frame frames last.server.catalog.zones true
      → StreamServed (keyed_of handler signature_for first) address (read ++ frame) (written ++ frames) last.server.catalog.zones
  stream_more read written frame frames served (bytes, is_frame, message, came, replies, answered, are_frames) =
      more read written frame frames served is_frame came
      (subst (λ (s : KeyedServer H). BecomesOf s message (Replies replies) last.server.catalog.zones) (same_keyed handler signature_for first middle stays) answered) are_frames

  -- At the end of the stream there is no more.
  pub stream_end : (old between new holds held kept : Option (List ℕ)) (read written frame frames : List ℕ) → StreamServed (keyed_of handler signature_for first) address read written middle.server.catalog.zones
      → NextServed (keyed_of handler signature_for middle) address frame frames last.server.catalog.zones false
      → Consumes old between read → Consumes between new frame → Appends holds held written → Appends held kept frames
      → StreamServed (keyed_of handler signature_for first) address read written last.server.catalog.zones × Consumes old new read × Appends holds kept written
  stream_end old between new holds held kept read written frame frames served (no_frame, no_frames, kept_zones) consumes consumes_none appends appends_none = (
    subst (λ (zones : List (DomainName × List H)). StreamServed (keyed_of handler signature_for first) address read written zones) (sym kept_zones) served,
    subst (Consumes old new) (ap (λ (l : List ℕ). read ++ l) no_frame ∙ append-nil read) (Consumes-trans old between new read frame consumes consumes_none),
    subst (Appends holds kept) (ap (λ (l : List ℕ). written ++ l) no_frames ∙ append-nil written) (Appends-trans holds held kept written frames appends appends_none),
  )
