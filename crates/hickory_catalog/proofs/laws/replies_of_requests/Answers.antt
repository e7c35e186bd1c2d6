use Rattle.hickory_catalog.specs.requests.Server.{server_of}
use Rattle.hickory_catalog.proofs.lemmas.replies.RepliesFit.{by_chain_fit, error_fits, query_fits, request_fits, signed_fits, transferred_fits, update_fits}
use Rattle.hickory_catalog.proofs.laws.replies_of_requests.Goals as goal

pub returns-clause-queries : goal.returns-clause-queries
returns-clause-queries g c = λ catalog request edns now replies r.
    query_fits (server_of g.H.ZoneHandler g.S.ReplySigner.signature_for catalog) c.forwarded_replies.ensures.codes c.authoritative_replies.ensures.codes request edns now replies r

pub returns-clause-chains : goal.returns-clause-chains
returns-clause-chains g c = λ catalog chain request edns now replies r.
    by_chain_fit (server_of g.H.ZoneHandler g.S.ReplySigner.signature_for catalog) c.forwarded_replies.ensures.codes c.authoritative_replies.ensures.codes request edns now chain replies r

pub returns-clause-updates : goal.returns-clause-updates
returns-clause-updates g c = λ catalog request edns now reply zones updates r.
    update_fits (server_of g.H.ZoneHandler g.S.ReplySigner.signature_for catalog) request edns now reply zones updates r

pub returns-clause-requests : goal.returns-clause-requests
returns-clause-requests g c = λ catalog request now replies zones r.
    request_fits (server_of g.H.ZoneHandler g.S.ReplySigner.signature_for catalog) c.forwarded_replies.ensures.codes c.authoritative_replies.ensures.codes request now replies zones r

pub returns-clause-transfers : goal.returns-clause-transfers
returns-clause-transfers g c = λ catalog request edns now replies r.
    transferred_fits (server_of g.H.ZoneHandler g.S.ReplySigner.signature_for catalog) request edns now replies r

pub returns-clause-errors : goal.returns-clause-errors
returns-clause-errors g c = λ request edns code small. error_fits request edns code small

pub returns-clause-signed : goal.returns-clause-signed
returns-clause-signed g c = λ signer request edns contents context reply s h. signed_fits request edns signer contents context reply s h
