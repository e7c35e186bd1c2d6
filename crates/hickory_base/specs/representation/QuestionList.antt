-- The questions that a request keeps.
use Rattle.std.specs.Prelude.{List, [], ◌∷◌}
use Rattle.wire_messages.specs.declared.op.query.Query.{Query}
use Rattle.hickory_base.specs.declared.requests.message_request.Questions.{Questions}
use Rattle.hickory_base.specs.declared.requests.message_request.Questions.TheVariants.{One, Many}

-- the questions, however they are kept
abbrev pub question_list : Questions → List Query
question_list (One query) = query ∷ []
question_list (Many queries) = queries
