-- Lemmas of the places and parts of requests.
pub mod MessagesCompared
pub mod NoAdditionals
pub mod QuestionPlaces
pub mod RepeatedQuestions
pub mod RequestForms
pub mod RequestParts
pub mod SingleQuestion
