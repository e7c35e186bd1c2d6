-- What a message is made of beside its records.
pub mod EdnsFields
pub mod EdnsSameness
pub mod Metadata
pub mod QuestionSameness
