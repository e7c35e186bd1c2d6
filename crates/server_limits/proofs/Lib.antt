pub mod Questions
pub mod lemmas
