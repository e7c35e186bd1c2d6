-- Requests and what is read and written of them.
pub mod MessageSameness
pub mod Questions
pub mod RepeatableQuestions
pub mod RequestForm
pub mod RequestReading
pub mod Requests
pub mod Updates
