-- Lemmas by which reading and layout agree, faults included.
pub mod LabelSteps
pub mod RecordSorts
pub mod StringSteps
