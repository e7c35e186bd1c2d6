-- Values as text.
pub mod TextForm
