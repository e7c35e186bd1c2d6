pub mod Grants
pub mod RuleTexts
