pub mod Lists
pub mod RuleWalks
pub mod WalkLemmas
