pub mod FaultLists
pub mod Keeping
pub mod Listed
pub mod Once
pub mod Places
pub mod PutBack
pub mod RuleWords
