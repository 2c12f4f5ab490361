pub mod NameLaws
pub mod WordLaws
