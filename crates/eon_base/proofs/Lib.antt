pub mod NameLemmas
pub mod NumberLemmas
pub mod SpellingLemmas
pub mod OneSpellingLaws
