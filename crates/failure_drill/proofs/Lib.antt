pub mod NumberLaws
