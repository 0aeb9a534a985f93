pub mod PutLaws
pub mod BanLaws
pub mod FoundLaws
pub mod SizedLaws
pub mod RunLaws
pub mod GivenLaws
