pub mod SameLists
pub mod GroupMembers
