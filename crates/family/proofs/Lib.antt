pub mod GrowLaws
pub mod FamilyTables
pub mod Tested
