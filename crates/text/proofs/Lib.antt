pub mod TextLaws
pub mod NumeralLaws
pub mod DigitLaws
