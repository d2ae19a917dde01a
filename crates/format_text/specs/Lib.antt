pub mod Ascii
pub mod Put
pub mod Decimal
pub mod Lines
pub mod Input
pub mod Pages
