pub mod Ascii
pub mod Put
pub mod Pages
pub mod Decimal
pub mod Lines
pub mod Input
