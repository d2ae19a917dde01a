pub mod Msg
pub mod Header
pub mod Listed
pub mod NodeMessage
