-- Named points to come back to, document 02's request 06, as definitions: a store's records, names, a record's layout, reading it, the calls with
-- 76 to 78, a console's calls one after the other, what is claimed of them.
pub mod Records
pub mod Names
pub mod Layout
pub mod Reading
pub mod Calls
pub mod Tidied
pub mod Claims
pub mod Console
