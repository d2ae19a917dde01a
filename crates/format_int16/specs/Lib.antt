pub mod Int16
