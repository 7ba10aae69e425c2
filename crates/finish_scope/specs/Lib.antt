pub mod Inconsistent
pub mod Own
pub mod RunErrors
pub mod ScopeTables
pub mod Scopes
pub mod Settling
