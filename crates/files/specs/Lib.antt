pub mod Cut
pub mod Faults
pub mod Keyed
pub mod Rules
pub mod Words
