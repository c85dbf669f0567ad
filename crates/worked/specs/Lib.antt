pub mod Graphs
pub mod Worked
