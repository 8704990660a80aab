pub mod Degree
