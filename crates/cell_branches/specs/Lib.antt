pub mod Trunks
