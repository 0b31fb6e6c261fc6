pub mod One_octagon
mod Checking
mod Holding
