pub mod Records
pub mod Opens
pub mod Unfit
pub mod Puts
