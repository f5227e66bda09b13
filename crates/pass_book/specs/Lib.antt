-- The specs of pass_book.
pub mod States
pub mod Views
pub mod Rule
pub mod Seats
