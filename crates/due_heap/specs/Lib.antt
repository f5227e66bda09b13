-- The specs of due_heap.
pub mod Counting
pub mod Heaps
pub mod Keeping
pub mod Order
