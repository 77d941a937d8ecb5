pub mod Sorted
pub mod Order
pub mod Marks
pub mod Accepted
pub mod Count
