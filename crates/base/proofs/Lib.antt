pub mod Bool
pub mod List
