pub mod Window1
pub mod Both
pub mod After1
pub mod Parts1
pub mod Run1
