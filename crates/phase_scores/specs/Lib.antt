pub mod Quarter
