pub mod Run2
