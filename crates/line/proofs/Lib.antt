pub mod Complement
pub mod Printed
pub mod Small
