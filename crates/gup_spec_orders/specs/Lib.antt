pub mod Orders
pub mod Printed
