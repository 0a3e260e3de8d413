pub mod Numbers
pub mod Literals
pub mod Printed
pub mod Capped
pub mod Readings
