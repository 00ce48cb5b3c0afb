pub mod Wrote
pub mod Printed
