pub mod Lent
pub mod Goes
