pub mod Goes
pub mod Copies
