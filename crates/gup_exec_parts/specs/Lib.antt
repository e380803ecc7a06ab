pub mod Words
pub mod Tables
pub mod Contents
pub mod Flags
pub mod Pages
pub mod Space
pub mod Pin
pub mod Actor
