mod Cuts
mod Following
