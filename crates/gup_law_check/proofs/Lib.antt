mod OneMore
mod Standings
mod Counted
