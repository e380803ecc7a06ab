mod SameActor
mod Leading
mod Pieces
mod Arcs
mod Standings
