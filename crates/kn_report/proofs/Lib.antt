mod Pieces
mod InPlace
mod Threes
mod Waits
mod Tallies
