mod Pieces
mod Counting
mod Waits
mod Runs
