mod Pieces
mod Writing
mod Wholes
mod Tellings
mod Drawings
mod JobLines
mod Workloads
