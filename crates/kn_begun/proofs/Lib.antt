mod InTime
mod Few
mod Sums
