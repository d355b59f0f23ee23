mod Lists
mod Living
mod Rounds
mod Over
