mod Counting
mod Made
