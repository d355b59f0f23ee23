mod Timing
mod Pods
mod Running
mod Bounds
mod Spans
mod Once
mod Open
mod Lasting
