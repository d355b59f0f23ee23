mod Stills
mod Fresh
