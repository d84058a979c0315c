mod Bounds
mod CountLines
mod Runs
