mod Runs
mod Programs
