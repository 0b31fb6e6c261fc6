mod Noted
mod Constants
mod Accesses
mod Steps
mod Runs
mod Evaluated
mod Faults
