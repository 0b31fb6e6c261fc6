mod Rooms
mod Stops
mod Analysing
mod Replying
mod Limiting
mod Checking
mod Certifying
