mod Joined
mod Told
