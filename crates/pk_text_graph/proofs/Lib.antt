mod Typing
mod Determined
mod Counting
