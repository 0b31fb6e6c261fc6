mod Without
mod Changes
mod Gains
mod Joins
mod Made
