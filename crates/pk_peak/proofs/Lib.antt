mod Listing
mod Numbering
mod Reading
mod Covering
mod Peaking
mod Determined
