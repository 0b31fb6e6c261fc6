mod Joining
mod Celling
mod ReadingBack
mod Every
