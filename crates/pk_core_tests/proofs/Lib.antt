mod Driving
mod Same_layouts
