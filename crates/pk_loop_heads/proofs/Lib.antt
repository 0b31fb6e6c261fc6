mod Enters
mod Within
mod Parts
mod Between
mod Programs
mod Graphs
mod Cases
