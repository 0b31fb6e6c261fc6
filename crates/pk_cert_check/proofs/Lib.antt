mod Running
mod Once
mod Every
