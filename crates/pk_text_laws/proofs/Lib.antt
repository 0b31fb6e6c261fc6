mod Names
mod Total
