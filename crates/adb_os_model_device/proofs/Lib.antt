mod Made
mod Turns
