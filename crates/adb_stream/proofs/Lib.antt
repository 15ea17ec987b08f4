mod Places
mod Shelves
mod Changes
mod Calls
