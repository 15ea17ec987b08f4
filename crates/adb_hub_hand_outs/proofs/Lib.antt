mod Putting
mod FirstDue
