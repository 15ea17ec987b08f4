pub mod Row
pub mod Registry
pub mod Choice
pub mod Lists
