pub mod Banner
