pub mod HeaderLaws
pub mod CuttingLaws
pub mod Slices
pub mod SliceLaws
pub mod Missing
