pub mod Splitting
pub mod MergeLaws
pub mod KindLaws
