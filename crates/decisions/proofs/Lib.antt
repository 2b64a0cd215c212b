pub mod Values
pub mod Children
pub mod FoldLaws
pub mod FittingLaws
pub mod FiringLaws
