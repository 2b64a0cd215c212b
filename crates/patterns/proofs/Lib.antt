pub mod KindLaws
pub mod FiringLaws
pub mod ApplyLaws
