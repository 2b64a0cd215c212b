pub mod Units
pub mod Powers
pub mod TableRule
pub mod NearestTest
pub mod NearestNumber
pub mod NearestThresholds
pub mod TablesAgree
