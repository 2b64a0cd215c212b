pub mod UsedSlots
pub mod OwnSlots
pub mod AuditedTable
