pub mod ClientMemory
pub mod ClientReads
pub mod ClientChanges
pub mod HeldLaws
pub mod ClientSound
