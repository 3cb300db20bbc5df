pub mod ColumnContracts
pub mod KeyContracts
pub mod LabelContracts
pub mod MaskContracts
pub mod BoundContracts
pub mod MarkedContracts
