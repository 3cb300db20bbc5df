-- The laws of the nodes memory, by concern.
pub mod NodeStores
pub mod NodeScans
pub mod NodeBlocks
pub mod NodePlaces
pub mod NodeSpots
pub mod NodePresent
pub mod NodesKept
