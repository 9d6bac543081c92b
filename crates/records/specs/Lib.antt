pub mod Hold
pub mod RecordMoves
pub mod RecordStep
