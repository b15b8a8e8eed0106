-- Laws of an input in pieces, for the loops of the programs
pub mod Keeping
pub mod Cutting
pub mod Answering
pub mod Serving
pub mod Determined
pub mod ServingAll
pub mod ReadingText
pub mod InputRead
pub mod InPieces
