-- Laws of files of vectors
pub mod AtPlace
pub mod Appended
pub mod Vecs
pub mod Determined
