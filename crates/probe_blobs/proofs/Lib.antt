-- Laws of the replies about blobs
pub mod BlobTexts
pub mod Determined
