-- Laws of distances
pub mod SwappedSums
pub mod SwappedMerge
pub mod SwappedBits
pub mod Swapped
pub mod Measured
pub mod OneBitLaws
pub mod JaccardChoices
pub mod Summed
pub mod Spreading
pub mod DenseFormSums
pub mod DenseFormMade
pub mod DenseForm
pub mod StrictDenseForm
pub mod RealDotSums
pub mod RealDot
pub mod Padding
