pub mod Symmetric
pub mod SwapExamples
pub mod BitsApart
pub mod Padding
pub mod DenseForm
pub mod DenseFormExamples
pub mod RealDot
pub mod RealDotExamples
